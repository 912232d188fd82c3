-- `value_read::grids` meets its contract: grid after grid. Assumes nothing.
use Rattle.std.proofs.Common.{[], ap, ◌∙◌, ◌/◌, ◌≤◌, ◌<◌, arith, map, length, set}
use lib.ListN.{length-map}
use lib.Seq.{take_all}
use Rattle.words.specs.Digits.{joined}
use Rattle.words.specs.Bytes.{laid}
use Rattle.words.proofs.Bytes.{length-words, laid_none}
use Rattle.words.proofs.Turns.{map_turn}
use Rattle.values.specs.Steps.{grids_of}
use Rattle.value_read.specs.Shown.{data_of_grid, flips_of_grid}
use Rattle.values.proofs.Fits.{rows_in_chunk, chunk_there}
use Rattle.value_read.proofs.Room.{all_read}
use Rattle.value_read.proofs.grids.Goals as goal

pub loop-i-init : goal.loop-i-init
loop-i-init c = (laid_none _, laid_none _)

pub loop-i-preserved : goal.loop-i-preserved
loop-i-preserved c =
    let l = c.loop-i in
    let a = c.args in
    let shown = c.show-shown in
    let value = a.value.now in
    let ws = grids_of value in
    let more : l.i < length value / 8 = omega (arith, c.as_chunks.ensures.front_len) in
    let inside : l.i < length ws = omega (arith, more, length-words 8 (length value / 8) value) in
    let n = length value / 8 in
    let chunks = c.as_chunks.result.0.now in
    let front = c.as_chunks.ensures.front in
    let rows = rows_in_chunk n value c.grid.result.rows chunks l.i (omega arith) front more c.grid.ensures in
    let at = ap (joined 8) rows ∙ chunk_there 8 n n value chunks l.i [] front more more in (
      ap (λ t. set t l.i shown.result.number) l.invariant.0
          ∙ map_turn data_of_grid ws a.numbers.now l.i shown.result.number inside (omega arith) (shown.ensures.number_value ∙ ap data_of_grid at),
      ap (λ t. set t l.i shown.result.flips) l.invariant.1
          ∙ map_turn flips_of_grid ws a.flips.now l.i shown.result.flips inside (omega arith) (shown.ensures.flips ∙ ap flips_of_grid at),
    )

pub returns : goal.returns
returns c =
    let l = c.loop-i in
    let a = c.args in
    let n = length a.value.now / 8 in
    let ws = grids_of a.value.now in
    let m = c.as_chunks.ensures.front_len in
    let all : length ws ≤ l.i = omega (arith, m, length-words 8 n a.value.now) in
    all_read a.value.now a.numbers.now a.flips.now (omega (arith, m)) (omega (arith, m)) l.numbers l.flips
    (l.invariant.0 ∙ ap (λ b. laid b a.numbers.now) (take_all l.i (map data_of_grid ws) (omega (arith, all, length-map ws data_of_grid))))
    (l.invariant.1 ∙ ap (λ b. laid b a.flips.now) (take_all l.i (map flips_of_grid ws) (omega (arith, all, length-map ws flips_of_grid))))
