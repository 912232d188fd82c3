-- `card_write::grids` meets its contract: number after number. Assumes nothing.
use Rattle.std.proofs.Common.{◌≡◌, map, ◌+◌, ◌-◌, ◌*◌, ◌≤◌, sym, ap, ◌∙◌, arith, length, get_or, take, drop}
use lib.ListN.{length-map, length-drop}
use Rattle.std.proofs.lemmas.List.{length-take-le}
use Rattle.words.specs.Digits.{digits}
use Rattle.words.proofs.Digits.{length_digits}
use Rattle.words.proofs.Lists.{map_get_d}
use Rattle.words.proofs.Turns.{no_words}
use Rattle.values.proofs.Fits.{copy_all, next_put}
use Rattle.grid_code.specs.Code.{codeword}
use Rattle.card_write.proofs.grids.Goals as goal

pub loop-i-init : goal.loop-i-init
loop-i-init c = no_words 8 (map codeword c.args.numbers.now) _

pub loop-i-preserved : goal.loop-i-preserved
loop-i-preserved c =
    let l = c.loop-i in
    let a = c.args in
    let ns = a.numbers.now in
    let ws = map codeword ns in
    let long = length-map ns codeword in
    let room : 8 * length ws ≤ length a.bytes.now = omega (arith, long) in
    let is : c.encoded.result ≡ get_or ws l.i 0 = c.encoded.ensures.answer ∙ sym (map_get_d codeword ns l.i (omega arith)) in
    let rows = c.from.ensures.answer ∙ ap (digits 8 8) is in
    let eight = ap length rows ∙ length_digits 8 8 (get_or ws l.i 0) in
    let behind = drop (8 * l.i) l.bytes in
    let eight_here = length-take-le (8 * (l.i + 1) - 8 * l.i) behind (omega (arith, long, room, c.loop-i.auto.bytes, length-drop (8 * l.i) l.bytes)) in
    next_put 8 ws a.bytes.now l.bytes l.i c.put_grid.new.bytes (omega (arith, long)) room l.invariant
    (copy_all c.from.result.rows (take (8 * (l.i + 1) - 8 * l.i) behind) c.put_grid.new.bytes (omega (arith, eight, eight_here)) c.put_grid.ensures ∙ rows)
