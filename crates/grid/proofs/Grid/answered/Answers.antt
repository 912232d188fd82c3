-- `grid::Grid::answered` meets its contract: the data of the codeword, and where the grid differs from it. Assumes nothing.
use mathlib.Core.Path.{refl, sym, ap, ◌∙◌}
use Prim.Native.Nat.{ℕ}
use lib.Bits.{bit_xor}
use Rattle.codes.specs.Verdict.{answered}
use Rattle.grid_code.specs.Verdict.{clean, mended, named}
use Rattle.grid_code.proofs.Verdict.{named_blank, named_clean, named_mended}
use Rattle.grid.specs.declared.Verdict.TheVariants.{Clean, Blank, Mended}
use Rattle.grid.proofs.Verdicts.{some_flips, taken_data, all_ones_is, other_is, answers}
use Rattle.grid.proofs.Grid.answered.Goals as goal

pub returns-then-number : goal.returns-then-number
returns-then-number c by =
    let number = c.from in
    let grid = c.from-grid in
    let a = c.args in
    answers a.self.rows a.near.number a.near.flips a.near.trials number.result (bit_xor number.result a.near.number) grid.result.rows grid.ensures.answer number.ensures.answer refl by
    (Blank a.near.flips) (λ d l s. sym (named_blank d a.near.flips (all_ones_is d l (sym s ∙ c.if-number.true))))

pub returns-then-flips-eq0 : goal.returns-then-flips-eq0
returns-then-flips-eq0 c by =
    let read = c.data_of-data in
    let taken = c.places_of in
    let number = c.from in
    let grid = c.from-grid in
    let a = c.args in
    answers a.self.rows a.near.number a.near.flips a.near.trials number.result (bit_xor number.result a.near.number) grid.result.rows grid.ensures.answer number.ensures.answer refl by
    (Clean read.result) (λ d l s.
    let is = taken_data a.near.number taken.result read.result d taken.ensures read.ensures l s in
    sym (ap (λ (n : ℕ). named (answered d n)) c.if-flips-eq0.true ∙ named_clean d (other_is d a.near.number s c.if-number.false) ∙ ap clean (sym is)))

pub returns : goal.returns
returns c by =
    let read = c.data_of-data in
    let taken = c.places_of in
    let number = c.from in
    let grid = c.from-grid in
    let a = c.args in
    answers a.self.rows a.near.number a.near.flips a.near.trials number.result (bit_xor number.result a.near.number) grid.result.rows grid.ensures.answer number.ensures.answer refl by
    (Mended read.result a.near.flips) (λ d l s.
    let is = taken_data a.near.number taken.result read.result d taken.ensures read.ensures l s in
    sym (ap named (some_flips d a.near.flips c.if-flips-eq0.false) ∙ named_mended d a.near.flips (other_is d a.near.number s c.if-number.false)
    ∙ ap (λ (e : ℕ). mended e a.near.flips) (sym is)))
