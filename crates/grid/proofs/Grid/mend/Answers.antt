-- `grid::Grid::mend` meets its contract: with a codeword or without, its answer is the verdict. Assumes nothing.
use mathlib.Core.Path.{subst}
use mathlib.Core.List.{List}
use Prim.Native.Nat.{ℕ}
use lib.ListN.{get_or}
use mir.Syntax.{w8}
use mir.Val.{Fits}
use borrow.Author.Rules.{rules}
use Rattle.grid_trials.specs.Steps.{Nearby}
use Rattle.grid.proofs.Verdicts.{is_lost_lem}
use Rattle.grid.proofs.Grid.mend.Goals as goal

pub returns-in_default : goal.returns-in_default
returns-in_default c =
    let rows : List ℕ = c.args.self.rows in
    let small : (i : ℕ) → Fits w8 (get_or rows i 0) = λ i. search rules in
    let found = c.nearest in
    is_lost_lem rows found.result found.ensures c.in_default.is (search rules) (λ i. (small i).fits)

pub returns : goal.returns
returns c =
    let found = c.nearest in
    c.answered.ensures (subst (Nearby c.args.self.rows) c.in-Some.is found.ensures)
