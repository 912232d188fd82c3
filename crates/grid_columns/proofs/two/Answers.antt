-- `grid_columns::two` meets its contract: evened out, the rows have the same error. Assumes nothing.
use mathlib.Core.Path.{subst}
use Prim.Native.Nat.{ℕ, ◌^◌, ◌<◌}
use borrow.Author.Rules.{rules}
use Rattle.grid_columns.specs.Steps.{Paired}
use Rattle.grid_columns.proofs.Errors.{two_mended}
use Rattle.grid_columns.proofs.two.Goals as goal

pub returns : goal.returns
returns c =
    let rows : ℕ = c.args.rows in
    let i = c.args.i in
    let j = c.args.j in
    let h : rows < 2 ^ 64 = search rules in
    two_mended rows i.index j.index c.paired.result h i.below j.below c.requires
    (subst (λ (x : ℕ). Paired x i.index j.index c.paired.result) c.evened.ensures c.paired.ensures)
