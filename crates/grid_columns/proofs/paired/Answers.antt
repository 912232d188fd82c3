-- `grid_columns::paired` meets its contract: the error of both rows is one of the checks. Assumes nothing.
use mathlib.Core.Path.{sym, subst}
use Prim.Native.Nat.{ℕ, ◌^◌, ◌<◌}
use borrow.Author.Rules.{rules}
use Rattle.grid_code.proofs.Checks.{checks_is}
use Rattle.grid_columns.specs.Steps.{OneByte, Paired}
use Rattle.grid_columns.proofs.Errors.{byte_lt, pair_mended}
use Rattle.grid_columns.proofs.paired.Goals as goal

pub returns : goal.returns
returns c =
    let error = c.lowest in
    let e = c.column_checks in
    let even : ℕ = c.args.even in
    let i = c.args.i in
    let j = c.args.j in
    let h : even < 2 ^ 64 = search rules in
    subst (Paired even i.index j.index)
    (sym c.both_flipped.ensures)
    (pair_mended even i.index j.index error.result h i.below j.below (byte_lt e.result error.result error.ensures)
    (subst (λ (x : ℕ). OneByte x error.result) (checks_is even e.result h e.ensures) error.ensures))
