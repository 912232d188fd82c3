-- `grid_columns::one` meets its contract: the checks name the row. Assumes nothing.
use mathlib.Core.Path.{sym, ap, ◌∙◌, subst}
use Prim.Native.Nat.{ℕ, ◌^◌, ◌<◌}
use lib.ListN.{get_or}
use borrow.Author.Rules.{rules}
use Rattle.grid_code.proofs.Checks.{checks_is}
use Rattle.grid_columns.specs.Steps.{rows_by_halves, One}
use Rattle.grid_columns.proofs.Errors.{nonzero, one_mended}
use Rattle.grid_columns.proofs.one.Goals as goal

pub returns : goal.returns
returns c =
    let row = c.in_checks in
    let e = c.column_checks in
    let rows : ℕ = c.args.rows in
    let h : rows < 2 ^ 64 = search rules in
    subst (One rows) (sym c.evened.ensures)
    (one_mended rows row.result.index h
    (row.ensures
    ∙ ap (λ (n : ℕ). get_or rows_by_halves n 0)
    (c.nonzero.ensures ∙ ap nonzero (checks_is rows e.result h e.ensures)))
    row.result.below)
