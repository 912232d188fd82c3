-- `grid_columns::beside` meets its contract: the checks name the other row. Assumes nothing.
use mathlib.Core.Path.{sym, ap, ap₂, ◌∙◌, subst}
use Prim.Native.Nat.{ℕ, ◌/◌, ◌^◌, ◌<◌}
use native.Mathlib.Omega.{arith}
use lib.Bits.{bit_xor, xor_lt}
use lib.ListN.{get_or}
use borrow.Author.Rules.{rules}
use Rattle.grid_code.proofs.Checks.{checks, checks_is}
use Rattle.grid_columns.specs.Steps.{rows_by_halves, Paired}
use Rattle.grid_columns.proofs.Errors.{nonzero, nonzero_lt, parts_lt, beside_mended}
use Rattle.grid_columns.proofs.beside.Goals as goal

pub in_checks-requires : goal.in_checks-requires
in_checks-requires c =
    xor_lt 3 c.nonzero-found.result (c.parts.result / 2)
    (subst (λ (n : ℕ). n < 8) (sym c.nonzero-found.ensures) (nonzero_lt c.column_checks.result))
    (omega (arith, c.parts.ensures, parts_lt c.args.i.index c.args.i.below))

pub returns : goal.returns
returns c =
    let row = c.in_checks in
    let e = c.column_checks in
    let even = c.evened-even in
    let rows : ℕ = c.args.rows in
    let i = c.args.i in
    let h : rows < 2 ^ 64 = search rules in
    let l : even.result < 2 ^ 64 = search rules in
    beside_mended rows i.index row.result.index c.paired.result h i.below
    (row.ensures
    ∙ ap₂ (λ (n m : ℕ). get_or rows_by_halves (bit_xor n (m / 2)) 0)
    (c.nonzero-found.ensures
    ∙ ap nonzero
    (checks_is even.result e.result l e.ensures ∙ ap checks.at even.ensures))
    c.parts.ensures)
    row.result.below
    (subst (λ (x : ℕ). Paired x i.index row.result.index c.paired.result) even.ensures c.paired.ensures)
