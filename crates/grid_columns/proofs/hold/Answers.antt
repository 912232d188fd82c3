-- `grid_columns::hold` meets its contract: the columns are in the code where the checks are 0. Assumes nothing.
use mathlib.Core.Path.{◌≡◌, sym, ◌∙◌}
use Prim.Native.Nat.{ℕ, ◌^◌, ◌<◌}
use borrow.Author.Rules.{rules}
use borrow.Author.Tests.{eqb-true, eqb-false}
use Rattle.grid_code.proofs.Checks.{checks, checks_is}
use Rattle.grid_columns.proofs.Columns.{none_in, in_none}
use Rattle.grid_columns.proofs.hold.Goals as goal

pub returns : goal.returns
returns c =
    let rows : ℕ = c.args.rows in
    let l : rows < 2 ^ 64 = search rules in
    let e : c.column_checks.result ≡ checks.at rows = checks_is rows c.column_checks.result l c.column_checks.ensures in
    record {
      yes = λ t. none_in rows l (sym e ∙ eqb-true c.column_checks.result 0 t);
      no = λ t p. eqb-false c.column_checks.result 0 t (e ∙ in_none rows l p);
    }
