-- `value_scrub::grids` meets its contract. Assumes nothing.
use Rattle.std.proofs.Common.{◌≡◌, ℕ, ◌%◌, false, List, length, arith, ne_eqb, le-leb}
use borrow.Author.Tests.{lt-leb}
use Rattle.fields.specs.Fields.{is_grids}
use Rattle.value_scrub.proofs.Scrubs.{other_grids}
use Rattle.value_scrub.proofs.grids.Goals as goal

pub returns-then-value-gt-GRIDS_MOST : goal.returns-then-value-gt-GRIDS_MOST
returns-then-value-gt-GRIDS_MOST c =
    let v : List ℕ = c.args.value.now in
    let h : is_grids (length v) ≡ false = simp (lt-leb (length v) 4096 (omega arith)) in
    other_grids v c.none.result h c.none.ensures

pub returns-then-value-ne0 : goal.returns-then-value-ne0
returns-then-value-ne0 c =
    let v : List ℕ = c.args.value.now in
    let h : is_grids (length v) ≡ false = simp (le-leb (length v) 4096 (omega arith), ne_eqb (length v % 8) 0 c.if-value-ne0.true) in
    other_grids v c.none-then-value-ne0.result h c.none-then-value-ne0.ensures
