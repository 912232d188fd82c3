-- `grid_rows::repaired` meets its contract: row after row, each as tested over all 256 rows. Assumes nothing.
use mathlib.Core.Path.{◌≡◌, ap, ◌∙◌}
use mathlib.Core.List.{List, [], ◌∷◌}
use Prim.Native.Nat.{ℕ, ◌+◌, ◌^◌, ◌<◌}
use native.Mathlib.Omega.{arith}
use lib.Bits.{bit_xor}
use lib.Dec.{ltb, ltb→lt}
use lib.ListN.{length, get_or, set}
use mir.Syntax.{w8}
use mir.Val.{Fits}
use borrow.Author.Rules.{rules}
use Rattle.words.specs.Digits.{Below}
use Rattle.words.proofs.Digits.{digits-joined}
use Rattle.words.proofs.Lists.{partly, partly_none, partly_step, partly_all}
use Rattle.words.proofs.Test.{at_below, same_below}
use Rattle.grid_code.specs.Sides.{row_of}
use Rattle.grid_code.specs.Steps.{row_check, RowChecks}
use Rattle.grid_rows.specs.Repair.{fixed}
use Rattle.grid_rows.specs.Rows.{Packed, Unpacked}
use Rattle.grid_rows.proofs.repaired.Goals as goal

-- ---- one row

-- the table of the code
abbrev flips : List ℕ
flips =
    0x00 ∷ 0x10 ∷ 0x20 ∷ 0x81 ∷ 0x40 ∷ 0x82 ∷ 0x88 ∷ 0x04
    ∷ 0x80 ∷ 0x90 ∷ 0xA0 ∷ 0x01 ∷ 0xC0 ∷ 0x02 ∷ 0x08 ∷ 0x84 ∷ []

check_lt : (x : ℕ) → x < 2 ^ 8 → row_check x < 16
unfolding row_check
check_lt x h = ltb→lt (row_check x) 16 (at_below 256 (λ x. ltb (row_check x) 16) tt x h)

one_row : (x : ℕ) → x < 2 ^ 8 → bit_xor x (get_or flips (row_check x) 0) ≡ fixed x
unfolding fixed row_check
one_row = same_below 256 (λ x. bit_xor x (get_or flips (row_check x) 0)) fixed tt

-- the checks of all rows, as they were worked out
checked : (rows checks : List ℕ) (w k : ℕ) → length rows ≡ 8 → Below 8 rows → Packed rows w → RowChecks w k → Unpacked k checks
    → (r : ℕ) → r < 8 → get_or checks r 0 ≡ row_check (get_or rows r 0)
checked rows checks w k n small p q u r h =
    ap (λ (l : List ℕ). get_or l r 0) u.answer ∙ q.check r h
    ∙ ap row_check (ap (λ (x : ℕ). row_of x r) p.answer ∙ ap (λ (l : List ℕ). get_or l r 0) (digits-joined 8 8 rows n small))

-- ---- row after row

one_more : (rows copy : List ℕ) (r x : ℕ) → r < length rows → copy ≡ partly fixed r rows → x ≡ fixed (get_or rows r 0)
    → set copy r x ≡ partly fixed (r + 1) rows
one_more rows copy r x h e s = rw (s, e) (partly_step fixed rows r h)

pub loop-r-init : goal.loop-r-init
loop-r-init c = partly_none fixed _

pub bounds-from : goal.bounds-from
bounds-from c =
    let l = c.loop-r in
    let of_number = c.of_number-checks in
    let worked_out = c.row_checks in
    let packed = c.number in
    let rows : List ℕ = c.args.rows in
    let n : length rows ≡ 8 = search rules in
    let small : (i : ℕ) → Fits w8 (get_or rows i 0) = λ i. search rules in
    let is =
    checked rows of_number.result packed.result worked_out.result n (λ i. (small i).fits) packed.ensures worked_out.ensures
    of_number.ensures l.r (omega arith) in
    omega (arith, c.from.ensures, is, check_lt (get_or rows l.r 0) (small l.r).fits)

pub loop-r-preserved : goal.loop-r-preserved
loop-r-preserved c =
    let l = c.loop-r in
    let of_number = c.of_number-checks in
    let worked_out = c.row_checks in
    let packed = c.number in
    let rows : List ℕ = c.args.rows in
    let n : length rows ≡ 8 = search rules in
    let small : (i : ℕ) → Fits w8 (get_or rows i 0) = λ i. search rules in
    let is =
    checked rows of_number.result packed.result worked_out.result n (λ i. (small i).fits) packed.ensures worked_out.ensures
    of_number.ensures l.r (omega arith) in
    one_more rows l.copy l.r _ (omega arith) l.invariant
    (ap (λ (k : ℕ). bit_xor (get_or rows l.r 0) (get_or flips k 0)) (c.from.ensures ∙ is) ∙ one_row (get_or rows l.r 0) (small l.r).fits)

pub returns : goal.returns
returns c =
    let l = c.loop-r in
    let rows : List ℕ = c.args.rows in
    let n : length rows ≡ 8 = search rules in
    record { answer = l.invariant ∙ partly_all fixed rows l.r (omega arith) }
