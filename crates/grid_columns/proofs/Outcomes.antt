-- What specs/Outcomes.antt says of the steps holds: two words that agree differ in at most three rows, so that each column is the same.
-- Assumes nothing.
use Rattle.std.specs.Prelude.{None, Option, Some}
use mathlib.Core.Path.{◌≡◌, refl, sym, ap, ap₂, ◌∙◌}
use mathlib.Core.Logic.{◌⊎◌, inl, inr}
use mathlib.Core.Bool.{Bool, true, false}
use Prim.Native.Nat.{ℕ, zero, suc, ◌+◌, ◌*◌, ◌/◌, ◌%◌, ◌≤◌, ◌<◌, min}
use native.Mathlib.Nat.{le_trans}
use native.Mathlib.Decide.{ℕ_discrete}
use native.Mathlib.Omega.{arith}
use lib.Bits.{bit_and, differ}
use Rattle.words.specs.Word.{bit, dist, sum_to}
use Rattle.words.proofs.Bit.{bit_lt, differ_lt, differ_self, eq_of_bits}
use Rattle.words.proofs.Digits.{bit-digits}
use Rattle.words.proofs.Dist.{dist_sym, dist_triangle, eq_of_dist}
use Rattle.words.proofs.Sum.{sum_le, sum-add}
use Rattle.codes.specs.Product.{unlike, Same}
use Rattle.codes.proofs.Address.{distance4}
use Rattle.grid_code.specs.Equations.{in_column}
use Rattle.grid_code.specs.Sides.{col_entries, row_of}
use Rattle.grid_code.proofs.Codeword.{eighth}
use Rattle.grid_columns.specs.Columns.{Held, wrong, Agrees, Solves}
use Rattle.grid_columns.specs.Outcomes.{OneOutcome}

held : (rows : ℕ) (a b : Bool) → Held rows a → Held rows b → a ≡ b
held rows true true p q = refl
held rows false false p q = refl
held rows true false p q = absurd (q.no refl (p.yes refl))
held rows false true p q = absurd (p.no refl (q.yes refl))

module _ (rows aside y z : ℕ) (p : Agrees rows aside y) (q : Agrees rows aside z) where
  -- a row in which they differ is set aside, or wrong in one of them
  row_le : (r : ℕ) → unlike (row_of y r) (row_of z r) ≤ wrong rows aside y r + wrong rows aside z r + row_of aside r
  row_le r = go (row_of aside r)
    where
      go : (a : ℕ) → unlike (row_of y r) (row_of z r)
          ≤ min (differ a 1) (unlike (row_of y r) (row_of rows r)) + min (differ a 1) (unlike (row_of z r) (row_of rows r)) + a
      go zero =
          omega (arith, dist_triangle (row_of y r) (row_of rows r) (row_of z r), dist_sym (row_of rows r) (row_of z r))
      go (suc a) = omega arith

  rows_le : sum_to 8 (λ r. unlike (row_of y r) (row_of z r)) ≤ 3
  rows_le =
      few (sum_to 8 (wrong rows aside y)) (sum_to 8 (wrong rows aside z)) (sum_to 8 (row_of aside))
      (sum_le 8 (λ r. unlike (row_of y r) (row_of z r)) (λ r. wrong rows aside y r + wrong rows aside z r + row_of aside r) (λ r h. row_le r))
      (sum-add 8 (λ r. wrong rows aside y r + wrong rows aside z r) (row_of aside)) (sum-add 8 (wrong rows aside y) (wrong rows aside z))
      p.few q.few
    where
      few : (v w s : ℕ) {n m l : ℕ} → n ≤ m → m ≡ l + s → l ≡ v + w → 2 * v + s ≤ 3 → 2 * w + s ≤ 3 → n ≤ 3
      few v w s a b c d e = omega arith

  column_le : (c : ℕ) → c < 8 → (r : ℕ) → r < 8 → differ (in_column y c r) (in_column z c r) ≤ unlike (row_of y r) (row_of z r)
  column_le c hc r hr = go (ℕ_discrete (dist (row_of y r) (row_of z r)) 0)
    where
      go : Dec (dist (row_of y r) (row_of z r) ≡ 0) → differ (in_column y c r) (in_column z c r) ≤ unlike (row_of y r) (row_of z r)
      go (yes e) =
          omega (
            arith,
            ap₂ differ
                (bit-digits 8 8 y r c hr hc ∙ ap (λ (x : ℕ). bit x c) (eq_of_dist (row_of y r) (row_of z r) e)
                ∙ sym (bit-digits 8 8 z r c hr hc)) refl
                ∙ differ_self (in_column z c r),
          )
      go (no ne) =
          omega (arith, ne, differ_lt (in_column y c r) (in_column z c r) (bit_lt y (8 * r + c)) (bit_lt z (8 * r + c)))

  column_same : (c : ℕ) → c < 8 → Same 8 (in_column y c) (in_column z c)
  column_same c hc =
      go
      (distance4 col_entries tt (in_column y c) (in_column z c) (λ r. bit_lt y (8 * r + c)) (λ r. bit_lt z (8 * r + c)) (p.code c hc)
      (q.code c hc))
    where
      at_most : sum_to 8 (λ r. differ (in_column y c r) (in_column z c r)) ≤ 3
      at_most =
          le_trans
          (sum_le 8 (λ r. differ (in_column y c r) (in_column z c r)) (λ r. unlike (row_of y r) (row_of z r)) (column_le c hc)) rows_le

      no : {n : ℕ} → 4 ≤ n → n ≤ 3 → ⊥
      no l h = omega arith

      go : Same 8 (in_column y c) (in_column z c) ⊎ (4 ≤ sum_to 8 (λ r. differ (in_column y c r) (in_column z c r)))
          → Same 8 (in_column y c) (in_column z c)
      go (inl s) = s
      go (inr l) = absurd (no l at_most)

  one_word : y ≡ z
  one_word =
      eq_of_bits 64 y z p.fits q.fits
      (λ i l. let (e, hr, hc) = eighth i l in sym (ap (bit y) e) ∙ column_same (i % 8) hc (i / 8) hr ∙ ap (bit z) e)

solves : (rows aside : ℕ) (a b : Option ℕ) → Solves rows aside a → Solves rows aside b → a ≡ b
solves rows aside (Some y) (Some z) p q = ap Some (one_word rows aside y z p q)
solves rows aside (Some y) None p q = absurd (q y p)
solves rows aside None (Some z) p q = absurd (p z q)
solves rows aside None None p q = refl

pub one_outcome : OneOutcome
one_outcome = record { hold = held; solved = λ rows marks a b p q. solves rows (bit_and marks 0x0101_0101_0101_0101) a b p.is q.is }
