-- A word whose columns are in the column code is in the product if all its rows but three are in the row code. What the row checks leave of
-- each row is, check by check, a sum of columns, and so a word of the column code; it has three places set at most, and a word of a code of
-- distance 4 that has no four is empty. Assumes nothing.
use mathlib.Core.Path.{◌≡◌, refl, sym, ap, ap₂, ◌∙◌}
use mathlib.Core.Logic.{◌⊎◌, inl, inr}
use mathlib.Core.List.{List, [], ◌∷◌}
use Prim.Native.Nat.{ℕ, suc, ◌^◌, ◌≤◌, ◌<◌, suc-le-suc}
use native.Mathlib.Nat.{zero-lt-suc, eq-zero-or-pos}
use native.Mathlib.Omega.{arith}
use lib.Bits.{bit_xor, differ}
use lib.Dec.{T, ltb}
use lib.ListN.{length}
use lib.Pow.{pow_pos}
use Rattle.words.specs.Word.{bit, dist, picked, combined, sum_to}
use Rattle.words.proofs.Bit.{by_bit, bit-cases, bit_lt, bit_zero, bit-xor, differ_zero, eq_of_bits}
use Rattle.words.proofs.Dist.{eq_of_dist}
use Rattle.words.proofs.Linear.{combined-differ, combined_eq, combined_lt}
use Rattle.words.proofs.Sum.{sum_le, sum_none}
use Rattle.words.proofs.Test.{every}
use Rattle.codes.specs.Product.{Same, unlike}
use Rattle.codes.proofs.Product.{rows_apart}
use Rattle.codes.proofs.Address.{ByEntries, fit?, none_set_lem, distance4}

-- check j of all rows, which have entries hs, is in the code of the columns, which have entries ks; g r c is the bit at row r, place c
checks_in : (j : ℕ) (ks hs : List ℕ) (g : ℕ → ℕ → ℕ) → ((r c : ℕ) → g r c < 2) → ((c : ℕ) → c < length hs → ByEntries ks (λ r. g r c))
    → ByEntries ks (λ r. bit (combined hs (g r)) j)
checks_in j ks [] g b h = none_set_lem ks (λ r. bit 0 j) (sum_none (length ks) (λ r. bit 0 j) (λ r l. bit_zero j))
checks_in j ks (x ∷ hs) g b h =
    combined-differ ks first rest (λ r. bit (combined (x ∷ hs) (g r)) j) (λ r. bit_lt (picked (g r 0) x) j)
    (λ r. bit_lt (combined hs (λ c. g r (suc c))) j) (λ r. bit-xor (picked (g r 0) x) (combined hs (λ c. g r (suc c))) j)
    ∙ ap₂ bit_xor (one (bit-cases (bit x j) (bit_lt x j)))
    (checks_in j ks hs (λ r c. g r (suc c)) (λ r c. b r (suc c)) (λ c l. h (suc c) (suc-le-suc l)))
  where
    first : ℕ → ℕ
    first r = bit (picked (g r 0) x) j

    rest : ℕ → ℕ
    rest r = bit (combined hs (λ c. g r (suc c))) j

    -- column 0 takes part in it or not
    one : (bit x j ≡ 0) ⊎ (bit x j ≡ 1) → ByEntries ks first
    one (inl z) =
        none_set_lem ks first
        (sum_none (length ks) first (λ r l. by_bit (λ (y : ℕ). bit (picked y x) j ≡ 0) (bit_zero j) z (g r 0) (b r 0)))
    one (inr z) =
        combined_eq ks first (λ r. g r 0) (λ r l. by_bit (λ (y : ℕ). bit (picked y x) j ≡ y) (bit_zero j) z (g r 0) (b r 0))
        ∙ h 0 (zero-lt-suc (length hs))

-- u has rows of the row code, and v differs from it in three rows at most
module _ (m : ℕ) (hs ks : List ℕ) (small : T (every (λ h. ltb h (2 ^ m)) hs)) (fit : T (fit? ks)) (u v : ℕ → ℕ)
    (rows : (r : ℕ) → r < length ks → ByEntries hs (bit (u r))) (cols : (c : ℕ) → c < length hs → ByEntries ks (λ r. bit (v r) c))
    (few : rows_apart (length ks) u v ≤ 3) where
  left : ℕ → ℕ → ℕ
  left j r = bit (combined hs (bit (v r))) j

  left_in : (j : ℕ) → ByEntries ks (left j)
  unfolding left
  left_in j = checks_in j ks hs (λ r. bit (v r)) (λ r. bit_lt (v r)) cols

  -- a check that is left shows a row that differs
  seen : (j r : ℕ) → r < length ks → differ (left j r) 0 ≤ unlike (u r) (v r)
  unfolding left
  seen j r h = go (eq-zero-or-pos (dist (u r) (v r)))
    where
      go : (dist (u r) (v r) ≡ 0) ⊎ (0 < dist (u r) (v r)) → differ (bit (combined hs (bit (v r))) j) 0 ≤ unlike (u r) (v r)
      go (inl z) =
          omega (
            arith,
            differ_zero (bit (combined hs (bit (v r))) j),
            ap (λ (x : ℕ). bit (combined hs (bit x)) j) (sym (eq_of_dist (u r) (v r) z)) ∙ ap (λ (x : ℕ). bit x j) (rows r h) ∙ bit_zero j,
          )
      go (inr p) = omega (arith, differ_zero (bit (combined hs (bit (v r))) j), bit_lt (combined hs (bit (v r))) j)

  left_bit : (j r : ℕ) → left j r < 2
  unfolding left
  left_bit j r = bit_lt (combined hs (bit (v r))) j

  none_left : (j r : ℕ) → r < length ks → left j r ≡ 0
  none_left j r h =
      go
      (distance4 ks fit (left j) (λ r. 0) (left_bit j) (λ r. omega arith) (left_in j)
      (none_set_lem ks (λ r. 0) (sum_none (length ks) (λ r. 0) (λ r l. refl))))
    where
      go : Same (length ks) (left j) (λ r. 0) ⊎ (4 ≤ sum_to (length ks) (λ r. differ (left j r) 0)) → left j r ≡ 0
      go (inl s) = s r h
      go (inr f) = absurd (omega (arith, few, sum_le (length ks) (λ r. differ (left j r) 0) (λ r. unlike (u r) (v r)) (λ r h. seen j r h)))

  pub rows_whole : (r : ℕ) → r < length ks → ByEntries hs (bit (v r))
  unfolding left
  rows_whole r h =
      eq_of_bits m (combined hs (bit (v r))) 0 (combined_lt m hs small (bit (v r))) (pow_pos m)
      (λ j l. none_left j r h ∙ sym (bit_zero j))
