-- Which rows needed flips: row by row, what the code makes of the places in which the repaired rows differ from the rows as read. Assumes
-- nothing.
use mathlib.Core.Path.{◌≡◌, refl, ap, ap₂, ◌∙◌}
use Prim.Native.Nat.{ℕ, zero, suc, ◌+◌, ◌/◌, ◌%◌, ◌^◌, ◌<◌, suc-le-suc}
use native.Mathlib.Nat.{zero-lt-suc, le_of_suc-le-suc, lt_of_le_of_lt}
use native.Mathlib.Omega.{arith}
use lib.Bits.{bit_and, bit_xor, xor_lt, and_mod, and_shr, and_le_r}
use lib.Count.{ones}
use lib.Dec.{eqb}
use lib.ListN.{get_or}
use Rattle.words.specs.Word.{dist}
use Rattle.words.specs.Digits.{digits}
use Rattle.words.proofs.Digits.{digits_below}
use Rattle.words.proofs.Linear.{Linear, same, shr, low, mask, then, digit, digit-sum, agree}
use Rattle.words.proofs.Test.{all_below, at_below, same_below}
use Rattle.codes.specs.Trials.{aside}
use Rattle.grid_code.specs.Sides.{row_of}
use Rattle.grid_rows.specs.Repair.{fixed}
use Rattle.grid_trials.specs.Steps.{Needing, Repaired, Marked}

-- a sum of two words, row by row, where no row carries
add_rows : (n a b : ℕ) → ((r : ℕ) → r < n → get_or (digits 8 n a) r 0 + get_or (digits 8 n b) r 0 < 256) → (r : ℕ) → r < n
    → get_or (digits 8 n (a + b)) r 0 ≡ get_or (digits 8 n a) r 0 + get_or (digits 8 n b) r 0
add_rows zero a b h r l = absurd (omega arith)
add_rows (suc n) a b h zero l = omega (arith, h 0 (zero-lt-suc n))
add_rows (suc n) a b h (suc r) l =
    let q : (a + b) / 2 ^ 8 ≡ a / 2 ^ 8 + b / 2 ^ 8 = omega (arith, h 0 (zero-lt-suc n)) in
    ap (λ (x : ℕ). get_or (digits 8 n x) r 0) q
    ∙ add_rows n (a / 2 ^ 8) (b / 2 ^ 8) (λ i k. h (suc i) (suc-le-suc k)) r (le_of_suc-le-suc l)

-- row by row, what two words have in common
both_rows : (n a b r : ℕ) → get_or (digits 8 n (bit_and a b)) r 0 ≡ bit_and (get_or (digits 8 n a) r 0) (get_or (digits 8 n b) r 0)
both_rows zero a b r = refl
both_rows (suc n) a b zero = and_mod a b 8
both_rows (suc n) a b (suc r) = ap (λ (x : ℕ). get_or (digits 8 n x) r 0) (and_shr a b 8) ∙ both_rows n (a / 2 ^ 8) (b / 2 ^ 8) r

-- the parts of the code that are linear
abbrev low_seven : Linear
low_seven = mask same 0x7F7F_7F7F_7F7F_7F7F

abbrev lowest_one : Linear
lowest_one = mask same 0x0101_0101_0101_0101

abbrev top : Linear
top = mask (shr same 7) 0x0101_0101_0101_0101

module _ (w r : ℕ) (fits : w < 2 ^ 64) (h : r < 8) where
  seven_row : row_of (low_seven.at w) r ≡ row_of w r % 2 ^ 7
  seven_row =
      agree (then low_seven (digit 8 8 r)) (low (digit 8 8 r) 7) 64
      (at_below 8 (λ r. all_below 64 (λ k. eqb (row_of (low_seven.at (2 ^ k)) r) (row_of (2 ^ k) r % 2 ^ 7))) tt r h) w fits

  pub odd-row : row_of (lowest_one.at w) r ≡ row_of w r % 2 ^ 1
  odd-row =
      agree (then lowest_one (digit 8 8 r)) (low (digit 8 8 r) 1) 64
      (at_below 8 (λ r. all_below 64 (λ k. eqb (row_of (lowest_one.at (2 ^ k)) r) (row_of (2 ^ k) r % 2 ^ 1))) tt r h) w fits

  top_row : row_of (top.at w) r ≡ row_of w r / 2 ^ 7
  top_row =
      agree (then top (digit 8 8 r)) (shr (digit 8 8 r) 7) 64
      (at_below 8 (λ r. all_below 64 (λ k. eqb (row_of (top.at (2 ^ k)) r) (row_of (2 ^ k) r / 2 ^ 7))) tt r h) w fits

-- what the code computes of one row
abbrev others : ℕ → ℕ
others y = y % 2 ^ 7 + 127

abbrev both : ℕ → ℕ
both y = bit_and (others y) y

abbrev either : ℕ → ℕ
either y = bit_xor (bit_xor (others y) y) (both y)

-- .. and of all
module _ (w : ℕ) (fits : w < 2 ^ 64) where
  abbrev pub all_others : ℕ
  all_others = low_seven.at w + 0x7F7F_7F7F_7F7F_7F7F

  abbrev pub all_both : ℕ
  all_both = bit_and all_others w

  abbrev pub all_either : ℕ
  all_either = bit_xor (bit_xor all_others w) all_both

  others_row : (r : ℕ) → r < 8 → row_of all_others r ≡ others (row_of w r)
  others_row r h =
      add_rows 8 (low_seven.at w) 0x7F7F_7F7F_7F7F_7F7F
      (λ i l. omega (arith, seven_row w i fits l, all i l)) r h
      ∙ ap₂ (λ (x y : ℕ). x + y) (seven_row w r fits h) (all r h)
    where
      all : (i : ℕ) → i < 8 → row_of 0x7F7F_7F7F_7F7F_7F7F i ≡ 127
      all = same_below 8 (row_of 0x7F7F_7F7F_7F7F_7F7F) (λ i. 127) tt

  both_row : (r : ℕ) → r < 8 → row_of all_both r ≡ both (row_of w r)
  both_row r h = both_rows 8 all_others w r ∙ ap (λ (x : ℕ). bit_and x (row_of w r)) (others_row r h)

  either_row : (r : ℕ) → r < 8 → row_of all_either r ≡ either (row_of w r)
  either_row r h =
      digit-sum 8 8 r (bit_xor all_others w) all_both
      ∙ ap₂ bit_xor (digit-sum 8 8 r all_others w ∙ ap (λ (x : ℕ). bit_xor x (row_of w r)) (others_row r h)) (both_row r h)

  -- tested over all 256 rows
  needs_any : (x : ℕ) → x < 2 ^ 8 → either (bit_xor x (fixed x)) / 2 ^ 7 ≡ aside fixed 1 x
  unfolding fixed aside dist ones
  needs_any = same_below 256 (λ x. either (bit_xor x (fixed x)) / 2 ^ 7) (aside fixed 1) tt

  needs_two : (x : ℕ) → x < 2 ^ 8 → both (bit_xor x (fixed x)) / 2 ^ 7 ≡ aside fixed 2 x
  unfolding fixed aside dist ones
  needs_two = same_below 256 (λ x. both (bit_xor x (fixed x)) / 2 ^ 7) (aside fixed 2) tt

  pub needed : all_others < 2 ^ 64 → Needing w (top.at all_either) (top.at all_both)
  needed small = record {
    ones = λ x r l h e.
        top_row all_either r (xor_lt 64 (bit_xor all_others w) all_both (xor_lt 64 all_others w small fits) both_lt) h
        ∙ ap (λ (y : ℕ). y / 2 ^ 7) (either_row r h ∙ ap either e) ∙ needs_any x l;
    twos = λ x r l h e. top_row all_both r both_lt h ∙ ap (λ (y : ℕ). y / 2 ^ 7) (both_row r h ∙ ap both e) ∙ needs_two x l;
  }
    where
      both_lt : all_both < 2 ^ 64
      both_lt = lt_of_le_of_lt (and_le_r all_others w) fits

-- ---- the marks of a word

module _ (word rows any two : ℕ) (put : Repaired word rows) (m : Needing (bit_xor word rows) any two) where
  off-row : (r : ℕ) → r < 8 → row_of (bit_xor word rows) r ≡ bit_xor (row_of word r) (fixed (row_of word r))
  off-row r h = digit-sum 8 8 r word rows ∙ ap (bit_xor (row_of word r)) (put r h)

  pub marked_any : Marked 1 word any
  marked_any r h = m.ones (row_of word r) r (digits_below 8 8 word r) h (off-row r h)

  pub marked_two : Marked 2 word two
  marked_two r h = m.twos (row_of word r) r (digits_below 8 8 word r) h (off-row r h)
