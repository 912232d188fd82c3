-- Each column is in the column code where the checks are 0, and nowhere else: the checks, put into rows 4 to 7, combine to what the column
-- does. Assumes nothing.
use mathlib.Core.Path.{◌≡◌, sym, ap, ◌∙◌}
use mathlib.Core.List.{[], ◌∷◌}
use Prim.Native.Nat.{ℕ, ◌+◌, ◌*◌, ◌/◌, ◌%◌, ◌^◌, ◌<◌}
use native.Mathlib.Omega.{arith}
use lib.Dec.{eqb, lit<}
use Rattle.words.specs.Word.{bit, combined}
use Rattle.words.proofs.Bit.{bit_lt, bit-xor, bit_zero, eq_of_bits}
use Rattle.words.proofs.Linear.{Linear, same, shr, low, then, combination, combined-differ, agree, at_zero}
use Rattle.words.proofs.Test.{all_below, at_below, at_pair}
use Rattle.words.proofs.Xor.{xor-shl}
use Rattle.grid_code.specs.Equations.{in_column}
use Rattle.grid_code.specs.Sides.{col_entries}
use Rattle.grid_code.proofs.Checks.{checks, checks_lt}
use Rattle.grid_columns.specs.Columns.{InColumns}

-- what column c combines to
abbrev column : ℕ → Linear
column c = record {
  at = λ w. combined col_entries (in_column w c);
  sum = λ a b.
      combined-differ col_entries (in_column a c) (in_column b c) (in_column _ c) (λ r. bit_lt a (8 * r + c)) (λ r. bit_lt b (8 * r + c))
      (λ r. bit-xor a b (8 * r + c));
}

-- four bytes in rows 4 to 7
abbrev below : Linear
below = record { at = λ e. e * 2 ^ 32; sum = xor-shl 32 }

combines : (c w : ℕ) → c < 8 → w < 2 ^ 64 → (column c).at w ≡ (column c).at (checks.at w * 2 ^ 32)
combines c w l h =
    agree (column c) (then checks (then below (column c))) 64
    (at_below 8 (λ c. all_below 64 (λ k. eqb ((column c).at (2 ^ k)) ((column c).at (checks.at (2 ^ k) * 2 ^ 32)))) tt c l) w h

pub none_in : (w : ℕ) → w < 2 ^ 64 → checks.at w ≡ 0 → InColumns w
none_in w h e c l = combines c w l h ∙ ap (λ (x : ℕ). (column c).at (x * 2 ^ 32)) e ∙ at_zero (column c)

-- the checks again, from what a column combines to
abbrev back : Linear
back = combination (8 ∷ 9 ∷ 10 ∷ 12 ∷ [])

place_back : (k c e : ℕ) → k < 4 → c < 8 → e < 2 ^ 32 → bit e (8 * k + c) ≡ bit (back.at ((column c).at (e * 2 ^ 32))) k
place_back k c e hk hc h =
    agree (from k c) (to k c) 32
    (at_pair 4 8 (λ k c. all_below 32 (λ i. eqb ((from k c).at (2 ^ i)) ((to k c).at (2 ^ i)))) tt k c hk hc) e h
  where
    from : ℕ → ℕ → Linear
    from k c = low (shr same (8 * k + c)) 1

    to : ℕ → ℕ → Linear
    to k c = low (shr (then below (then (column c) back)) k) 1

pub in_none : (w : ℕ) → w < 2 ^ 64 → InColumns w → checks.at w ≡ 0
in_none w h p =
    eq_of_bits 32 (checks.at w) 0 (checks_lt w) (lit< tt)
    (λ i l.
    let e : 8 * (i / 8) + i % 8 ≡ i = omega arith in
    let hk : i / 8 < 4 = omega arith in
    let hc : i % 8 < 8 = omega arith in
    sym (ap (bit (checks.at w)) e)
    ∙ place_back (i / 8) (i % 8) (checks.at w) hk hc (checks_lt w)
    ∙ ap (λ (x : ℕ). bit (back.at x) (i / 8)) (sym (combines (i % 8) w hc h) ∙ p (i % 8) hc)
    ∙ bit_zero (i / 8)
    ∙ sym (bit_zero i))
