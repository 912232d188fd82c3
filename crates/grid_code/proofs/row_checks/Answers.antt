-- `grid_code::row_checks` meets its contract: it is linear, and so are the checks of one row. Assumes nothing.
use mathlib.Core.Path.{◌≡◌, sym, ap, ap₂, ◌∙◌, subst}
use mathlib.Core.List.{[], ◌∷◌}
use Prim.Native.Nat.{ℕ, ◌+◌, ◌*◌, ◌/◌, ◌%◌, ◌^◌, ◌≤◌, ◌<◌}
use native.Mathlib.Omega.{arith}
use lib.Bits.{bit_and, bit_xor, xor_lt, and_le_r}
use lib.Dec.{eqb}
use Rattle.words.proofs.Digits.{digits_below}
use Rattle.words.proofs.Linear.{Linear, same, ◌⊕◌, shr, times, then, digit, combination, agree}
use Rattle.words.proofs.Test.{all_below, at_below, same_below}
use Rattle.grid_code.specs.Sides.{row_of}
use Rattle.grid_code.specs.Steps.{row_check, RowChecks}
use Rattle.grid_code.proofs.row_checks.Goals as goal

-- what the code computes, ..
abbrev made : Linear
made = shr (same ⊕ (times same 8 0xB1 tt ⊕ times (shr same 1) 8 0xD2 tt ⊕ times (shr same 2) 8 0x74 tt ⊕ times (shr same 3) 8 0xE8 tt)) 4

-- .. and the same of one row
abbrev of_row : Linear
of_row = shr (same ⊕ combination (0xB1 ∷ 0xD2 ∷ 0x74 ∷ 0xE8 ∷ [])) 4

each_row : (w r : ℕ) → w < 2 ^ 64 → r < 8 → row_of (made.at w) r ≡ row_check (row_of w r)
unfolding row_check
each_row w r h l =
    agree (then made (digit 8 8 r)) (then (digit 8 8 r) of_row) 64
    (at_below 8 (λ r. all_below 64 (λ k. eqb (row_of (made.at (2 ^ k)) r) (of_row.at (row_of (2 ^ k) r)))) tt r l) w h
    ∙ same_below 256 of_row.at row_check tt (row_of w r) (digits_below 8 8 w r)

-- places that are set by sums, as products
module _ (x : ℕ) where
  abbrev place : ℕ
  place = bit_and x 0x0101_0101_0101_0101

  small : place ≤ 0x0101_0101_0101_0101
  small = and_le_r x 0x0101_0101_0101_0101

  place0 : place + place * 2 ^ 4 % 2 ^ 64 + place * 2 ^ 5 % 2 ^ 64 + place * 2 ^ 7 % 2 ^ 64 ≡ place * 0xB1
  place0 = omega (arith, small)

  place1 : place * 2 ^ 1 % 2 ^ 64 + place * 2 ^ 4 % 2 ^ 64 + place * 2 ^ 6 % 2 ^ 64 + place * 2 ^ 7 % 2 ^ 64 ≡ place * 0xD2
  place1 = omega (arith, small)

  place2 : place * 2 ^ 2 % 2 ^ 64 + place * 2 ^ 4 % 2 ^ 64 + place * 2 ^ 5 % 2 ^ 64 + place * 2 ^ 6 % 2 ^ 64 ≡ place * 0x74
  place2 = omega (arith, small)

  place3 : place * 2 ^ 3 % 2 ^ 64 + place * 2 ^ 5 % 2 ^ 64 + place * 2 ^ 6 % 2 ^ 64 + place * 2 ^ 7 % 2 ^ 64 ≡ place * 0xE8
  place3 = omega (arith, small)

shrunk : {n : ℕ} → n < 2 ^ 64 → n / 2 ^ 4 < 2 ^ 64
shrunk {n} l = omega arith

made_lt : (w : ℕ) → w < 2 ^ 64 → made.at w < 2 ^ 64
made_lt w h =
    let a : place w * 0xB1 < 2 ^ 64 = omega (arith, small w) in
    let b : place (w / 2) * 0xD2 < 2 ^ 64 = omega (arith, small (w / 2)) in
    let c : place (w / 4) * 0x74 < 2 ^ 64 = omega (arith, small (w / 4)) in
    let d : place (w / 8) * 0xE8 < 2 ^ 64 = omega (arith, small (w / 8)) in
    shrunk (xor_lt 64 w _ h (xor_lt 64 _ _ (xor_lt 64 _ _ (xor_lt 64 _ _ a b) c) d))

pub returns : goal.returns
returns c =
    let w : ℕ = c.args.w in
    let l : w < 2 ^ 64 = c.ranges.w.fits in
    let is =
    ap (λ (x : ℕ). bit_xor w x / 2 ^ 4) (ap₂ bit_xor (ap₂ bit_xor (ap₂ bit_xor (place0 w) (place1 (w / 2))) (place2 (w / 4))) (place3 (w / 8))) in
    subst (RowChecks w) (sym is) (record { fits = made_lt w l; check = λ i h. each_row w i l h })
