-- `grid_code::upper` meets its contract: both sides are linear, and agree at each place. Assumes nothing.
use mathlib.Core.Path.{◌≡◌, refl, sym, ap, ap₂, ◌∙◌}
use Prim.Native.Nat.{ℕ, ◌+◌, ◌*◌, ◌/◌, ◌%◌, ◌^◌, ◌≤◌, ◌<◌}
use native.Mathlib.Omega.{arith}
use lib.Bits.{bit_and, bit_xor, and_le_r, and_block, and_zero_r}
use lib.Dec.{T, ltb, eqb}
use Rattle.words.proofs.Test.{all_below}
use Rattle.words.proofs.Linear.{Linear, same, ◌⊕◌, shr, times, low, then, agree}
use Rattle.grid_code.specs.Equations.{data_of}
use Rattle.grid_code.specs.Code.{codeword}
use Rattle.grid_code.proofs.Codeword.{grids}
use Rattle.grid_code.proofs.Places.{gather, gathered}
use Rattle.grid_code.proofs.upper.Goals as goal

-- what the code computes, by the rows of one data place each
module _ (h i j k : ℕ) (p : T (ltb h 256)) (q : T (ltb i 256)) (r : T (ltb j 256)) (s : T (ltb k 256)) where
  abbrev made : Linear
  made = times same 4 h p ⊕ times (shr same 1) 4 i q ⊕ times (shr same 2) 4 j r ⊕ times (shr same 3) 4 k s

  -- .. is right, if it is at each place
  rows_made : T (all_below 32 (λ n. eqb (made.at (2 ^ n)) ((then gather (low grids 32)).at (2 ^ n)))) → (places : ℕ) → places < 2 ^ 32
      → made.at places ≡ codeword (data_of places) % 2 ^ 32
  unfolding codeword
  rows_made t places l =
      agree made (then gather (low grids 32)) 32 t places l ∙ sym (ap (λ (d : ℕ). codeword d % 2 ^ 32) (gathered places l))

-- a place of each row, where it stands: place k is place 0 of what a shift by k leaves
taken1 : (x : ℕ) → bit_and x 0x0202_0202 ≡ bit_and (x / 2) 0x0101_0101 * 2
taken1 x =
    let parts : x ≡ x / 2 * 2 + x % 2 = omega arith in
    ap (λ (y : ℕ). bit_and y 0x0202_0202) parts ∙ and_block 1 (x / 2) 0x0101_0101 (x % 2) 0 (omega arith) (omega arith)
    ∙ omega (arith, and_zero_r (x % 2))

taken2 : (x : ℕ) → bit_and x 0x0404_0404 ≡ bit_and (x / 4) 0x0101_0101 * 4
taken2 x =
    let parts : x ≡ x / 4 * 4 + x % 4 = omega arith in
    ap (λ (y : ℕ). bit_and y 0x0404_0404) parts ∙ and_block 2 (x / 4) 0x0101_0101 (x % 4) 0 (omega arith) (omega arith)
    ∙ omega (arith, and_zero_r (x % 4))

-- places that are set by sums, as products
abbrev place : ℕ → ℕ
place x = bit_and x 0x0101_0101

small : (x : ℕ) → place x ≤ 0x0101_0101
small x = and_le_r x 0x0101_0101

place0 : (x p : ℕ) → p ≡ place x → p + p * 2 ^ 4 % 2 ^ 32 + p * 2 ^ 5 % 2 ^ 32 + p * 2 ^ 7 % 2 ^ 32 ≡ place x * 0xB1
place0 x p e = omega (arith, e, small x)

place1 : (x p : ℕ) → p ≡ place x * 2 → p + p * 2 ^ 3 % 2 ^ 32 + p * 2 ^ 5 % 2 ^ 32 + p * 2 ^ 6 % 2 ^ 32 ≡ place x * 0xD2
place1 x p e = omega (arith, e, small x)

place2 : (x p : ℕ) → p ≡ place x * 2 → p * 2 ^ 1 % 2 ^ 32 + p * 2 ^ 3 % 2 ^ 32 + p * 2 ^ 4 % 2 ^ 32 + p * 2 ^ 5 % 2 ^ 32 ≡ place x * 0x74
place2 x p e = omega (arith, e, small x)

place3 : (x p : ℕ) → p ≡ place x * 4 → p * 2 ^ 1 % 2 ^ 32 + p * 2 ^ 3 % 2 ^ 32 + p * 2 ^ 4 % 2 ^ 32 + p * 2 ^ 5 % 2 ^ 32 ≡ place x * 0xE8
place3 x p e = omega (arith, e, small x)

-- two shifts are one
twice : (x : ℕ) → (x / 2 / 2 ≡ x / 4) × (x / 2 / 4 ≡ x / 8)
twice x = (omega arith, omega arith)

pub returns : goal.returns
unfolding codeword
returns c =
    let p : ℕ = c.args.places in
    let second : bit_and (p / 2) 0x0202_0202 ≡ place (p / 4) * 2 = taken1 (p / 2) ∙ ap (λ (y : ℕ). place y * 2) (twice p).0 in
    let third : bit_and (p / 2) 0x0404_0404 ≡ place (p / 8) * 4 = taken2 (p / 2) ∙ ap (λ (y : ℕ). place y * 4) (twice p).1 in
    ap₂ bit_xor (ap₂ bit_xor (ap₂ bit_xor (place0 p _ refl) (place1 (p / 2) _ (taken1 p))) (place2 (p / 4) _ second)) (place3 (p / 8) _ third)
    ∙ rows_made 0xB1 0xD2 0x74 0xE8 tt tt tt tt tt p c.ranges.places.fits
