-- The checks of the columns, as a linear map: what the code computes is known from its values at single places. Assumes nothing.
use mathlib.Core.Path.{◌≡◌, sym, ap, ◌∙◌}
use mathlib.Core.List.{List, [], ◌∷◌}
use Prim.Native.Nat.{ℕ, ◌+◌, ◌*◌, ◌/◌, ◌%◌, ◌^◌, ◌<◌}
use native.Mathlib.Nat.{mod-lt}
use native.Mathlib.Omega.{arith}
use lib.Dec.{T, eqb, ltb, ltb→lt}
use lib.ListN.{get_or}
use lib.Pow.{pow_pos}
use Rattle.words.specs.Word.{bit, sum_over}
use Rattle.words.specs.Digits.{digits}
use Rattle.words.proofs.Bit.{bit_zero, bit-xor-sum, eq_of_bits}
use Rattle.words.proofs.Digits.{bit-digits}
use Rattle.words.proofs.Linear.{Linear, none, ◌⊕◌, shl, shr, low, then, digit, total, total_lt, agree}
use Rattle.words.proofs.Test.{all_below, at_below, every, both_left, both_right}
use Rattle.grid_code.specs.Equations.{in_column}
use Rattle.grid_code.specs.Code.{codeword}
use Rattle.grid_code.specs.Steps.{check_rows, Checks}
use Rattle.grid_code.proofs.Codeword.{grids}

-- the rows of a list, combined
abbrev pub over : List ℕ → Linear
over [] = none
over (r ∷ rs) = digit 8 8 r ⊕ over rs

-- each place is a parity
over_bit : (rs : List ℕ) → T (every (λ r. ltb r 8) rs) → (w c : ℕ) → c < 8 → bit ((over rs).at w) c ≡ sum_over (in_column w c) rs % 2
over_bit [] t w c h = bit_zero c
over_bit (r ∷ rs) t w c h =
    omega (
      arith,
      bit-xor-sum ((digit 8 8 r).at w) ((over rs).at w) c,
      bit-digits 8 8 w r c (ltb→lt r 8 (both_left (ltb r 8) (every (λ r. ltb r 8) rs) t)) h,
      over_bit rs (both_right (ltb r 8) (every (λ r. ltb r 8) rs) t) w c h,
    )

abbrev pub checked : ℕ → List ℕ
checked k = get_or check_rows k []

-- check k in byte k
abbrev pub checks : Linear
checks = total 4 (λ k. shl (over (checked k)) (8 * k) 32)

pub checks_lt : (w : ℕ) → checks.at w < 2 ^ 32
checks_lt w =
    total_lt 32 4 (λ k. shl (over (checked k)) (8 * k) 32) w (λ k. mod-lt ((over (checked k)).at w * 2 ^ (8 * k)) (pow_pos 32))

pub byte_of_checks : (w k : ℕ) → w < 2 ^ 64 → k < 4 → get_or (digits 8 4 (checks.at w)) k 0 ≡ (over (checked k)).at w
byte_of_checks w k h l =
    agree (then checks (digit 8 4 k)) (over (checked k)) 64
    (at_below 4 (λ k. all_below 64 (λ i. eqb ((then checks (digit 8 4 k)).at (2 ^ i)) ((over (checked k)).at (2 ^ i)))) tt k l) w h

pub are_checks : (w : ℕ) → w < 2 ^ 64 → Checks w (checks.at w)
are_checks w h = record {
  fits = checks_lt w;
  check = λ k c hk hc.
      bit-digits 8 4 (checks.at w) k c hk hc
      ∙ ap (λ (x : ℕ). bit x c) (byte_of_checks w k h hk)
      ∙ over_bit (checked k) (at_below 4 (λ k. every (λ r. ltb r 8) (checked k)) tt k hk) w c hc;
}

-- no second word has these checks
pub one_word : (w a b : ℕ) → Checks w a → Checks w b → a ≡ b
one_word w a b p q =
    eq_of_bits 32 a b p.fits q.fits
    (λ i l.
    let e : 8 * (i / 8) + i % 8 ≡ i = omega arith in
    let hk : i / 8 < 4 = omega arith in
    let hc : i % 8 < 8 = omega arith in
    sym (ap (bit a) e) ∙ p.check (i / 8) (i % 8) hk hc ∙ sym (q.check (i / 8) (i % 8) hk hc) ∙ ap (bit b) e)

-- so the checks are what the map gives
pub checks_is : (w r : ℕ) → w < 2 ^ 64 → Checks w r → r ≡ checks.at w
checks_is w r h p = one_word w r (checks.at w) p (are_checks w h)

-- rows 4 to 7 of a codeword are the checks of its rows 0 to 3
pub lower_rows : (d r : ℕ) → d < 2 ^ 16 → Checks (codeword d % 2 ^ 32) r → r ≡ codeword d / 2 ^ 32
unfolding codeword
lower_rows d r h p =
    checks_is (codeword d % 2 ^ 32) r (omega (arith, mod-lt (codeword d) (pow_pos 32))) p
    ∙ agree (then (low grids 32) checks) (shr grids 32) 16 tt d h
