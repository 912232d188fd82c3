-- Words that are stacked: linear, what one place gives, how high the stack is, and words laid on words. Assumes nothing.
use mathlib.Core.Path.{◌≡◌, refl, sym, ap, ap₂, ◌∙◌, subst}
use mathlib.Core.List.{List, [], ◌∷◌, ◌++◌}
use Prim.Native.Nat.{ℕ, zero, suc, suc-le-suc, ◌+◌, ◌*◌, ◌/◌, ◌%◌, ◌^◌, ◌<◌}
use native.Mathlib.Nat.{zero-lt-suc, zero-mul, one-mul, mul-zero, mul_assoc, mod-eq_of_lt, div-eq_of_lt, le_of_suc-le-suc, not-suc-le-zero, lt_of_lt_of_le, mul-suc, mul-one}
use native.Mathlib.Omega.{arith}
use lib.Bits.{bit_xor, bit_and, xor_shr, xor_mod, xor_lt, xor_zero_r}
use lib.Count.{ones}
use lib.ListN.{length, get_or}
use lib.Pow.{pow_pos, pow-lt, pow_mono, pow-add, shl_lt, shl-shr}
use Rattle.words.specs.Digits.{digits}
use Rattle.words.proofs.Bit.{by_bit, odd_lt}
use Rattle.words.proofs.Dist.{ones-xor}
use Rattle.words.proofs.Linear.{Linear, at_zero}
use Rattle.words.proofs.Ones.{ones-pow}
use Rattle.words.proofs.Xor.{xor_assoc, xor_swap, xor-shl}
use Rattle.block_code.specs.Code.{odd, stacked}

-- the parity of the ones is linear
pub odd-sum : (a b : ℕ) → odd (bit_xor a b) ≡ bit_xor (odd a) (odd b)
odd-sum a b = parity (ones-xor a b) ∙ sym (bits (odd a) (odd b) (odd_lt (ones a)) (odd_lt (ones b)))
  where
    parity : ones (bit_xor a b) + ones (bit_and a b) * 2 ≡ ones a + ones b → odd (bit_xor a b) ≡ (odd a + odd b) % 2
    parity e = omega arith

    bits : (x y : ℕ) → x < 2 → y < 2 → bit_xor x y ≡ (x + y) % 2
    bits x y hx hy =
        by_bit (λ (x : ℕ). bit_xor x y ≡ (x + y) % 2) (by_bit (λ (y : ℕ). bit_xor 0 y ≡ (0 + y) % 2) refl refl y hy)
        (by_bit (λ (y : ℕ). bit_xor 1 y ≡ (1 + y) % 2) refl refl y hy) x hx

abbrev pub parity : Linear
parity = record { at = odd; sum = odd-sum }

module _ (m : ℕ) (f : Linear) where
  pub stack_sum : (n a b : ℕ)
      → stacked m f.at (digits 16 n (bit_xor a b)) ≡ bit_xor (stacked m f.at (digits 16 n a)) (stacked m f.at (digits 16 n b))
  unfolding stacked
  stack_sum zero a b = refl
  stack_sum (suc n) a b =
      ap₂ (λ (x y : ℕ). bit_xor (stacked m f.at (digits 16 n x) * 2 ^ m) (f.at y)) (xor_shr a b 16) (xor_mod a b 16)
      ∙ ap₂ (λ (x y : ℕ). bit_xor (x * 2 ^ m) y) (stack_sum n (a / 2 ^ 16) (b / 2 ^ 16)) (f.sum (a % 2 ^ 16) (b % 2 ^ 16))
      ∙ ap (λ (x : ℕ). bit_xor x (bit_xor (f.at (a % 2 ^ 16)) (f.at (b % 2 ^ 16))))
      (xor-shl m (stacked m f.at (digits 16 n (a / 2 ^ 16))) (stacked m f.at (digits 16 n (b / 2 ^ 16))))
      ∙ xor_swap (stacked m f.at (digits 16 n (a / 2 ^ 16)) * 2 ^ m) (stacked m f.at (digits 16 n (b / 2 ^ 16)) * 2 ^ m)
      (f.at (a % 2 ^ 16)) (f.at (b % 2 ^ 16))

  -- the n words of a number
  abbrev pub stack : ℕ → Linear
  stack n = record { at = λ x. stacked m f.at (digits 16 n x); sum = stack_sum n }

  -- ---- one place

  -- a number with no place in its lowest word
  next : (n x : ℕ) → stacked m f.at (digits 16 (suc n) (x * 2 ^ 16)) ≡ stacked m f.at (digits 16 n x) * 2 ^ m
  unfolding stacked
  next n x =
      ap₂ (λ (a b : ℕ). bit_xor (stacked m f.at (digits 16 n a) * 2 ^ m) (f.at b)) (shl-shr x 16) even
      ∙ ap (bit_xor (stacked m f.at (digits 16 n x) * 2 ^ m)) (at_zero f)
      ∙ xor_zero_r (stacked m f.at (digits 16 n x) * 2 ^ m)
    where
      even : x * 2 ^ 16 % 2 ^ 16 ≡ 0
      even = omega arith

  pub stack_place : (n r c : ℕ) → r < n → c < 16 → stacked m f.at (digits 16 n (2 ^ (16 * r + c))) ≡ f.at (2 ^ c) * 2 ^ (m * r)
  unfolding stacked
  stack_place zero r c l h = absurd (not-suc-le-zero l)
  stack_place (suc n) zero c l h =
      let small : 2 ^ c < 2 ^ 16 = pow-lt h in
      ap (λ (x : ℕ). stacked m f.at (digits 16 (suc n) (2 ^ x))) (omega arith)
      ∙ ap₂ (λ (a b : ℕ). bit_xor (stacked m f.at (digits 16 n a) * 2 ^ m) (f.at b)) (div-eq_of_lt small) (mod-eq_of_lt small)
      ∙ ap (λ (x : ℕ). bit_xor (x * 2 ^ m) (f.at (2 ^ c))) (at_zero (stack n))
      ∙ ap (λ (x : ℕ). bit_xor x (f.at (2 ^ c))) (zero-mul (2 ^ m))
      ∙ omega (arith, ap (λ (x : ℕ). f.at (2 ^ c) * 2 ^ x) (mul-zero m))
  stack_place (suc n) (suc r) c l h =
      ap (λ (x : ℕ). stacked m f.at (digits 16 (suc n) x)) (ap (λ (x : ℕ). 2 ^ x) up ∙ pow-add 2 (16 * r + c) 16)
      ∙ next n (2 ^ (16 * r + c))
      ∙ ap (λ (x : ℕ). x * 2 ^ m) (stack_place n r c (le_of_suc-le-suc l) h)
      ∙ mul_assoc (f.at (2 ^ c)) (2 ^ (m * r)) (2 ^ m)
      ∙ ap (λ (x : ℕ). f.at (2 ^ c) * x) (sym (ap (λ (x : ℕ). 2 ^ x) (mul-suc m r) ∙ pow-add 2 (m * r) m))
    where
      up : 16 * suc r + c ≡ 16 * r + c + 16
      up = omega arith

  -- what stands behind the n words does not count
  pub stack_behind : (n x : ℕ) → stacked m f.at (digits 16 n (x * 2 ^ (16 * n))) ≡ 0
  unfolding stacked
  stack_behind zero x = refl
  stack_behind (suc n) x =
      ap (λ (y : ℕ). stacked m f.at (digits 16 (suc n) y))
      (ap (λ (y : ℕ). x * 2 ^ y) up ∙ ap (λ (y : ℕ). x * y) (pow-add 2 (16 * n) 16) ∙ sym (mul_assoc x (2 ^ (16 * n)) (2 ^ 16)))
      ∙ next n (x * 2 ^ (16 * n)) ∙ ap (λ (y : ℕ). y * 2 ^ m) (stack_behind n x) ∙ zero-mul (2 ^ m)
    where
      up : 16 * suc n ≡ 16 * n + 16
      up = omega arith

-- a word's parity at one of its places
pub parity-place : (n r c : ℕ) → r < n → c < 16 → stacked 1 odd (digits 16 n (2 ^ (16 * r + c))) ≡ 2 ^ r
parity-place n r c l h =
    stack_place 1 parity n r c l h ∙ ap (λ (x : ℕ). x % 2 * 2 ^ (1 * r)) (ones-pow c) ∙ one-mul (2 ^ (1 * r)) ∙ ap (λ (x : ℕ). 2 ^ x) (one-mul r)

-- ---- how high it is

pub stacked_lt : (m j : ℕ) (f : ℕ → ℕ) (xs : List ℕ) → ((i : ℕ) → i < length xs → f (get_or xs i 0) < 2 ^ (j + m))
    → stacked m f xs < 2 ^ (m * length xs + j)
unfolding stacked
stacked_lt m j f [] h = pow_pos (m * 0 + j)
stacked_lt m j f (x ∷ xs) h =
    let e : m * suc (length xs) + j ≡ m * length xs + j + m = ap (λ (y : ℕ). y + j) (mul-suc m (length xs)) ∙ omega arith in
    subst (λ (k : ℕ). bit_xor (stacked m f xs * 2 ^ m) (f x) < 2 ^ k) (sym e)
    (xor_lt (m * length xs + j + m) (stacked m f xs * 2 ^ m) (f x)
    (shl_lt (m * length xs + j) m (stacked_lt m j f xs (λ i l. h (suc i) (suc-le-suc l))))
    (lt_of_lt_of_le (h 0 (zero-lt-suc (length xs))) (pow_mono (omega arith))))

-- ---- words on words

pub stacked-append : (m : ℕ) (f : ℕ → ℕ) (xs ys : List ℕ)
    → stacked m f (xs ++ ys) ≡ bit_xor (stacked m f ys * 2 ^ (m * length xs)) (stacked m f xs)
unfolding stacked
stacked-append m f [] ys =
    sym (xor_zero_r (stacked m f ys * 2 ^ (m * 0)) ∙ ap (λ (x : ℕ). stacked m f ys * 2 ^ x) (mul-zero m) ∙ mul-one (stacked m f ys))
stacked-append m f (x ∷ xs) ys =
    ap (λ (y : ℕ). bit_xor (y * 2 ^ m) (f x)) (stacked-append m f xs ys)
    ∙ ap (λ (y : ℕ). bit_xor y (f x)) (xor-shl m (stacked m f ys * 2 ^ (m * length xs)) (stacked m f xs))
    ∙ xor_assoc (stacked m f ys * 2 ^ (m * length xs) * 2 ^ m) (stacked m f xs * 2 ^ m) (f x)
    ∙ ap (λ (y : ℕ). bit_xor y (bit_xor (stacked m f xs * 2 ^ m) (f x)))
    (mul_assoc (stacked m f ys) (2 ^ (m * length xs)) (2 ^ m)
    ∙ ap (λ (y : ℕ). stacked m f ys * y) (sym (ap (λ (y : ℕ). 2 ^ y) (mul-suc m (length xs)) ∙ pow-add 2 (m * length xs) m)))
