-- Two different blocks differ in at least five places. Row by row: a row that differs counts two at least, its parity among them; so three
-- rows are six, two rows are four and tell themselves by their columns or their diagonals, and in one row each place counts three. So the
-- syndrome names up to two flips. Assumes nothing.
use mathlib.Core.Path.{◌≡◌, refl, sym, ap, ap₂, ◌∙◌, subst}
use mathlib.Core.Logic.{◌⊎◌, inl, inr}
use Prim.Native.Nat.{ℕ, zero, suc, ◌+◌, ◌*◌, ◌/◌, ◌%◌, ◌^◌, ◌≤◌, ◌<◌}
use native.Mathlib.Nat.{eq-zero-or-pos, mod-lt, mul-one, mul_assoc, mul-le-mul_left}
use native.Mathlib.Decide.{dec_lt, ℕ_discrete}
use native.Mathlib.Omega.{arith}
use lib.Arith.{lt-one}
use lib.Bits.{bit_xor, xor_comm, xor_shifted, xor_zero_r, xor_lt}
use lib.Count.{ones, ones_cat, ones-ones, count_trailing_zeros}
use lib.Dec.{lit<}
use lib.Pow.{pow_pos, pow-lt, pow-add, shr_lt, split}
use Rattle.words.specs.Word.{dist}
use Rattle.words.specs.Digits.{digits}
use Rattle.words.proofs.Bit.{by_bit, odd_lt}
use Rattle.words.proofs.Dist.{ones_zero, ones-xor, zero_of_ones}
use Rattle.words.proofs.Digits.{dist_cat}
use Rattle.words.proofs.Linear.{same, at_zero}
use Rattle.words.proofs.Ones.{ones_shl, ones-pow, trailing_pow}
use Rattle.words.proofs.Xor.{eq_of_xor}
use Rattle.codes.specs.Promises.{Distance, States}
use Rattle.block_code.specs.Code.{odd, stacked, rows_of, columns_of, diagonals_of, codeword, code_of_block}
use Rattle.block_code.specs.Checks.{mixed, syndrome_of, of_place}
use Rattle.block_code.specs.declared.Checks.{Checks}
use Rattle.block_code.proofs.Mixing.{mixed_self}
use Rattle.block_code.proofs.Stack.{parity, stack}
use Rattle.block_code.proofs.Syndromes.{syndrome_sum, syndrome_zero, codeword_lt, codeword_of, row_sums, column_sums, diagonal_sums, rows_lt, columns_lt, sums_lt}

-- the sums of the n rows of a word
abbrev R : ℕ → ℕ → ℕ
R n x = (stack 1 parity n).at x

abbrev C : ℕ → ℕ → ℕ
C n x = (stack 0 same n).at x

abbrev D : ℕ → ℕ → ℕ
D n x = (stack 1 same n).at x

-- ---- one row and the rest

ones_odd : (x : ℕ) → ones (odd x) ≡ odd x
ones_odd x = by_bit (λ (y : ℕ). ones y ≡ y) ones_zero (ones-ones 1) (odd x) (odd_lt (ones x))

some_ones : (x : ℕ) → 0 < x → 0 < ones x
some_ones x h = go (dec_lt 0 (ones x))
  where
    go : Dec (0 < ones x) → 0 < ones x
    go (yes l) = l
    go (no l) = absurd (omega (arith, zero_of_ones x (omega arith)))

module _ (n x : ℕ) where
  abbrev u : ℕ
  u = x % 2 ^ 16

  abbrev rest : ℕ
  rest = x / 2 ^ 16

  ones_next : ones x ≡ ones rest + ones u
  ones_next = ap ones (sym (split x 16)) ∙ ones_cat 16 rest u (mod-lt x (pow_pos 16))

  rows_next : ones (R (suc n) x) ≡ ones (R n rest) + odd u
  unfolding stacked
  rows_next =
      ap ones (xor_shifted (R n rest) 1 (odd u) (odd_lt (ones u))) ∙ ones_cat 1 (R n rest) (odd u) (odd_lt (ones u))
      ∙ ap (λ (y : ℕ). ones (R n rest) + y) (ones_odd u)

  columns_next : C (suc n) x ≡ bit_xor (C n rest) u
  unfolding stacked
  columns_next = ap (λ (y : ℕ). bit_xor y u) (mul-one (C n rest))

  diagonals_next : D (suc n) x ≡ bit_xor (D n rest * 2 ^ 1) u
  unfolding stacked
  diagonals_next = refl

-- ---- one row that is not 0

pub record Single (n x : ℕ) : Type 0 where
  pub row : ℕ
  pub up : ℕ
  pub some : 0 < row
  pub places : ones x ≡ ones row
  pub rows : ones (R n x) ≡ odd row
  pub columns : C n x ≡ row
  pub diagonals : D n x ≡ row * 2 ^ up

abbrev Lines : ℕ → ℕ → Type 0
Lines n x = (x ≡ 0) ⊎ (Single n x ⊎ (4 ≤ ones x + ones (R n x)))

two_at_least : (x : ℕ) → 0 < x → 2 ≤ ones x + odd x
two_at_least x h = omega (arith, some_ones x h)

-- a lowest row that is 0
skipped : (n x : ℕ) → u n x ≡ 0 → Lines n (rest n x) → Lines (suc n) x
skipped n x z (inl e) = inl (omega (arith, split x 16))
skipped n x z (inr (inl s)) = inr (inl (record {
  row = s.row;
  up = s.up + 1;
  some = s.some;
  places = ones_next n x ∙ ap₂ (λ (a b : ℕ). a + b) s.places (ap ones z ∙ ones_zero) ∙ omega arith;
  rows = rows_next n x ∙ ap₂ (λ (a b : ℕ). a + b % 2) s.rows (ap ones z ∙ ones_zero) ∙ omega arith;
  columns = columns_next n x ∙ ap₂ bit_xor s.columns z ∙ xor_zero_r s.row;
  diagonals =
      diagonals_next n x ∙ ap₂ (λ (a b : ℕ). bit_xor (a * 2 ^ 1) b) s.diagonals z ∙ xor_zero_r (s.row * 2 ^ s.up * 2 ^ 1)
      ∙ mul_assoc s.row (2 ^ s.up) (2 ^ 1) ∙ ap (λ (a : ℕ). s.row * a) (sym (pow-add 2 s.up 1));
}))
skipped n x z (inr (inr m)) = inr (inr (omega (arith, ones_next n x, rows_next n x)))

-- a lowest row that is not, alone ..
alone : (n x : ℕ) → 0 < u n x → rest n x ≡ 0 → Single (suc n) x
alone n x p e = record {
  row = u n x;
  up = 0;
  some = p;
  places = ones_next n x ∙ ap (λ (a : ℕ). a + ones (u n x)) (ap ones e ∙ ones_zero) ∙ omega arith;
  rows =
      rows_next n x
      ∙ ap (λ (a : ℕ). a + odd (u n x)) (ap (λ (y : ℕ). ones (R n y)) e ∙ ap ones (at_zero (stack 1 parity n)) ∙ ones_zero)
      ∙ omega arith;
  columns = columns_next n x ∙ ap (λ (a : ℕ). bit_xor a (u n x)) (ap (C n) e ∙ at_zero (stack 0 same n));
  diagonals =
      diagonals_next n x ∙ ap (λ (a : ℕ). bit_xor (a * 2 ^ 1) (u n x)) (ap (D n) e ∙ at_zero (stack 1 same n)) ∙ sym (mul-one (u n x));
}

-- .. or with others
laid : (n x : ℕ) → 0 < u n x → Lines n (rest n x) → Lines (suc n) x
laid n x p (inl e) = inr (inl (alone n x p e))
laid n x p (inr (inl s)) =
    inr (inr (omega (arith, ones_next n x, rows_next n x, two_at_least (u n x) p, two_at_least s.row s.some, s.places, s.rows)))
laid n x p (inr (inr m)) = inr (inr (omega (arith, ones_next n x, rows_next n x)))

lines : (n x : ℕ) → x < 2 ^ (16 * n) → Lines n x
lines zero x h = inl (lt-one h)
lines (suc n) x h = go (eq-zero-or-pos (u n x)) (lines n (rest n x) (shr_lt (16 * n) 16 (subst (λ (k : ℕ). x < 2 ^ k) (omega arith) h)))
  where
    go : (u n x ≡ 0) ⊎ (0 < u n x) → Lines n (rest n x) → Lines (suc n) x
    go (inl z) l = skipped n x z l
    go (inr p) l = laid n x p l

-- ---- five at least

abbrev weight : ℕ → ℕ → ℕ
weight n x = ones x + (ones (R n x) + (ones (C n x) + (ones (D n x) + odd (R n x))))

-- the two rows are the same, and one stands higher
not_both : (v m w : ℕ) → 0 < v → bit_xor v w ≡ 0 → bit_xor (v * 2 ^ m * 2 ^ 1) w ≡ 0 → ⊥
not_both v m w p a b =
    let e : v ≡ w = eq_of_xor v w a in
    let f : v * 2 ^ m * 2 ^ 1 ≡ w = eq_of_xor (v * 2 ^ m * 2 ^ 1) w b in
    let g : v * 1 ≤ v * 2 ^ m = mul-le-mul_left v (pow_pos m) in
    omega arith

single_five : (n x : ℕ) → Single n x → 5 ≤ weight n x
single_five n x s =
    omega (
      arith,
      s.places,
      s.rows,
      ap ones s.columns,
      ap ones s.diagonals ∙ ones_shl s.up s.row,
      some_ones s.row s.some,
    )

five_laid : (n x : ℕ) → 0 < u n x → Lines n (rest n x) → 5 ≤ weight (suc n) x
five_laid n x p (inl e) = single_five (suc n) x (alone n x p e)
five_laid n x p (inr (inl s)) =
    omega (arith, ones_next n x, rows_next n x, two_at_least (u n x) p, two_at_least s.row s.some, s.places, s.rows, more)
  where
    more : 1 ≤ ones (C (suc n) x) + ones (D (suc n) x)
    more = go (eq-zero-or-pos (ones (C (suc n) x))) (eq-zero-or-pos (ones (D (suc n) x)))
      where
        go : (ones (C (suc n) x) ≡ 0) ⊎ (0 < ones (C (suc n) x)) → (ones (D (suc n) x) ≡ 0) ⊎ (0 < ones (D (suc n) x))
            → 1 ≤ ones (C (suc n) x) + ones (D (suc n) x)
        go (inr l) b = omega arith
        go (inl a) (inr l) = omega arith
        go (inl a) (inl b) =
            absurd (not_both s.row s.up (u n x) s.some
            (sym (columns_next n x ∙ ap (λ (y : ℕ). bit_xor y (u n x)) s.columns) ∙ zero_of_ones (C (suc n) x) a)
            (sym (diagonals_next n x ∙ ap (λ (y : ℕ). bit_xor (y * 2 ^ 1) (u n x)) s.diagonals) ∙ zero_of_ones (D (suc n) x) b))
five_laid n x p (inr (inr m)) = omega (arith, ones_next n x, rows_next n x, two_at_least (u n x) p)

weight_skipped : (n x : ℕ) → u n x ≡ 0 → weight n (rest n x) ≡ weight (suc n) x
weight_skipped n x z =
    let none : ones (u n x) ≡ 0 = ap ones z ∙ ones_zero in
    let o : ones (rest n x) ≡ ones x = omega (arith, ones_next n x) in
    let r : ones (R n (rest n x)) ≡ ones (R (suc n) x) = omega (arith, rows_next n x) in
    let c : C n (rest n x) ≡ C (suc n) x = sym (columns_next n x ∙ ap (bit_xor (C n (rest n x))) z ∙ xor_zero_r (C n (rest n x))) in
    let d : ones (D n (rest n x)) ≡ ones (D (suc n) x) =
    sym (ap ones (diagonals_next n x ∙ ap (bit_xor (D n (rest n x) * 2 ^ 1)) z ∙ xor_zero_r (D n (rest n x) * 2 ^ 1)) ∙ ones_shl 1 (D n (rest n x))) in
    λ i. o i + (r i + (ones (c i) + (d i + r i % 2)))

five : (n x : ℕ) → x < 2 ^ (16 * n) → 0 < x → 5 ≤ weight n x
five zero x h p = absurd (omega (arith, lt-one h))
five (suc n) x h p = go (eq-zero-or-pos (u n x)) (five n (rest n x) small)
  where
    small : rest n x < 2 ^ (16 * n)
    small = shr_lt (16 * n) 16 (subst (λ (k : ℕ). x < 2 ^ k) (omega arith) h)

    go : (u n x ≡ 0) ⊎ (0 < u n x) → (0 < rest n x → 5 ≤ weight n (rest n x)) → 5 ≤ weight (suc n) x
    go (inl z) r = subst (λ (y : ℕ). 5 ≤ y) (weight_skipped n x z) (r (omega (arith, split x 16)))
    go (inr q) r = five_laid n x q (lines n (rest n x) small)

-- ---- of codewords

apart : (d e : ℕ) → d < 2 ^ 512 → e < 2 ^ 512 → dist (codeword d) (codeword e) ≡ weight 32 (bit_xor d e)
unfolding codeword dist
apart d e hd he =
    dist_cat 512 (top d) (top e) d e hd he
    ∙ ap (λ (y : ℕ). ones x + y)
    (dist_cat 32 (upper d) (upper e) (rows_of (digits 16 32 d)) (rows_of (digits 16 32 e)) (rows_lt d) (rows_lt e)
    ∙ ap₂ (λ (a b : ℕ). ones a + b) (sym (row_sums.sum d e))
    (dist_cat 16 (diagonals_of (digits 16 32 d)) (diagonals_of (digits 16 32 e)) (columns_of (digits 16 32 d)) (columns_of (digits 16 32 e))
    (columns_lt d) (columns_lt e)
    ∙ ap₂ (λ (a b : ℕ). ones a + b) (sym (column_sums.sum d e)) (ap ones (sym (diagonal_sums.sum d e)) ∙ last)))
  where
    x : ℕ
    x = bit_xor d e

    upper : ℕ → ℕ
    upper d = diagonals_of (digits 16 32 d) * 2 ^ 16 + columns_of (digits 16 32 d)

    top : ℕ → ℕ
    top d = upper d * 2 ^ 32 + rows_of (digits 16 32 d)

    last : ones (bit_xor (D 32 x) (odd (R 32 x) * 2 ^ 47)) ≡ ones (D 32 x) + odd (R 32 x)
    last =
        ap ones (xor_comm (D 32 x) (odd (R 32 x) * 2 ^ 47) ∙ xor_shifted (odd (R 32 x)) 47 (D 32 x) (sums_lt x))
        ∙ ones_cat 47 (odd (R 32 x)) (D 32 x) (sums_lt x) ∙ omega (arith, ones_odd (R 32 x))

pub distance : Distance code_of_block 5
distance d e hd he ne =
    subst (λ (y : ℕ). 5 ≤ y) (sym (apart d e hd he)) (five 32 (bit_xor d e) (xor_lt 512 d e hd he) (some (eq-zero-or-pos (bit_xor d e))))
  where
    some : (bit_xor d e ≡ 0) ⊎ (0 < bit_xor d e) → 0 < bit_xor d e
    some (inl z) = absurd (ne (eq_of_xor d e z))
    some (inr p) = p

-- the blocks of 0 and 1
reached : dist (codeword 0) (codeword 1) ≡ 5
unfolding stacked ones
reached = apart 0 1 (lit< tt) (lit< tt)

pub constants : States code_of_block 2 608 5
constants = record {
  radius_is = refl;
  places_are = refl;
  fits = codeword_lt;
  apart = distance;
  reached = (0, 1, lit< tt, lit< tt, (λ e. absurd (omega (arith, e))), reached);
}

-- ---- of flips

-- no two sets of at most two flips have the same syndrome
pub few_named : (x y : ℕ) → x < 2 ^ 608 → y < 2 ^ 608 → ones x ≤ 2 → ones y ≤ 2 → syndrome_of x ≡ syndrome_of y → x ≡ y
unfolding dist
few_named x y hx hy ox oy e = go (ℕ_discrete (v % 2 ^ 512) 0)
  where
    v : ℕ
    v = bit_xor x y

    is : v ≡ codeword (v % 2 ^ 512)
    is = codeword_of v (xor_lt 608 x y hx hy) (syndrome_sum x y ∙ ap (λ (k : Checks). mixed k (syndrome_of y)) e ∙ mixed_self (syndrome_of y))

    zero_is : 0 ≡ codeword 0
    zero_is = codeword_of 0 (pow_pos 608) syndrome_zero

    go : Dec (v % 2 ^ 512 ≡ 0) → x ≡ y
    go (yes z) = eq_of_xor x y (is ∙ ap codeword z ∙ sym zero_is)
    go (no z) =
        let far : 5 ≤ dist (codeword (v % 2 ^ 512)) (codeword 0) = distance (v % 2 ^ 512) 0 (mod-lt v (pow_pos 512)) (pow_pos 512) z in
        let same : dist (codeword (v % 2 ^ 512)) (codeword 0) ≡ ones v = sym (ap₂ dist is zero_is) ∙ ap ones (xor_zero_r v) in
        absurd (omega (arith, ones-xor x y))

pub same_place : (p q : ℕ) → p < 608 → q < 608 → of_place p ≡ of_place q → p ≡ q
same_place p q hp hq e =
    let same : 2 ^ p ≡ 2 ^ q =
    few_named (2 ^ p) (2 ^ q) (pow-lt hp) (pow-lt hq) (omega (arith, ones-pow p)) (omega (arith, ones-pow q)) e in
    sym (trailing_pow 608 p hp) ∙ ap (count_trailing_zeros 608) same ∙ trailing_pow 608 q hq
