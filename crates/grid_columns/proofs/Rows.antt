-- One row of a word flipped: the others stay. So a word that is the same but for some rows is reached by flips of these. Assumes nothing.
use mathlib.Core.Path.{◌≡◌, refl, sym, ap, ◌∙◌, subst}
use mathlib.Core.Logic.{◌≢◌}
use mathlib.Core.Bool.{Bool, true, false}
use Prim.Native.Nat.{ℕ, ◌+◌, ◌*◌, ◌^◌, ◌≤◌, ◌<◌}
use native.Mathlib.Nat.{lt_of_lt_of_le}
use native.Mathlib.Decide.{ℕ_discrete}
use native.Mathlib.Omega.{arith}
use lib.Bits.{bit_xor, xor_lt, xor_zero_r}
use lib.Dec.{eqb}
use lib.Pow.{shl_lt, pow_mono}
use borrow.Author.Tests.{eq-eqb, ne_eqb}
use Rattle.words.proofs.Digits.{digits_below}
use Rattle.words.proofs.Linear.{Linear, same, none, then, digit, digit-sum, agree}
use Rattle.words.proofs.Test.{all_below, at_pair}
use Rattle.words.proofs.Xor.{xor-shl, xor_cancel_l}
use Rattle.grid_code.specs.Sides.{row_of}
use Rattle.codes.proofs.Deciding.{same_word}
use Rattle.grid_columns.specs.Steps.{Keeps}

-- a row in its place
abbrev pub placed : ℕ → Linear
placed i = record { at = λ a. a * 2 ^ (8 * i); sum = xor-shl (8 * i) }

pub placed_lt : (i a : ℕ) → i < 8 → a < 256 → a * 2 ^ (8 * i) < 2 ^ 64
placed_lt i a l h = let le : 8 + 8 * i ≤ 64 = omega arith in lt_of_lt_of_le (shl_lt 8 (8 * i) h) (pow_mono le)

abbrev if : Bool → Linear
if true = same
if false = none

row_placed : (i r a : ℕ) → i < 8 → r < 8 → a < 256 → row_of (a * 2 ^ (8 * i)) r ≡ (if (eqb i r)).at a
row_placed i r a hi hr h =
    agree (then (placed i) (digit 8 8 r)) (if (eqb i r)) 8
    (at_pair 8 8 (λ i r. all_below 8 (λ k. eqb ((then (placed i) (digit 8 8 r)).at (2 ^ k)) ((if (eqb i r)).at (2 ^ k)))) tt i r hi hr) a h

module _ (x i a : ℕ) (hi : i < 8) (h : a < 256) where
  pub flip_here : row_of (bit_xor x (a * 2 ^ (8 * i))) i ≡ bit_xor (row_of x i) a
  flip_here =
      digit-sum 8 8 i x (a * 2 ^ (8 * i))
      ∙ ap (bit_xor (row_of x i)) (row_placed i i a hi hi h ∙ ap (λ (b : Bool). (if b).at a) (eq-eqb i i refl))

  pub flip_there : (r : ℕ) → r < 8 → r ≢ i → row_of (bit_xor x (a * 2 ^ (8 * i))) r ≡ row_of x r
  flip_there r hr ne =
      digit-sum 8 8 r x (a * 2 ^ (8 * i))
      ∙ ap (bit_xor (row_of x r)) (row_placed i r a hi hr h ∙ ap (λ (b : Bool). (if b).at a) (ne_eqb i r (λ e. ne (sym e))))
      ∙ xor_zero_r (row_of x r)

  pub flip_lt : x < 2 ^ 64 → bit_xor x (a * 2 ^ (8 * i)) < 2 ^ 64
  flip_lt l = xor_lt 64 x (a * 2 ^ (8 * i)) l (placed_lt i a hi h)

-- ---- the same but for some rows

-- what row i of x is flipped by, to be that of y
abbrev apart : ℕ → ℕ → ℕ → ℕ
apart x y i = bit_xor (row_of x i) (row_of y i)

apart_lt : (x y i : ℕ) → apart x y i < 256
apart_lt x y i = xor_lt 8 (row_of x i) (row_of y i) (digits_below 8 8 x i) (digits_below 8 8 y i)

mend : (N : ℕ → Type 0) (x y i : ℕ) → i < 8 → ((r : ℕ) → r < 8 → r ≢ i → N r → row_of y r ≡ row_of x r)
    → Keeps N (bit_xor x (apart x y i * 2 ^ (8 * i))) y
mend N x y i hi s r hr n = go (ℕ_discrete r i)
  where
    go : Dec (r ≡ i) → row_of y r ≡ row_of (bit_xor x (apart x y i * 2 ^ (8 * i))) r
    go (yes e) =
        subst (λ (r : ℕ). row_of y r ≡ row_of (bit_xor x (apart x y i * 2 ^ (8 * i))) r) (sym e)
        (sym (flip_here x i (apart x y i) hi (apart_lt x y i) ∙ xor_cancel_l (row_of x i) (row_of y i)))
    go (no ne) = s r hr ne n ∙ sym (flip_there x i (apart x y i) hi (apart_lt x y i) r hr ne)

pub record OneRow (x y i : ℕ) : Type 0 where
  pub a : ℕ
  pub byte : a < 256
  pub is : y ≡ bit_xor x (a * 2 ^ (8 * i))

pub one_row : (x y i : ℕ) → x < 2 ^ 64 → y < 2 ^ 64 → i < 8 → Keeps (λ r. r ≢ i) x y → OneRow x y i
one_row x y i hx hy hi s = record {
  a = apart x y i;
  byte = apart_lt x y i;
  is =
      same_word 8 y (bit_xor x (apart x y i * 2 ^ (8 * i))) hy (flip_lt x i (apart x y i) hi (apart_lt x y i) hx)
      (λ r h. mend (λ r. r ≡ r) x y i hi (λ r hr ne e. s r hr ne) r h refl);
}

-- row i first, then one more, ..
pub record TwoRows (x y i j : ℕ) : Type 0 where
  pub a : ℕ
  pub byte : a < 256
  pub more : OneRow (bit_xor x (a * 2 ^ (8 * i))) y j

pub two_rows : (x y i j : ℕ) → x < 2 ^ 64 → y < 2 ^ 64 → i < 8 → j < 8 → Keeps (λ r. (r ≢ i) × (r ≢ j)) x y → TwoRows x y i j
two_rows x y i j hx hy hi hj s = record {
  a = apart x y i;
  byte = apart_lt x y i;
  more =
      one_row (bit_xor x (apart x y i * 2 ^ (8 * i))) y j (flip_lt x i (apart x y i) hi (apart_lt x y i) hx) hy hj
      (mend (λ r. r ≢ j) x y i hi (λ r hr p q. s r hr (p, q)));
}

-- .. or two
pub record ThreeRows (x y i j k : ℕ) : Type 0 where
  pub a : ℕ
  pub byte : a < 256
  pub more : TwoRows (bit_xor x (a * 2 ^ (8 * i))) y j k

pub three_rows : (x y i j k : ℕ) → x < 2 ^ 64 → y < 2 ^ 64 → i < 8 → j < 8 → k < 8 → Keeps (λ r. (r ≢ i) × (r ≢ j) × (r ≢ k)) x y
    → ThreeRows x y i j k
three_rows x y i j k hx hy hi hj hk s = record {
  a = apart x y i;
  byte = apart_lt x y i;
  more =
      two_rows (bit_xor x (apart x y i * 2 ^ (8 * i))) y j k (flip_lt x i (apart x y i) hi (apart_lt x y i) hx) hy hj hk
      (mend (λ r. (r ≢ j) × (r ≢ k)) x y i hi (λ r hr p q. s r hr (p, q.0, q.1)));
}
