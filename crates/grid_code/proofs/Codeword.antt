-- The computed grid meets the equations, and nothing else does: sums of grids are grids, the sixteen grids of one data bit are tested, and a
-- grid with no data place set is empty. Assumes nothing.
use mathlib.Core.Path.{◌≡◌, sym, ap, ap₂, ◌∙◌, subst}
use mathlib.Core.Bool.{Bool}
use mathlib.Core.List.{List}
use Prim.Native.Nat.{ℕ, ◌+◌, ◌*◌, ◌/◌, ◌%◌, ◌^◌, ◌<◌}
use native.Mathlib.Nat.{le_of_suc-le-suc}
use native.Mathlib.Decide.{ℕ_discrete}
use native.Mathlib.Omega.{arith}
use lib.Arith.{lt_of_le-ne}
use lib.Dec.{T, ltb, ltb→lt, eqb, eqb→eq, lit<}
use lib.Bits.{bit_xor, xor_lt, xor_self}
use lib.ListN.{get_or}
use Rattle.words.specs.Word.{bit, sum_over, IsParity}
use Rattle.words.proofs.Bit.{bit-xor-sum, bit_zero, eq_of_bits}
use Rattle.words.proofs.Linear.{Linear, combination, by_places}
use Rattle.words.proofs.Sum.{parity_rule, zero_next}
use Rattle.words.proofs.Test.{all_pairs, at_below, at_pair, same_below, same_pairs}
use Rattle.words.proofs.Xor.{eq_of_xor}
use Rattle.grid_code.specs.Equations.{in_row, in_column, data_bit, Codeword}
use Rattle.grid_code.specs.Code.{grids_of_bits, codeword}

-- ---- sums of grids are grids

module _ (g h : ℕ) where
  -- an equation along row r, and one along column c
  in_row_lem : (r : ℕ) {t : ℕ} {is : List ℕ} → IsParity (in_row g r) t is → IsParity (in_row h r) t is → IsParity (in_row (bit_xor g h) r) t is
  in_row_lem r p q = parity_rule p q (in_row (bit_xor g h) r) (λ c. bit-xor-sum g h (8 * r + c))

  in_column_lem : (c : ℕ) {t : ℕ} {is : List ℕ} → IsParity (in_column g c) t is → IsParity (in_column h c) t is
      → IsParity (in_column (bit_xor g h) c) t is
  in_column_lem c p q = parity_rule p q (in_column (bit_xor g h) c) (λ r. bit-xor-sum g h (8 * r + c))

sum_of_grids : (d e g h : ℕ) → Codeword d g → Codeword e h → Codeword (bit_xor d e) (bit_xor g h)
sum_of_grids d e g h p q = record {
  fits = xor_lt 64 g h p.fits q.fits;
  data_places = λ k l. rw (bit-xor-sum g h, bit-xor-sum d e, p.data_places k l, q.data_places k l);
  place4 = λ r l. in_row_lem g h r (p.place4 r l) (q.place4 r l);
  place5 = λ r l. in_row_lem g h r (p.place5 r l) (q.place5 r l);
  place6 = λ r l. in_row_lem g h r (p.place6 r l) (q.place6 r l);
  row4 = λ c l. in_column_lem g h c (p.row4 c l) (q.row4 c l);
  row5 = λ c l. in_column_lem g h c (p.row5 c l) (q.row5 c l);
  row6 = λ c l. in_column_lem g h c (p.row6 c l) (q.row6 c l);
  place7 = λ r l. in_row_lem g h r (p.place7 r l) (q.place7 r l);
  row7 = λ c l. in_column_lem g h c (p.row7 c l) (q.row7 c l);
  corner = in_column_lem g h 7 p.corner q.corner;
}

-- ---- the computed grid

pub codeword-sum : (a b : ℕ) → codeword (bit_xor a b) ≡ bit_xor (codeword a) (codeword b)
unfolding codeword
codeword-sum = (combination grids_of_bits).sum

abbrev pub grids : Linear
grids = record { at = codeword; sum = codeword-sum }

-- the grid of data bit k alone, as it is listed
listed : ℕ → ℕ
listed k = get_or grids_of_bits k 0

-- an equation at the listed grids, in the lines r below n: computed
module _ (line : ℕ → ℕ → ℕ → ℕ) (n t : ℕ) where
  holds? : List ℕ → ℕ → ℕ → Bool
  holds? is k r = eqb (line (listed k) r t) (sum_over (line (listed k) r) is % 2)

  tested : {is : List ℕ} → T (all_pairs 16 n (holds? is)) → (k : ℕ) → k < 16 → (r : ℕ) → r < n → IsParity (line (listed k) r) t is
  unfolding holds?
  tested {is} x k l r h = record {
    parity = eqb→eq (line (listed k) r t) (sum_over (line (listed k) r) is % 2) (at_pair 16 n (holds? is) x k r l h);
  }

listed_grid : (k : ℕ) → k < 16 → Codeword (2 ^ k) (listed k)
unfolding listed holds?
listed_grid k l = record {
  fits = ltb→lt (listed k) (2 ^ 64) (at_below 16 (λ k. ltb (listed k) (2 ^ 64)) tt k l);
  data_places = λ i h. same_pairs 16 16 (λ k i. data_bit (listed k) i) (λ k i. bit (2 ^ k) i) tt k i l h;
  place4 = tested in_row 4 4 tt k l;
  place5 = tested in_row 4 5 tt k l;
  place6 = tested in_row 4 6 tt k l;
  row4 = tested in_column 7 4 tt k l;
  row5 = tested in_column 7 5 tt k l;
  row6 = tested in_column 7 6 tt k l;
  place7 = tested in_row 7 7 tt k l;
  row7 = tested in_column 7 7 tt k l;
  corner = tested (λ g r. in_column g 7) 1 7 tt k l 0 (lit< tt);
}

grid_of_bit : (k : ℕ) → k < 16 → Codeword (2 ^ k) (codeword (2 ^ k))
unfolding codeword listed
grid_of_bit k l = subst (Codeword (2 ^ k)) (sym (same_below 16 (λ k. codeword (2 ^ k)) listed tt k l)) (listed_grid k l)

pub is_codeword : (d : ℕ) → d < 2 ^ 16 → Codeword d (codeword d)
is_codeword =
    by_places (λ (d : ℕ). Codeword d (codeword d)) (sum 1 1 (grid_of_bit 0 (lit< tt)) (grid_of_bit 0 (lit< tt))) sum 16 grid_of_bit
  where
    sum : (a b : ℕ) → Codeword a (codeword a) → Codeword b (codeword b) → Codeword (bit_xor a b) (codeword (bit_xor a b))
    sum a b p q = subst (Codeword (bit_xor a b)) (sym (codeword-sum a b)) (sum_of_grids a b (codeword a) (codeword b) p q)

-- ---- nothing else meets the equations

quarter : (r c : ℕ) → r < 4 → c < 4 → ((4 * r + c) / 4 ≡ r) × ((4 * r + c) % 4 ≡ c) × (4 * r + c < 16)
quarter r c hr hc = omega arith

pub eighth : (i : ℕ) → i < 64 → (8 * (i / 8) + i % 8 ≡ i) × (i / 8 < 8) × (i % 8 < 8)
eighth i h = omega arith

-- a grid with no data place set is empty: place after place, row after row
module _ (g : ℕ) (p : Codeword 0 g) where
  data_zero : (r : ℕ) → r < 4 → (c : ℕ) → c < 4 → in_row g r c ≡ 0
  data_zero r hr c hc =
      let (u, v, l) = quarter r c hr hc in
      sym (ap₂ (in_row g) u v) ∙ p.data_places (4 * r + c) l ∙ bit_zero (4 * r + c)

  row_zero : (r : ℕ) → r < 4 → (c : ℕ) → c < 7 → in_row g r c ≡ 0
  row_zero r h = zero_next (p.place6 r h) tt (zero_next (p.place5 r h) tt (zero_next (p.place4 r h) tt (data_zero r h)))

  column_zero : (c : ℕ) → c < 7 → (r : ℕ) → r < 8 → in_column g c r ≡ 0
  column_zero c h =
      zero_next (p.row7 c h) tt (zero_next (p.row6 c h) tt (zero_next (p.row5 c h) tt (zero_next (p.row4 c h) tt (λ r l. row_zero r l c h))))

  last_zero : (r : ℕ) → r < 8 → in_column g 7 r ≡ 0
  last_zero = zero_next p.corner tt (λ r h. zero_next (p.place7 r h) tt (λ c l. column_zero c l r (omega arith)) 7 (lit< tt))

  all_zero : (r c : ℕ) → r < 8 → c < 8 → in_row g r c ≡ 0
  all_zero r c hr hc = go (ℕ_discrete c 7)
    where
      go : Dec (c ≡ 7) → in_row g r c ≡ 0
      go (yes e) = ap (in_row g r) e ∙ last_zero r hr
      go (no d) = column_zero c (lt_of_le-ne (le_of_suc-le-suc hc) d) r hr

  empty : g ≡ 0
  empty =
      eq_of_bits 64 g 0 p.fits (lit< tt)
      (λ i l. let (e, hr, hc) = eighth i l in sym (ap (bit g) e) ∙ all_zero (i / 8) (i % 8) hr hc ∙ sym (bit_zero i))

pub one_solution : (d g h : ℕ) → Codeword d g → Codeword d h → g ≡ h
one_solution d g h p q =
    eq_of_xor g h (empty (bit_xor g h) (subst (λ (e : ℕ). Codeword e (bit_xor g h)) (xor_self d) (sum_of_grids d d g h p q)))

-- two data values never have the same grid
pub one_value : (d e g : ℕ) → d < 2 ^ 16 → e < 2 ^ 16 → Codeword d g → Codeword e g → d ≡ e
one_value d e g hd he p q = eq_of_bits 16 d e hd he (λ k l. sym (p.data_places k l) ∙ q.data_places k l)
