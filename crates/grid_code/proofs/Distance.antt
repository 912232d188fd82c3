-- Two codewords differ in at least 16 places: each is in the product of the row code and the column code, and the product has that
-- distance. Nothing else is in the product. Assumes nothing.
use mathlib.Core.Path.{◌≡◌, refl, sym, ap, ◌∙◌, subst}
use mathlib.Core.Logic.{◌⊎◌, inl, inr}
use mathlib.Core.List.{List, [], ◌∷◌}
use Prim.Native.Nat.{ℕ, ◌+◌, ◌*◌, ◌%◌, ◌^◌, ◌≤◌, ◌<◌, min}
use native.Mathlib.Omega.{arith}
use lib.Bits.{bit_xor}
use lib.Dec.{eqb, lit<}
use lib.ListN.{length, get_or}
use Rattle.words.specs.Word.{bit, dist, combined, sum_to, IsParity}
use Rattle.words.proofs.Bit.{by_bit, bit_lt, bit_zero, bit-xor}
use Rattle.words.proofs.Digits.{digits_below, dist-digits, bit-digits}
use Rattle.words.proofs.Linear.{Linear, none, then, digit, combination, combined-differ, combined_eq, digit-combined, agree}
use Rattle.words.proofs.Sum.{sum_eq}
use Rattle.words.proofs.Test.{all_below, at_below}
use Rattle.codes.specs.Product.{InProduct, Same, places_apart}
use Rattle.codes.specs.Promises.{Distance}
use Rattle.codes.specs.Trials.{IsProduct}
use Rattle.codes.proofs.Address.{ByEntries, distance4}
use Rattle.codes.proofs.Product.{every_product}
use Rattle.codes.proofs.Deciding.{same_word}
use Rattle.grid_code.specs.Equations.{in_row, in_column, data_of, Codeword}
use Rattle.grid_code.specs.Code.{codeword, code_of_grid}
use Rattle.grid_code.specs.Sides.{row_entries, col_entries, sides, row_of}
use Rattle.grid_code.proofs.Codeword.{grids, is_codeword, one_solution, one_value}
use Rattle.grid_code.proofs.Places.{data-bit, data_lt}

rows_in : (d : ℕ) → d < 2 ^ 16 → (r : ℕ) → r < 8 → ByEntries row_entries (bit (row_of (codeword d) r))
unfolding codeword
rows_in d l r h = agree (checks r) none 16 (at_below 8 (λ r. all_below 16 (λ k. eqb ((checks r).at (2 ^ k)) 0)) tt r h) d l
  where
    checks : ℕ → Linear
    checks r = then (then grids (digit 8 8 r)) (combination row_entries)

column-sum : (c a b : ℕ)
    → combined col_entries (λ r. bit (row_of (codeword (bit_xor a b)) r) c)
    ≡ bit_xor (combined col_entries (λ r. bit (row_of (codeword a) r) c)) (combined col_entries (λ r. bit (row_of (codeword b) r) c))
column-sum c a b =
    combined-differ col_entries (λ r. bit (row_of (codeword a) r) c) (λ r. bit (row_of (codeword b) r) c)
    (λ r. bit (row_of (codeword (bit_xor a b)) r) c) (λ r. bit_lt (row_of (codeword a) r) c) (λ r. bit_lt (row_of (codeword b) r) c)
    (λ r. ap (λ (x : ℕ). bit x c) ((then grids (digit 8 8 r)).sum a b) ∙ bit-xor (row_of (codeword a) r) (row_of (codeword b) r) c)

cols_in : (d : ℕ) → d < 2 ^ 16 → (c : ℕ) → c < 8 → ByEntries col_entries (λ r. bit (row_of (codeword d) r) c)
unfolding codeword
cols_in d l c h = agree (checks c) none 16 (at_below 8 (λ c. all_below 16 (λ k. eqb ((checks c).at (2 ^ k)) 0)) tt c h) d l
  where
    checks : ℕ → Linear
    checks c = record { at = λ d. combined col_entries (λ r. bit (row_of (codeword d) r) c); sum = column-sum c }

pub in_product : (d : ℕ) → d < 2 ^ 16 → InProduct sides (row_of (codeword d))
in_product d l = record { fits = λ r h. digits_below 8 8 (codeword d) r; rows = rows_in d l; cols = cols_in d l }

-- ---- the distance

pub codeword_lt : (d : ℕ) → d < 2 ^ 16 → codeword d < 2 ^ 64
codeword_lt d l = (is_codeword d l).fits

pub distance : Distance code_of_grid 16
distance d e hd he ne =
    go (((every_product sides).product (distance4 row_entries tt) (distance4 col_entries tt)).distance (row_of (codeword d)) (row_of (codeword e))
    (in_product d hd) (in_product e he))
  where
    go : Same 8 (row_of (codeword d)) (row_of (codeword e)) ⊎ (16 ≤ places_apart 8 (row_of (codeword d)) (row_of (codeword e)))
        → 16 ≤ dist (codeword d) (codeword e)
    go (inl s) =
        absurd (ne (one_value d e (codeword d) hd he (is_codeword d hd)
        (rw (same_word 8 (codeword d) (codeword e) (codeword_lt d hd) (codeword_lt e he) s) (is_codeword e he))))
    go (inr f) = rw (dist-digits 8 8 (codeword d) (codeword e) (codeword_lt d hd) (codeword_lt e he)) f

-- ---- the code is all of the product

pub is_product : IsProduct sides code_of_grid
is_product = record {
  radius_is = refl;
  fits = codeword_lt;
  code = in_product;
  one_value = λ d e hd he s. one_value d e (codeword d) hd he (is_codeword d hd) (subst (Codeword e) (sym s) (is_codeword e he));
}

-- an even sum of the places that have digit j of their entries set
even : (hs : List ℕ) (f : ℕ → ℕ) → ((i : ℕ) → f i < 2) → ByEntries hs f → (j : ℕ)
    → sum_to (length hs) (λ i. bit (get_or hs i 0) j * f i) % 2 ≡ 0
even hs f b z j =
    ap (λ (x : ℕ). x % 2)
    (sum_eq (length hs) (λ i. bit (get_or hs i 0) j * f i) (λ i. min (f i) (bit (get_or hs i 0) j))
    (λ i l. by_bit (λ (x : ℕ). x * f i ≡ min (f i) x) (omega arith) (omega (arith, b i)) (bit (get_or hs i 0) j) (bit_lt (get_or hs i 0) j)))
    ∙ sym (digit-combined hs f b j) ∙ ap (λ (x : ℕ). bit x j) z ∙ bit_zero j

-- rows 4 to 7 of a column, from those before them
record Rest (f : ℕ → ℕ) : Type 0 where
  row4 : f 4 ≡ (f 0 + (f 1 + f 3)) % 2
  row5 : f 5 ≡ (f 0 + (f 2 + f 3)) % 2
  row6 : f 6 ≡ (f 1 + (f 2 + f 3)) % 2
  row7 : f 7 ≡ (f 0 + (f 1 + (f 2 + (f 3 + (f 4 + (f 5 + f 6)))))) % 2

rest : (f : ℕ → ℕ) → ((i : ℕ) → f i < 2) → ByEntries col_entries f → Rest f
rest f b z = record {
  row4 = omega (arith, b 4, even col_entries f b z 1);
  row5 = omega (arith, b 5, even col_entries f b z 2);
  row6 = omega (arith, b 6, even col_entries f b z 3);
  row7 = omega (arith, b 7, even col_entries f b z 0);
}

module _ (w : ℕ) (fits : w < 2 ^ 64) (p : InProduct sides (row_of w)) where
  row_even : (r : ℕ) → r < 8 → (j : ℕ) → sum_to 8 (λ c. bit (get_or row_entries c 0) j * in_row w r c) % 2 ≡ 0
  row_even r h = even row_entries (in_row w r) (λ c. bit_lt w (8 * r + c))
      (combined_eq row_entries (in_row w r) (bit (row_of w r)) (λ c l. bit-digits 8 8 w r c h l) ∙ p.rows r h)

  column : (c : ℕ) → c < 8 → Rest (in_column w c)
  column c h =
      rest (in_column w c) (λ r. bit_lt w (8 * r + c))
      (combined_eq col_entries (in_column w c) (λ r. bit (row_of w r) c) (λ r l. bit-digits 8 8 w r c l h) ∙ p.cols c h)

  in_row_lem : (r c : ℕ) → in_row w r c < 2
  in_row_lem r c = bit_lt w (8 * r + c)

  last : (c : ℕ) → c < 8 → IsParity (in_column w c) 7 (0 ∷ 1 ∷ 2 ∷ 3 ∷ 4 ∷ 5 ∷ 6 ∷ [])
  last c l = record { parity = omega (arith, (column c l).row7) }

  meets : Codeword (data_of w) w
  meets = record {
    fits = fits;
    data_places = data-bit w;
    place4 = λ r l. record { parity = omega (arith, in_row_lem r 4, row_even r (omega arith) 1) };
    place5 = λ r l. record { parity = omega (arith, in_row_lem r 5, row_even r (omega arith) 2) };
    place6 = λ r l. record { parity = omega (arith, in_row_lem r 6, row_even r (omega arith) 3) };
    row4 = λ c l. record { parity = omega (arith, (column c (omega arith)).row4) };
    row5 = λ c l. record { parity = omega (arith, (column c (omega arith)).row5) };
    row6 = λ c l. record { parity = omega (arith, (column c (omega arith)).row6) };
    place7 = λ r l. record { parity = omega (arith, in_row_lem r 7, row_even r (omega arith) 0) };
    row7 = λ c l. last c (omega arith);
    corner = last 7 (lit< tt);
  }

  pub from_product : w ≡ codeword (data_of w)
  from_product = one_solution (data_of w) w (codeword (data_of w)) meets (is_codeword (data_of w) (data_lt w))
