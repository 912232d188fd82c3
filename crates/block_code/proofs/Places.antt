-- The checks that a flip at each place changes, data or check: the syndrome of a block that has this place alone. Assumes nothing.
use mathlib.Core.Path.{◌≡◌, sym, ap, ap₂, ◌∙◌}
use mathlib.Core.Logic.{◌⊎◌, inl, inr}
use native.Mathlib.Decide.{dec_lt}
use Prim.Native.Nat.{ℕ, ◌+◌, ◌-◌, ◌*◌, ◌/◌, ◌%◌, ◌^◌, ◌<◌}
use native.Mathlib.Nat.{mod-eq_of_lt, div-eq_of_lt, zero-mul, one-mul, mul-one, add-zero, add_comm, div-one, lt_trans}
use native.Mathlib.Omega.{arith}
use lib.Bits.{bit_xor}
use lib.Dec.{lit<}
use lib.Pow.{pow_pos, pow-lt, pow-add, shl-shr, shr-shr, low}
use Rattle.words.specs.Digits.{digits}
use Rattle.words.proofs.Dist.{ones_zero}
use Rattle.words.proofs.Linear.{Linear, same, then, at_zero, by_places}
use Rattle.words.proofs.Ones.{ones-pow}
use Rattle.block_code.specs.Code.{odd, rows_of, columns_of}
use Rattle.block_code.specs.Checks.{no_checks, mixed, said_by, held_by, syndrome_of, of_place}
use Rattle.block_code.specs.declared.Checks.{Checks}
use Rattle.block_code.proofs.Mixing.{mixed_none}
use Rattle.block_code.proofs.Syndromes.{row_sums, column_sums, diagonal_sums}
use Rattle.block_code.proofs.Stack.{parity, parity-place, stack_place, stack_behind}

-- ---- what one place says

held_none : (w : ℕ) → w < 2 ^ 512 → held_by w ≡ no_checks
held_none w h =
    let r = ap (λ (x : ℕ). x % 2 ^ 32) (div-eq_of_lt h) in
    let c = ap (λ (x : ℕ). x % 2 ^ 16) (div-eq_of_lt (grown 544 (lit< tt))) in
    let d = ap (λ (x : ℕ). x % 2 ^ 48) (div-eq_of_lt (grown 560 (lit< tt))) in
    λ i. record { rows = r i; columns = c i; diagonals = d i }
  where
    grown : (k : ℕ) → 512 < k → w < 2 ^ k
    grown k l = lt_trans h (pow-lt l)

said_none : (x : ℕ) → said_by (digits 16 32 (x * 2 ^ 512)) ≡ no_checks
said_none x =
    let r = stack_behind 1 parity 32 x in
    let c = stack_behind 0 same 32 x in
    let d = ap₂ (λ (a b : ℕ). bit_xor a (odd b * 2 ^ 47)) (stack_behind 1 same 32 x) r ∙ zeros in
    λ i. record { rows = r i; columns = c i; diagonals = d i }
  where
    zeros : bit_xor 0 (odd 0 * 2 ^ 47) ≡ 0
    zeros = ap (λ (x : ℕ). x % 2 * 2 ^ 47) ones_zero

-- what a data place stands in
module _ (r c : ℕ) (hr : r < 32) (hc : c < 16) where
  pub rows_at : row_sums.at (2 ^ (16 * r + c)) ≡ 2 ^ r
  rows_at = parity-place 32 r c hr hc

  pub columns_at : column_sums.at (2 ^ (16 * r + c)) ≡ 2 ^ c
  columns_at = stack_place 0 same 32 r c hr hc ∙ ap (λ (x : ℕ). 2 ^ c * 2 ^ x) (zero-mul r) ∙ mul-one (2 ^ c)

  pub diagonals_at : diagonal_sums.at (2 ^ (16 * r + c)) ≡ bit_xor (2 ^ (r + c)) (2 ^ 47)
  diagonals_at =
      ap₂ bit_xor
      (stack_place 1 same 32 r c hr hc ∙ ap (λ (x : ℕ). 2 ^ c * 2 ^ x) (one-mul r) ∙ sym (pow-add 2 c r)
      ∙ ap (λ (x : ℕ). 2 ^ x) (add_comm c r))
      (ap (λ (x : ℕ). odd x * 2 ^ 47) rows_at ∙ ap (λ (x : ℕ). x % 2 * 2 ^ 47) (ones-pow r))

  pub place-data : of_place (16 * r + c) ≡ record { rows = 2 ^ r; columns = 2 ^ c; diagonals = bit_xor (2 ^ (r + c)) (2 ^ 47) }
  unfolding syndrome_of
  place-data =
      let inside : 16 * r + c < 512 = omega arith in
      let said : said_by (digits 16 32 (2 ^ (16 * r + c))) ≡ record { rows = 2 ^ r; columns = 2 ^ c; diagonals = bit_xor (2 ^ (r + c)) (2 ^ 47) } =
      λ i. record { rows = rows_at i; columns = columns_at i; diagonals = diagonals_at i } in
      ap (mixed (said_by (digits 16 32 (2 ^ (16 * r + c))))) (held_none (2 ^ (16 * r + c)) (pow-lt inside))
      ∙ mixed_none (said_by (digits 16 32 (2 ^ (16 * r + c)))) ∙ said

-- the system parity is that of the columns too
pub system_columns : (d : ℕ) → d < 2 ^ 512 → odd (rows_of (digits 16 32 d)) ≡ odd (columns_of (digits 16 32 d))
system_columns =
    by_places (λ (d : ℕ). odd (rows_of (digits 16 32 d)) ≡ odd (columns_of (digits 16 32 d))) (at_zero rows ∙ sym (at_zero columns))
    (λ a b p q. rows.sum a b ∙ ap₂ bit_xor p q ∙ sym (columns.sum a b)) 512 place
  where
    rows : Linear
    rows = then row_sums parity

    columns : Linear
    columns = then column_sums parity

    place : (k : ℕ) → k < 512 → odd (rows_of (digits 16 32 (2 ^ k))) ≡ odd (columns_of (digits 16 32 (2 ^ k)))
    place k l =
        let e : k ≡ 16 * (k / 16) + k % 16 = omega arith in
        ap (λ (x : ℕ). odd (rows_of (digits 16 32 (2 ^ x)))) e
        ∙ ap odd (rows_at (k / 16) (k % 16) (omega arith) (omega arith)) ∙ ap (λ (x : ℕ). x % 2) (ones-pow (k / 16) ∙ sym (ones-pow (k % 16)))
        ∙ sym (ap odd (columns_at (k / 16) (k % 16) (omega arith) (omega arith)))
        ∙ ap (λ (x : ℕ). odd (columns_of (digits 16 32 (2 ^ x)))) (sym e)

-- check k, of 96: what a block holds that has nothing else
check : (k : ℕ) → of_place (512 + k) ≡ record { rows = 2 ^ k % 2 ^ 32; columns = 2 ^ k / 2 ^ 32 % 2 ^ 16; diagonals = 2 ^ k / 2 ^ 48 % 2 ^ 48 }
unfolding syndrome_of
check k =
    ap (λ (x : ℕ). mixed (said_by (digits 16 32 x)) (held_by x)) place
    ∙ ap (λ (s : Checks). mixed s (held_by (2 ^ k * 2 ^ 512))) (said_none (2 ^ k)) ∙ held
  where
    place : 2 ^ (512 + k) ≡ 2 ^ k * 2 ^ 512
    place = ap (λ (x : ℕ). 2 ^ x) (omega arith) ∙ pow-add 2 k 512

    over : (j : ℕ) → 2 ^ k * 2 ^ 512 / 2 ^ (512 + j) ≡ 2 ^ k / 2 ^ j
    over j = sym (shr-shr (2 ^ k * 2 ^ 512) 512 j) ∙ ap (λ (x : ℕ). x / 2 ^ j) (shl-shr (2 ^ k) 512)

    held : held_by (2 ^ k * 2 ^ 512)
        ≡ record { rows = 2 ^ k % 2 ^ 32; columns = 2 ^ k / 2 ^ 32 % 2 ^ 16; diagonals = 2 ^ k / 2 ^ 48 % 2 ^ 48 }
    held =
        let r = ap (λ (x : ℕ). x % 2 ^ 32) (shl-shr (2 ^ k) 512) in
        let c = ap (λ (x : ℕ). x % 2 ^ 16) (over 32) in
        let d = ap (λ (x : ℕ). x % 2 ^ 48) (over 48) in
        λ i. record { rows = r i; columns = c i; diagonals = d i }

-- a place shifted down: within a field of n bits, below it, above it
within : (n j k : ℕ) → k < n → 2 ^ (j + k) / 2 ^ j % 2 ^ n ≡ 2 ^ k
within n j k h =
    ap (λ (x : ℕ). x / 2 ^ j % 2 ^ n) (ap (λ (x : ℕ). 2 ^ x) (omega arith) ∙ pow-add 2 k j) ∙ ap (λ (x : ℕ). x % 2 ^ n) (shl-shr (2 ^ k) j)
    ∙ mod-eq_of_lt (pow-lt h)

below : (n j k : ℕ) → k < j → 2 ^ k / 2 ^ j % 2 ^ n ≡ 0
below n j k h = ap (λ (x : ℕ). x % 2 ^ n) (div-eq_of_lt (pow-lt h)) ∙ mod-eq_of_lt (pow_pos n)

above : (n j k : ℕ) → 2 ^ (j + n + k) / 2 ^ j % 2 ^ n ≡ 0
above n j k =
    ap (λ (x : ℕ). x / 2 ^ j % 2 ^ n) (ap (λ (x : ℕ). 2 ^ x) up ∙ pow-add 2 (k + n) j ∙ ap (λ (x : ℕ). x * 2 ^ j) (pow-add 2 k n))
    ∙ ap (λ (x : ℕ). x % 2 ^ n) (shl-shr (2 ^ k * 2 ^ n) j)
    ∙ ap (λ (x : ℕ). x % 2 ^ n) (sym (add-zero (2 ^ k * 2 ^ n))) ∙ low (2 ^ k) n (pow_pos n)
  where
    up : j + n + k ≡ k + n + j
    up = omega arith

pub place-row : (r : ℕ) → r < 32 → of_place (512 + r) ≡ record { rows = 2 ^ r; columns = 0; diagonals = 0 }
place-row r h =
    let x = mod-eq_of_lt (pow-lt h) in
    let y = below 16 32 r h in
    let z = below 48 48 r (omega arith) in
    check r ∙ (λ i. record { rows = x i; columns = y i; diagonals = z i })

pub place-column : (c : ℕ) → c < 16 → of_place (544 + c) ≡ record { rows = 0; columns = 2 ^ c; diagonals = 0 }
place-column c h =
    let x : 2 ^ (32 + c) % 2 ^ 32 ≡ 0 = ap (λ (y : ℕ). y % 2 ^ 32) (sym (div-one (2 ^ (32 + c)))) ∙ above 32 0 c in
    let y = within 16 32 c h in
    let z = below 48 48 (32 + c) (omega arith) in
    ap of_place (omega arith) ∙ check (32 + c) ∙ (λ i. record { rows = x i; columns = y i; diagonals = z i })

pub place_diagonal : (t : ℕ) → t < 48 → of_place (560 + t) ≡ record { rows = 0; columns = 0; diagonals = 2 ^ t }
place_diagonal t h =
    let x : 2 ^ (48 + t) % 2 ^ 32 ≡ 0 =
    ap (λ (y : ℕ). y % 2 ^ 32) (sym (div-one (2 ^ (48 + t)))) ∙ ap (λ (y : ℕ). 2 ^ y / 2 ^ 0 % 2 ^ 32) up ∙ above 32 0 (16 + t) in
    let y = above 16 32 t in
    let z = within 48 48 t h in
    ap of_place (omega arith) ∙ check (48 + t) ∙ (λ i. record { rows = x i; columns = y i; diagonals = z i })
  where
    up : 48 + t ≡ 0 + 32 + (16 + t)
    up = omega arith

-- past the last place
pub place_beyond : (k : ℕ) → of_place (608 + k) ≡ no_checks
place_beyond k =
    let x : 2 ^ (96 + k) % 2 ^ 32 ≡ 0 =
    ap (λ (y : ℕ). y % 2 ^ 32) (sym (div-one (2 ^ (96 + k)))) ∙ ap (λ (y : ℕ). 2 ^ y / 2 ^ 0 % 2 ^ 32) low32 ∙ above 32 0 (64 + k) in
    let y : 2 ^ (96 + k) / 2 ^ 32 % 2 ^ 16 ≡ 0 = ap (λ (y : ℕ). 2 ^ y / 2 ^ 32 % 2 ^ 16) low16 ∙ above 16 32 (48 + k) in
    let z = above 48 48 k in
    ap of_place (omega arith) ∙ check (96 + k) ∙ (λ i. record { rows = x i; columns = y i; diagonals = z i })
  where
    low32 : 96 + k ≡ 0 + 32 + (64 + k)
    low32 = omega arith

    low16 : 96 + k ≡ 32 + 16 + (48 + k)
    low16 = omega arith

-- ---- by kind

abbrev pub data_at : ℕ → ℕ → Checks
data_at r c = record { rows = 2 ^ r; columns = 2 ^ c; diagonals = bit_xor (2 ^ (r + c)) (2 ^ 47) }

abbrev pub row_at : ℕ → Checks
row_at k = record { rows = 2 ^ k; columns = 0; diagonals = 0 }

abbrev pub column_at : ℕ → Checks
column_at k = record { rows = 0; columns = 2 ^ k; diagonals = 0 }

abbrev pub diagonal_at : ℕ → Checks
diagonal_at k = record { rows = 0; columns = 0; diagonals = 2 ^ k }

pub record IsData (p : ℕ) (s : Checks) : Type 0 where
  pub row : ℕ
  pub column : ℕ
  pub row_below : row < 32
  pub column_below : column < 16
  pub place : 16 * row + column ≡ p
  pub is : data_at row column ≡ s

pub record IsCheck (first n : ℕ) (at : ℕ → Checks) (p : ℕ) (s : Checks) : Type 0 where
  pub k : ℕ
  pub below : k < n
  pub place : first + k ≡ p
  pub is : at k ≡ s

abbrev pub Check : ℕ → Checks → Type 0
Check p s = IsCheck 512 32 row_at p s ⊎ (IsCheck 544 16 column_at p s ⊎ IsCheck 560 48 diagonal_at p s)

abbrev pub Kind : ℕ → Checks → Type 0
Kind p s = IsData p s ⊎ Check p s

pub kind : (p : ℕ) → p < 608 → Kind p (of_place p)
kind p h = go (dec_lt p 512) (dec_lt p 544) (dec_lt p 560)
  where
    go : Dec (p < 512) → Dec (p < 544) → Dec (p < 560) → Kind p (of_place p)
    go (yes a) b c =
        let e : 16 * (p / 16) + p % 16 ≡ p = omega arith in
        inl (record {
          row = p / 16;
          column = p % 16;
          row_below = omega arith;
          column_below = omega arith;
          place = e;
          is = sym (place-data (p / 16) (p % 16) (omega arith) (omega arith)) ∙ ap of_place e;
        })
    go (no a) (yes b) c =
        let e : 512 + (p - 512) ≡ p = omega arith in
        inr (inl (record { k = p - 512; below = omega arith; place = e; is = sym (place-row (p - 512) (omega arith)) ∙ ap of_place e }))
    go (no a) (no b) (yes c) =
        let e : 544 + (p - 544) ≡ p = omega arith in
        inr (inr (inl (record { k = p - 544; below = omega arith; place = e; is = sym (place-column (p - 544) (omega arith)) ∙ ap of_place e })))
    go (no a) (no b) (no c) =
        let e : 560 + (p - 560) ≡ p = omega arith in
        inr (inr (inr (record { k = p - 560; below = omega arith; place = e; is = sym (place_diagonal (p - 560) (omega arith)) ∙ ap of_place e })))
