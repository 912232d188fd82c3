-- The syndrome of a 608-bit word: it is linear, and no check is set in it for codewords alone. Assumes nothing.
use mathlib.Core.Path.{◌≡◌, sym, ap, ◌∙◌, subst}
use Prim.Native.Nat.{ℕ, ◌+◌, ◌*◌, ◌/◌, ◌%◌, ◌^◌, ◌<◌}
use native.Mathlib.Nat.{mod-eq_of_lt}
use native.Mathlib.Omega.{arith}
use lib.Arith.{digits_lt}
use lib.Bits.{bit_xor, xor_lt}
use lib.Count.{ones}
use lib.ListN.{get_or}
use lib.Pow.{shl_lt, shr_lt, shr-shr, split, high, low}
use Rattle.words.specs.Digits.{digits}
use Rattle.words.proofs.Bit.{odd_lt}
use Rattle.words.proofs.Digits.{length_digits, digits_below, digits_low}
use Rattle.words.proofs.Linear.{Linear, same, shr, low as lowest, ◌⊕◌, then}
use Rattle.words.proofs.Xor.{xor-shl}
use Rattle.block_code.specs.Code.{odd, stacked, rows_of, columns_of, diagonals_of, with_checks, codeword}
use Rattle.block_code.specs.Checks.{no_checks, mixed, said_by, held_by, syndrome_of}
use Rattle.block_code.specs.declared.Checks.{Checks}
use Rattle.block_code.proofs.Mixing.{mixed_self, eq_of_mixed}
use Rattle.block_code.proofs.Stack.{parity, stack, stacked_lt}

-- ---- three linear maps

-- the system parity, as bit 47
pub system_sum : (a b : ℕ)
    → odd (rows_of (digits 16 32 (bit_xor a b))) * 2 ^ 47
    ≡ bit_xor (odd (rows_of (digits 16 32 a)) * 2 ^ 47) (odd (rows_of (digits 16 32 b)) * 2 ^ 47)
system_sum a b =
    ap (λ (x : ℕ). x * 2 ^ 47) ((then (stack 1 parity 32) parity).sum a b)
    ∙ xor-shl 47 (odd (rows_of (digits 16 32 a))) (odd (rows_of (digits 16 32 b)))

abbrev pub row_sums : Linear
row_sums = stack 1 parity 32

abbrev pub column_sums : Linear
column_sums = stack 0 same 32

abbrev pub diagonal_sums : Linear
diagonal_sums = stack 1 same 32 ⊕ record { at = λ x. odd (rows_of (digits 16 32 x)) * 2 ^ 47; sum = system_sum }

pub syndrome_sum : (a b : ℕ) → syndrome_of (bit_xor a b) ≡ mixed (syndrome_of a) (syndrome_of b)
unfolding syndrome_of
syndrome_sum a b =
    let r = (row_sums ⊕ lowest (shr same 512) 32).sum a b in
    let c = (column_sums ⊕ lowest (shr same 544) 16).sum a b in
    let d = (diagonal_sums ⊕ lowest (shr same 560) 48).sum a b in
    λ i. record { rows = r i; columns = c i; diagonals = d i }

pub syndrome_zero : syndrome_of 0 ≡ no_checks
syndrome_zero = syndrome_sum 0 0 ∙ mixed_self (syndrome_of 0)

-- ---- bounds

module _ (d : ℕ) where
  small : (i : ℕ) → get_or (digits 16 32 d) i 0 < 2 ^ 16
  small = digits_below 16 32 d

  pub rows_lt : rows_of (digits 16 32 d) < 2 ^ 32
  rows_lt =
      subst (λ (n : ℕ). rows_of (digits 16 32 d) < 2 ^ (1 * n + 0)) (length_digits 16 32 d)
      (stacked_lt 1 0 odd (digits 16 32 d) (λ i l. odd_lt (ones (get_or (digits 16 32 d) i 0))))

  pub columns_lt : columns_of (digits 16 32 d) < 2 ^ 16
  columns_lt =
      subst (λ (n : ℕ). columns_of (digits 16 32 d) < 2 ^ (0 * n + 16)) (length_digits 16 32 d)
      (stacked_lt 0 16 (λ x. x) (digits 16 32 d) (λ i l. small i))

  pub sums_lt : stacked 1 (λ x. x) (digits 16 32 d) < 2 ^ 47
  sums_lt =
      subst (λ (n : ℕ). stacked 1 (λ x. x) (digits 16 32 d) < 2 ^ (1 * n + 15)) (length_digits 16 32 d)
      (stacked_lt 1 15 (λ x. x) (digits 16 32 d) (λ i l. small i))

  pub diagonals_lt : diagonals_of (digits 16 32 d) < 2 ^ 48
  diagonals_lt =
      xor_lt 48 (stacked 1 (λ x. x) (digits 16 32 d)) (odd (rows_of (digits 16 32 d)) * 2 ^ 47) (omega (arith, sums_lt))
      (shl_lt 1 47 (odd_lt (ones (rows_of (digits 16 32 d)))))

-- ---- a block and its parts

module _ (d r c g : ℕ) (hd : d < 2 ^ 512) (hr : r < 2 ^ 32) (hc : c < 2 ^ 16) where
  checks_data : with_checks d r c g % 2 ^ 512 ≡ d
  checks_data = low ((g * 2 ^ 16 + c) * 2 ^ 32 + r) 512 hd

  checks_rows : with_checks d r c g / 2 ^ 512 % 2 ^ 32 ≡ r
  checks_rows = ap (λ (x : ℕ). x % 2 ^ 32) (high ((g * 2 ^ 16 + c) * 2 ^ 32 + r) 512 hd) ∙ low (g * 2 ^ 16 + c) 32 hr

  past : with_checks d r c g / 2 ^ 544 ≡ g * 2 ^ 16 + c
  past =
      sym (shr-shr (with_checks d r c g) 512 32) ∙ ap (λ (x : ℕ). x / 2 ^ 32) (high ((g * 2 ^ 16 + c) * 2 ^ 32 + r) 512 hd)
      ∙ high (g * 2 ^ 16 + c) 32 hr

  checks_columns : with_checks d r c g / 2 ^ 544 % 2 ^ 16 ≡ c
  checks_columns = ap (λ (x : ℕ). x % 2 ^ 16) past ∙ low g 16 hc

  checks_diagonals : g < 2 ^ 48 → with_checks d r c g / 2 ^ 560 % 2 ^ 48 ≡ g
  checks_diagonals h =
      ap (λ (x : ℕ). x % 2 ^ 48) (sym (shr-shr (with_checks d r c g) 544 16) ∙ ap (λ (x : ℕ). x / 2 ^ 16) past ∙ high g 16 hc) ∙ mod-eq_of_lt h

  checks_lt : g < 2 ^ 48 → with_checks d r c g < 2 ^ 608
  checks_lt h = digits_lt (digits_lt (digits_lt h hc) hr) hd

-- a word of 608 bits is what it holds, behind its data
parts : (w : ℕ) → w < 2 ^ 608 → with_checks (w % 2 ^ 512) (held_by w).rows (held_by w).columns (held_by w).diagonals ≡ w
parts w h =
    ap (λ (x : ℕ). x * 2 ^ 512 + w % 2 ^ 512) (ap (λ (x : ℕ). x * 2 ^ 32 + w / 2 ^ 512 % 2 ^ 32) top ∙ split (w / 2 ^ 512) 32) ∙ split w 512
  where
    top : (held_by w).diagonals * 2 ^ 16 + (held_by w).columns ≡ w / 2 ^ 512 / 2 ^ 32
    top =
        ap (λ (x : ℕ). x * 2 ^ 16 + w / 2 ^ 544 % 2 ^ 16) (mod-eq_of_lt (shr_lt 48 560 h) ∙ sym (shr-shr w 544 16))
        ∙ split (w / 2 ^ 544) 16 ∙ sym (shr-shr w 512 32)

-- ---- codewords

pub codeword_lt : (d : ℕ) → d < 2 ^ 512 → codeword d < 2 ^ 608
unfolding codeword
codeword_lt d h =
    checks_lt d (rows_of (digits 16 32 d)) (columns_of (digits 16 32 d)) (diagonals_of (digits 16 32 d)) h (rows_lt d) (columns_lt d) (diagonals_lt d)

codeword-data : (d : ℕ) → d < 2 ^ 512 → codeword d % 2 ^ 512 ≡ d
unfolding codeword
codeword-data d h =
    checks_data d (rows_of (digits 16 32 d)) (columns_of (digits 16 32 d)) (diagonals_of (digits 16 32 d)) h (rows_lt d) (columns_lt d)

held_codeword : (d : ℕ) → d < 2 ^ 512 → held_by (codeword d) ≡ said_by (digits 16 32 d)
unfolding codeword
held_codeword d h =
    let r : ℕ = rows_of (digits 16 32 d) in
    let c : ℕ = columns_of (digits 16 32 d) in
    let g : ℕ = diagonals_of (digits 16 32 d) in
    let x = checks_rows d r c g h (rows_lt d) (columns_lt d) in
    let y = checks_columns d r c g h (rows_lt d) (columns_lt d) in
    let z = checks_diagonals d r c g h (rows_lt d) (columns_lt d) (diagonals_lt d) in
    λ i. record { rows = x i; columns = y i; diagonals = z i }

pub data-words : (d : ℕ) → d < 2 ^ 512 → digits 16 32 (codeword d) ≡ digits 16 32 d
data-words d h = sym (digits_low 16 32 (codeword d)) ∙ ap (digits 16 32) (codeword-data d h)

pub syndrome_codeword : (d : ℕ) → d < 2 ^ 512 → syndrome_of (codeword d) ≡ no_checks
unfolding syndrome_of
syndrome_codeword d h =
    ap (mixed (said_by (digits 16 32 (codeword d)))) (held_codeword d h)
    ∙ ap (λ ws. mixed (said_by ws) (said_by (digits 16 32 d))) (data-words d h) ∙ mixed_self (said_by (digits 16 32 d))

pub codeword_of : (w : ℕ) → w < 2 ^ 608 → syndrome_of w ≡ no_checks → w ≡ codeword (w % 2 ^ 512)
unfolding syndrome_of codeword
codeword_of w h e =
    let s : said_by (digits 16 32 w) ≡ held_by w = eq_of_mixed (said_by (digits 16 32 w)) (held_by w) e in
    sym (parts w h)
    ∙ ap (λ (k : Checks). with_checks (w % 2 ^ 512) k.rows k.columns k.diagonals) (sym s)
    ∙ ap (λ ws. with_checks (w % 2 ^ 512) (rows_of ws) (columns_of ws) (diagonals_of ws)) (sym (digits_low 16 32 w))
