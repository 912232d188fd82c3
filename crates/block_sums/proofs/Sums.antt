-- The checks of 32 words from the numbers that the code has: the upper 16 words laid on the lower ones, all words of all numbers combined,
-- and the system parity from the columns. Assumes nothing.
use mathlib.Core.Path.{◌≡◌, sym, ap, ap₂, ◌∙◌}
use Prim.Native.Nat.{ℕ, zero, suc, ◌+◌, ◌*◌, ◌%◌, ◌^◌, ◌≤◌, ◌<◌}
use native.Mathlib.Omega.{arith}
use lib.Bits.{bit_xor, bit_and, and_mask}
use lib.Count.{ones}
use lib.ListN.{get_or}
use lib.Pow.{shl_exact}
use Rattle.words.specs.Digits.{digits}
use Rattle.words.proofs.Bit.{odd_lt}
use Rattle.words.proofs.Digits.{digits_below}
use Rattle.words.proofs.Linear.{Linear, same, ◌⊕◌, shr, then, digit, agree}
use Rattle.block_code.specs.Code.{odd, stacked, columns_of, diagonals_of}
use Rattle.block_code.proofs.Places.{system_columns}
use Rattle.block_code.proofs.Stack.{stack, stacked_lt, stacked-append}

-- n words off the front
abbrev after : ℕ → Linear
after zero = same
after (suc n) = shr (after n) 16

-- four numbers of four words off the front
abbrev pub upper : Linear
upper = shr (shr (shr (shr same 64) 64) 64) 64

-- all eight numbers combined
abbrev pub all : Linear
all = digit 64 8 0 ⊕ digit 64 8 1 ⊕ digit 64 8 2 ⊕ digit 64 8 3 ⊕ digit 64 8 4 ⊕ digit 64 8 5 ⊕ digit 64 8 6 ⊕ digit 64 8 7

module _ (w : ℕ) (h : w < 2 ^ 512) where
  -- the upper 16 words on the lower ones, in n bits
  pub halves : (f : ℕ → ℕ) (j n : ℕ) → ((x : ℕ) → x < 2 ^ 16 → f x < 2 ^ (j + 1)) → 32 + j ≤ n → {r s : ℕ}
      → r ≡ stacked 1 f (digits 16 16 (upper.at w)) → s ≡ stacked 1 f (digits 16 16 w) → bit_xor (r * 2 ^ 16 % 2 ^ n) s ≡ stacked 1 f (digits 16 32 w)
  halves f j n low fits p q =
      let u : ℕ = upper.at w in
      ap₂ (λ (x y : ℕ). bit_xor (x * 2 ^ 16 % 2 ^ n) y) p q
      ∙ ap (λ (x : ℕ). bit_xor x (stacked 1 f (digits 16 16 w)))
      (shl_exact (16 + j) 16 n (stacked_lt 1 j f (digits 16 16 u) (λ i l. low (get_or (digits 16 16 u) i 0) (digits_below 16 16 u i))) (omega arith))
      ∙ ap (λ (x : ℕ). bit_xor (stacked 1 f (digits 16 16 x) * 2 ^ 16) (stacked 1 f (digits 16 16 w))) (sym (agree (after 16) upper 512 tt w h))
      ∙ sym (stacked-append 1 f (digits 16 16 w) (digits 16 16 ((after 16).at w)))

  pub all_columns : columns_of (digits 16 4 (all.at w)) ≡ columns_of (digits 16 32 w)
  unfolding stacked
  all_columns = agree (then all (stack 0 same 4)) (stack 0 same 32) 512 tt w h

  -- the system parity, laid above the diagonals
  pub with_system : {k d : ℕ} → k ≡ columns_of (digits 16 32 w) → d ≡ stacked 1 (λ x. x) (digits 16 32 w)
      → bit_xor d (bit_and (ones k) 1 * 2 ^ 47 % 2 ^ 64) ≡ diagonals_of (digits 16 32 w)
  with_system {k} p q =
      ap₂ bit_xor q
      (ap (λ (x : ℕ). x * 2 ^ 47 % 2 ^ 64) (and_mask (ones k) 1) ∙ shl_exact 1 47 64 (odd_lt (ones k)) (omega arith)
      ∙ ap (λ (x : ℕ). x * 2 ^ 47) (ap odd p ∙ sym (system_columns w h)))
