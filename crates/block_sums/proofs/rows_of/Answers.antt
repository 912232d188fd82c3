-- `block_sums::rows_of` meets its contract: both sides are linear in the 16 words, and agree at each place. Assumes nothing.
use Rattle.std.proofs.Common.{◌≡◌, ℕ, ◌/◌, ◌%◌, ◌^◌, ◌<◌, List, get_or, sym, ap, ◌∙◌, arith}
use native.Mathlib.Nat.{mod-lt}
use lib.Bits.{bit_xor, bit_and}
use lib.Pow.{pow_pos}
use Rattle.words.specs.Digits.{digits}
use Rattle.words.proofs.Digits.{digits_low}
use Rattle.words.proofs.Linear.{Linear, same, ◌⊕◌, shr, shl, mask, then, digit, agree_at}
use Rattle.words.proofs.Test.{same_below}
use Rattle.block_code.specs.Code.{rows_of}
use Rattle.block_code.proofs.Stack.{parity, stack, parity-place}
use Rattle.block_sums.proofs.rows_of.Goals as goal

-- What the code computes: words folded down, others folded up into what this frees, first bytes and then four bits; and the rest.
abbrev bytes_down : Linear
bytes_down = mask (same ⊕ shr same 8) 0x00FF_00FF_00FF_00FF

abbrev bytes_up : Linear
bytes_up = mask (same ⊕ shl same 8 64) 0xFF00_FF00_FF00_FF00

abbrev fours_down : Linear
fours_down = mask (same ⊕ shr same 4) 0x0F0F_0F0F_0F0F_0F0F

abbrev fours_up : Linear
fours_up = mask (same ⊕ shl same 4 64) 0xF0F0_F0F0_F0F0_F0F0

abbrev rest : Linear
rest = then (same ⊕ shr same 2) (then (mask (same ⊕ shr same 1) 0x1111_1111_1111_1111) (then (same ⊕ shr same 15) (same ⊕ shr same 30)))

-- .. of four numbers
abbrev bytes : ℕ → ℕ → ℕ
bytes x y = bit_xor (bytes_down.at x) (bytes_up.at y)

abbrev folded : List ℕ → ℕ
folded l = rest.at (bit_xor (fours_down.at (bytes (get_or l 0 0) (get_or l 2 0))) (fours_up.at (bytes (get_or l 1 0) (get_or l 3 0))))

-- .. of the 16 words that they are
abbrev bytes_in : ℕ → ℕ → Linear
bytes_in i j = then (digit 64 4 i) bytes_down ⊕ then (digit 64 4 j) bytes_up

abbrev folded_in : Linear
folded_in = then (then (bytes_in 0 2) fours_down ⊕ then (bytes_in 1 3) fours_up) rest

-- each of the 256 places is in the parity of its word
each_place : (k : ℕ) → k < 256 → bit_and (folded_in.at (2 ^ k)) 0xFFFF ≡ rows_of (digits 16 16 (2 ^ k))
each_place k l =
    same_below 256 (λ k. bit_and (folded_in.at (2 ^ k)) 0xFFFF) (λ k. 2 ^ (k / 16)) tt k l
    ∙ sym (ap (λ (x : ℕ). rows_of (digits 16 16 (2 ^ x))) (omega arith) ∙ parity-place 16 (k / 16) (k % 16) (omega arith) (omega arith))

pub returns : goal.returns
returns c w e =
    ap (λ (l : List ℕ). bit_and (folded l) 0xFFFF) (sym (digits_low 64 4 w ∙ e))
    ∙ agree_at (mask folded_in 0xFFFF) (stack 1 parity 16) 256 each_place (w % 2 ^ 256) (mod-lt w (pow_pos 256))
    ∙ ap rows_of (digits_low 16 16 w)
