-- `block_sums::number` meets its contract: both sides are linear in the four words, and agree at each place. Assumes nothing.
use Rattle.std.proofs.Common.{◌≡◌, ℕ, ◌*◌, ◌%◌, ◌^◌, List, length, get_or, sym, ap, ◌∙◌, arith, rules}
use lib.Bits.{bit_xor}
use Rattle.words.specs.Digits.{joined, Below}
use Rattle.words.proofs.Digits.{digits-joined, joined_lt}
use Rattle.words.proofs.Linear.{Linear, same, ◌⊕◌, shl, digit, agree}
use Rattle.block_sums.proofs.number.Goals as goal

-- what the code computes, of the words and of the number that they make
abbrev laid : List ℕ → ℕ
laid l =
    bit_xor (bit_xor (bit_xor (get_or l 0 0) (get_or l 1 0 * 2 ^ 16 % 2 ^ 64)) (get_or l 2 0 * 2 ^ 32 % 2 ^ 64)) (get_or l 3 0 * 2 ^ 48 % 2 ^ 64)

abbrev made : Linear
made = digit 16 4 0 ⊕ shl (digit 16 4 1) 16 64 ⊕ shl (digit 16 4 2) 32 64 ⊕ shl (digit 16 4 3) 48 64

pub returns : goal.returns
returns c =
    let ws : List ℕ = c.args.words.now in
    let n : length ws ≡ 4 = omega arith in
    let small : Below 16 ws = λ i. search rules in
    rw (c.from.ensures, c.from-2.ensures, c.from-3.ensures, c.from-4.ensures)
    (ap laid (sym (digits-joined 16 4 ws n small)) ∙ agree made same 64 tt (joined 16 ws) (joined_lt 16 4 ws n small))
