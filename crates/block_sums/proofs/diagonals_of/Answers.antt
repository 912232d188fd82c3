-- `block_sums::diagonals_of` meets its contract: both sides are linear in the 16 words, and agree at each place. Assumes nothing.
use Rattle.std.proofs.Common.{◌≡◌, ℕ, ◌%◌, ◌^◌, List, get_or, sym, ap, ◌∙◌}
use native.Mathlib.Nat.{mod-lt}
use lib.Pow.{pow_pos}
use Rattle.words.specs.Digits.{digits}
use Rattle.words.proofs.Digits.{digits_low}
use Rattle.words.proofs.Linear.{Linear, same, ◌⊕◌, shr, shl, mask, then, digit, agree}
use Rattle.block_code.specs.Code.{stacked}
use Rattle.block_code.proofs.Stack.{stack}
use Rattle.block_sums.proofs.diagonals_of.Goals as goal

-- what the code computes
abbrev pairs : ℕ → Linear
pairs k = mask (digit 64 4 k) 0x0000_FFFF_0000_FFFF ⊕ mask (shr (digit 64 4 k) 15) 0x0001_FFFE_0001_FFFE

abbrev made : Linear
made = then (pairs 0 ⊕ shl (pairs 1) 4 64 ⊕ shl (pairs 2) 8 64 ⊕ shl (pairs 3) 12 64) (mask (same ⊕ shr same 30) 0x7FFF_FFFF)

pub returns : goal.returns
unfolding stacked
returns c w e =
    let part : (k : ℕ) → get_or c.args.words k 0 ≡ get_or (digits 64 4 (w % 2 ^ 256)) k 0 =
    λ k. ap (λ (l : List ℕ). get_or l k 0) (sym (digits_low 64 4 w ∙ e)) in
    rw (part 0, part 1, part 2, part 3)
    (agree made (stack 1 same 16) 256 tt (w % 2 ^ 256) (mod-lt w (pow_pos 256)) ∙ ap (stacked 1 (λ x. x)) (digits_low 16 16 w))
