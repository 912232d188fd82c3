-- One place of one word is one place of the number. Assumes nothing.
use mathlib.Core.Path.{◌≡◌, sym, ap, ◌∙◌}
use mathlib.Core.List.{List}
use Prim.Native.Nat.{ℕ, ◌+◌, ◌*◌, ◌/◌, ◌%◌, ◌^◌, ◌<◌}
use native.Mathlib.Omega.{arith}
use lib.Bits.{bit_xor}
use lib.ListN.{length}
use lib.Pow.{pow-lt, pow-add}
use Rattle.words.specs.Digits.{joined, Below}
use Rattle.words.proofs.Digits.{joined_flip}
use Rattle.block_words.specs.Steps.{flipped}

pub joined-flipped : (ws : List ℕ) (p : ℕ) → p < 16 * length ws → Below 16 ws → joined 16 (flipped ws p) ≡ bit_xor (joined 16 ws) (2 ^ p)
joined-flipped ws p inside small =
    let bit : p % 16 < 16 = omega arith in
    let up : p % 16 + p / 16 * 16 ≡ p = omega arith in
    joined_flip 16 ws (p / 16) (2 ^ (p % 16)) (omega arith) small (pow-lt bit)
    ∙ ap (bit_xor (joined 16 ws)) (sym (pow-add 2 (p % 16) (p / 16 * 16)) ∙ ap (λ (x : ℕ). 2 ^ x) up)
