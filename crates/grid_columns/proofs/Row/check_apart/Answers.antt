-- `grid_columns::Row::check_apart` meets its contract: no two rows take part in the same checks. Assumes nothing.
use mathlib.Core.Path.{◌≡◌, sym, ap, ap₂, ◌∙◌, subst}
use mathlib.Core.Logic.{◌≢◌}
use Prim.Native.Nat.{ℕ, ◌%◌, ◌^◌, ◌≤◌, ◌<◌}
use native.Mathlib.Nat.{div-eq_of_lt, lt_of_lt_of_le}
use native.Mathlib.Decide.{dec_le}
use native.Mathlib.Omega.{arith}
use lib.Bits.{bit_xor}
use lib.Count.{count_trailing_zeros}
use lib.Pow.{pow_mono}
use Rattle.words.specs.Word.{bit}
use Rattle.words.proofs.Bit.{trailing_set}
use Rattle.grid_columns.proofs.Errors.{parts_of, parts_apart, both_lt}
use Rattle.grid_columns.proofs.Row.check_apart.Goals as goal

set_below : (k n t : ℕ) → n < 2 ^ k → bit n t ≡ 1 → t < k
set_below k n t h b = go (dec_le k t)
  where
    go : Dec (k ≤ t) → t < k
    go (yes l) = absurd (omega (arith, sym b ∙ ap (λ (x : ℕ). x % 2) (div-eq_of_lt (lt_of_lt_of_le h (pow_mono l)))))
    go (no l) = omega arith

-- the lowest check in which one of rows j and k takes part
apart : (j k : ℕ) {p q : ℕ} → j < 8 → k < 8 → j ≢ k → p ≡ parts_of j → q ≡ parts_of k
    → (count_trailing_zeros 32 (bit_xor p q) < 4) × (bit (bit_xor (parts_of j) (parts_of k)) (count_trailing_zeros 32 (bit_xor p q)) ≡ 1)
apart j k {p} {q} hj hk ne e f =
    let n : ℕ = bit_xor (parts_of j) (parts_of k) in
    let h : n < 16 = both_lt j k hj hk in
    let (l, b) = trailing_set 32 n (parts_apart j k hj hk ne) (omega arith) in
    subst (λ (m : ℕ). (count_trailing_zeros 32 m < 4) × (bit n (count_trailing_zeros 32 m) ≡ 1)) (sym (ap₂ bit_xor e f))
    (set_below 4 n (count_trailing_zeros 32 n) h b, b)

pub invariant_of-result : goal.invariant_of-result
invariant_of-result c =
    let j = c.args.self in
    let k = c.args.other in
    record { below = (apart j.index k.index j.below k.below c.requires c.parts.ensures c.parts-2.ensures).0 }

pub returns : goal.returns
returns c =
    let j = c.args.self in
    let k = c.args.other in
    (apart j.index k.index j.below k.below c.requires c.parts.ensures c.parts-2.ensures).1
