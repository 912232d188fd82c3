-- What specs/Outcomes.antt says of the search holds: at most two flips are told from others by their syndrome. Assumes nothing.
use Rattle.std.specs.Prelude.{Option, Some, None}
use mathlib.Core.Path.{◌≡◌, refl, sym, ap, ap₂, ◌∙◌}
use Prim.Native.Nat.{ℕ, ◌^◌, ◌<◌}
use native.Mathlib.Nat.{lt_trans}
use native.Mathlib.Omega.{arith}
use lib.Bits.{bit_xor, xor_lt}
use lib.Count.{ones, count_trailing_zeros}
use lib.Pow.{pow-lt}
use Rattle.words.proofs.Ones.{ones-pow, ones_two, trailing_pow, trailing_two}
use Rattle.words.proofs.Xor.{xor_cancel_l}
use Rattle.block_code.specs.Checks.{mixed, of_place}
use Rattle.block_code.specs.declared.Checks.{Checks}
use Rattle.block_code.proofs.Distance.{few_named, same_place}
use Rattle.block_code.proofs.Syndromes.{syndrome_sum}
use Rattle.block_flips.specs.Steps.{Explains, Unexplained}
use Rattle.block_flips.specs.Outcomes.{OneOutcome}
use Rattle.block_flips.specs.declared.Flips.{Flips}
use Rattle.block_flips.specs.declared.Flips.TheVariants.{One, Two}

-- two places, as one number
abbrev both : ℕ → ℕ → ℕ
both p q = bit_xor (2 ^ p) (2 ^ q)

both_lt : (p q : ℕ) → p < q → q < 608 → both p q < 2 ^ 608
both_lt p q l h = xor_lt 608 (2 ^ p) (2 ^ q) (pow-lt (lt_trans l h)) (pow-lt h)

both_ones : (p q : ℕ) → p < q → ones (both p q) ≡ 2
both_ones p q l = ones_two p q (λ e. absurd (omega arith))

one_or_two : (p q r : ℕ) → p < 608 → q < r → r < 608 → of_place p ≡ mixed (of_place q) (of_place r) → ⊥
one_or_two p q r hp l hr e =
    let same : 2 ^ p ≡ both q r =
    few_named (2 ^ p) (both q r) (pow-lt hp) (both_lt q r l hr) (omega (arith, ones-pow p)) (omega (arith, both_ones q r l))
    (e ∙ sym (syndrome_sum (2 ^ q) (2 ^ r))) in
    omega (arith, ones-pow p, ap ones same, both_ones q r l)

two_named : (p q r t : ℕ) → p < q → q < 608 → r < t → t < 608 → mixed (of_place p) (of_place q) ≡ mixed (of_place r) (of_place t)
    → (p ≡ r) × (q ≡ t)
two_named p q r t l hq m ht e =
    let same : both p q ≡ both r t =
    few_named (both p q) (both r t) (both_lt p q l hq) (both_lt r t m ht) (omega (arith, both_ones p q l)) (omega (arith, both_ones r t m))
    (syndrome_sum (2 ^ p) (2 ^ q) ∙ e ∙ sym (syndrome_sum (2 ^ r) (2 ^ t))) in
    let lower : p ≡ r =
    sym (trailing_two 608 p q (lt_trans l hq) l) ∙ ap (count_trailing_zeros 608) same ∙ trailing_two 608 r t (lt_trans m ht) m in
    let rest : 2 ^ q ≡ 2 ^ t =
    sym (xor_cancel_l (2 ^ p) (2 ^ q)) ∙ ap₂ (λ (k x : ℕ). bit_xor (2 ^ k) x) lower same ∙ xor_cancel_l (2 ^ r) (2 ^ t) in
    (lower, sym (trailing_pow 608 q hq) ∙ ap (count_trailing_zeros 608) rest ∙ trailing_pow 608 t ht)

module _ (s : Checks) where
  abbrev Answer : Option Flips → Type 0
  Answer f = Explains s (Unexplained s) f

  not_more : (p q : ℕ) → Answer (Some (Two p q)) → Unexplained s → ⊥
  not_more p q (l, h, e) un = un.paired p q (lt_trans l h) h (λ z. absurd (omega arith)) e

  one_answer : (f g : Option Flips) → Answer f → Answer g → f ≡ g
  one_answer (Some (One p)) (Some (One q)) (h, e) (l, d) = ap (λ p. Some (One p)) (same_place p q h l (e ∙ sym d))
  one_answer (Some (One p)) (Some (Two q r)) (h, e) (l, m, d) = absurd (one_or_two p q r h l m (e ∙ sym d))
  one_answer (Some (One p)) None (h, e) un = absurd (un.alone p h e)
  one_answer (Some (Two q r)) (Some (One p)) (l, m, d) (h, e) = absurd (one_or_two p q r h l m (e ∙ sym d))
  one_answer (Some (Two p q)) (Some (Two r t)) (l, h, e) (m, k, d) = let (a, b) = two_named p q r t l h m k (e ∙ sym d) in ap₂ (λ p q. Some (Two p q)) a b
  one_answer (Some (Two p q)) None two un = absurd (not_more p q two un)
  one_answer None (Some (One p)) un (h, e) = absurd (un.alone p h e)
  one_answer None (Some (Two p q)) un two = absurd (not_more p q two un)
  one_answer None None un vn = refl

pub one_outcome : OneOutcome
one_outcome = record { nearest = λ k r s p q. one_answer k r s p.answer q.answer }
