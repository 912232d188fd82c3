-- `grid_columns::Aside::pop_first` meets its contract: the lowest place that is set is in a row set aside. Assumes nothing.
use mathlib.Core.Path.{◌≡◌, sym, ap, ◌∙◌}
use mathlib.Core.Logic.{⊎_elim}
use Prim.Native.Nat.{ℕ, ◌*◌, ◌/◌, ◌%◌, ◌^◌, ◌<◌}
use native.Mathlib.Omega.{arith}
use lib.Bits.{bit_xor}
use lib.Count.{count_trailing_zeros}
use borrow.Author.Rules.{rules}
use Rattle.words.specs.Word.{bit}
use Rattle.words.proofs.Bit.{bit_zero, bit-cases, trailing_set}
use Rattle.words.proofs.Digits.{bit-digits}
use Rattle.grid_code.specs.Sides.{row_of}
use Rattle.grid_code.proofs.Codeword.{eighth}
use Rattle.grid_columns.specs.Steps.{Asides, Taken}
use Rattle.grid_columns.proofs.Deciding.{take, others_aside}
use Rattle.grid_columns.proofs.Aside.pop_first.Goals as goal

row_of-place : (aside t : ℕ) → Asides aside → t < 64 → bit aside t ≡ 1 → (t / 8 < 8) × (row_of aside (t / 8) ≡ 1)
row_of-place aside t p l b =
    let (e, hr, hc) = eighth t l in
    let set : bit (row_of aside (t / 8)) (t % 8) ≡ 1 = sym (bit-digits 8 8 aside (t / 8) (t % 8) hr hc) ∙ ap (bit aside) e ∙ b in (
      hr,
      ⊎_elim (λ z. absurd (omega (arith, sym (bit_zero (t % 8)) ∙ sym (ap (λ (x : ℕ). bit x (t % 8)) z) ∙ set))) (λ o. o)
          (bit-cases (row_of aside (t / 8)) (p (t / 8) hr)),
    )

first : (aside : ℕ) {rest : ℕ} → Asides aside → aside < 2 ^ 64 → (aside ≡ 0 → ⊥)
    → rest ≡ bit_xor aside (1 * 2 ^ (8 * (count_trailing_zeros 64 aside / 8))) → Taken aside (count_trailing_zeros 64 aside / 8) rest
first aside p h ne is =
    let (l, b) = trailing_set 64 aside (omega (arith, ne)) h in
    let (hr, e) = row_of-place aside (count_trailing_zeros 64 aside) p l b in
    take hr e is

pub invariant_of-self : goal.invariant_of-self
invariant_of-self c =
    let a = c.args.self.now in
    let h : a.marks < 2 ^ 64 = search rules in
    record { only_marks = others_aside a.only_marks (first a.marks a.only_marks h c.if-self-eq0.false c.flipped-self.ensures) }

pub returns-clause-some : goal.returns-clause-some
returns-clause-some c =
    let a = c.args.self.now in
    let h : a.marks < 2 ^ 64 = search rules in
    first a.marks a.only_marks h c.if-self-eq0.false c.flipped-self.ensures
