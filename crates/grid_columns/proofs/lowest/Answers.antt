-- `grid_columns::lowest` meets its contract: the lowest place that is set is in the byte. Assumes nothing.
use mathlib.Core.Path.{◌≡◌, sym, ap, ◌∙◌}
use mathlib.Core.Logic.{⊎_elim}
use Prim.Native.Nat.{ℕ, ◌+◌, ◌*◌, ◌/◌, ◌%◌, ◌^◌, ◌<◌}
use native.Mathlib.Nat.{eq-zero-or-pos, mod-lt}
use native.Mathlib.Omega.{arith}
use lib.Count.{count_trailing_zeros}
use lib.Dec.{lit<}
use lib.ListN.{get_or}
use borrow.Author.Rules.{rules}
use Rattle.words.specs.Word.{bit}
use Rattle.words.specs.Digits.{digits}
use Rattle.words.proofs.Bit.{bit_zero, trailing_set}
use Rattle.words.proofs.Digits.{bit-digits}
use Rattle.grid_columns.proofs.lowest.Goals as goal

-- the byte of a place that is set
not_none : (e t : ℕ) → t < 32 → bit e t ≡ 1 → 0 < get_or (digits 8 4 e) (t / 8 % 4) 0
not_none e t l b =
    let at : t / 8 % 4 < 4 = omega arith in
    let whole : 8 * (t / 8 % 4) + t % 8 ≡ t = omega arith in
    let set : bit (get_or (digits 8 4 e) (t / 8 % 4) 0) (t % 8) ≡ 1 =
    sym (bit-digits 8 4 e (t / 8 % 4) (t % 8) at (omega arith)) ∙ ap (bit e) whole ∙ b in
    ⊎_elim (λ z. absurd (omega (arith, sym (bit_zero (t % 8)) ∙ sym (ap (λ (x : ℕ). bit x (t % 8)) z) ∙ set))) (λ l. l)
    (eq-zero-or-pos (get_or (digits 8 4 e) (t / 8 % 4) 0))

pub returns : goal.returns
returns c =
    let e : ℕ = c.args.checks in
    let h : e < 2 ^ 32 = search rules in
    record {
      place = count_trailing_zeros 32 e / 8 % 4;
      below = mod-lt (count_trailing_zeros 32 e / 8) (lit< tt);
      is = c.of.ensures;
      some = λ p. let (l, b) = trailing_set 32 e p h in omega (arith, not_none e (count_trailing_zeros 32 e) l b, c.of.ensures);
    }
