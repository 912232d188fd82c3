-- `block_words::syndrome` meets its contract: the number of the first 38 words is the low part of the number of all. Assumes nothing.
use Rattle.std.proofs.Common.{◌≡◌, ℕ, ◌/◌, ◌%◌, ◌^◌, ◌≤◌, true, List, length, take, sym, ap, ◌∙◌, arith}
use mathlib.Core.Path.{ap₂}
use native.Mathlib.Nat.{mod-lt}
use lib.Dec.{leb}
use lib.Pow.{pow_pos}
use borrow.Author.Tests.{le-leb}
use Rattle.words.specs.Digits.{digits, joined, Below}
use Rattle.words.proofs.Digits.{digits_low, digits-take, joined-digits}
use Rattle.block_code.specs.Checks.{mixed, said_by, held_by, syndrome_of}
use Rattle.block_sums.proofs.Outcomes.{said_all}
use Rattle.block_words.proofs.syndrome.Goals as goal

module _ (ws : List ℕ) (n : 38 ≤ length ws) (small : Below 16 ws) where
  abbrev w : ℕ
  w = joined 16 ws

  front : joined 16 (take 38 ws) ≡ w % 2 ^ 608
  front =
      ap (joined 16) (sym (digits_low 16 38 w ∙ digits-take 16 38 ws n small)) ∙ joined-digits 16 38 (w % 2 ^ 608) (mod-lt w (pow_pos 608))

  said : said_by (take 32 (take 38 ws)) ≡ said_by (digits 16 32 w)
  said = ap (λ (xs : List ℕ). said_by (take 32 xs)) (sym (digits-take 16 38 ws n small))

  held : held_by (joined 16 (take 38 ws)) ≡ held_by w
  held =
      let r : w % 2 ^ 608 / 2 ^ 512 % 2 ^ 32 ≡ w / 2 ^ 512 % 2 ^ 32 = omega arith in
      let c : w % 2 ^ 608 / 2 ^ 544 % 2 ^ 16 ≡ w / 2 ^ 544 % 2 ^ 16 = omega arith in
      let d : w % 2 ^ 608 / 2 ^ 560 % 2 ^ 48 ≡ w / 2 ^ 560 % 2 ^ 48 = omega arith in
      ap held_by front ∙ (λ i. record { rows = r i; columns = c i; diagonals = d i })

pub returns : goal.returns
unfolding syndrome_of
returns c =
    let ws : List ℕ = c.args.words.now in
    let first = c.in-Some.ensures.cases in
    let small : Below 16 ws = λ i. omega (arith, c.type_inv.words i) in
    let every : leb 38 (length ws) ≡ true = le-leb 38 (length ws) first.enough in
    record {
      answer =
          rw every
          (c.bitxor.ensures.answer
          ∙ ap₂ mixed (said_all c.said.ensures (omega arith) ∙ ap (λ b. said_by (take 32 b)) first.same ∙ said ws first.enough small)
          (c.held.ensures ∙ ap (λ b. held_by (joined 16 b)) first.same ∙ held ws first.enough small));
    }
