-- What specs/Outcomes.antt says of the steps holds; and which syndrome is found where there are 38 words. Assumes nothing.
use mathlib.Core.Path.{◌≡◌, sym, ◌∙◌}
use mathlib.Core.List.{List}
use Prim.Native.Nat.{ℕ, ◌≤◌}
use lib.ListN.{length}
use borrow.Author.Tests.{le-leb}
use Rattle.words.specs.Digits.{joined}
use Rattle.block_code.specs.Checks.{syndrome_of}
use Rattle.block_code.specs.declared.Checks.{Checks}
use Rattle.block_words.specs.Steps.{SyndromeFound}
use Rattle.block_words.specs.Outcomes.{OneOutcome}

pub syndrome_all : {ws : List ℕ} {r : Checks} → SyndromeFound ws r → 38 ≤ length ws → r ≡ syndrome_of (joined 16 ws)
syndrome_all {ws} s every = rw (le-leb 38 (length ws) every) at s.answer

pub one_outcome : OneOutcome
one_outcome = record {
  write = λ values before a b p q. p.after ∙ sym q.after;
  syndrome = λ words r s p q. p.answer ∙ sym q.answer;
  flip = λ before place a b p q. p.after ∙ sym q.after;
}
