-- What specs/Outcomes.antt says of the step holds; and what it gives where there are 32 words. Assumes nothing.
use mathlib.Core.Path.{◌≡◌, sym, ◌∙◌}
use mathlib.Core.List.{List}
use Prim.Native.Nat.{ℕ, ◌≤◌}
use lib.ListN.{length, take}
use borrow.Author.Tests.{le-leb}
use Rattle.block_code.specs.Checks.{said_by}
use Rattle.block_code.specs.declared.Checks.{Checks}
use Rattle.block_sums.specs.Steps.{Said}
use Rattle.block_sums.specs.Outcomes.{OneOutcome}

pub said_all : {ws : List ℕ} {r : Checks} → Said ws r → 32 ≤ length ws → r ≡ said_by (take 32 ws)
said_all {ws} s every = rw (le-leb 32 (length ws) every) at s.answer

pub one_outcome : OneOutcome
one_outcome = record { said = λ words r s p q. p.answer ∙ sym q.answer }
