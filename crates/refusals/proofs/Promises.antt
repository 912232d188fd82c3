-- What specs/Promises.antt says of refusals holds; and laws that the callers cite. Assumes nothing.
use mathlib.Core.Path.{◌≡◌, sym, ◌∙◌}
use Prim.Native.Nat.{ℕ, ◌<◌}
use native.Mathlib.Omega.{arith}
use Rattle.refusals.specs.declared.Refusal.{Refusal}
use Rattle.refusals.specs.declared.Refusal.TheVariants.{LostGrid, LostBlock, Length, Broken, Room, Erased}
use Rattle.refusals.specs.Reply.{gives, refusal, numbered, number_of}
use Rattle.refusals.specs.Promises.{OneOutcome}

-- what is refused gives nothing
pub nothing_given : {A X : Type 0} (why : Refusal) {a : A} → refusal why ≡ gives a → X
nothing_given why e = let z : ◌≡◌ {A = ℕ} 0 1 = cc in absurd (omega arith)

-- the numbers are small
pub few_numbers : (why : Refusal) → number_of (numbered why) < 16
few_numbers LostGrid = omega arith
few_numbers LostBlock = omega arith
few_numbers Length = omega arith
few_numbers (Broken at) = omega arith
few_numbers Room = omega arith
few_numbers Erased = omega arith

pub one_outcome : OneOutcome
one_outcome = record {
  number = λ why a b p q. p.answer ∙ sym q.answer;
  place = λ why a b p q. p.answer ∙ sym q.answer;
}
