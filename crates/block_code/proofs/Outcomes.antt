-- What specs/Outcomes.antt says of the steps holds. Assumes nothing.
use mathlib.Core.Path.{sym, ◌∙◌}
use Rattle.block_code.specs.Outcomes.{OneOutcome}

pub one_outcome : OneOutcome
one_outcome = record {
  mix = λ a b r s p q. p.answer ∙ sym q.answer;
  is_none = λ k r s p q. p.answer ∙ sym q.answer;
  of_place = λ place r s p q. p.answer ∙ sym q.answer;
}
