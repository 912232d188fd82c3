-- What specs/Outcomes.antt says of the steps holds. Assumes nothing.
use mathlib.Core.Path.{sym, ◌∙◌}
use Rattle.grid_rows.specs.Outcomes.{OneOutcome}

pub one_outcome : OneOutcome
one_outcome = record {
  number = λ rows a b p q. p.answer ∙ sym q.answer;
  of_number = λ w a b p q. p.answer ∙ sym q.answer;
  repaired = λ rows a b p q. p.answer ∙ sym q.answer;
}
