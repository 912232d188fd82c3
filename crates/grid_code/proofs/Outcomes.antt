-- What specs/Outcomes.antt says of the steps holds. Assumes nothing.
use mathlib.Core.Path.{sym, ◌∙◌}
use Rattle.codes.proofs.Deciding.{same_word}
use Rattle.grid_code.specs.Outcomes.{OneOutcome}
use Rattle.grid_code.proofs.Checks.{one_word}

pub one_outcome : OneOutcome
one_outcome = record {
  data_places = λ d a b p q. p.answer ∙ sym q.answer;
  row_checks = λ w a b p q. same_word 8 a b p.fits q.fits (λ r h. p.check r h ∙ sym (q.check r h));
  column_checks = one_word;
  completed = λ places a b p q. p.answer ∙ sym q.answer;
  places_of = λ w a b p q. p.answer ∙ sym q.answer;
  data_of = λ places a b p q. p.answer ∙ sym q.answer;
  encoded = λ d a b p q. p.answer ∙ sym q.answer;
}
