-- No second outcome satisfies the statement of a step. Assumes nothing.
use Rattle.std.proofs.Common.{sym, ◌∙◌}
use Rattle.value_scrub.specs.Outcomes.{OneOutcome}

pub one_outcome : OneOutcome
one_outcome = record {
  no_blocks = λ a b x y. x.answer ∙ sym y.answer;
  both = λ s t a b x y. x.answer ∙ sym y.answer;
  grids = λ value x y a b p q. (p.answer ∙ sym q.answer, p.after ∙ sym q.after);
  block = λ value x y a b p q. (p.answer ∙ sym q.answer, p.after ∙ sym q.after);
}
