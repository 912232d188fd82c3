-- No second outcome satisfies the statement of a step. Assumes nothing.
use mathlib.Core.Path.{sym, ◌∙◌}
use Rattle.values.specs.Outcomes.{OneOutcome}

pub one_outcome : OneOutcome
one_outcome = record {
  grid = λ bytes a b x y. x.answer ∙ sym y.answer;
  copy_and_put_grid = λ bytes to a b x y. x.after ∙ sym y.after;
  grids_and_words = λ k bytes words a b x y. x.after ∙ sym y.after;
  put_grids_and_put_words = λ k words bytes a b x y. x.after ∙ sym y.after;
}
