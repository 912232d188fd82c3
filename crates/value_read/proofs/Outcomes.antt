-- No second outcome satisfies the statement of a step. Assumes nothing.
use mathlib.Core.Path.{sym, ◌∙◌}
use Rattle.value_read.specs.Outcomes.{OneOutcome}

pub one_outcome : OneOutcome
one_outcome = record {
  grids = λ value numbers flips a b x y p q. (p.numbers_after ∙ sym q.numbers_after, p.flips_after ∙ sym q.flips_after);
}
