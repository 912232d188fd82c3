-- What specs/Outcomes.antt says of the step holds. Assumes nothing.
use mathlib.Core.Path.{ap, sym, ◌∙◌}
use Rattle.words.specs.Digits.{joined}
use Rattle.codes.specs.Verdict.{verdict}
use Rattle.grid_code.specs.Code.{code_of_grid}
use Rattle.grid_trials.specs.Steps.{near_of}
use Rattle.grid_trials.specs.Outcomes.{OneOutcome}
use Rattle.grid_trials.proofs.Decoder.{decide}

pub one_outcome : OneOutcome
one_outcome = record {
  nearest = λ rows a b p q.
      p.is.answer
      ∙ ap (λ n. near_of n (verdict code_of_grid (joined 8 rows))) (decide.reported (joined 8 rows) p.is.trials q.is.trials p.is.reported q.is.reported)
      ∙ sym q.is.answer;
}
