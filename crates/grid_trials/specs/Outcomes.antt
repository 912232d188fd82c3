-- That no second outcome satisfies the statement of a step (`one_outcome`). Assumes nothing.
use Rattle.std.specs.Prelude.{◌≡◌, List, ℕ, Option}
use Rattle.grid_trials.specs.Steps.{Nearby}
use Rattle.grid_trials.specs.declared.Near.{Near}

pub record OneOutcome : Type 0 where
  pub nearest : (rows : List ℕ) (a b : Option Near) → Nearby rows a → Nearby rows b → a ≡ b
