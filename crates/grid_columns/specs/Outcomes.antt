-- That no second outcome satisfies the statement of a step (`one_outcome`). Assumes nothing.
use Rattle.std.specs.Prelude.{◌≡◌, Bool, ℕ, Option}
use Rattle.grid_columns.specs.Columns.{Held, Solved}

pub record OneOutcome : Type 0 where
  pub hold : (rows : ℕ) (a b : Bool) → Held rows a → Held rows b → a ≡ b
  pub solved : (rows marks : ℕ) (a b : Option ℕ) → Solved rows marks a → Solved rows marks b → a ≡ b
