-- That no second outcome satisfies the statement of a step (`one_outcome`). Assumes nothing.
use Rattle.std.specs.Prelude.{◌≡◌, ℕ}
use Rattle.grid_code.specs.Steps.{Arranged, RowChecks, Checks, Completed, Masked, Gathered, Coded}

pub record OneOutcome : Type 0 where
  pub data_places : (d a b : ℕ) → Arranged d a → Arranged d b → a ≡ b
  pub row_checks : (w a b : ℕ) → RowChecks w a → RowChecks w b → a ≡ b
  pub column_checks : (w a b : ℕ) → Checks w a → Checks w b → a ≡ b
  pub completed : (places a b : ℕ) → Completed places a → Completed places b → a ≡ b
  pub places_of : (w a b : ℕ) → Masked w a → Masked w b → a ≡ b
  pub data_of : (places a b : ℕ) → Gathered places a → Gathered places b → a ≡ b
  pub encoded : (d a b : ℕ) → Coded d a → Coded d b → a ≡ b
