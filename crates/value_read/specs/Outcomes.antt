-- That no second outcome satisfies the statement of a step (`one_outcome`). Assumes nothing.
use Rattle.std.specs.Prelude.{◌≡◌, List, ℕ}
use Rattle.value_read.specs.Steps.{ReadValue}

pub record OneOutcome : Type 0 where
  pub grids : (value numbers flips a b x y : List ℕ) → ReadValue value numbers flips a x → ReadValue value numbers flips b y
      → (a ≡ b) × (x ≡ y)
