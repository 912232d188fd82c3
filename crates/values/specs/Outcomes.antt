-- That no second outcome satisfies the statement of a step (`one_outcome`). Assumes nothing.
use Rattle.std.specs.Prelude.{◌≡◌, List, ℕ}
use Rattle.values.specs.Steps.{FirstRows, Copied, Taken, Put}

pub record OneOutcome : Type 0 where
  pub grid : (bytes a b : List ℕ) → FirstRows bytes a → FirstRows bytes b → a ≡ b
  pub copy_and_put_grid : (bytes to a b : List ℕ) → Copied bytes to a → Copied bytes to b → a ≡ b
  pub grids_and_words : (k : ℕ) (bytes words a b : List ℕ) → Taken k bytes words a → Taken k bytes words b → a ≡ b
  pub put_grids_and_put_words : (k : ℕ) (words bytes a b : List ℕ) → Put k words bytes a → Put k words bytes b → a ≡ b
