-- That no second outcome satisfies the statement of a step (`one_outcome`). Assumes nothing.
use Rattle.std.specs.Prelude.{◌≡◌, List, ℕ}
use Rattle.block_code.specs.declared.Checks.{Checks}
use Rattle.block_words.specs.Steps.{BlockWritten, SyndromeFound, Flipped}

pub record OneOutcome : Type 0 where
  pub write : (values before a b : List ℕ) → BlockWritten values before a → BlockWritten values before b → a ≡ b
  pub syndrome : (words : List ℕ) (r s : Checks) → SyndromeFound words r → SyndromeFound words s → r ≡ s
  pub flip : (before : List ℕ) (place : ℕ) (a b : List ℕ) → Flipped before place a → Flipped before place b → a ≡ b
