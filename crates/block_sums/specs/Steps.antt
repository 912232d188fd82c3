-- What the step of the crate gives, so that its contract can say it. No promise to a caller cites this file. Assumes nothing.
use Rattle.std.specs.Prelude.{◌≡◌, List, ℕ, leb, length, take}
use Rattle.words.specs.Word.{choose}
use Rattle.block_code.specs.Checks.{no_checks, said_by}
use Rattle.block_code.specs.declared.Checks.{Checks}

-- `block_sums::said`: what the 32 words at the front say, and nothing where there are fewer.
pub record Said (words : List ℕ) (r : Checks) : Type 0 where
  pub answer : r ≡ choose (leb 32 (length words)) (said_by (take 32 words)) no_checks
