-- That no second outcome satisfies the statement of a step (`one_outcome`). Assumes nothing.
use Rattle.std.specs.Prelude.{◌≡◌, List, ℕ}
use Rattle.block_code.specs.declared.Checks.{Checks}
use Rattle.block_sums.specs.Steps.{Said}

pub record OneOutcome : Type 0 where
  pub said : (words : List ℕ) (r s : Checks) → Said words r → Said words s → r ≡ s
