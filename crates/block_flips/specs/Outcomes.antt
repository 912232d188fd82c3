-- That no second outcome satisfies the statement of a step (`one_outcome`). Assumes nothing.
use Rattle.std.specs.Prelude.{◌≡◌, Option}
use Rattle.block_code.specs.declared.Checks.{Checks}
use Rattle.block_flips.specs.Steps.{Nearest}
use Rattle.block_flips.specs.declared.Flips.{Flips}

pub record OneOutcome : Type 0 where
  pub nearest : (k : Checks) (r s : Option Flips) → Nearest k r → Nearest k s → r ≡ s
