-- That no second outcome satisfies the statement of a step (`one_outcome`). Assumes nothing.
use Rattle.std.specs.Prelude.{◌≡◌, Bool, ℕ}
use Rattle.block_code.specs.Checks.{Mixed, IsNone, OfPlace}
use Rattle.block_code.specs.declared.Checks.{Checks}

pub record OneOutcome : Type 0 where
  pub mix : (a b r s : Checks) → Mixed a b r → Mixed a b s → r ≡ s
  pub is_none : (k : Checks) (r s : Bool) → IsNone k r → IsNone k s → r ≡ s
  pub of_place : (place : ℕ) (r s : Checks) → OfPlace place r → OfPlace place s → r ≡ s
