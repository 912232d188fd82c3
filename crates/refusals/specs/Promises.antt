-- What is proved of the calls (`one_outcome`). Assumes nothing.
use Rattle.std.specs.Prelude.{◌≡◌, ℕ, Option}
use Rattle.refusals.specs.declared.Refusal.{Refusal}
use Rattle.refusals.specs.Calls.{TableNumber, TablePlace}

-- No second outcome satisfies the statement of a call.
pub record OneOutcome : Type 0 where
  pub number : (why : Refusal) (a b : ℕ) → TableNumber why a → TableNumber why b → a ≡ b
  pub place : (why : Refusal) (a b : Option ℕ) → TablePlace why a → TablePlace why b → a ≡ b
