-- What each call of the crate promises: one record a call, which determines the answer. Assumes nothing.
use Rattle.std.specs.Prelude.{◌≡◌, ℕ, Option}
use Rattle.refusals.specs.declared.Refusal.{Refusal}
use Rattle.refusals.specs.Reply.{numbered, number_of, place_of}

-- `Refusal::number`: the number of the table.
pub record TableNumber (why : Refusal) (r : ℕ) : Type 0 where
  pub answer : r ≡ number_of (numbered why)

-- `Refusal::place`: the place of the table.
pub record TablePlace (why : Refusal) (r : Option ℕ) : Type 0 where
  pub answer : r ≡ place_of (numbered why)
