-- What the call promises: one record, which determines the answer and every place of every lent slice. The order of the refusals is one
-- definition, for the answer and for the memory. Assumes nothing.
use Rattle.std.specs.Prelude.{◌≡◌, Bool, ◌&&◌, List, ℕ, leb, length, Err, Ok, Result}
use Rattle.words.specs.Word.{choose}
use Rattle.words.specs.Bytes.{laid}
use Rattle.refusals.specs.declared.Refusal.{Refusal}
use Rattle.refusals.specs.declared.Refusal.TheVariants.{Room}
use Rattle.image.specs.Card.{Card, grids_in}
use Rattle.image.specs.Calls.{checked_as}
use Rattle.value_read.specs.Shown.{data_of_grids, flips_of_grids}
use Rattle.card_read.specs.declared.Lengths.{Lengths}

-- room for the title, for each grid's data and for its flips
abbrev pub room_for : Card → List ℕ → List ℕ → List ℕ → Bool
room_for c title numbers flips =
    leb (length c.title) (length title) && leb (length (grids_in c.parts)) (length numbers)
    && leb (length (grids_in c.parts)) (length flips)

-- what the check refuses, then a slice that is too short
abbrev pub read_as : {A : Type 0} → List ℕ → List ℕ → List ℕ → List ℕ → (Refusal → A) → (Card → A) → A
read_as image title numbers flips refused whole =
    checked_as image refused (λ c. choose (room_for c title numbers flips) (whole c) (refused Room))

-- `card::read`: the title's length and the number of grids, over all grids fields in order. The title goes to the front of one slice, each
-- grid's data and flips to the front of two others; places behind stay untouched. A refused call writes nothing.
pub record Read (image title numbers flips : List ℕ) (r : Result Lengths Refusal) (title' numbers' flips' : List ℕ) : Type 0 where
  pub answer : r ≡ read_as image title numbers flips Err (λ c. Ok (record { title = length c.title; grids = length (grids_in c.parts) }))
  pub title_after : title' ≡ read_as image title numbers flips (λ why. title) (λ c. laid c.title title)
  pub numbers_after : numbers' ≡ read_as image title numbers flips (λ why. numbers) (λ c. laid (data_of_grids (grids_in c.parts)) numbers)
  pub flips_after : flips' ≡ read_as image title numbers flips (λ why. flips) (λ c. laid (flips_of_grids (grids_in c.parts)) flips)
