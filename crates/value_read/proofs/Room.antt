-- What the step of reading back does where there is room. Assumes nothing.
use mathlib.Core.Path.{◌≡◌, ◌∙◌}
use mathlib.Core.Bool.{true}
use mathlib.Core.List.{List}
use Prim.Native.Nat.{ℕ, ◌/◌, ◌≤◌}
use lib.ListN.{length}
use borrow.Author.Tests.{le-leb}
use Rattle.words.specs.Bytes.{laid}
use Rattle.values.specs.Steps.{grids_of}
use Rattle.value_read.specs.Shown.{data_of_grids, flips_of_grids}
use Rattle.value_read.specs.Steps.{room_for_grids, ReadValue}

module _ (value numbers flips : List ℕ) (here : length value / 8 ≤ length numbers) (there : length value / 8 ≤ length flips)
    (numbers' flips' : List ℕ) where
  room : room_for_grids value numbers flips ≡ true
  room = rw (le-leb (length value / 8) (length numbers) here, le-leb (length value / 8) (length flips) there)

  pub all_read : numbers' ≡ laid (data_of_grids (grids_of value)) numbers → flips' ≡ laid (flips_of_grids (grids_of value)) flips
      → ReadValue value numbers flips numbers' flips'
  all_read n f = record { numbers_after = rw room n; flips_after = rw room f }

  pub read_there : ReadValue value numbers flips numbers' flips'
      → (numbers' ≡ laid (data_of_grids (grids_of value)) numbers) × (flips' ≡ laid (flips_of_grids (grids_of value)) flips)
  read_there x = (x.numbers_after ∙ (rw room), x.flips_after ∙ (rw room))
