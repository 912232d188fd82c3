-- What the step of reading back does, whatever the lengths. No promise to a caller cites this file. Assumes nothing.
use Rattle.std.specs.Prelude.{◌≡◌, Bool, ◌&&◌, List, ℕ, ◌/◌, leb, length}
use Rattle.words.specs.Word.{choose}
use Rattle.words.specs.Bytes.{laid}
use Rattle.values.specs.Steps.{grids_of}
use Rattle.value_read.specs.Shown.{data_of_grids, flips_of_grids}

-- two slices have room for the grids of a value
abbrev pub room_for_grids : List ℕ → List ℕ → List ℕ → Bool
room_for_grids value numbers flips = leb (length value / 8) (length numbers) && leb (length value / 8) (length flips)

-- `value_read::grids`: their data and their flips, to the front of the two slices; where there is no room, nothing is written.
pub record ReadValue (value numbers flips numbers' flips' : List ℕ) : Type 0 where
  pub numbers_after : numbers' ≡ choose (room_for_grids value numbers flips) (laid (data_of_grids (grids_of value)) numbers) numbers
  pub flips_after : flips' ≡ choose (room_for_grids value numbers flips) (laid (flips_of_grids (grids_of value)) flips) flips
