-- What the private steps of the call compute, so that their contracts can say it. No promise to a caller cites this file. Assumes nothing.
use Rattle.std.specs.Prelude.{◌≡◌, List, ◌++◌, ℕ, ◌-◌, ◌≤◌, ◌<◌, length, take, drop, Option, Some, None}
use Rattle.words.specs.Bytes.{laid}
use Rattle.image.specs.Card.{Part, sound, grids_in, walk}
use Rattle.image.specs.Steps.{Walks}
use Rattle.value_read.specs.Shown.{data_of_grids, flips_of_grids}
use Rattle.card_read.specs.declared.First.{First}

-- sound, with room for each grid
pub record ReadsFields (rest numbers flips : List ℕ) : Type 0 where
  pub walks : Walks rest
  pub numbers_room : length (grids_in walks.parts) ≤ length numbers
  pub flips_room : length (grids_in walks.parts) ≤ length flips

-- what is read of the fields, to the front of two slices
pub record ReadsGrids (rest numbers flips numbers' flips' : List ℕ) : Type 0 where
  pub numbers_after : (left at : ℕ) (ps : List Part) → walk left at rest ≡ sound ps
      → numbers' ≡ laid (data_of_grids (grids_in ps)) numbers
  pub flips_after : (left at : ℕ) (ps : List Part) → walk left at rest ≡ sound ps
      → flips' ≡ laid (flips_of_grids (grids_in ps)) flips

-- A data field of `size` bytes in front, with so many grids: with those behind it read behind them, all are.
pub record Passed (rest numbers flips : List ℕ) (size grids : ℕ) (numbers' flips' : List ℕ) : Type 0 where
  pub few : grids < size
  pub room : size ≤ length rest
  pub grids-room : (grids ≤ length numbers) × (grids ≤ length flips)
  pub reads : (n f : List ℕ) → length n ≡ length numbers - grids → length f ≡ length flips - grids → ReadsFields (drop size rest) n f
  pub completes : (n f : List ℕ) → ReadsGrids (drop size rest) (drop grids numbers') (drop grids flips') n f
      → ReadsGrids rest numbers flips (take grids numbers' ++ n) (take grids flips' ++ f)

-- the field in front: a data field, or the end, and then nothing is left
abbrev pub ReadFirst : List ℕ → List ℕ → List ℕ → Option First → List ℕ → List ℕ → Type 0
ReadFirst rest numbers flips (Some first) numbers' flips' = Passed rest numbers flips first.size first.grids numbers' flips'
ReadFirst rest numbers flips None numbers' flips' = ReadsGrids rest numbers flips numbers' flips'
