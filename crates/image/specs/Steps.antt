-- What the private steps of a check compute, and what scrubbing and reading back ask of the fields that they walk over. No promise to a
-- caller cites this file. Assumes nothing.
use Rattle.std.specs.Prelude.{◌≡◌, List, ℕ, ◌+◌, ◌-◌, ◌≤◌, ◌<◌, eqb, length, drop, Err, Ok, Result, Option, Some, None}
use Rattle.words.specs.Word.{choose}
use Rattle.refusals.specs.declared.Refusal.TheVariants.{Broken}
use Rattle.fields.specs.declared.Field.{Field}
use Rattle.fields.specs.declared.Field.TheVariants.{Title, Grids, Block, End}
use Rattle.image.specs.declared.Progress.{Progress}
use Rattle.std.specs.declared.ops.ControlFlow.{ControlFlow}
use Rattle.std.specs.declared.ops.ControlFlow.TheVariants.{Continue, Break}
use Rattle.image.specs.Card.{Part, Found, sound, broken, most_bytes, grids_in, blocks_in, walk}
use Rattle.image.specs.declared.Counts.{Counts}
use Rattle.refusals.specs.declared.Refusal.{Refusal}

-- what is found, with g grids and b blocks before it
abbrev pub found_after : ℕ → ℕ → Found (List Part) → Result Counts Refusal
found_after g b (sound ps) = Ok (record { grids = g + length (grids_in ps); blocks = b + length (blocks_in ps) })
found_after g b (broken at) = Err (Broken at)

-- the length of a title
abbrev pub title_size : Option Field → Option ℕ
title_size (Some (Title n)) = Some n
title_size (Some (Grids n)) = None
title_size (Some Block) = None
title_size (Some End) = None
title_size None = None

-- ---- how far a walk has come

-- what it finds from there on
abbrev pub found_from : List ℕ → Progress → Result Counts Refusal
found_from image p = found_after p.grids p.blocks (walk p.left p.at (drop p.at image))

-- it is inside the image, and has counted no more than it has passed
pub record Inside (image : List ℕ) (p : Progress) : Type 0 where
  pub few : length image ≤ most_bytes
  pub within : p.at ≤ length image
  pub grids : p.grids ≤ p.at
  pub blocks : p.blocks ≤ p.at

-- behind a data field of so many bytes, grids and blocks, ..
abbrev pub behind_data : Progress → ℕ → ℕ → ℕ → Result Progress Refusal
behind_data p size g b =
    choose (eqb p.left 0) (Err (Broken p.at))
    (Ok (record { at = p.at + size; left = p.left - 1; grids = p.grids + g; blocks = p.blocks + b }))

-- .. where there is room for each sum
pub record Roomy (p : Progress) (size g b : ℕ) : Type 0 where
  pub at : p.at + size ≤ most_bytes
  pub grids : p.grids + g ≤ most_bytes
  pub blocks : p.blocks + b ≤ most_bytes

-- one step: the same is found from the next field on, or the walk is over, and this is what it finds
abbrev pub Stepped : List ℕ → Progress → Result (ControlFlow Counts Progress) Refusal → Type 0
Stepped image p (Ok (Continue next)) = Inside image next × (p.at < next.at) × (found_from image next ≡ found_from image p)
Stepped image p (Ok (Break counts)) = Ok counts ≡ found_from image p
Stepped image p (Err why) = Err why ≡ found_from image p

-- ---- fields that are found sound

-- the fields behind a title are found sound
pub record Walks (rest : List ℕ) : Type 0 where
  pub few : length rest ≤ most_bytes
  pub left : ℕ
  pub at : ℕ
  pub parts : List Part
  pub found : walk left at rest ≡ sound parts
