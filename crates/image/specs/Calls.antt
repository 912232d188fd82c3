-- What each call of the crate promises: one record a call, which determines the answer. Assumes nothing.
use Rattle.std.specs.Prelude.{◌≡◌, List, [], ℕ, leb, length, Err, Ok, Result, Option, Some, None}
use Rattle.words.specs.Word.{choose}
use Rattle.refusals.specs.declared.Refusal.{Refusal}
use Rattle.refusals.specs.declared.Refusal.TheVariants.{Length, Broken}
use Rattle.fields.specs.declared.Field.{Field}
use Rattle.fields.specs.declared.Field.TheVariants.{Title, Grids, Block, End}
use Rattle.fields.specs.Fields.{value, field_of}
use Rattle.image.specs.Card.{Part, Card, Found, sound, broken, most_bytes, grids_in, blocks_in, card_of}
use Rattle.image.specs.declared.Counts.{Counts}

-- b of the place where it is broken, s of what is found where it is sound
abbrev pub by_found : {A B : Type 0} → (ℕ → B) → (A → B) → Found A → B
by_found b s (sound a) = s a
by_found b s (broken at) = b at

-- The order of the refusals, for check, scrub and reading back: too long, then broken. Else what the card in it gives.
abbrev pub checked_as : {A : Type 0} → List ℕ → (Refusal → A) → (Card → A) → A
checked_as image refused whole =
    choose (leb (length image) most_bytes) (by_found (λ at. refused (Broken at)) whole (card_of image)) (refused Length)

-- the numbers of grids and of blocks
abbrev pub counts : List Part → Counts
counts ps = record { grids = length (grids_in ps); blocks = length (blocks_in ps) }

-- `image::check`: the numbers of grids and of blocks, or why the image is refused.
pub record Checked (image : List ℕ) (r : Result Counts Refusal) : Type 0 where
  pub answer : r ≡ checked_as image Err (λ c. Ok (counts c.parts))

-- `image::title`: the value of the first field where that is a title, as it stands in the image, and nothing otherwise.
abbrev pub title_in : List ℕ → Option Field → List ℕ
title_in image (Some (Title n)) = value image
title_in image (Some (Grids n)) = []
title_in image (Some Block) = []
title_in image (Some End) = []
title_in image None = []

pub record TitleGiven (image r : List ℕ) : Type 0 where
  pub answer : r ≡ title_in image (field_of image)
