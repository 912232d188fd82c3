-- What is proved of a card image (`promised`, `one_outcome`). `Below 8` says that each number is a byte, as in every slice of bytes that is
-- lent. Assumes nothing.
use Rattle.std.specs.Prelude.{◌≡◌, ◌≢◌, ◌⊎◌, true, List, [], ◌∷◌, ◌++◌, ℕ, ◌*◌, ◌^◌, ◌≤◌, ◌<◌, length, Result, Some, None}
use Rattle.words.specs.Digits.{Below}
use Rattle.refusals.specs.Reply.{gives, refuses, refuses_at}
use Rattle.fields.specs.declared.Field.TheVariants.{Title, Grids, Block}
use Rattle.fields.specs.Fields.{grids_most, is_title, field_of}
use Rattle.image.specs.Card.{Part, grids, block, Card, sound, broken, most_bytes, data_fields, grids_in, blocks_in, card_of, front_of, image_of}
use Rattle.image.specs.Answer.{means}
use Rattle.image.specs.Calls.{Checked, TitleGiven}
use Rattle.image.specs.declared.Counts.{Counts}
use Rattle.refusals.specs.declared.Refusal.{Refusal}

-- A card that can stand in an image: a title of 1 to 24 bytes, each 20 to 7E hex; at most 16 data fields, each of at most 512 grids, of 8
-- bytes each, or of one block.
abbrev pub ProperPart : Part → Type 0
ProperPart (grids ws) = (8 * length ws ≤ grids_most) × Below 64 ws
ProperPart (block w) = w < 2 ^ 608

abbrev pub AllProper : List Part → Type 0
AllProper [] = Unit {0}
AllProper (p ∷ ps) = ProperPart p × AllProper ps

pub record Proper (c : Card) : Type 0 where
  pub title : is_title c.title ≡ true
  pub few : length c.parts ≤ data_fields
  pub each : AllProper c.parts

-- Why an image is broken, and where. All fields before the place are as they should be: they are the front of a card.
pub data Break (s : List ℕ) : ℕ → Type 0 where
  -- the first field is no title
  no_title : ((n : ℕ) → field_of s ≢ Some (Title n)) → Break s 0
  -- a rule fails at a field
  fails : (c : Card) (rest : List ℕ) → Proper c → s ≡ front_of c ++ rest → field_of rest ≡ None → Break s (length (front_of c))
  -- a title that is repeated
  repeated : (c : Card) (rest : List ℕ) (n : ℕ) → Proper c → s ≡ front_of c ++ rest → field_of rest ≡ Some (Title n)
      → Break s (length (front_of c))
  -- a seventeenth data field
  seventeenth : (c : Card) (rest : List ℕ) → Proper c → length c.parts ≡ data_fields → s ≡ front_of c ++ rest
      → ((n : ℕ) × (field_of rest ≡ Some (Grids n))) ⊎ (field_of rest ≡ Some Block) → Break s (length (front_of c))
  -- bytes behind the end: the offset of the first of them
  behind_end : (c : Card) (b : ℕ) (bytes : List ℕ) → Proper c → s ≡ image_of c ++ (b ∷ bytes) → Break s (length (image_of c))

-- What an image and its check promise.
pub record ImagePromises : Type 0 where
  -- The image of a card holds that card, ..
  pub there_and_back : (c : Card) → Proper c → card_of (image_of c) ≡ sound c
  -- .. and an image that is found sound is the image of the card that is found in it.
  pub back_and_there : (s : List ℕ) (c : Card) → Below 8 s → card_of s ≡ sound c → Proper c × (image_of c ≡ s)
  -- A place is given for a break that is there, ..
  pub broken_there : (s : List ℕ) (at : ℕ) → Below 8 s → card_of s ≡ broken at → Break s at
  -- .. and every break is found, at its place.
  pub break_found : (s : List ℕ) (at : ℕ) → Break s at → card_of s ≡ broken at
  -- If the last field stops where the image stops and is no end, the image's own length is given; the empty image gives 0.
  pub no_end : (c : Card) → Proper c → card_of (front_of c) ≡ broken (length (front_of c))
  pub empty : card_of [] ≡ broken 0
  -- Over 32,768 bytes: 3, whatever stands in them.
  pub long : (s : List ℕ) (r : Result Counts Refusal) → most_bytes < length s → Checked s r → means r ≡ refuses 3
  -- A sound image gives its numbers of grids and of blocks, a broken one 4 with the place.
  pub sound_checked : (s : List ℕ) (c : Card) (r : Result Counts Refusal) → length s ≤ most_bytes → card_of s ≡ sound c → Checked s r
      → means r ≡ gives (record { grids = length (grids_in c.parts); blocks = length (blocks_in c.parts) })
  pub broken_checked : (s : List ℕ) (at : ℕ) (r : Result Counts Refusal) → length s ≤ most_bytes → card_of s ≡ broken at → Checked s r
      → means r ≡ refuses_at 4 at
  -- `image::title` gives the card's title.
  pub title_given : (s r : List ℕ) (c : Card) → card_of s ≡ sound c → TitleGiven s r → r ≡ c.title

-- No second outcome satisfies the statement of a call.
pub record OneOutcome : Type 0 where
  pub check : (s : List ℕ) (a b : Result Counts Refusal) → Checked s a → Checked s b → a ≡ b
  pub title : (s a b : List ℕ) → TitleGiven s a → TitleGiven s b → a ≡ b
