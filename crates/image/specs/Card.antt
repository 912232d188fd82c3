-- What a card image holds, and where it is broken. Assumes nothing.
use Rattle.std.specs.Prelude.{List, [], ◌∷◌, ◌++◌, ℕ, zero, suc, ◌+◌, ◌*◌, ◌/◌, ◌%◌, eqb, length, Option, Some, None}
use Rattle.words.specs.Word.{choose}
use Rattle.words.specs.Digits.{digits, joined}
use Rattle.words.specs.Bytes.{words_in, bytes_of}
use Rattle.fields.specs.declared.Field.{Field}
use Rattle.fields.specs.declared.Field.TheVariants.{Title, Grids, Block, End}
use Rattle.fields.specs.Fields.{head_bytes, block_bytes, value, behind, field_of}

-- the longest image, and the most data fields
abbrev pub most_bytes : ℕ
most_bytes = 32768

abbrev pub data_fields : ℕ
data_fields = 16

-- a data field: the grids as 64-bit numbers, or a block as one of 608 bits
pub data Part : Type 0 where
  grids : List ℕ → Part
  block : ℕ → Part

pub record Card : Type 0 where
  pub title : List ℕ
  pub parts : List Part

-- all grids, over all grids fields in order, and all blocks
abbrev pub grids_in : List Part → List ℕ
grids_in [] = []
grids_in (grids ws ∷ ps) = ws ++ grids_in ps
grids_in (block w ∷ ps) = grids_in ps

abbrev pub blocks_in : List Part → List ℕ
blocks_in [] = []
blocks_in (grids ws ∷ ps) = blocks_in ps
blocks_in (block w ∷ ps) = w ∷ blocks_in ps

-- ---- reading: what is found, or the place at which a rule fails

pub data Found (A : Type 0) : Type 0 where
  sound : A → Found A
  broken : ℕ → Found A

-- each grid is rows 0 to 7; a block's words in order, low byte first
abbrev pub grids_at : ℕ → List ℕ → Part
grids_at n bytes = grids (words_in 8 (n / 8) bytes)

abbrev pub block_at : List ℕ → Part
block_at bytes = block (joined 16 (words_in 2 38 bytes))

-- a data field, with what is found behind it
abbrev pub before : Part → Found (List Part) → Found (List Part)
before p (sound ps) = sound (p ∷ ps)
before p (broken at) = broken at

-- What stands from the offset `at` on; `go` is what is found behind a data field. The end is the last field, and bytes behind it give the
-- offset of the first of them. A second title breaks the image, as does any field at which a rule fails.
abbrev pub follow : (ℕ → List ℕ → Found (List Part)) → ℕ → List ℕ → Option Field → Found (List Part)
follow go at rest (Some (Grids n)) = before (grids_at n (value rest)) (go (at + (head_bytes + n)) (behind rest))
follow go at rest (Some Block) = before (block_at (value rest)) (go (at + (head_bytes + block_bytes)) (behind rest))
follow go at rest (Some End) = choose (eqb (length rest) head_bytes) (sound []) (broken (at + head_bytes))
follow go at rest (Some (Title n)) = broken at
follow go at rest None = broken at

-- The fields behind the title, from the offset `at` on, where `left` data fields may still come: one more breaks the image at its own
-- offset. If the last field stops where the image stops and is no end, no field is left to find, and the image's own length is given.
unfoldable pub walk : ℕ → ℕ → List ℕ → Found (List Part)
walk zero at rest = follow (λ next bytes. broken at) at rest (field_of rest)
walk (suc left) at rest = follow (walk left) at rest (field_of rest)

abbrev pub under_title : List ℕ → Found (List Part) → Found Card
under_title title (sound ps) = sound (record { title = title; parts = ps })
under_title title (broken at) = broken at

-- The title comes first; then at most 16 data fields.
abbrev pub titled : List ℕ → Option Field → Found Card
titled image (Some (Title n)) = under_title (value image) (walk data_fields (head_bytes + n) (behind image))
titled image (Some (Grids n)) = broken 0
titled image (Some Block) = broken 0
titled image (Some End) = broken 0
titled image None = broken 0

unfoldable pub card_of : List ℕ → Found Card
card_of image = titled image (field_of image)

-- ---- the image of a card (specs/Promises.antt, `there_and_back` and `back_and_there`)

-- a tag and a length, high byte first
abbrev pub head : ℕ → ℕ → List ℕ
head t n = t ∷ n / 256 ∷ n % 256 ∷ []

unfoldable pub part_bytes : Part → List ℕ
part_bytes (grids ws) = head 2 (8 * length ws) ++ bytes_of 8 ws
part_bytes (block w) = head 3 block_bytes ++ bytes_of 2 (digits 16 38 w)

unfoldable pub parts_bytes : List Part → List ℕ
parts_bytes [] = []
parts_bytes (p ∷ ps) = part_bytes p ++ parts_bytes ps

-- all but the end, ..
unfoldable pub front_of : Card → List ℕ
front_of c = head 1 (length c.title) ++ c.title ++ parts_bytes c.parts

-- .. and all
unfoldable pub image_of : Card → List ℕ
image_of c = front_of c ++ head 127 0
