-- A field of a card image, and its rules (docs/FORMAT.md, The card image). `rest` is the image from the field's own offset on. Assumes
-- nothing.
use Rattle.std.specs.Prelude.{Bool, ◌&&◌, List, [], ◌∷◌, ℕ, suc, ◌+◌, ◌*◌, ◌%◌, leb, eqb, not, position, length, get_or, take, drop, Option, Some, None}
use Rattle.words.specs.Word.{choose}
use Rattle.fields.specs.declared.Field.{Field}
use Rattle.fields.specs.declared.Field.TheVariants.{Title, Grids, Block, End}

-- the bytes of a tag and a length, ..
abbrev pub head_bytes : ℕ
head_bytes = 3

-- .. of a title, ..
abbrev pub title_least : ℕ
title_least = 1

abbrev pub title_most : ℕ
title_most = 24

-- .. of grids at most, and of a block
abbrev pub grids_most : ℕ
grids_most = 4096

abbrev pub block_bytes : ℕ
block_bytes = 76

-- one tag byte, two length bytes (high byte first), then the value
abbrev pub tag : List ℕ → ℕ
tag rest = get_or rest 0 0

abbrev pub size : List ℕ → ℕ
size rest = get_or rest 1 0 * 256 + get_or rest 2 0

abbrev pub value : List ℕ → List ℕ
value rest = take (size rest) (drop head_bytes rest)

-- what stands behind the field
abbrev pub behind : List ℕ → List ℕ
behind rest = drop (head_bytes + size rest) rest

-- a byte of a title is 20 to 7E hex
abbrev pub title_byte : ℕ → Bool
title_byte b = leb 32 b && leb b 126

-- the place of the first bad title byte, counted from 0; the length where there is none
unfoldable pub first_bad : List ℕ → ℕ
first_bad [] = 0
first_bad (b ∷ bytes) = choose (title_byte b) (suc (first_bad bytes)) 0

-- .. and that place, where there is one
abbrev pub bad_byte : List ℕ → Option ℕ
bad_byte bytes = position (λ b. not (title_byte b)) bytes

-- 01 title: 1 to 24 bytes, each 20 to 7E hex.
abbrev pub title_length : ℕ → Bool
title_length n = leb title_least n && leb n title_most

abbrev pub is_title : List ℕ → Bool
is_title bytes = title_length (length bytes) && eqb (first_bad bytes) (length bytes)

-- 02 grids: a length of 0 to 4,096, a multiple of 8.
abbrev pub is_grids : ℕ → Bool
is_grids n = leb n grids_most && eqb (n % 8) 0

-- 03 block: length 76. 7F end: length 0. No other tag is known.
abbrev pub other_field : ℕ → ℕ → Option Field
other_field t n =
    choose (eqb t 2) (choose (is_grids n) (Some (Grids n)) None)
    (choose (eqb t 3) (choose (eqb n block_bytes) (Some Block) None) (choose (eqb t 127) (choose (eqb n 0) (Some End) None) None))

-- the field of a tag and a value
abbrev pub of_tag : ℕ → List ℕ → Option Field
of_tag t bytes = choose (eqb t 1) (choose (is_title bytes) (Some (Title (length bytes))) None) (other_field t (length bytes))

-- The field at the front of `rest`, or none where a rule fails: under three bytes left, value past the end, unknown tag, wrong length, bad
-- title byte.
unfoldable pub field_of : List ℕ → Option Field
field_of rest = choose (leb (head_bytes + size rest) (length rest)) (of_tag (tag rest) (value rest)) None
