-- The tags of the fields, and their bytes (docs/FORMAT.md, The card image). Assumes nothing.
use Rattle.std.specs.Prelude.{ℕ, eqb, Result, Ok, Err}
use Rattle.words.specs.Word.{choose}
use Rattle.fields.specs.declared.Tag.{Tag}
use Rattle.fields.specs.declared.Tag.TheVariants.{Title, Grids, Block, End}
use Rattle.fields.specs.declared.UnknownTag.{UnknownTag}

abbrev pub byte_of : Tag → ℕ
byte_of Title = 1
byte_of Grids = 2
byte_of Block = 3
byte_of End = 127

-- the tag of a byte, or that it is none
abbrev pub tag_of : ℕ → Result Tag UnknownTag
tag_of b =
    choose (eqb b 1) (Ok Title)
    (choose (eqb b 2) (Ok Grids) (choose (eqb b 3) (Ok Block) (choose (eqb b 127) (Ok End) (Err (record { 0 = b })))))
