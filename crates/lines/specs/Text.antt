-- What is printed of a scrub: three lines, or the one line of a refusal (docs/FORMAT.md, The bench). Assumes nothing.
use Rattle.std.specs.Prelude.{List, [], ◌∷◌, ◌++◌, ℕ, zero, suc, ◌+◌, ◌/◌, ◌%◌, ltb, None, Option, Some}
use Prim.Native.Char.{code}
use Prim.Native.String as string
use Prim.Native.String.{String}
use Rattle.words.specs.Word.{choose}
use Rattle.refusals.specs.declared.Refusal.{Refusal}
use Rattle.refusals.specs.Reply.{numbered, number_of, place_of}
use Rattle.page.specs.declared.Tally.{Tally}
use Rattle.page.specs.Tally.{grid_tally}
use Rattle.value_scrub.specs.declared.Blocks.{Blocks}
use Rattle.value_scrub.specs.Tally.{block_tally}
use Rattle.image.specs.Card.{Card, grids_in, blocks_in}
use Rattle.image.specs.Calls.{checked_as}

-- the bytes of a text, each of which is ASCII
abbrev pub bytes : String → List ℕ
bytes string.[] = []
bytes (string.◌∷◌ c cs) = code c ∷ bytes cs

-- the byte of a digit, from `0` on
abbrev pub digit : ℕ → ℕ
digit d = 48 + d

-- the digits of a number, the most significant first, where k of them are enough
abbrev pub decimal_in : ℕ → ℕ → List ℕ
decimal_in zero n = []
decimal_in (suc k) n = choose (ltb n 10) [] (decimal_in k (n / 10)) ++ (digit (n % 10) ∷ [])

-- a number in decimal: n + 1 digits are always enough (specs/Promises.antt says which there are)
unfoldable pub decimal : ℕ → List ℕ
decimal n = decimal_in (suc n) n

-- a word, and a number behind it
unfoldable pub labelled : String → ℕ → List ℕ
labelled word n = bytes word ++ decimal n

-- ---- the lines

unfoldable pub title_line : List ℕ → List ℕ
title_line title = bytes "title " ++ title ++ bytes "\n"

unfoldable pub grids_line : Tally → List ℕ
grids_line t =
    labelled "grids " t.grids
    ++ labelled " clean " t.clean
    ++ labelled " blank " t.blank
    ++ labelled " mended " t.mended
    ++ labelled " lost " t.lost
    ++ labelled " flips " t.flips
    ++ bytes "\n"

unfoldable pub blocks_line : Blocks → List ℕ
blocks_line t =
    labelled "blocks " t.blocks
    ++ labelled " clean " t.clean
    ++ labelled " mended " t.mended
    ++ labelled " lost " t.lost
    ++ labelled " flips " t.flips
    ++ bytes "\n"

-- the place of a refusal, if there is one
abbrev pub place_text : Option ℕ → List ℕ
place_text (Some n) = labelled " at " n
place_text None = []

unfoldable pub refused_line : Refusal → List ℕ
refused_line why = labelled "refused " (number_of (numbered why)) ++ place_text (place_of (numbered why)) ++ bytes "\n"

-- of a sound image the title and both tallies, of any other the refusal
abbrev pub card_lines : Card → List ℕ
card_lines c = title_line c.title ++ grids_line (grid_tally (grids_in c.parts)) ++ blocks_line (block_tally (blocks_in c.parts))

abbrev pub lines_of : List ℕ → List ℕ
lines_of image = checked_as image refused_line card_lines
