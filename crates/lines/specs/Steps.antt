-- What the private steps of the call compute, so that their contracts can say it. No promise to a caller cites this file. Assumes nothing.
use Rattle.std.specs.Prelude.{◌≡◌, List, ◌++◌, ℕ, ◌+◌, ◌*◌, ◌≤◌, length}
use Rattle.arrayvec.specs.ArrayVec.{ArrayVec, array_vec_len}
use Rattle.card_scrub.specs.declared.Tallies.{Tallies}
use Rattle.lines.specs.Text.{title_line, grids_line, blocks_line}

-- the most digits of a number of 32 bits, and of one of 64
abbrev pub digits32 : ℕ
digits32 = 10

abbrev pub digits64 : ℕ
digits64 = 20

-- the room that is enough for a word with a number, ..
abbrev pub word_room : List ℕ → ℕ
word_room word = length word + digits32

-- .. for a line: the words, title or numbers, and the line end; ..
abbrev pub title_room : List ℕ → ℕ
title_room title = 6 + length title + 1

abbrev pub grids_room : ℕ
grids_room = 42 + 6 * digits32

abbrev pub blocks_room : ℕ
blocks_room = 36 + 5 * digits32

-- .. and for the place of a refusal, and its line
abbrev pub place_room : ℕ
place_room = 4 + digits64

abbrev pub refused_room : ℕ
refused_room = 8 + digits32 + place_room + 1

-- the three lines, of a title and the tallies of a scrub
abbrev pub lines_with : List ℕ → Tallies → List ℕ
lines_with title t = title_line title ++ grids_line t.grids ++ blocks_line t.blocks

-- bytes laid behind what stands in a text, at most so many
pub record Added (bytes : List ℕ) (most : ℕ) (old new : ArrayVec ℕ) : Type 0 where
  pub after : new.items ≡ old.items ++ bytes
  pub few : array_vec_len new ≤ array_vec_len old + most
