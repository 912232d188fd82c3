-- What the private steps of the call compute, so that their contracts can say it. No promise to a caller cites this file. Assumes nothing.
use Rattle.std.specs.Prelude.{◌≡◌, ℕ, ◌%◌, ◌^◌, ◌<◌, ◌≤◌, List, [], ◌++◌, map, length, take, drop, Option, Some, None}
use Rattle.codes.specs.Tally.{Tally as Counted}
use Rattle.codes.specs.Steps.{plus}
use Rattle.image.specs.Card.{Part, sound, walk, head, parts_bytes}
use Rattle.image.specs.Steps.{Walks}
use Rattle.value_scrub.specs.Tally.{of_blocks, tally_in}
use Rattle.value_scrub.specs.Steps.{added}
use Rattle.card_scrub.specs.declared.Tallies.{Tallies}
use Rattle.card_scrub.specs.declared.First.{First}
use Rattle.card_scrub.specs.Calls.{scrubbed_part, tallies_of}

-- a tally of blocks in numbers of 32 bits, which start again from 0
abbrev pub wrapped : Counted → Counted
wrapped t = record {
  words = t.words % 2 ^ 32;
  clean = t.clean % 2 ^ 32;
  mended = t.mended % 2 ^ 32;
  lost = t.lost % 2 ^ 32;
  flips = t.flips % 2 ^ 32;
}

-- both tallies of two parts, in numbers of 32 bits
abbrev pub summed : Tallies → Tallies → Tallies
summed a b = record {
  grids = added a.grids b.grids;
  blocks = of_blocks (wrapped (plus (tally_in a.blocks) (tally_in b.blocks)));
}

-- the fields behind a title
pub record ScrubbedFields (rest : List ℕ) (r : Tallies) (exit : List ℕ) : Type 0 where
  pub answer : (left at : ℕ) (ps : List Part) → walk left at rest ≡ sound ps → r ≡ tallies_of ps
  pub after : (left at : ℕ) (ps : List Part) → walk left at rest ≡ sound ps → exit ≡ parts_bytes (map scrubbed_part ps) ++ head 127 0

-- A data field of `size` bytes in front: with the fields behind it scrubbed, all are. These are as they were.
pub record Passed (rest : List ℕ) (size : ℕ) (here : Tallies) (exit : List ℕ) : Type 0 where
  pub some : 0 < size
  pub room : size ≤ length rest
  pub walks : Walks (drop size rest)
  pub long : length exit ≡ length rest
  pub behind : drop size exit ≡ drop size rest
  pub completes : (there : Tallies) (e : List ℕ) → ScrubbedFields (drop size rest) there e
      → ScrubbedFields rest (summed here there) (take size exit ++ e)

-- the field in front: a data field, or the end, and then nothing is left
abbrev pub ScrubbedFirst : List ℕ → Option First → List ℕ → Type 0
ScrubbedFirst rest (Some first) exit = Passed rest first.size first.here exit
ScrubbedFirst rest None exit = ScrubbedFields rest (tallies_of []) exit
