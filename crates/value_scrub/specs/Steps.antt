-- What the scrub of a value computes, so that the contracts can say it. No promise to a caller cites this file. Assumes nothing.
use Rattle.std.specs.Prelude.{◌≡◌, ℕ, ◌%◌, ◌^◌, List, [], ◌∷◌, map, length, eqb}
use Rattle.words.specs.Word.{choose}
use Rattle.words.specs.Digits.{digits, joined}
use Rattle.words.specs.Bytes.{words_in, bytes_of}
use Rattle.codes.specs.Verdict.{scrubbed}
use Rattle.grid_code.specs.Code.{code_of_grid}
use Rattle.page.specs.declared.Tally.{Tally}
use Rattle.page.specs.Tally.{grid_tally}
use Rattle.page.specs.Steps.{plus}
use Rattle.codes.specs.Steps.{plus as plus_counted}
use Rattle.block_code.specs.Code.{code_of_block}
use Rattle.fields.specs.Fields.{block_bytes, is_grids}
use Rattle.values.specs.Steps.{grids_of}
use Rattle.value_scrub.specs.declared.Blocks.{Blocks}
use Rattle.value_scrub.specs.Tally.{of_blocks, tally_in, block_tally}

-- ---- tallies

-- `value_scrub::no_blocks`: five zeros.
pub record NoBlocks (r : Blocks) : Type 0 where
  pub answer : r ≡ record { blocks = 0; clean = 0; mended = 0; lost = 0; flips = 0 }

-- a tally of grids in numbers of 32 bits, which start again from 0; the pattern stays
abbrev pub wrapped_grids : Tally → Tally
wrapped_grids t = record {
  grids = t.grids % 2 ^ 32;
  clean = t.clean % 2 ^ 32;
  blank = t.blank % 2 ^ 32;
  mended = t.mended % 2 ^ 32;
  lost = t.lost % 2 ^ 32;
  flips = t.flips % 2 ^ 32;
  pattern = t.pattern;
}

-- of grids that come in two parts, in numbers of 32 bits
abbrev pub added : Tally → Tally → Tally
added a b = wrapped_grids (plus a b)

-- `value_scrub::Count::plus` of tallies: two, added up.
pub record Added (a b r : Tally) : Type 0 where
  pub answer : r ≡ added a b

-- the same of blocks
abbrev pub wrapped_blocks : Blocks → Blocks
wrapped_blocks t = record {
  blocks = t.blocks % 2 ^ 32;
  clean = t.clean % 2 ^ 32;
  mended = t.mended % 2 ^ 32;
  lost = t.lost % 2 ^ 32;
  flips = t.flips % 2 ^ 32;
}

abbrev pub added_blocks : Blocks → Blocks → Blocks
added_blocks a b = wrapped_blocks (of_blocks (plus_counted (tally_in a) (tally_in b)))

-- ---- values

pub record ScrubbedGrids (value : List ℕ) (r : Tally) (exit : List ℕ) : Type 0 where
  pub answer : r ≡ grid_tally (grids_of value)
  pub after : exit ≡ bytes_of 8 (map (scrubbed code_of_grid) (grids_of value))

pub record ScrubbedBlock (value : List ℕ) (r : Blocks) (exit : List ℕ) : Type 0 where
  pub answer : r ≡ block_tally (joined 16 (words_in 2 38 value) ∷ [])
  pub after : exit ≡ bytes_of 2 (digits 16 38 (scrubbed code_of_block (joined 16 (words_in 2 38 value))))

-- `value_scrub::grids`: a value that can be that of a grids field, scrubbed and counted; any other stays as it is.
pub record AnyGrids (value : List ℕ) (r : Tally) (exit : List ℕ) : Type 0 where
  pub answer : r ≡ choose (is_grids (length value)) (grid_tally (grids_of value)) (grid_tally [])
  pub after : exit ≡ choose (is_grids (length value)) (bytes_of 8 (map (scrubbed code_of_grid) (grids_of value))) value

-- `value_scrub::block`: the same for the value of a block field.
pub record AnyBlock (value : List ℕ) (r : Blocks) (exit : List ℕ) : Type 0 where
  pub answer : r ≡ choose (eqb (length value) block_bytes) (block_tally (joined 16 (words_in 2 38 value) ∷ [])) (block_tally [])
  pub after : exit
      ≡ choose (eqb (length value) block_bytes) (bytes_of 2 (digits 16 38 (scrubbed code_of_block (joined 16 (words_in 2 38 value))))) value
