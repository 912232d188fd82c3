-- What is counted of blocks, as a scrub of a card image answers it. Assumes nothing.
use Rattle.std.specs.Prelude.{ℕ, List}
use Rattle.codes.specs.Tally.{Tally, tally_of}
use Rattle.block_code.specs.Code.{code_of_block}
use Rattle.value_scrub.specs.declared.Blocks.{Blocks}

-- the five numbers, of blocks, ..
abbrev pub of_blocks : Tally → Blocks
of_blocks t = record { blocks = t.words; clean = t.clean; mended = t.mended; lost = t.lost; flips = t.flips }

-- .. and back
abbrev pub tally_in : Blocks → Tally
tally_in b = record { words = b.blocks; clean = b.clean; mended = b.mended; lost = b.lost; flips = b.flips }

abbrev pub block_tally : List ℕ → Blocks
block_tally ws = of_blocks (tally_of code_of_block ws)
