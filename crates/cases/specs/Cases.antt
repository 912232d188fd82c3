-- The worked numbers of docs/FORMAT.md: one list, one claim (`cases_hold`). Assumes nothing.
use Rattle.std.specs.Prelude.{◌≡◌, List, [], ◌∷◌, ℕ, ◌+◌, ◌*◌, ◌^◌}
use Rattle.codes.specs.Verdict as codes
use Rattle.codes.specs.Verdict.{off, IsVerdict, pattern_of}
use Rattle.grid_code.specs.Equations as grid
use Rattle.grid_code.specs.Code.{code_of_grid}
use Rattle.grid_code.specs.Verdict.{Verdict, clean, blank, mended, lost, IsGridVerdict}
use Rattle.block_code.specs.Equations as block
use Rattle.block_code.specs.Code.{code_of_block}

-- of_grid d g: the grid of the data d is g, and it is clean. solves d g: g is the codeword of d. read w v p: the verdict on the grid w is v,
-- and the pattern of the flips is p. distant w d n: the grid w is n places from the codeword of d. of_block d w: the block of the data d is
-- w, and it is clean.
pub data Case : Type 0 where
  of_grid : ℕ → ℕ → Case
  solves : ℕ → ℕ → Case
  read : ℕ → Verdict → ℕ → Case
  distant : ℕ → ℕ → ℕ → Case
  of_block : ℕ → ℕ → Case

-- a block, or data, in which word i is x and the others are 0; they are added up
abbrev pub word : ℕ → ℕ → ℕ
word i x = x * 2 ^ (16 * i)

abbrev pub cases : List Case
cases =
    of_grid 0 0
    ∷ of_grid 1 0xB100_B1B1_0000_00B1
    ∷ of_grid 8 0xE800_E8E8_0000_00E8
    ∷ of_grid 4096 0x00B1_B1B1_B100_0000
    ∷ of_grid 15 0xFF00_FFFF_0000_00FF
    -- all ones is an erased grid
    ∷ solves 65535 0xFFFF_FFFF_FFFF_FFFF
    ∷ read 0xFFFF_FFFF_FFFF_FFFF (blank 0) 0
    ∷ read 0xFFFF_FFFF_FFFF_FFFE (blank 1) 1
    ∷ read 0x0000_00B0_0000_00B1 (mended 0 7) 0x0000_00B0_0000_00B1
    ∷ read 0x0000_00B1_0000_00B1 lost 0
    ∷ distant 0x0000_00B1_0000_00B1 0 8
    ∷ distant 0x0000_00B1_0000_00B1 1 8
    ∷ read 0x0000_01B1_0000_00B1 (mended 1 7) 0xB100_B000_0000_0000
    -- row 0, column 0 only: words 0, 32, 34, 35 are 1, word 37 is 8000
    ∷ of_block (word 0 1) (word 0 1 + word 32 1 + word 34 1 + word 35 1 + word 37 0x8000)
    -- row 31, column 15 only: words 31, 33, 34 are 8000, word 37 is C000
    ∷ of_block (word 31 0x8000) (word 31 0x8000 + word 33 0x8000 + word 34 0x8000 + word 37 0xC000)
    -- data words 6, 5, 3, then zeros: all six check words are 0
    ∷ of_block (word 0 6 + word 1 5 + word 2 3) (word 0 6 + word 1 5 + word 2 3)
    ∷ []

-- what a case says, by the definitions
abbrev pub Says : Case → Type 0
Says (of_grid d g) = grid.Codeword d g × IsGridVerdict g (clean d)
Says (solves d g) = grid.Codeword d g
Says (read w v p) = IsGridVerdict w v × (pattern_of code_of_grid w ≡ p)
Says (distant w d n) = off code_of_grid w d ≡ n
Says (of_block d w) = block.Codeword d w × IsVerdict code_of_block w (codes.clean d)

-- the claim: each says what is so
abbrev pub Hold : List Case → Type 0
Hold [] = Unit {0}
Hold (c ∷ cs) = Says c × Hold cs
