-- The grid's code: the one solution of the equations for each data value, computed. Assumes nothing.
use Rattle.std.specs.Prelude.{List, [], ◌∷◌, ℕ, ◌^◌}
use Rattle.words.specs.Word.{bit, combined}
use Rattle.codes.specs.Verdict.{Code}

-- the grids of the sixteen data bits, each alone
abbrev pub grids_of_bits : List ℕ
grids_of_bits =
    0xB100_B1B1_0000_00B1 ∷ 0xD200_D2D2_0000_00D2 ∷ 0x7400_7474_0000_0074 ∷ 0xE800_E8E8_0000_00E8
    ∷ 0xB1B1_00B1_0000_B100 ∷ 0xD2D2_00D2_0000_D200 ∷ 0x7474_0074_0000_7400 ∷ 0xE8E8_00E8_0000_E800
    ∷ 0xB1B1_B100_00B1_0000 ∷ 0xD2D2_D200_00D2_0000 ∷ 0x7474_7400_0074_0000 ∷ 0xE8E8_E800_00E8_0000
    ∷ 0x00B1_B1B1_B100_0000 ∷ 0x00D2_D2D2_D200_0000 ∷ 0x0074_7474_7400_0000 ∷ 0x00E8_E8E8_E800_0000 ∷ []

-- The grid of the data d: those of its set bits, combined by exclusive or. What it is, specs/Equations.antt says: this is the one solution
-- (specs/Promises.antt, `meets` and `one_solution`).
unfoldable pub codeword : ℕ → ℕ
codeword d = combined grids_of_bits (bit d)

abbrev pub code_of_grid : Code
code_of_grid = record { values = 2 ^ 16; encode = codeword; places = 64; radius = 7 }
