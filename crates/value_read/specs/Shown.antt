-- What reading back gives for a grid (docs/FORMAT.md, Reading back). Assumes nothing.
use Rattle.std.specs.Prelude.{List, map, ℕ, ◌+◌}
use Rattle.grid_code.specs.Verdict.{Verdict, clean, blank, mended, lost, erased, grid_verdict}

-- The data of a verdict, 65,535 if blank and 0 if lost, ..
abbrev pub data_shown : Verdict → ℕ
data_shown (clean d) = d
data_shown (blank n) = erased
data_shown (mended d n) = d
data_shown lost = 0

-- .. and its flips, 0 if clean, 128 more if blank, and 255 if lost.
abbrev pub flips_shown : Verdict → ℕ
flips_shown (clean d) = 0
flips_shown (blank n) = n + 128
flips_shown (mended d n) = n
flips_shown lost = 255

-- of a grid, ..
abbrev pub data_of_grid : ℕ → ℕ
data_of_grid w = data_shown (grid_verdict w)

abbrev pub flips_of_grid : ℕ → ℕ
flips_of_grid w = flips_shown (grid_verdict w)

-- .. and of each grid of a list
abbrev pub data_of_grids : List ℕ → List ℕ
data_of_grids ws = map data_of_grid ws

abbrev pub flips_of_grids : List ℕ → List ℕ
flips_of_grids ws = map flips_of_grid ws
