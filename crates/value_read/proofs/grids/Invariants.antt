-- Grid after grid.
use Rattle.std.proofs.Common.{◌≡◌, map, take}
use Rattle.words.specs.Bytes.{laid}
use Rattle.values.specs.Steps.{grids_of}
use Rattle.value_read.specs.Shown.{data_of_grid, flips_of_grid}
use Rattle.value_read.proofs.grids.Given as goal

abbrev pub invariant-loop-i : goal.invariant-loop-i
invariant-loop-i l =
    (l.numbers ≡ laid (take l.i (map data_of_grid (grids_of l.value))) l.initial.numbers)
    × (l.flips ≡ laid (take l.i (map flips_of_grid (grids_of l.value))) l.initial.flips)
