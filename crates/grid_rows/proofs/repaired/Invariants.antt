-- Row after row, each as tested over all 256 rows.
use Rattle.std.proofs.Common.{◌≡◌}
use Rattle.words.proofs.Lists.{partly}
use Rattle.grid_rows.specs.Repair.{fixed}
use Rattle.grid_rows.proofs.repaired.Given as goal

abbrev pub invariant-loop-r : goal.invariant-loop-r
invariant-loop-r l = l.copy ≡ partly fixed l.r l.rows
