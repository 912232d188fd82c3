-- There are two trials at most, since the second sets aside all that the next one could.
use Rattle.std.proofs.Common.{◌≡◌, ◌⊎◌, ◌-◌}
use Rattle.grid_trials.specs.Steps.{Repaired}
use Rattle.grid_trials.proofs.Decoder.{Stage}
use Rattle.grid_trials.proofs.trials.Given as goal

abbrev pub invariant-loop-marks : goal.invariant-loop-marks
invariant-loop-marks l =
    ((l.made ≡ 1) ⊎ ((l.made ≡ 2) × (l.aside ≡ l.marks.any))) × (Repaired l.word l.rows → Stage l.word l.marks.any l.made l.aside)

abbrev pub decreases-loop-marks : goal.decreases-loop-marks
decreases-loop-marks l = 2 - l.made
