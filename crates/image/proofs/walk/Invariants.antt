-- `image::walk`: from each field on the same is found, and each step goes further. Assumes nothing.
use Rattle.std.proofs.Common.{◌≡◌, ◌-◌, length, drop}
use Rattle.image.specs.Card.{data_fields, walk}
use Rattle.image.specs.Steps.{found_after, found_from, Inside}
use Rattle.image.proofs.walk.Given as goal

abbrev pub invariant-loop-behind : goal.invariant-loop-behind
invariant-loop-behind l =
    Inside l.image l.p × (found_from l.image l.p ≡ found_after 0 0 (walk data_fields l.from (drop l.from l.image)))

abbrev pub decreases-loop-behind : goal.decreases-loop-behind
decreases-loop-behind l = length l.image - l.p.at
