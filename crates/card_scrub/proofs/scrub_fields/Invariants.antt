-- Field after field. With what is left scrubbed, all is.
use Rattle.std.proofs.Common.{◌≡◌, ◌-◌, ◌≤◌, [], length, drop}
use Rattle.image.specs.Steps.{Walks}
use Rattle.card_scrub.specs.Calls.{tallies_of}
use Rattle.card_scrub.specs.Steps.{summed}
use Rattle.card_scrub.proofs.Turns.{Completes}
use Rattle.card_scrub.proofs.scrub_fields.Given as goal

abbrev pub invariant-loop-first : goal.invariant-loop-first
invariant-loop-first l =
    (l.at ≤ length l.initial.rest) × (length l.rest ≡ length l.initial.rest) × (summed l.tallies (tallies_of []) ≡ l.tallies)
    × Walks (drop l.at l.rest) × Completes l.initial.rest l.tallies l.at l.rest

abbrev pub decreases-loop-first : goal.decreases-loop-first
decreases-loop-first l = length l.initial.rest - l.at
