-- Page after page. What was passed is scrubbed, and the rest is as it was.
use Rattle.std.proofs.Common.{◌≡◌, ◌*◌, length, take, drop}
use Rattle.value_scrub.specs.Steps.{ScrubbedGrids}
use Rattle.value_scrub.proofs.by_pages.Given as goal

abbrev pub invariant-loop-k : goal.invariant-loop-k
invariant-loop-k l =
    (length l.value ≡ length l.initial.value) × ScrubbedGrids (take (512 * l.k) l.initial.value) l.tally (take (512 * l.k) l.value)
    × (drop (512 * l.k) l.value ≡ drop (512 * l.k) l.initial.value)
