use Rattle.std.proofs.Common.{◌≡◌, ℕ, ◌<◌, Some, slice_get}
use Rattle.block_flips.specs.Steps.{RuledOut}
use Rattle.block_flips.specs.declared.Place.{Place}
use Rattle.block_flips.proofs.nearest.Given as goal

-- the guesses so far are ruled out
abbrev pub invariant-loop-p : goal.invariant-loop-p
invariant-loop-p l = (m : ℕ) (p : Place) → m < l.p-index → slice_get l.p-items m ≡ Some p → RuledOut l.s p.index
