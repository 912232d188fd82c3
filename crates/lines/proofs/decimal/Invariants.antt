-- The digits so far are the last ones of the number, the last first, and those of the rest come before them. Assumes nothing.
use Rattle.std.proofs.Common.{◌≡◌, ◌++◌, reverse}
use Rattle.lines.specs.Text.{decimal}
use Rattle.lines.proofs.decimal.Given as goal

abbrev pub invariant-loop-rest : goal.invariant-loop-rest
invariant-loop-rest l = decimal l.rest ++ reverse l.digits.items ≡ decimal l.fn.n

abbrev pub decreases-loop-rest : goal.decreases-loop-rest
decreases-loop-rest l = l.rest
