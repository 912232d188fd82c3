-- Place after place.
use Rattle.std.proofs.Common.{◌≡◌, take}
use Rattle.words.specs.Bytes.{laid}
use Rattle.values.proofs.copy.Given as goal

abbrev pub invariant-loop-i : goal.invariant-loop-i
invariant-loop-i l = l.to ≡ laid (take l.i l.bytes) l.initial.to
