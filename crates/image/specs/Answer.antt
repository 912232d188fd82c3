-- What the answer of a check says: values, or a refusal (docs/FORMAT.md, The refusals). Assumes nothing.
use Rattle.std.specs.Prelude.{Result}
use Rattle.refusals.specs.Reply.{Reply, reply}
use Rattle.image.specs.declared.Counts.{Counts}
use Rattle.refusals.specs.declared.Refusal.{Refusal}

abbrev pub means : Result Counts Refusal → Reply Counts
means r = reply r
