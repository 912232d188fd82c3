-- What the answer of reading back says: values, or a refusal (docs/FORMAT.md, The refusals). Assumes nothing.
use Rattle.std.specs.Prelude.{Result}
use Rattle.refusals.specs.Reply.{Reply, reply}
use Rattle.card_read.specs.declared.Lengths.{Lengths}
use Rattle.refusals.specs.declared.Refusal.{Refusal}

abbrev pub means : Result Lengths Refusal → Reply Lengths
means r = reply r
