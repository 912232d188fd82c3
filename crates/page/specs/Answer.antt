-- What the answer of a scrub says: values, or a refusal (docs/FORMAT.md, The refusals). Assumes nothing.
use Rattle.std.specs.Prelude.{Result}
use Rattle.refusals.specs.Reply.{Reply, reply}
use Rattle.refusals.specs.declared.Refusal.{Refusal}
use Rattle.page.specs.declared.Tally.{Tally}

abbrev pub means : Result Tally Refusal → Reply Tally
means r = reply r
