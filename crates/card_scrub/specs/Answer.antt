-- What the answer of a scrub says: values, or a refusal (docs/FORMAT.md, The refusals). Assumes nothing.
use Rattle.std.specs.Prelude.{Result}
use Rattle.refusals.specs.Reply.{Reply, reply}
use Rattle.card_scrub.specs.declared.Tallies.{Tallies}
use Rattle.refusals.specs.declared.Refusal.{Refusal}

abbrev pub means : Result Tallies Refusal → Reply Tallies
means r = reply r
