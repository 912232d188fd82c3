-- `card_write::none_erased` meets its contract. Assumes nothing.
use Rattle.std.proofs.Common.{ap, ◌∙◌, arith}
use mathlib.Core.Bool.{not}
use Rattle.std.proofs.Math.Seq.{take-length}
use Rattle.card_write.proofs.Writes.{not_found}
use Rattle.card_write.proofs.none_erased.Goals as goal

pub returns : goal.returns
returns c = ap not c.contains.ensures.value ∙ (grind (arith, take-length)) ∙ not_found c.args.numbers.now
