-- `block_flips::explains` meets its contract. Assumes nothing.
use Rattle.std.proofs.Common.{ap, ◌∙◌}
use Rattle.block_code.specs.Checks.{mixed, none_set}
use Rattle.block_flips.proofs.Search.{explained}
use Rattle.block_flips.proofs.explains.Goals as goal

pub returns : goal.returns
returns c =
    let rest = c.bitxor.ensures.answer ∙ ap (mixed c.args.s) c.of_place.ensures.answer in
    explained c.args.s c.args.place.index c.is_none.result c.args.place.below (c.is_none.ensures.answer ∙ ap none_set rest)
