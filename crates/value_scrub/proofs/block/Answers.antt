-- `value_scrub::block` meets its contract. Assumes nothing.
use Rattle.value_scrub.proofs.Scrubs.{other_block}
use Rattle.value_scrub.proofs.block.Goals as goal

pub returns-then-value-ne-BLOCK : goal.returns-then-value-ne-BLOCK
returns-then-value-ne-BLOCK c = other_block c.args.value.now c.no_blocks.result c.if-value-ne-BLOCK.true c.no_blocks.ensures
