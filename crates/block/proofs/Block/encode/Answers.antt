-- `block::Block::encode` meets its contract. Assumes nothing.
use Rattle.std.proofs.Common.{arith}
use Rattle.block_code.proofs.Distance.{constants}
use Rattle.block.proofs.Outcomes.{encoded}
use Rattle.block.proofs.Block.encode.Goals as goal

pub returns-then-values-ne-VALUES-clause-constants :
    goal.returns-then-values-ne-VALUES-clause-constants
returns-then-values-ne-VALUES-clause-constants c = constants

pub returns-clause-encoded : goal.returns-clause-encoded
returns-clause-encoded c =
    encoded c.args.values.now c.args.words.now c.write.new.words (omega arith) (omega arith)
    (λ i. omega (arith, c.type_inv.values i)) c.write.ensures

pub returns-clause-constants : goal.returns-clause-constants
returns-clause-constants c = constants
