-- `block_sums::columns_of` meets its contract: both sides are linear, and agree at each place. Assumes nothing.
use Rattle.words.proofs.Linear.{Linear, same, ◌⊕◌, shr, mask, then, agree}
use Rattle.block_code.specs.Code.{stacked}
use Rattle.block_code.proofs.Stack.{stack}
use Rattle.block_sums.proofs.columns_of.Goals as goal

-- what the code computes
abbrev folded : Linear
folded = then (same ⊕ shr same 32) (same ⊕ shr same 16)

pub returns : goal.returns
unfolding stacked
returns c = agree (mask folded 0xFFFF) (stack 0 same 4) 64 tt c.args.x c.ranges.x.fits
