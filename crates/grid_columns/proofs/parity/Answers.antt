-- `grid_columns::parity` meets its contract: both sides are linear, and agree at each place. Assumes nothing.
use Rattle.words.proofs.Linear.{Linear, same, ◌⊕◌, shr, mask, digit, total, agree}
use Rattle.grid_columns.proofs.parity.Goals as goal

-- what the code computes
abbrev halves : Linear
halves = same ⊕ shr same 32

abbrev quarters : Linear
quarters = halves ⊕ shr halves 16

pub returns : goal.returns
returns c = agree (mask (quarters ⊕ shr quarters 8) 255) (total 8 (digit 8 8)) 64 tt c.args.w c.ranges.w.fits
