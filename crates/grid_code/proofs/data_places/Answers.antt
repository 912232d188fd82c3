-- `grid_code::data_places` meets its contract: both sides are linear, and agree at each data bit. Assumes nothing.
use Rattle.std.proofs.Common.{ap, ◌∙◌}
use Rattle.words.proofs.Linear.{Linear, same, ◌⊕◌, shl, mask, agree}
use Rattle.grid_code.specs.Code.{codeword}
use Rattle.grid_code.proofs.Codeword.{grids}
use Rattle.grid_code.proofs.data_places.Goals as goal

-- what the code computes
abbrev pairs : Linear
pairs = mask (same ⊕ shl same 8 32) 0x00FF_00FF

abbrev made : Linear
made = mask (pairs ⊕ shl pairs 4 32) 0x0F0F_0F0F

pub returns : goal.returns
unfolding codeword
returns c = record { answer = ap made.at c.from-v.ensures ∙ agree made (mask grids 0x0F0F_0F0F) 16 tt c.args.value c.ranges.value.fits }
