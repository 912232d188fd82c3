-- What is counted of three parts is the same whichever two are added up first. Assumes nothing.
use Rattle.std.specs.Prelude.{◌≡◌, ℕ, ◌+◌, ◌%◌, ◌^◌}
use Rattle.std.proofs.Common.{arith}
use Rattle.page.specs.declared.Tally.{Tally}
use Rattle.page.proofs.Last.{later_again}
use Rattle.value_scrub.specs.declared.Blocks.{Blocks}
use Rattle.value_scrub.specs.Steps.{added, added_blocks}

again : (a b c : ℕ) → (a + (b + c) % 2 ^ 32) % 2 ^ 32 ≡ ((a + b) % 2 ^ 32 + c) % 2 ^ 32
again a b c = omega arith

pub added_again : (a b c : Tally) → added a (added b c) ≡ added (added a b) c
added_again a b c = λ i. record {
  grids = again a.grids b.grids c.grids i;
  clean = again a.clean b.clean c.clean i;
  blank = again a.blank b.blank c.blank i;
  mended = again a.mended b.mended c.mended i;
  lost = again a.lost b.lost c.lost i;
  flips = again a.flips b.flips c.flips i;
  pattern = later_again a.pattern b.pattern c.pattern i;
}

pub added_blocks_again : (a b c : Blocks) → added_blocks a (added_blocks b c) ≡ added_blocks (added_blocks a b) c
added_blocks_again a b c = λ i. record {
  blocks = again a.blocks b.blocks c.blocks i;
  clean = again a.clean b.clean c.clean i;
  mended = again a.mended b.mended c.mended i;
  lost = again a.lost b.lost c.lost i;
  flips = again a.flips b.flips c.flips i;
}
