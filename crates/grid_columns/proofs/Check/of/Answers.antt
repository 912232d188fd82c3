-- `grid_columns::Check::of` meets its contract: both sides are linear, and agree at each place. Assumes nothing.
use Prim.Native.Nat.{ℕ, ◌*◌, ◌^◌}
use lib.Dec.{eqb}
use Rattle.words.proofs.Linear.{Linear, same, shr, mask, digit, agree}
use Rattle.words.proofs.Test.{all_below, at_below}
use Rattle.grid_columns.proofs.Check.of.Goals as goal

-- what the code computes
made : ℕ → Linear
made k = mask (shr same (8 * k)) 255

pub returns : goal.returns
unfolding made
returns c =
    agree (made c.args.self.index) (digit 8 4 c.args.self.index) 32
    (at_below 4 (λ k. all_below 32 (λ i. eqb ((made k).at (2 ^ i)) ((digit 8 4 k).at (2 ^ i)))) tt c.args.self.index c.args.self.below)
    c.args.checks c.ranges.checks.fits
