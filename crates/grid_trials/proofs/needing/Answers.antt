-- `grid_trials::needing` meets its contract: no row carries into the next. Assumes nothing.
use Prim.Native.Nat.{ℕ, ◌^◌, ◌≤◌, ◌<◌}
use native.Mathlib.Omega.{arith}
use lib.Bits.{bit_and, and_le_r}
use Rattle.grid_trials.proofs.Aside.{all_others, needed}
use Rattle.grid_trials.proofs.needing.Goals as goal

-- the sum stays in the word
sum_fits : (w : ℕ) (l : w < 2 ^ 64) → all_others w l < 2 ^ 64
sum_fits w l = let a : bit_and w 0x7F7F_7F7F_7F7F_7F7F ≤ 0x7F7F_7F7F_7F7F_7F7F = and_le_r w 0x7F7F_7F7F_7F7F_7F7F in omega arith

pub overflow_add-others : goal.overflow_add-others
overflow_add-others c = record { fits = sum_fits c.args.flips c.ranges.flips.fits }

pub returns : goal.returns
returns c = needed c.args.flips c.ranges.flips.fits (sum_fits c.args.flips c.ranges.flips.fits)
