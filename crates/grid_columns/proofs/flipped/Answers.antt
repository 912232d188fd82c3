-- `grid_columns::flipped` meets its contract: nothing is shifted out. Assumes nothing.
use mathlib.Core.Path.{ap, ◌∙◌}
use Prim.Native.Nat.{ℕ, ◌*◌, ◌%◌, ◌^◌}
use native.Mathlib.Nat.{mod-eq_of_lt}
use lib.Bits.{bit_xor}
use Rattle.grid_columns.proofs.Rows.{placed_lt}
use Rattle.grid_columns.proofs.flipped.Goals as goal

pub returns : goal.returns
returns c =
    let a = c.args in
    ap (λ (x : ℕ). bit_xor a.w (x * 2 ^ (8 * a.row.index) % 2 ^ 64)) c.from.ensures
    ∙ ap (bit_xor a.w) (mod-eq_of_lt (placed_lt a.row.index a.error a.row.below c.ranges.error.fits))
