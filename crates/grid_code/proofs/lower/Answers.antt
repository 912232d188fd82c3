-- `grid_code::lower` meets its contract: both sides are linear, and agree at each place. Assumes nothing.
use mathlib.Core.Path.{sym, subst}
use Prim.Native.Nat.{ℕ, ◌^◌, ◌<◌}
use native.Mathlib.Omega.{arith}
use Rattle.words.proofs.Linear.{Linear, same, ◌⊕◌, shr, shl, mask, agree}
use Rattle.grid_code.specs.Steps.{Checks}
use Rattle.grid_code.proofs.Checks.{checks, are_checks}
use Rattle.grid_code.proofs.lower.Goals as goal

-- what the code computes
abbrev pairs : Linear
pairs = same ⊕ shl same 16 32 ⊕ shr same 16

abbrev mixed : Linear
mixed = pairs ⊕ (shl same 24 32 ⊕ mask (shl same 8 32) 0x00FF_0000 ⊕ mask (shr same 8) 0x0000_FF00 ⊕ shr same 24)

abbrev made : Linear
made = shl mixed 8 32 ⊕ shr mixed 24

pub returns : goal.returns
returns c =
    let rows : ℕ = c.args.rows in
    let l : rows < 2 ^ 32 = c.ranges.rows.fits in
    subst (Checks rows) (sym (agree made checks 32 tt rows l)) (are_checks rows (omega arith))
