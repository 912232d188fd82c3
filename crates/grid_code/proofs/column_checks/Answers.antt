-- `grid_code::column_checks` meets its contract: the checks of rows 0 to 3 and of rows 4 to 7 add up. Assumes nothing.
use mathlib.Core.Path.{◌≡◌, sym, ap, ◌∙◌, subst}
use Prim.Native.Nat.{ℕ, ◌/◌, ◌^◌, ◌<◌}
use native.Mathlib.Omega.{arith}
use lib.Bits.{bit_and, bit_xor, and_le_r}
use borrow.Author.Rules.{rules}
use Rattle.words.proofs.Linear.{same, ◌⊕◌, shr, mask, then, agree}
use Rattle.grid_code.specs.Steps.{Checks}
use Rattle.grid_code.proofs.Checks.{checks, are_checks, checks_is}
use Rattle.grid_code.proofs.column_checks.Goals as goal

pub returns : goal.returns
returns c =
    let w : ℕ = c.args.w in
    let l : w < 2 ^ 64 = search rules in
    let e : c.lower.result ≡ checks.at (bit_and w 0xFFFF_FFFF) =
    checks_is (bit_and w 0xFFFF_FFFF) c.lower.result (omega (arith, and_le_r w 0xFFFF_FFFF)) c.lower.ensures in
    subst (Checks w)
    (sym (ap (λ (x : ℕ). bit_xor x (w / 2 ^ 32)) e ∙ agree (then (mask same 0xFFFF_FFFF) checks ⊕ shr same 32) checks 64 tt w l))
    (are_checks w l)
