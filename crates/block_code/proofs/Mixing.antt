-- Checks that are mixed, number by number, and whether none is set. Assumes nothing.
use mathlib.Core.Path.{◌≡◌, sym, ap, ◌∙◌}
use mathlib.Core.Logic.{◌≢◌}
use mathlib.Core.Bool.{true, false, ◌&&◌, true≢false, and-eq-true_iff}
use lib.Bits.{xor_self, xor_comm, xor_zero_r}
use lib.Dec.{eqb}
use borrow.Author.Tests.{eqb-true}
use Rattle.words.proofs.Xor.{eq_of_xor, xor_cancel_l}
use Rattle.block_code.specs.Checks.{no_checks, mixed, none_set}
use Rattle.block_code.specs.declared.Checks.{Checks}

pub mixed_self : (k : Checks) → mixed k k ≡ no_checks
mixed_self k = λ i. record { rows = xor_self k.rows i; columns = xor_self k.columns i; diagonals = xor_self k.diagonals i }

pub mixed_comm : (a b : Checks) → mixed a b ≡ mixed b a
mixed_comm a b = λ i. record {
  rows = xor_comm a.rows b.rows i;
  columns = xor_comm a.columns b.columns i;
  diagonals = xor_comm a.diagonals b.diagonals i;
}

pub mixed_back : (a b : Checks) → mixed a (mixed a b) ≡ b
mixed_back a b = λ i. record {
  rows = xor_cancel_l a.rows b.rows i;
  columns = xor_cancel_l a.columns b.columns i;
  diagonals = xor_cancel_l a.diagonals b.diagonals i;
}

pub mixed_none : (k : Checks) → mixed k no_checks ≡ k
mixed_none k = λ i. record { rows = xor_zero_r k.rows i; columns = xor_zero_r k.columns i; diagonals = xor_zero_r k.diagonals i }

pub eq_of_mixed : (a b : Checks) → mixed a b ≡ no_checks → a ≡ b
eq_of_mixed a b e =
    let r = eq_of_xor a.rows b.rows (ap (λ (k : Checks). k.rows) e) in
    let c = eq_of_xor a.columns b.columns (ap (λ (k : Checks). k.columns) e) in
    let d = eq_of_xor a.diagonals b.diagonals (ap (λ (k : Checks). k.diagonals) e) in
    λ i. record { rows = r i; columns = c i; diagonals = d i }

-- ---- whether none is set

pub none_set_lem : (k : Checks) → none_set k ≡ true → k ≡ no_checks
none_set_lem k e =
    let (both, d) = (and-eq-true_iff (eqb k.rows 0 && eqb k.columns 0) (eqb k.diagonals 0)).0 e in
    let (r, c) = (and-eq-true_iff (eqb k.rows 0) (eqb k.columns 0)).0 both in
    let rows = eqb-true k.rows 0 r in
    let columns = eqb-true k.columns 0 c in
    let diagonals = eqb-true k.diagonals 0 d in
    λ i. record { rows = rows i; columns = columns i; diagonals = diagonals i }

pub some_set : (k : Checks) → none_set k ≡ false → k ≢ no_checks
some_set k e z = true≢false (sym (ap none_set z) ∙ e)
