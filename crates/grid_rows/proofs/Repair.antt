-- The repair of a row, tested over all 256 rows: it gives a row of the row code, at most two flips away. Assumes nothing.
use mathlib.Core.Path.{◌≡◌, refl, sym, ap, ◌∙◌, subst}
use mathlib.Core.List.{List, map}
use Prim.Native.Nat.{ℕ, ◌^◌, ◌<◌}
use lib.Count.{ones}
use lib.Dec.{ltb, ltb→lt, leb, leb→le}
use lib.ListN.{get_or, get_or-map}
use Rattle.words.specs.Digits.{Below}
use Rattle.words.specs.Word.{bit, dist, combined}
use Rattle.words.proofs.Test.{at_below, same_below}
use Rattle.codes.specs.Trials.{Repair}
use Rattle.grid_code.specs.Sides.{row_entries, sides}
use Rattle.grid_rows.specs.Repair.{fixed}

pub repair : Repair sides fixed
unfolding fixed dist ones
repair = record {
  fits = λ x h. ltb→lt (fixed x) 256 (at_below 256 (λ x. ltb (fixed x) 256) tt x h);
  row = λ x h. same_below 256 (λ x. combined row_entries (bit (fixed x))) (λ x. 0) tt x h;
  near = λ x h. leb→le (dist x (fixed x)) 2 (at_below 256 (λ x. leb (dist x (fixed x)) 2) tt x h);
}

-- ---- of all rows

fixed_zero : fixed 0 ≡ 0
unfolding fixed
fixed_zero = refl

pub repaired-row : (rows : List ℕ) (r : ℕ) → get_or (map fixed rows) r 0 ≡ fixed (get_or rows r 0)
repaired-row rows r = ap (get_or (map fixed rows) r) (sym fixed_zero) ∙ get_or-map fixed rows r 0

pub repaired_below : (rows : List ℕ) → Below 8 rows → Below 8 (map fixed rows)
repaired_below rows h r = subst (λ (x : ℕ). x < 2 ^ 8) (sym (repaired-row rows r)) (repair.fits (get_or rows r 0) (h r))
