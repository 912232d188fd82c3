-- What specs/Tally.antt says of the tally holds: grid by grid, and what is scrubbed is clean, blank or as lost as it was. Assumes nothing.
use mathlib.Core.Path.{◌≡◌, refl, sym, ◌∙◌, subst}
use mathlib.Core.Bool.{Bool, true, false}
use mathlib.Core.List.{List, [], ◌∷◌, ◌++◌, map}
use Prim.Native.Nat.{ℕ, ◌+◌, ◌*◌, ◌^◌, ◌≤◌, ◌<◌}
use native.Mathlib.Nat.{mul-le-mul_left}
use native.Mathlib.Omega.{arith}
use lib.Dec.{eqb}
use lib.ListN.{length, length-append, length-map}
use Rattle.words.specs.Word.{choose}
use Rattle.codes.specs.Verdict as codes
use Rattle.codes.specs.Verdict.{verdict, scrubbed}
use Rattle.codes.specs.Tally.{sum_by}
use Rattle.codes.proofs.Tally.{settles, few_flips, scrubbed-verdict, sum-map, sum_same, sum_two, sum_of_none, sum_bound, sum-append, none_flipped}
use Rattle.grid_code.specs.Code.{code_of_grid}
use Rattle.grid_code.specs.Verdict.{Verdict, clean, blank, mended, erased, named, grid_verdict, flips_of, is_clean, is_blank, is_mended, is_lost}
use Rattle.grid_code.proofs.Promises.{promised}
use Rattle.grid_code.proofs.Verdict.{one_kind, same-flips}
use Rattle.page.specs.Tally.{sum_grids, grid_tally, TallyPromises}
use Rattle.page.specs.Steps.{Small, plus}
use Rattle.page.proofs.Last.{last, some_last, no_last, last_two}

-- ---- one grid

pub seven_flips : (w : ℕ) → flips_of (grid_verdict w) ≤ 7
seven_flips w = omega (arith, same-flips (verdict code_of_grid w), few_flips code_of_grid promised.verdicts w)

-- what is scrubbed: clean and mended are clean, blank stays blank, lost is lost, and there are no flips
Settles : Verdict → Verdict → Type 0
Settles before after =
    (is_clean after ≡ is_clean before + is_mended before) × (is_blank after ≡ is_blank before) × (is_mended after ≡ 0)
    × (is_lost after ≡ is_lost before)
    × (flips_of after ≡ 0)

settled : (v : codes.Verdict) → Settles (named v) (named (settles v))
unfolding settles Settles
settled (codes.clean d) = go (eqb d erased)
  where
    go : (b : Bool) → Settles (choose b (blank 0) (clean d)) (choose b (blank 0) (clean d))
    go true = (refl, refl, refl, refl, refl)
    go false = (refl, refl, refl, refl, refl)
settled (codes.mended d n) = go (eqb d erased)
  where
    go : (b : Bool) → Settles (choose b (blank n) (mended d n)) (choose b (blank 0) (clean d))
    go true = (refl, refl, refl, refl, refl)
    go false = (refl, refl, refl, refl, refl)
settled codes.lost = (refl, refl, refl, refl, refl)

again_one : (w : ℕ) → Settles (grid_verdict w) (grid_verdict (scrubbed code_of_grid w))
again_one w =
    subst (λ v. Settles (grid_verdict w) (named v)) (sym (scrubbed-verdict code_of_grid promised.verdicts w).0) (settled (verdict code_of_grid w))

-- ---- of a page

sum_all : (page : List ℕ) → length page ≡ sum_grids is_clean page + sum_grids is_blank page + sum_grids is_mended page + sum_grids is_lost page
unfolding sum_by
sum_all [] = refl
sum_all (w ∷ ws) = omega (arith, one_kind (grid_verdict w), sum_all ws)

pub sum_flips : (page : List ℕ) → sum_grids flips_of page ≤ 7 * length page
sum_flips = sum_bound code_of_grid (λ v. flips_of (named v)) 7 seven_flips

-- f of what is scrubbed, by g of what was there
again_sum : (f g : Verdict → ℕ) → ((w : ℕ) → f (grid_verdict (scrubbed code_of_grid w)) ≡ g (grid_verdict w)) → (page : List ℕ)
    → sum_grids f (map (scrubbed code_of_grid) page) ≡ sum_grids g page
again_sum f g = sum-map code_of_grid (λ v. f (named v)) (λ v. g (named v)) (scrubbed code_of_grid)

again_none : (f : Verdict → ℕ) → ((w : ℕ) → f (grid_verdict (scrubbed code_of_grid w)) ≡ 0) → (page : List ℕ)
    → sum_grids f (map (scrubbed code_of_grid) page) ≡ 0
again_none f h page = again_sum f (λ v. 0) h page ∙ sum_of_none code_of_grid page

again_mended : (page : List ℕ) → sum_grids is_mended (map (scrubbed code_of_grid) page) ≡ 0
unfolding Settles
again_mended = again_none is_mended (λ w. (again_one w).2)

pub tallies : TallyPromises
unfolding Settles
tallies = record {
  all = sum_all;
  flips = sum_flips;
  again = λ page. record {
    grids = length-map page (scrubbed code_of_grid);
    clean_now =
        again_sum is_clean (λ v. is_clean v + is_mended v) (λ w. (again_one w).0) page
        ∙ sum_two code_of_grid (λ v. is_clean (named v)) (λ v. is_mended (named v)) (λ v. is_clean (named v) + is_mended (named v)) (λ v. refl) page;
    same_blank = again_sum is_blank is_blank (λ w. (again_one w).1) page;
    none_mended = again_mended page;
    same_lost = again_sum is_lost is_lost (λ w. (again_one w).3) page;
    no_flips = again_none flips_of (λ w. (again_one w).4) page;
    no_pattern = no_last (map (scrubbed code_of_grid) page) (again_mended page);
  };
  last = last;
  some_last = some_last;
  no_last = no_last;
}

-- grids without flips stay as they are
pub kept : (page : List ℕ) → sum_grids flips_of page ≡ 0 → map (scrubbed code_of_grid) page ≡ page
kept page z = none_flipped code_of_grid promised.verdicts page (sym (sum_same code_of_grid (λ v. flips_of (named v)) codes.flips_of same-flips page) ∙ z)

-- ---- two parts

pub tally_two : (a b : List ℕ) → grid_tally (a ++ b) ≡ plus (grid_tally a) (grid_tally b)
tally_two a b = λ i. record {
  grids = length-append a b i;
  clean = sum-append code_of_grid (λ v. is_clean (named v)) a b i;
  blank = sum-append code_of_grid (λ v. is_blank (named v)) a b i;
  mended = sum-append code_of_grid (λ v. is_mended (named v)) a b i;
  lost = sum-append code_of_grid (λ v. is_lost (named v)) a b i;
  flips = sum-append code_of_grid (λ v. flips_of (named v)) a b i;
  pattern = last_two a b i;
}

-- the sums are small where the parts are short
pub small_sum : (k : ℕ) (a b : List ℕ) → length a ≤ k → length b ≤ k → 7 * k + 7 * k < 2 ^ 32 → Small (plus (grid_tally a) (grid_tally b))
small_sum k a b p q few =
    let x = sum_all a in
    let y = sum_all b in
    record {
      grids = omega arith;
      clean = omega arith;
      blank = omega arith;
      mended = omega arith;
      lost = omega arith;
      flips = omega (arith, sum_flips a, sum_flips b, mul-le-mul_left 7 p, mul-le-mul_left 7 q);
    }
