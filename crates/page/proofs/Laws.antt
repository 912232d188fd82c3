-- A turn of the scrub's loop, over plain values: one grid more is put right and counted. Assumes nothing.
use mathlib.Core.Path.{◌≡◌, sym, ap, ◌∙◌, subst}
use mathlib.Core.Logic.{◌≢◌}
use mathlib.Core.Bool.{true}
use mathlib.Core.List.{List}
use Prim.Native.Nat.{ℕ, ◌+◌, ◌^◌, ◌≤◌, ◌<◌}
use native.Mathlib.Omega.{arith}
use lib.ListN.{length, get_or, set, take}
use lib.Seq.{length-take-le}
use Rattle.words.specs.Digits.{digits, joined}
use Rattle.words.proofs.Digits.{joined-digits}
use Rattle.words.proofs.Lists.{partly, partly_at, partly_step}
use Rattle.codes.specs.Verdict as codes
use Rattle.codes.specs.Verdict.{verdict, scrubbed, pattern_of}
use Rattle.codes.proofs.Promises.{clean_word}
use Rattle.codes.proofs.Tally.{unflipped, sum_step}
use Rattle.grid_code.specs.Code.{code_of_grid}
use Rattle.grid_code.specs.Verdict.{Verdict, clean, blank, all_set, named, grid_verdict, flips_of, is_clean, is_blank, is_mended, is_lost}
use Rattle.grid_code.proofs.Promises as grid
use Rattle.grid_code.proofs.Verdict.{named_blank, named_clean, one_kind}
use Rattle.grid.specs.Calls.{Judged}
use Rattle.grid.proofs.Verdicts.{all_ones_is, other_is, judged_clean}
use Rattle.page.specs.Tally.{grid_tally}
use Rattle.page.specs.Steps.{counted, Roomy}
use Rattle.page.specs.declared.Tally.{Tally}
use Rattle.page.proofs.Last.{last_step}
use Rattle.page.proofs.Counts.{seven_flips, sum_flips, tallies}

-- ---- one grid

-- a codeword was read
module _ (w : ℕ) (rows : List ℕ) (l : w < 2 ^ 64) (e : rows ≡ digits 8 8 w) (j : Judged rows true) where
  code_clean : (d : ℕ) × (verdict code_of_grid w ≡ codes.clean d)
  code_clean =
      let (d, p) = judged_clean rows j in
      (d, sym (ap (verdict code_of_grid) (ap (joined 8) e ∙ joined-digits 8 8 w l)) ∙ p)

  -- a codeword stays as it is, ..
  pub codeword_kept : w ≡ scrubbed code_of_grid w
  codeword_kept = let (d, v) = code_clean in sym (unflipped code_of_grid (grid.promised).verdicts w (ap codes.flips_of v))

  -- .. all ones is blank, ..
  pub all_ones_blank : w ≡ all_set → grid_verdict w ≡ blank 0
  all_ones_blank is =
      let (d, v) = code_clean in
      let c = clean_word code_of_grid (grid.promised).verdicts w d v in
      ap named v ∙ named_blank d 0 (all_ones_is d c.0 (sym c.1 ∙ is))

  -- .. and any other counts as any clean one
  pub others_clean : w ≢ all_set → (d : ℕ) × (grid_verdict w ≡ clean d)
  others_clean ne =
      let (d, v) = code_clean in
      let c = clean_word code_of_grid (grid.promised).verdicts w d v in
      (d, ap named v ∙ named_clean d (other_is d w c.1 ne))

-- which data a clean grid has does not count
module _ (t : Tally) (v : Verdict) (d : ℕ) (is : v ≡ clean d) where
  pub clean_counts : (p : ℕ) → counted t (clean 0) 0 ≡ counted t v p
  clean_counts p = ap (λ u. counted t u p) (sym is)

  pub clean_roomy : Roomy t v → Roomy t (clean 0)
  clean_roomy r =
      let s : Roomy t (clean d) = subst (Roomy t) is r in
      record { grids = s.grids; clean = s.clean; blank = s.blank; mended = s.mended; lost = s.lost; flips = s.flips }

-- ---- a turn

module _ (page now : List ℕ) (i : ℕ) (t : Tally) (inside : i < length page) (few : length page ≤ 512)
    (so_far : now ≡ partly (scrubbed code_of_grid) i page) (counts : t ≡ grid_tally (take i page)) where
  read : get_or now i 0 ≡ get_or page i 0
  read = ap (λ (l : List ℕ). get_or l i 0) so_far ∙ partly_at (scrubbed code_of_grid) page i inside

  pub turn_page : (w : ℕ) → w ≡ scrubbed code_of_grid (get_or now i 0) → set now i w ≡ partly (scrubbed code_of_grid) (i + 1) page
  turn_page w e = rw (e, read, so_far) (partly_step (scrubbed code_of_grid) page i inside)

  pub turn_tally : counted t (grid_verdict (get_or now i 0)) (pattern_of code_of_grid (get_or now i 0)) ≡ grid_tally (take (i + 1) page)
  turn_tally =
      rw (counts, read)
      (simp (
        last_step page i inside,
        sum_step code_of_grid (λ v. is_clean (named v)) page i inside,
        sum_step code_of_grid (λ v. is_blank (named v)) page i inside,
        sum_step code_of_grid (λ v. is_mended (named v)) page i inside,
        sum_step code_of_grid (λ v. is_lost (named v)) page i inside,
        sum_step code_of_grid (λ v. flips_of (named v)) page i inside,
        length-take-le (i + 1) page (omega arith),
        length-take-le i page (omega arith),
      ))

  pub turn_roomy : Roomy t (grid_verdict (get_or now i 0))
  turn_roomy =
      rw (counts, read)
      (let u : Verdict = grid_verdict (get_or page i 0) in
      let n : length (take i page) ≡ i = length-take-le i page (omega arith) in
      let all = tallies.all (take i page) in
      record {
        grids = omega arith;
        clean = omega (arith, one_kind u, all);
        blank = omega (arith, one_kind u, all);
        mended = omega (arith, one_kind u, all);
        lost = omega (arith, one_kind u, all);
        flips = omega (arith, seven_flips (get_or page i 0), sum_flips (take i page));
      })
