-- The pattern that a scrub passes on: that of the last mended grid, also where the grids come in two parts. Assumes nothing.
use mathlib.Core.Path.{◌≡◌, refl, sym, ap, ◌∙◌}
use mathlib.Core.Logic.{◌≢◌, ◌⊎◌, inl, inr}
use mathlib.Core.List.{List, [], ◌∷◌, ◌++◌}
use Prim.Native.Nat.{ℕ, zero, suc, ◌+◌, ◌<◌}
use native.Mathlib.Decide.{ℕ_discrete, dec_lt}
use native.Mathlib.Numerals.{add-one}
use native.Mathlib.Omega.{arith}
use lib.ListN.{length, get_or, take}
use lib.Seq.{take-suc}
use borrow.Author.Tests.{eq-eqb, ne_eqb}
use Rattle.codes.specs.Verdict.{verdict, pattern_of}
use Rattle.codes.specs.Tally.{sum_by}
use Rattle.grid_code.specs.Code.{code_of_grid}
use Rattle.grid_code.specs.Verdict.{Verdict, clean, blank, mended, lost, grid_verdict, is_mended}
use Rattle.grid_code.proofs.Promises.{promised}
use Rattle.grid_code.proofs.Verdict.{mended_alike}
use Rattle.page.specs.Tally.{sum_grids, passed_on, last_from, last_pattern, LastMended}
use Rattle.page.specs.Steps.{later}

-- ---- one grid

passed_none : (v : Verdict) (p before : ℕ) → is_mended v ≡ 0 → passed_on v p before ≡ before
passed_none (clean d) p before z = refl
passed_none (blank n) p before z = refl
passed_none (mended d n) p before z = absurd (omega (arith, z))
passed_none lost p before z = refl

passed_own : (v : Verdict) (p before : ℕ) → is_mended v ≡ 1 → passed_on v p before ≡ p
passed_own (clean d) p before z = absurd (omega (arith, z))
passed_own (blank n) p before z = absurd (omega (arith, z))
passed_own (mended d n) p before z = refl
passed_own lost p before z = absurd (omega (arith, z))

counted_once : (v : Verdict) → 0 < is_mended v → is_mended v ≡ 1
counted_once (clean d) l = absurd (omega (arith, l))
counted_once (blank n) l = absurd (omega (arith, l))
counted_once (mended d n) l = refl
counted_once lost l = absurd (omega (arith, l))

-- ---- of a list

none_mended : (ws : List ℕ) → ((j : ℕ) → j < length ws → is_mended (grid_verdict (get_or ws j 0)) ≡ 0) → sum_grids is_mended ws ≡ 0
unfolding sum_by
none_mended [] h = refl
none_mended (w ∷ ws) h = omega (arith, h 0 (omega arith), none_mended ws (λ j l. h (suc j) (omega arith)))

-- none is mended: what came before is passed on
none_passed : (before : ℕ) (ws : List ℕ) → sum_grids is_mended ws ≡ 0 → last_from before ws ≡ before
unfolding sum_by last_from
none_passed before [] e = refl
none_passed before (w ∷ ws) e =
    ap (λ (p : ℕ). last_from p ws) (passed_none (grid_verdict w) (pattern_of code_of_grid w) before (omega (arith, e))) ∙ none_passed before ws (omega (arith, e))

pub no_last : (ws : List ℕ) → sum_grids is_mended ws ≡ 0 → last_pattern ws ≡ 0
no_last ws e = none_passed 0 ws e

-- the last mended one, whatever came before
last_from_lem : (before : ℕ) (ws : List ℕ) (i : ℕ) → LastMended ws i → last_from before ws ≡ pattern_of code_of_grid (get_or ws i 0)
unfolding last_from
last_from_lem before [] i h = absurd (omega (arith, h.below))
last_from_lem before (w ∷ ws) zero h =
    ap (λ (p : ℕ). last_from p ws) (passed_own (grid_verdict w) (pattern_of code_of_grid w) before h.mended_here)
    ∙ none_passed (pattern_of code_of_grid w) ws (none_mended ws (λ j l. h.none_behind (suc j) (omega arith) (omega arith)))
last_from_lem before (w ∷ ws) (suc i) h =
    last_from_lem (passed_on (grid_verdict w) (pattern_of code_of_grid w) before) ws i
    (record {
      below = omega (arith, h.below);
      mended_here = h.mended_here;
      none_behind = λ j k l. h.none_behind (suc j) (omega arith) (omega arith);
    })

pub last : (ws : List ℕ) (i : ℕ) → LastMended ws i → last_pattern ws ≡ pattern_of code_of_grid (get_or ws i 0)
last ws = last_from_lem 0 ws

-- where some are mended, one is the last
none_each : (ws : List ℕ) → sum_grids is_mended ws ≡ 0 → (j : ℕ) → j < length ws → is_mended (grid_verdict (get_or ws j 0)) ≡ 0
unfolding sum_by
none_each [] z j l = absurd (omega arith)
none_each (w ∷ ws) z zero l = omega (arith, z)
none_each (w ∷ ws) z (suc j) l = none_each ws (omega (arith, z)) j (omega arith)

pub some_last : (ws : List ℕ) → 0 < sum_grids is_mended ws → (i : ℕ) × LastMended ws i
unfolding sum_by
some_last [] h = absurd (omega (arith, h))
some_last (w ∷ ws) h = go (some_last ws) (dec_lt 0 (sum_grids is_mended ws))
  where
    first : sum_grids is_mended ws ≡ 0 → (j : ℕ) → 0 < j → j < suc (length ws) → is_mended (grid_verdict (get_or (w ∷ ws) j 0)) ≡ 0
    first z zero k m = absurd (omega arith)
    first z (suc j) k m = none_each ws z j (omega arith)

    behind : (i : ℕ) → LastMended ws i → (j : ℕ) → suc i < j → j < suc (length ws) → is_mended (grid_verdict (get_or (w ∷ ws) j 0)) ≡ 0
    behind i l zero k m = absurd (omega arith)
    behind i l (suc j) k m = l.none_behind j (omega arith) (omega arith)

    go : (0 < sum_grids is_mended ws → (i : ℕ) × LastMended ws i) → Dec (0 < sum_grids is_mended ws) → (i : ℕ) × LastMended (w ∷ ws) i
    go there (yes more) =
        let (i, l) = there more in
        (suc i, record { below = omega (arith, l.below); mended_here = l.mended_here; none_behind = behind i l })
    go there (no none) = (
      0,
      record { below = omega arith; mended_here = counted_once (grid_verdict w) (omega (arith, h)); none_behind = first (omega arith) },
    )

-- two parts
last_append : (before : ℕ) (xs ys : List ℕ) → last_from before (xs ++ ys) ≡ last_from (last_from before xs) ys
unfolding last_from
last_append before [] ys = refl
last_append before (x ∷ xs) ys = last_append (passed_on (grid_verdict x) (pattern_of code_of_grid x) before) xs ys

-- one grid more
pub last_step : (ws : List ℕ) (i : ℕ) → i < length ws
    → last_pattern (take (i + 1) ws) ≡ passed_on (grid_verdict (get_or ws i 0)) (pattern_of code_of_grid (get_or ws i 0)) (last_pattern (take i ws))
unfolding last_from
last_step ws i h = rw (add-one, take-suc ws i 0 h, last_append)

-- what came before is passed on, or a pattern that is not zero
Passes : List ℕ → Type 0
Passes ws = ((before : ℕ) → last_from before ws ≡ before) ⊎ ((p : ℕ) × (p ≢ 0) × ((before : ℕ) → last_from before ws ≡ p))

passes : (ws : List ℕ) → Passes ws
unfolding Passes last_from
passes [] = inl (λ before. refl)
passes (w ∷ ws) = go (passes ws)
  where
    kind : (v : Verdict) → grid_verdict w ≡ v → ((before : ℕ) → last_from before ws ≡ before) → Passes (w ∷ ws)
    kind (clean d) e h = inl (λ before. ap (λ v. last_from (passed_on v (pattern_of code_of_grid w) before) ws) e ∙ h before)
    kind (blank n) e h = inl (λ before. ap (λ v. last_from (passed_on v (pattern_of code_of_grid w) before) ws) e ∙ h before)
    kind (mended d n) e h =
        inr (pattern_of code_of_grid w, promised.verdicts.pattern.some_mended w d n (mended_alike (verdict code_of_grid w) d n e), λ before. ap (λ v. last_from (passed_on v (pattern_of code_of_grid w) before) ws) e ∙ h (pattern_of code_of_grid w))
    kind lost e h = inl (λ before. ap (λ v. last_from (passed_on v (pattern_of code_of_grid w) before) ws) e ∙ h before)

    go : Passes ws → Passes (w ∷ ws)
    go (inl h) = kind (grid_verdict w) refl h
    go (inr (p, ne, h)) = inr (p, ne, λ before. h (passed_on (grid_verdict w) (pattern_of code_of_grid w) before))

later_of : (before : ℕ) (ws : List ℕ) → last_from before ws ≡ later before (last_pattern ws)
unfolding Passes
later_of before ws = go (passes ws)
  where
    go : Passes ws → last_from before ws ≡ later before (last_pattern ws)
    go (inl h) = h before ∙ sym (rw (h 0))
    go (inr (p, ne, h)) = h before ∙ sym (rw (h 0, ne_eqb p 0 ne))

pub last_two : (xs ys : List ℕ) → last_pattern (xs ++ ys) ≡ later (last_pattern xs) (last_pattern ys)
last_two xs ys = last_append 0 xs ys ∙ later_of (last_pattern xs) ys

-- ---- three parts, put together either way

pub later_again : (a b c : ℕ) → later a (later b c) ≡ later (later a b) c
later_again a b c = go (ℕ_discrete c 0)
  where
    go : Dec (c ≡ 0) → later a (later b c) ≡ later (later a b) c
    go (yes z) = rw (eq-eqb c 0 z)
    go (no ne) = rw (ne_eqb c 0 ne, ne_eqb c 0 ne)
