-- What is counted of grids: the six numbers of a scrub, each by the definition on the grids as they were before. And the pattern that a scrub
-- passes on, that of the last mended grid. Assumes nothing.
use Rattle.std.specs.Prelude.{◌≡◌, List, [], ◌∷◌, map, ℕ, ◌+◌, ◌*◌, ◌≤◌, ◌<◌, length, get_or}
use Rattle.codes.specs.Verdict.{scrubbed, pattern_of}
use Rattle.codes.specs.Tally.{sum_by}
use Rattle.grid_code.specs.Code.{code_of_grid}
use Rattle.grid_code.specs.Verdict.{Verdict, clean, blank, mended, lost, named, grid_verdict, flips_of, is_clean, is_blank, is_mended, is_lost}
use Rattle.page.specs.declared.Tally.{Tally}

-- f of the verdict on each grid, added up: how many are clean, blank, mended or lost, and how many flips there are. Flips is the sum over
-- mended and blank grids, since it is 0 for the others.
abbrev pub sum_grids : (Verdict → ℕ) → List ℕ → ℕ
sum_grids f page = sum_by code_of_grid (λ v. f (named v)) page

-- what is passed on behind a grid with this verdict and the pattern p: p where the grid is mended, and else what came from before it
abbrev pub passed_on : Verdict → ℕ → ℕ → ℕ
passed_on (clean d) p before = before
passed_on (blank n) p before = before
passed_on (mended d n) p before = p
passed_on lost p before = before

-- grid by grid
unfoldable pub last_from : ℕ → List ℕ → ℕ
last_from before [] = before
last_from before (w ∷ ws) = last_from (passed_on (grid_verdict w) (pattern_of code_of_grid w) before) ws

-- the pattern of the last mended grid, and zero where none is mended
abbrev pub last_pattern : List ℕ → ℕ
last_pattern page = last_from 0 page

-- grid i is mended, and none behind it is
pub record LastMended (page : List ℕ) (i : ℕ) : Type 0 where
  pub below : i < length page
  pub mended_here : is_mended (grid_verdict (get_or page i 0)) ≡ 1
  pub none_behind : (j : ℕ) → i < j → j < length page → is_mended (grid_verdict (get_or page j 0)) ≡ 0

-- the tally of a page
abbrev pub grid_tally : List ℕ → Tally
grid_tally page = record {
  grids = length page;
  clean = sum_grids is_clean page;
  blank = sum_grids is_blank page;
  mended = sum_grids is_mended page;
  lost = sum_grids is_lost page;
  flips = sum_grids flips_of page;
  pattern = last_pattern page;
}

-- each grid is clean, blank, mended or lost
abbrev pub AddsUp : Tally → Type 0
AddsUp t = t.grids ≡ t.clean + t.blank + t.mended + t.lost

-- what a second scrub finds: clean and mended grids clean, the same blank, the same lost, none mended, no flips, no pattern
pub record Again (first second : Tally) : Type 0 where
  pub grids : second.grids ≡ first.grids
  pub clean_now : second.clean ≡ first.clean + first.mended
  pub same_blank : second.blank ≡ first.blank
  pub none_mended : second.mended ≡ 0
  pub same_lost : second.lost ≡ first.lost
  pub no_flips : second.flips ≡ 0
  pub no_pattern : second.pattern ≡ 0

-- What is proved of the tally (`tallies`).
pub record TallyPromises : Type 0 where
  pub all : (page : List ℕ) → AddsUp (grid_tally page)
  -- no more than seven flips for each grid
  pub flips : (page : List ℕ) → (grid_tally page).flips ≤ 7 * length page
  pub again : (page : List ℕ) → Again (grid_tally page) (grid_tally (map (scrubbed code_of_grid) page))
  -- the pattern that is passed on is that of the last mended grid, which there is where some are mended; where none is, it is zero
  pub last : (page : List ℕ) (i : ℕ) → LastMended page i → last_pattern page ≡ pattern_of code_of_grid (get_or page i 0)
  pub some_last : (page : List ℕ) → 0 < (grid_tally page).mended → (i : ℕ) × LastMended page i
  pub no_last : (page : List ℕ) → (grid_tally page).mended ≡ 0 → last_pattern page ≡ 0
