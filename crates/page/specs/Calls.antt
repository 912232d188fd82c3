-- What each call of the crate promises: one record a call, which determines the answer and every grid afterwards. Assumes nothing.
use Rattle.std.specs.Prelude.{◌≡◌, List, map, ℕ, leb, length, Err, Ok, Result}
use Rattle.words.specs.Word.{choose}
use Rattle.refusals.specs.declared.Refusal.TheVariants.{Length}
use Rattle.codes.specs.Verdict.{scrubbed}
use Rattle.grid_code.specs.Code.{code_of_grid}
use Rattle.page.specs.declared.Tally.{Tally}
use Rattle.page.specs.Tally.{grid_tally}
use Rattle.refusals.specs.declared.Refusal.{Refusal}

-- the most grids of a page
abbrev pub most_grids : ℕ
most_grids = 512

-- `Tally::none`: that of no grids.
pub record NoGrids (r : Tally) : Type 0 where
  pub answer : r ≡ record { grids = 0; clean = 0; blank = 0; mended = 0; lost = 0; flips = 0; pattern = 0 }

-- `page::scrub`: 0 to 512 grids are accepted. Each mended grid is replaced by its codeword, and each blank one by all ones; clean and lost
-- ones stay as they are. A longer page is refused, and nothing is written.
pub record Scrubbed (before : List ℕ) (r : Result Tally Refusal) (exit : List ℕ) : Type 0 where
  pub answer : r ≡ choose (leb (length before) most_grids) (Ok (grid_tally before)) (Err Length)
  pub after : exit ≡ choose (leb (length before) most_grids) (map (scrubbed code_of_grid) before) before
