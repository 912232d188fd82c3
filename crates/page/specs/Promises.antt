-- What is proved of a page's scrub (`promised`, `one_outcome`). Assumes nothing.
use Rattle.std.specs.Prelude.{◌≡◌, List, [], ℕ, ◌≤◌, ◌<◌, length, get_or, Result}
use Rattle.refusals.specs.Reply.{gives, refuses}
use Rattle.codes.specs.Verdict.{scrubbed, pattern_of}
use Rattle.grid_code.specs.Code.{codeword, code_of_grid}
use Rattle.grid_code.specs.Verdict.{clean, blank, mended, lost, all_set, grid_verdict}
use Rattle.page.specs.declared.Tally.{Tally}
use Rattle.page.specs.Answer.{means}
use Rattle.page.specs.Tally.{LastMended, grid_tally, AddsUp, Again}
use Rattle.page.specs.Calls.{most_grids, NoGrids, Scrubbed}
use Rattle.refusals.specs.declared.Refusal.{Refusal}

-- What the scrub promises, whatever was read.
pub record PagePromises : Type 0 where
  -- Page of 512: accepted; 513: refusal 3, and nothing is written.
  pub accepted : (page exit : List ℕ) (r : Result Tally Refusal) → length page ≤ most_grids → Scrubbed page r exit
      → means r ≡ gives (grid_tally page)
  pub refused : (page exit : List ℕ) (r : Result Tally Refusal) → most_grids < length page → Scrubbed page r exit
      → (means r ≡ refuses 3) × (exit ≡ page)
  -- What stands at each place afterwards: the codeword of a mended grid; all ones for a blank one; a clean or lost one as it was.
  pub length_kept : (page exit : List ℕ) (r : Result Tally Refusal) → Scrubbed page r exit → length exit ≡ length page
  pub each : (page exit : List ℕ) (r : Result Tally Refusal) → length page ≤ most_grids → Scrubbed page r exit → (i : ℕ) → i < length page
      → get_or exit i 0 ≡ scrubbed code_of_grid (get_or page i 0)
  pub mended_replaced : (w d n : ℕ) → grid_verdict w ≡ mended d n → scrubbed code_of_grid w ≡ codeword d
  pub blank_rewritten : (w n : ℕ) → grid_verdict w ≡ blank n → scrubbed code_of_grid w ≡ all_set
  pub clean_kept : (w d : ℕ) → grid_verdict w ≡ clean d → scrubbed code_of_grid w ≡ w
  pub lost_kept : (w : ℕ) → grid_verdict w ≡ lost → scrubbed code_of_grid w ≡ w
  -- Grids = clean + blank + mended + lost.
  pub sum : (page exit : List ℕ) (r : Result Tally Refusal) (t : Tally) → Scrubbed page r exit → means r ≡ gives t → AddsUp t
  -- The pattern is that of the last mended grid, and zero where none is mended.
  pub last : (page exit : List ℕ) (r : Result Tally Refusal) (t : Tally) (i : ℕ) → Scrubbed page r exit → means r ≡ gives t
      → LastMended page i
      → t.pattern ≡ pattern_of code_of_grid (get_or page i 0)
  pub no_last : (page exit : List ℕ) (r : Result Tally Refusal) (t : Tally) → Scrubbed page r exit → means r ≡ gives t → t.mended ≡ 0
      → t.pattern ≡ 0
  -- A second scrub finds clean + mended clean, the same blank and lost, 0 mended, 0 flips, no pattern, and changes nothing.
  pub again : (page once twice : List ℕ) (r s : Result Tally Refusal) (t : Tally) → Scrubbed page r once → means r ≡ gives t
      → Scrubbed once s twice
      → (u : Tally) × (means s ≡ gives u) × Again t u × (twice ≡ once)
  -- An empty page gives six zeros, and no pattern.
  pub empty : (exit : List ℕ) (r : Result Tally Refusal) → Scrubbed [] r exit
      → (means r ≡ gives (record { grids = 0; clean = 0; blank = 0; mended = 0; lost = 0; flips = 0; pattern = 0 })) × (exit ≡ [])

-- No second outcome satisfies the statement of a call.
pub record OneOutcome : Type 0 where
  pub none : (a b : Tally) → NoGrids a → NoGrids b → a ≡ b
  pub scrub : (page a b : List ℕ) (r s : Result Tally Refusal) → Scrubbed page r a → Scrubbed page s b → (r ≡ s) × (a ≡ b)
