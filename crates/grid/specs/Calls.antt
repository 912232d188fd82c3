-- What each call of the crate promises: one record a call, which determines the answer. Assumes nothing.
use Rattle.std.specs.Prelude.{◌≡◌, Bool, List, ℕ, eqb, Err, Ok, Result}
use Rattle.std.specs.Result.{ResultUnwrapsOrElse}
use Rattle.words.specs.Word.{choose}
use Rattle.words.specs.Digits.{digits, joined}
use Rattle.refusals.specs.declared.Refusal.TheVariants.{Erased}
use Rattle.codes.specs.Verdict.{verdict, scrubbed, pattern_of}
use Rattle.codes.specs.Tally.{is_clean}
use Rattle.codes.specs.Trials.{Repair, Trials}
use Rattle.grid_code.specs.Equations.{Codeword}
use Rattle.grid_code.specs.Code.{codeword, code_of_grid}
use Rattle.grid_code.specs.Sides.{sides}
use Rattle.grid_code.specs.Verdict.{erased, grid_verdict}
use Rattle.grid.specs.Answer.{AllOff, verdict_of}
use Rattle.grid.specs.declared.Answer.{Answer}
use Rattle.grid.specs.declared.Grid.{Grid}
use Rattle.refusals.specs.declared.Refusal.{Refusal}

-- `Grid::encode`: the grid of d, which meets the equations. The value 65,535, whose grid is all ones, is refused, and the grid that
-- `unwrap_or_default` gives is then all zero.
pub record Encoded (d : ℕ) (r : Result Grid Refusal) : Type 0 where
  pub answer : r ≡ choose (eqb d erased) (Err Erased) (Ok (record { rows = digits 8 8 (codeword d) }))
  pub grid : (g : Grid) → ResultUnwrapsOrElse r AllOff g → g.rows ≡ digits 8 8 (choose (eqb d erased) 0 (codeword d))
  pub meets : (g : Grid) → r ≡ Ok g → Codeword d (joined 8 g.rows)

-- `u64::from` of a grid: row r is byte r, lowest byte first.
pub record Numbered (rows : List ℕ) (w : ℕ) : Type 0 where
  pub answer : w ≡ joined 8 rows

-- `Grid::from` a number: the same, back.
pub record Parted (w : ℕ) (rows : List ℕ) : Type 0 where
  pub answer : rows ≡ digits 8 8 w

-- `Grid::is_codeword`: whether the verdict by the code is clean.
pub record Judged (rows : List ℕ) (r : Bool) : Type 0 where
  pub answer : r ≡ eqb (is_clean (verdict code_of_grid (joined 8 rows))) 1

-- `Grid::decode` and `Grid::mend`: the verdict on the grid; beside it the codeword, or on refusal the grid as read; the pattern of the
-- flips; and the trials: 1 if the first candidate is within 7 places, 2 otherwise, with whichever repair of rows.
pub record Decoded (rows : List ℕ) (r : Answer) : Type 0 where
  pub answer : verdict_of r.verdict ≡ grid_verdict (joined 8 rows)
  pub repaired : r.grid.rows ≡ digits 8 8 (scrubbed code_of_grid (joined 8 rows))
  pub pattern : r.pattern ≡ pattern_of code_of_grid (joined 8 rows)
  pub trials : (fix : ℕ → ℕ) → Repair sides fix → Trials sides code_of_grid fix (joined 8 rows) r.trials
