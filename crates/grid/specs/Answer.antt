-- What the answers of decoder and encoder say: values, or a refusal (docs/FORMAT.md, Verdicts). Assumes nothing.
use Rattle.std.specs.Prelude.{◌≡◌, List, ℕ, Err, Ok, Result}
use Rattle.words.specs.Digits.{digits}
use Rattle.refusals.specs.declared.Refusal.TheVariants.{LostGrid}
use Rattle.refusals.specs.Reply.{Reply, gives, refusal}
use Rattle.grid_code.specs.Verdict as grid_code
use Rattle.grid_code.specs.Verdict.{clean, blank, mended, lost}
use Rattle.grid.specs.declared.Verdict.{Verdict}
use Rattle.grid.specs.declared.Verdict.TheVariants.{Clean, Blank, Mended, Lost}
use Rattle.grid.specs.declared.Grid.{Grid}
use Rattle.refusals.specs.declared.Refusal.{Refusal}

-- The verdict, with its values, for each case of the enum, ..
abbrev pub verdict_of : Verdict → grid_code.Verdict
verdict_of (Clean d) = clean d
verdict_of (Blank n) = blank n
verdict_of (Mended d n) = mended d n
verdict_of Lost = lost

-- .. and what is returned for it: the verdict, unless the grid is lost.
abbrev pub replied : grid_code.Verdict → Reply grid_code.Verdict
replied (clean d) = gives (clean d)
replied (blank n) = gives (blank n)
replied (mended d n) = gives (mended d n)
replied lost = refusal LostGrid

abbrev pub means : Verdict → Reply grid_code.Verdict
means v = replied (verdict_of v)

-- What holds of `Grid::default`: no lamp is on.
abbrev pub AllOff : Grid → Type 0
AllOff g = g.rows ≡ digits 8 8 0

-- What the encoder says: it gives the rows of the grid.
abbrev pub encode_means : Result Grid Refusal → Reply (List ℕ)
encode_means (Ok g) = gives g.rows
encode_means (Err why) = refusal why
