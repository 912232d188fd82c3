-- What the private steps of the call compute, so that their contracts can say it. No promise to a caller cites this file. Assumes nothing.
use Rattle.std.specs.Prelude.{List, ℕ, ◌≤◌, length}
use Rattle.page.specs.Calls.{most_grids}
use Rattle.fields.specs.Fields.{title_most}
use Rattle.card_write.specs.Calls.{size_written}

-- lengths that are not too long, and room
pub record Fits (title numbers image : List ℕ) : Type 0 where
  pub title_few : length title ≤ title_most
  pub numbers_few : length numbers ≤ most_grids
  pub room : size_written title numbers ≤ length image
