-- What the steps on rows compute, one record a step, which determines the answer: the rows as a number and back, and each row repaired by
-- itself, with which the decoder begins. No promise to a caller cites this file. Assumes nothing.
use Rattle.std.specs.Prelude.{◌≡◌, List, map, ℕ}
use Rattle.words.specs.Digits.{digits, joined}
use Rattle.grid_rows.specs.Repair.{fixed}

-- `number`: row r is byte r, lowest byte first.
pub record Packed (rows : List ℕ) (w : ℕ) : Type 0 where
  pub answer : w ≡ joined 8 rows

-- `of_number`: the same, back.
pub record Unpacked (w : ℕ) (rows : List ℕ) : Type 0 where
  pub answer : rows ≡ digits 8 8 w

-- `repaired`: each row.
pub record RepairedRows (rows r : List ℕ) : Type 0 where
  pub answer : r ≡ map fixed rows
