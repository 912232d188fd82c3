-- What the steps between data places and grid compute: one record a step, which determines the answer. No promise to a caller cites this
-- file. Assumes nothing.
use Rattle.std.specs.Prelude.{◌≡◌, List, [], ◌∷◌, ℕ, ◌+◌, ◌*◌, ◌%◌, ◌^◌, ◌<◌, get_or}
use Rattle.std.specs.Int.Bits.{bit_and}
use Rattle.words.specs.Word.{bit, sum_to, sum_over}
use Rattle.grid_code.specs.Equations.{in_column, data_of}
use Rattle.grid_code.specs.Code.{codeword}
use Rattle.grid_code.specs.Sides.{row_of}

-- the data places of a grid, where they stand: places 0 to 3 of rows 0 to 3
abbrev pub data_places : ℕ → ℕ
data_places g = bit_and g 0x0F0F_0F0F

-- `data_places`: those of the grid of a data value.
pub record Arranged (d r : ℕ) : Type 0 where
  pub answer : r ≡ data_places (codeword d)

-- The places of the four checks of a row: check k is the parity of place 4 + k and of the three places that make it. (Places 4 to 6 add up to
-- place 2, so that place 7 comes to the parity of places 0, 1, 3.)
abbrev pub check_places : List (List ℕ)
check_places = (0 ∷ 1 ∷ 2 ∷ 4 ∷ []) ∷ (0 ∷ 2 ∷ 3 ∷ 5 ∷ []) ∷ (1 ∷ 2 ∷ 3 ∷ 6 ∷ []) ∷ (0 ∷ 1 ∷ 3 ∷ 7 ∷ []) ∷ []

-- the checks of the row x, check k in bit k
unfoldable pub row_check : ℕ → ℕ
row_check x = sum_to 4 (λ k. sum_over (bit x) (get_or check_places k []) % 2 * 2 ^ k)

-- `row_checks`: those of each row.
pub record RowChecks (w r : ℕ) : Type 0 where
  pub fits : r < 2 ^ 64
  pub check : (i : ℕ) → i < 8 → row_of r i ≡ row_check (row_of w i)

-- The rows of the four checks of a column: check k is the parity of row 4 + k and of the three rows that make it. (Rows 4 to 6 add up to row
-- 3, so that row 7 comes to the parity of rows 0, 1, 2.)
abbrev pub check_rows : List (List ℕ)
check_rows = (0 ∷ 1 ∷ 3 ∷ 4 ∷ []) ∷ (0 ∷ 2 ∷ 3 ∷ 5 ∷ []) ∷ (1 ∷ 2 ∷ 3 ∷ 6 ∷ []) ∷ (0 ∷ 1 ∷ 2 ∷ 7 ∷ []) ∷ []

-- `column_checks`: check k of column c in bit c of byte k. A column is in the column code where its checks are 0.
pub record Checks (w r : ℕ) : Type 0 where
  pub fits : r < 2 ^ 32
  pub check : (k c : ℕ) → k < 4 → c < 8 → bit r (8 * k + c) ≡ sum_over (in_column w c) (get_or check_rows k []) % 2

-- `completed`: the grid of the data that stands in the data places.
pub record Completed (places r : ℕ) : Type 0 where
  pub answer : r ≡ codeword (data_of places)

-- `places_of`: those of any word.
pub record Masked (w r : ℕ) : Type 0 where
  pub answer : r ≡ data_places w

-- `data_of`: the data that stands in them.
pub record Gathered (places r : ℕ) : Type 0 where
  pub answer : r ≡ data_of places

-- `encoded`: the grid of a data value, whichever it is.
pub record Coded (d r : ℕ) : Type 0 where
  pub answer : r ≡ codeword d
