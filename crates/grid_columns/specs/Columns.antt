-- What a trial's step over the columns finds: the word of the column code that agrees with the rows, where there is one. Assumes nothing.
use Rattle.std.specs.Prelude.{◌≡◌, Bool, true, false, ℕ, ◌+◌, ◌*◌, ◌^◌, ◌≤◌, ◌<◌, min, None, Option, Some}
use Rattle.std.specs.Int.Bits.{bit_and, differ}
use Rattle.words.specs.Word.{combined, sum_to}
use Rattle.codes.specs.Product.{unlike}
use Rattle.grid_code.specs.Equations.{in_column}
use Rattle.grid_code.specs.Sides.{col_entries, row_of}

-- each column is in the column code
abbrev pub InColumns : ℕ → Type 0
InColumns y = (c : ℕ) → c < 8 → combined col_entries (in_column y c) ≡ 0

-- `hold`: whether each is.
pub record Held (rows : ℕ) (r : Bool) : Type 0 where
  pub yes : r ≡ true → InColumns rows
  pub no : r ≡ false → InColumns rows → ⊥

-- 1 where row r is not set aside and not the same in y, and else 0
abbrev pub wrong : ℕ → ℕ → ℕ → ℕ → ℕ
wrong rows aside y r = min (differ (row_of aside r) 1) (unlike (row_of y r) (row_of rows r))

-- y is in the column code, and agrees with the rows in all but the s set aside and w others, with 2w + s at most 3. A row is set aside where
-- place 0 of it is set in `aside`.
pub record Agrees (rows aside y : ℕ) : Type 0 where
  pub fits : y < 2 ^ 64
  pub code : InColumns y
  pub few : 2 * sum_to 8 (wrong rows aside y) + sum_to 8 (row_of aside) ≤ 3

-- that word, or that there is none
abbrev pub Solves : ℕ → ℕ → Option ℕ → Type 0
Solves rows aside (Some y) = Agrees rows aside y
Solves rows aside None = (y : ℕ) → Agrees rows aside y → ⊥

-- `solved`: the same, of the rows that have place 0 marked.
pub record Solved (rows marks : ℕ) (r : Option ℕ) : Type 0 where
  pub is : Solves rows (bit_and marks 0x0101_0101_0101_0101) r
