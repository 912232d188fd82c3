-- The parity equations of the grid, place by place (docs/FORMAT.md, The grid). Assumes nothing.
use Rattle.std.specs.Prelude.{◌≡◌, [], ◌∷◌, ℕ, ◌+◌, ◌*◌, ◌/◌, ◌%◌, ◌^◌, ◌<◌}
use Rattle.words.specs.Word.{bit, sum_to, IsParity}

-- What stands at row r, place c of the grid g, a 64-bit number: row r is byte r, lowest byte first; place c of a row is bit c.
abbrev pub in_row : ℕ → ℕ → ℕ → ℕ
in_row g r c = bit g (8 * r + c)

-- the same along column c
abbrev pub in_column : ℕ → ℕ → ℕ → ℕ
in_column g c r = in_row g r c

-- Data bit k (0 to 15) stands at row k/4, place k mod 4.
abbrev pub data_bit : ℕ → ℕ → ℕ
data_bit g k = in_row g (k / 4) (k % 4)

-- the data that stands in a grid
unfoldable pub data_of : ℕ → ℕ
data_of g = sum_to 16 (λ k. data_bit g k * 2 ^ k)

-- g is the grid of the data d.
pub record Codeword (d g : ℕ) : Type 0 where
  pub fits : g < 2 ^ 64
  -- The data stands in the data places.
  pub data_places : (k : ℕ) → k < 16 → data_bit g k ≡ bit d k
  -- Each of rows 0 to 3: place 4 is the parity of places 0, 1, 2; place 5 of places 0, 2, 3; place 6 of places 1, 2, 3.
  pub place4 : (r : ℕ) → r < 4 → IsParity (in_row g r) 4 (0 ∷ 1 ∷ 2 ∷ [])
  pub place5 : (r : ℕ) → r < 4 → IsParity (in_row g r) 5 (0 ∷ 2 ∷ 3 ∷ [])
  pub place6 : (r : ℕ) → r < 4 → IsParity (in_row g r) 6 (1 ∷ 2 ∷ 3 ∷ [])
  -- Each of columns 0 to 6: row 4 is the parity of rows 0, 1, 3; row 5 of rows 0, 2, 3; row 6 of rows 1, 2, 3.
  pub row4 : (c : ℕ) → c < 7 → IsParity (in_column g c) 4 (0 ∷ 1 ∷ 3 ∷ [])
  pub row5 : (c : ℕ) → c < 7 → IsParity (in_column g c) 5 (0 ∷ 2 ∷ 3 ∷ [])
  pub row6 : (c : ℕ) → c < 7 → IsParity (in_column g c) 6 (1 ∷ 2 ∷ 3 ∷ [])
  -- Place 7 of rows 0 to 6 is the parity of places 0 to 6.
  pub place7 : (r : ℕ) → r < 7 → IsParity (in_row g r) 7 (0 ∷ 1 ∷ 2 ∷ 3 ∷ 4 ∷ 5 ∷ 6 ∷ [])
  -- Row 7, places 0 to 6, is the parity of rows 0 to 6 in that column.
  pub row7 : (c : ℕ) → c < 7 → IsParity (in_column g c) 7 (0 ∷ 1 ∷ 2 ∷ 3 ∷ 4 ∷ 5 ∷ 6 ∷ [])
  -- Row 7, place 7 is the parity of place 7 over rows 0 to 6.
  pub corner : IsParity (in_column g 7) 7 (0 ∷ 1 ∷ 2 ∷ 3 ∷ 4 ∷ 5 ∷ 6 ∷ [])
