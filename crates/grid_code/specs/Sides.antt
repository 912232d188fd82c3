-- The row code and the column code of the grid, by the entries 2 · address + 1 of places 0 to 7: those of the set places combine to 0.
-- Assumes nothing.
use Rattle.std.specs.Prelude.{◌≡◌, List, [], ◌∷◌, ℕ, get_or}
use Rattle.words.specs.Word.{combined}
use Rattle.words.specs.Digits.{digits}
use Rattle.codes.specs.Product.{Sides}

abbrev pub row_entries : List ℕ
row_entries = 7 ∷ 11 ∷ 15 ∷ 13 ∷ 3 ∷ 5 ∷ 9 ∷ 1 ∷ []

abbrev pub col_entries : List ℕ
col_entries = 7 ∷ 11 ∷ 13 ∷ 15 ∷ 3 ∷ 5 ∷ 9 ∷ 1 ∷ []

abbrev pub sides : Sides
sides = record { side = 8; Row = λ f. combined row_entries f ≡ 0; Col = λ f. combined col_entries f ≡ 0 }

-- row r of a grid
abbrev pub row_of : ℕ → ℕ → ℕ
row_of g r = get_or (digits 8 8 g) r 0
