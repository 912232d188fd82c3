-- What the steps between the rows and the word found compute, so that their contracts can say it. No promise to a caller cites this file.
-- Assumes nothing.
use Rattle.std.specs.Prelude.{◌≡◌, ◌≢◌, List, [], ◌∷◌, ℕ, zero, suc, ◌*◌, ◌^◌, ◌<◌, get_or, None, Option, Some}
use Rattle.std.specs.Int.Bits.{bit_xor}
use Rattle.words.specs.Word.{sum_to}
use Rattle.words.specs.Digits.{digits}
use Rattle.grid_code.specs.Sides.{row_of}
use Rattle.grid_columns.specs.Columns.{InColumns}

-- for each row, bit k where it takes part in check k; and the rows by the halves of these numbers
abbrev pub parts : List ℕ
parts = 11 ∷ 13 ∷ 14 ∷ 7 ∷ 1 ∷ 2 ∷ 4 ∷ 8 ∷ []

abbrev pub rows_by_halves : List ℕ
rows_by_halves = 4 ∷ 5 ∷ 6 ∷ 3 ∷ 7 ∷ 0 ∷ 1 ∷ 2 ∷ []

-- f 0, f 1, .. f (n - 1), combined by exclusive or
abbrev pub xor_to : ℕ → (ℕ → ℕ) → ℕ
xor_to zero f = 0
xor_to (suc n) f = bit_xor (f 0) (xor_to n (λ i. f (suc i)))

-- all rows, combined
abbrev pub parity_of : ℕ → ℕ
parity_of w = xor_to 8 (row_of w)

-- r is a byte of the four, and not 0 if one is not
pub record OneByte (e r : ℕ) : Type 0 where
  pub place : ℕ
  pub below : place < 4
  pub is : r ≡ get_or (digits 8 4 e) place 0
  pub some : 0 < e → 0 < r

-- aside has no place set but place 0 of rows
abbrev pub Asides : ℕ → Type 0
Asides aside = (r : ℕ) → r < 8 → row_of aside r < 2

-- row i is set aside, and rest are the others
pub record Taken (aside i rest : ℕ) : Type 0 where
  pub here : row_of aside i ≡ 1
  pub gone : row_of rest i ≡ 0
  pub same : (r : ℕ) → r < 8 → r ≢ i → row_of rest r ≡ row_of aside r
  pub sum : sum_to 8 (row_of aside) ≡ suc (sum_to 8 (row_of rest))

-- y has the rows that N names as they are
abbrev pub Keeps : (ℕ → Type 0) → ℕ → ℕ → Type 0
Keeps N rows y = (r : ℕ) → r < 8 → N r → row_of y r ≡ row_of rows r

-- s is the word of the column code that has these rows, if there is one
abbrev pub Rights : (ℕ → Type 0) → ℕ → ℕ → Type 0
Rights N rows s = (y : ℕ) → y < 2 ^ 64 → InColumns y → Keeps N rows y → s ≡ y

-- .. and has them in any case
pub record Mends (N : ℕ → Type 0) (rows s : ℕ) : Type 0 where
  pub kept : Keeps N rows s
  pub right : Rights N rows s

-- the same, of all rows but one, whichever it is
pub record One (rows s : ℕ) : Type 0 where
  pub row : ℕ
  pub below : row < 8
  pub kept : Keeps (λ r. r ≢ row) rows s
  pub right : (j : ℕ) → j < 8 → Rights (λ r. r ≢ j) rows s

-- .. and of all but row i and one more
pub record Beside (rows i s : ℕ) : Type 0 where
  pub row : ℕ
  pub below : row < 8
  pub kept : Keeps (λ r. (r ≢ i) × (r ≢ row)) rows s
  pub right : (j : ℕ) → j < 8 → Rights (λ r. (r ≢ i) × (r ≢ j)) rows s

-- s is the word of the column code that has the error b added to rows i and j in `even`; and it is `even` where that is in the code
pub record Paired (even i j s : ℕ) : Type 0 where
  pub kept : Keeps (λ r. (r ≢ i) × (r ≢ j)) even s
  pub right : i ≢ j → (y b : ℕ) → y < 2 ^ 64 → InColumns y → b < 256 → even ≡ bit_xor y (bit_xor (b * 2 ^ (8 * i)) (b * 2 ^ (8 * j)))
      → s ≡ y
  pub alone : InColumns even → s ≡ even

-- the word, if its columns hold
abbrev pub Tested : ℕ → Option ℕ → Type 0
Tested rows (Some y) = (y ≡ rows) × InColumns rows
Tested rows None = InColumns rows → ⊥
