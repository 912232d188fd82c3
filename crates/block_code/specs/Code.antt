-- The block's code: the one solution of the equations for each data value, computed. Assumes nothing.
use Rattle.std.specs.Prelude.{Bool, ◌&&◌, List, [], ◌∷◌, ℕ, ◌+◌, ◌*◌, ◌%◌, ◌^◌, eqb, length}
use Rattle.std.specs.Int.Bits.{bit_xor}
use Rattle.std.specs.Int.Count.{ones}
use Rattle.words.specs.Digits.{digits}
use Rattle.codes.specs.Verdict.{Code}

-- 1 where the number of ones is odd, and 0 where it is even
abbrev pub odd : ℕ → ℕ
odd x = ones x % 2

-- f of each word, combined by exclusive or; that of the next word stands m places higher
unfoldable pub stacked : ℕ → (ℕ → ℕ) → List ℕ → ℕ
stacked m f [] = 0
stacked m f (x ∷ xs) = bit_xor (stacked m f xs * 2 ^ m) (f x)

-- The checks of the data words: row parities, column parities, and the diagonals with the system parity as bit 47.
abbrev pub rows_of : List ℕ → ℕ
rows_of ws = stacked 1 odd ws

abbrev pub columns_of : List ℕ → ℕ
columns_of ws = stacked 0 (λ x. x) ws

abbrev pub diagonals_of : List ℕ → ℕ
diagonals_of ws = bit_xor (stacked 1 (λ x. x) ws) (odd (rows_of ws) * 2 ^ 47)

-- the data with its checks behind it: rows, columns, diagonals
abbrev pub with_checks : ℕ → ℕ → ℕ → ℕ → ℕ
with_checks d rows columns diagonals = ((diagonals * 2 ^ 16 + columns) * 2 ^ 32 + rows) * 2 ^ 512 + d

-- The block of the data d. What it is, specs/Equations.antt says: this is the one solution (specs/Promises.antt, `meets` and
-- `one_solution`).
unfoldable pub codeword : ℕ → ℕ
codeword d = with_checks d (rows_of (digits 16 32 d)) (columns_of (digits 16 32 d)) (diagonals_of (digits 16 32 d))

abbrev pub code_of_block : Code
code_of_block = record { values = 2 ^ 512; encode = codeword; places = 608; radius = 2 }

-- exactly 32 words of data, and exactly 38 to write their block to
abbrev pub allowed : List ℕ → List ℕ → Bool
allowed values before = eqb (length values) 32 && eqb (length before) 38
