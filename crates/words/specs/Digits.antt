-- A word as a list of digits of k bits, lowest first, and back. Assumes nothing.
use Rattle.std.specs.Prelude.{List, [], ◌∷◌, ℕ, zero, suc, ◌+◌, ◌*◌, ◌/◌, ◌%◌, ◌^◌, ◌<◌, get_or}

-- the n low digits of k bits of w, lowest first
abbrev pub digits : ℕ → ℕ → ℕ → List ℕ
digits k zero w = []
digits k (suc n) w = w % 2 ^ k ∷ digits k n (w / 2 ^ k)

-- the word whose digits of k bits are these, lowest first
abbrev pub joined : ℕ → List ℕ → ℕ
joined k [] = 0
joined k (x ∷ xs) = joined k xs * 2 ^ k + x

-- each digit of a list has k bits
abbrev pub Below : ℕ → List ℕ → Type 0
Below k xs = (i : ℕ) → get_or xs i 0 < 2 ^ k
