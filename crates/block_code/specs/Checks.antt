-- The checks of a block as three numbers: what data says and what a block holds, and what each step on them gives, one record a step. No
-- promise to a caller cites this file. Assumes nothing.
use Rattle.std.specs.Prelude.{◌≡◌, Bool, ◌&&◌, List, [], ◌∷◌, ℕ, ◌/◌, ◌%◌, ◌^◌, eqb}
use Rattle.std.specs.Int.Bits.{bit_xor}
use Rattle.words.specs.Digits.{digits}
use Rattle.block_code.specs.Code.{rows_of, columns_of, diagonals_of}
use Rattle.block_code.specs.declared.Checks.{Checks}

-- no check is set
abbrev pub no_checks : Checks
no_checks = record { rows = 0; columns = 0; diagonals = 0 }

-- where two differ
abbrev pub mixed : Checks → Checks → Checks
mixed a b = record {
  rows = bit_xor a.rows b.rows;
  columns = bit_xor a.columns b.columns;
  diagonals = bit_xor a.diagonals b.diagonals;
}

-- what the data words say that the checks are, and what the block w holds
abbrev pub said_by : List ℕ → Checks
said_by ws = record { rows = rows_of ws; columns = columns_of ws; diagonals = diagonals_of ws }

abbrev pub held_by : ℕ → Checks
held_by w = record { rows = w / 2 ^ 512 % 2 ^ 32; columns = w / 2 ^ 544 % 2 ^ 16; diagonals = w / 2 ^ 560 % 2 ^ 48 }

-- where the two differ
unfoldable pub syndrome_of : ℕ → Checks
syndrome_of w = mixed (said_by (digits 16 32 w)) (held_by w)

-- the checks that a flip at place p changes: past the last place there are none
abbrev pub of_place : ℕ → Checks
of_place p = syndrome_of (2 ^ p)

-- whether none is set
abbrev pub none_set : Checks → Bool
none_set s = eqb s.rows 0 && eqb s.columns 0 && eqb s.diagonals 0

-- the six words that hold them
abbrev pub check_words : Checks → List ℕ
check_words k =
    k.rows % 2 ^ 16 ∷ k.rows / 2 ^ 16 ∷ k.columns ∷ k.diagonals % 2 ^ 16 ∷ k.diagonals / 2 ^ 16 % 2 ^ 16 ∷ k.diagonals / 2 ^ 32 ∷ []

-- `^` on `Checks`
pub record Mixed (a b r : Checks) : Type 0 where
  pub answer : r ≡ mixed a b

-- `Checks::is_none`
pub record IsNone (s : Checks) (r : Bool) : Type 0 where
  pub answer : r ≡ none_set s

-- `block_code::of_place`
pub record OfPlace (place : ℕ) (r : Checks) : Type 0 where
  pub answer : r ≡ of_place place
