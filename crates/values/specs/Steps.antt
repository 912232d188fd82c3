-- What each step of the crate makes of the bytes of a value, whatever their length: one record a step, which determines what it returns or
-- writes. No promise to a caller cites this file. Assumes nothing.
use Rattle.std.specs.Prelude.{◌≡◌, List, ℕ, ◌*◌, ◌/◌, leb, length, take}
use Rattle.words.specs.Word.{choose}
use Rattle.words.specs.Digits.{digits}
use Rattle.words.specs.Bytes.{words_in, bytes_of, laid}

-- the grids of a value, as 64-bit numbers
abbrev pub grids_of : List ℕ → List ℕ
grids_of value = words_in 8 (length value / 8) value

-- `values::grid`: the rows that stand in the first eight bytes, and those of the grid 0 where there are fewer.
pub record FirstRows (bytes rows : List ℕ) : Type 0 where
  pub answer : rows ≡ choose (leb 8 (length bytes)) (take 8 bytes) (digits 8 8 0)

-- `values::copy` and `values::put_grid`: bytes laid over the front of others, where these are no fewer.
pub record Copied (bytes to exit : List ℕ) : Type 0 where
  pub after : exit ≡ choose (leb (length bytes) (length to)) (laid bytes to) to

-- `values::read`: the words of k bytes each at the front of the bytes, where there are bytes for all of them.
pub record Taken (k : ℕ) (bytes words exit : List ℕ) : Type 0 where
  pub after : exit ≡ choose (leb (k * length words) (length bytes)) (words_in k (length words) bytes) words

-- `values::write`: the same, back.
pub record Put (k : ℕ) (words bytes exit : List ℕ) : Type 0 where
  pub after : exit ≡ choose (leb (k * length words) (length bytes)) (laid (bytes_of k words) bytes) bytes
