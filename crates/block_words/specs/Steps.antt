-- What the steps on the words of a block give and leave, so that their contracts can say it: one record a step. No promise to a caller
-- cites this file. Assumes nothing.
use Rattle.std.specs.Prelude.{◌≡◌, List, ℕ, ◌/◌, ◌%◌, ◌^◌, leb, length, get_or, set}
use Rattle.std.specs.Int.Bits.{bit_xor}
use Rattle.words.specs.Word.{choose}
use Rattle.words.specs.Digits.{digits, joined}
use Rattle.block_code.specs.Code.{codeword, allowed}
use Rattle.block_code.specs.Checks.{no_checks, syndrome_of}
use Rattle.block_code.specs.declared.Checks.{Checks}

-- place p flipped; where it is in none of the words, they stay as they are
abbrev pub flipped : List ℕ → ℕ → List ℕ
flipped ws p = set ws (p / 16) (bit_xor (get_or ws (p / 16) 0) (2 ^ (p % 16)))

-- `block_words::write`: the words of the block of the data. Where a length is another, nothing is written.
pub record BlockWritten (values before exit : List ℕ) : Type 0 where
  pub after : exit ≡ choose (allowed values before) (digits 16 38 (codeword (joined 16 values))) before

-- `block_words::syndrome`: that of the 38 words at the front, and none where there are fewer.
pub record SyndromeFound (words : List ℕ) (r : Checks) : Type 0 where
  pub answer : r ≡ choose (leb 38 (length words)) (syndrome_of (joined 16 words)) no_checks

-- `block_words::flip`
pub record Flipped (before : List ℕ) (place : ℕ) (exit : List ℕ) : Type 0 where
  pub after : exit ≡ flipped before place
