-- The parity equations of the block, place by place (docs/FORMAT.md, The block). Assumes nothing.
use Rattle.std.specs.Prelude.{◌≡◌, Bool, true, ℕ, ◌+◌, ◌*◌, ◌/◌, ◌%◌, ◌^◌, ◌<◌, eqb}
use Rattle.words.specs.Word.{choose, bit, sum_to}

-- What stands at bit c of word i of the block w, a 608-bit number: its words are 16 bits each, word 0 lowest, and bit 0 is the lowest.
abbrev pub in_word : ℕ → ℕ → ℕ → ℕ
in_word w i c = bit w (16 * i + c)

-- The parity of all data places (row r, column c is bit c of word r) whose row and column pass the test.
abbrev pub parity_where : (ℕ → ℕ → Bool) → ℕ → ℕ
parity_where test w = sum_to 32 (λ r. sum_to 16 (λ c. choose (test r c) (in_word w r c) 0)) % 2

-- w is the block of the data d, a 512-bit number of 32 words.
pub record Codeword (d w : ℕ) : Type 0 where
  pub fits : w < 2 ^ 608
  -- Words 0 to 31 are data.
  pub data_places : (r c : ℕ) → r < 32 → c < 16 → in_word w r c ≡ in_word d r c
  -- Words 32 and 33 hold row parities 0 to 15 and 16 to 31.
  pub rows : (n : ℕ) → n < 32 → in_word w (32 + n / 16) (n % 16) ≡ parity_where (λ r c. eqb r n) w
  -- Word 34 holds column parities 0 to 15. In each of the three the lowest number is bit 0.
  pub columns : (n : ℕ) → n < 16 → in_word w 34 n ≡ parity_where (λ r c. eqb c n) w
  -- Diagonal t (0 to 46) is the parity of all data places with r + c = t; it is bit t mod 16 of word 35 + t/16.
  pub diagonals : (t : ℕ) → t < 47 → in_word w (35 + t / 16) (t % 16) ≡ parity_where (λ r c. eqb (r + c) t) w
  -- Bit 15 of word 37 is the system parity: the parity of the 512 data bits alone.
  pub system : in_word w 37 15 ≡ parity_where (λ r c. true) w
