-- What is proved of the block's code, for all data and all words (`promised`). Assumes nothing.
use Rattle.std.specs.Prelude.{◌≡◌, List, ℕ, ◌^◌, ◌<◌, length, get_or}
use Rattle.words.specs.Word.{bit}
use Rattle.words.specs.Digits.{digits, joined, Below}
use Rattle.codes.specs.Promises.{States, Promises}
use Rattle.block_code.specs.Equations.{in_word, Codeword}
use Rattle.block_code.specs.Code.{codeword, code_of_block}

pub record BlockPromises : Type 0 where
  -- Word i is 16 bits of the number, word 0 the lowest, and bit 0 of a word is the lowest.
  pub places : (w i c : ℕ) → i < 38 → c < 16 → bit (get_or (digits 16 38 w) i 0) c ≡ in_word w i c
  -- From the number to the words and back nothing changes, nor from 38 words to the number and back.
  pub there_and_back : (w : ℕ) → w < 2 ^ 608 → joined 16 (digits 16 38 w) ≡ w
  pub back_and_there : (ws : List ℕ) → length ws ≡ 38 → Below 16 ws → digits 16 38 (joined 16 ws) ≡ ws
  -- Demand 2: encoding equals the parity equations, for all data.
  pub meets : (d : ℕ) → d < 2 ^ 512 → Codeword d (codeword d)
  -- They have one solution for each data value, ..
  pub one_solution : (d g h : ℕ) → Codeword d g → Codeword d h → g ≡ h
  -- .. and two values never have the same block.
  pub one_value : (d e g : ℕ) → d < 2 ^ 512 → e < 2 ^ 512 → Codeword d g → Codeword e g → d ≡ e
  -- The constants: radius 2, 608 places; two different codewords differ in at least 5 places, and some in no more.
  pub constants : States code_of_block 2 608 5
  -- Demand 3, no tie, and one or two flips undone.
  pub verdicts : Promises code_of_block
