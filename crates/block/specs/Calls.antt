-- What each call of the crate promises: one record a call, which determines the answer and every word afterwards. Assumes nothing.
use Rattle.std.specs.Prelude.{◌≡◌, List, ℕ, eqb, length, Err, Ok, Result, ⊤}
use Rattle.words.specs.Word.{choose}
use Rattle.words.specs.Digits.{digits, joined}
use Rattle.refusals.specs.declared.Refusal.TheVariants.{Length}
use Rattle.codes.specs.Verdict.{verdict, scrubbed, pattern_of}
use Rattle.block_code.specs.Equations.{Codeword}
use Rattle.block_code.specs.Code.{codeword, code_of_block, allowed}
use Rattle.block.specs.Answer.{answer_of}
use Rattle.block.specs.declared.Scrub.{Scrub}
use Rattle.refusals.specs.declared.Refusal.{Refusal}

-- `Block::encode`: exactly 32 words in and exactly 38 out: the words of the block of the data, which meets the equations. Any other length
-- is refused, and nothing is written.
pub record Encoded (values before : List ℕ) (r : Result ⊤ Refusal) (exit : List ℕ) : Type 0 where
  pub answer : r ≡ choose (allowed values before) (Ok tt) (Err Length)
  pub after : exit ≡ choose (allowed values before) (digits 16 38 (codeword (joined 16 values))) before
  pub meets : r ≡ Ok tt → Codeword (joined 16 values) (joined 16 exit)

-- `Block::scrub`: the verdict on exactly 38 words, which afterwards are the codeword, or as they were where there is none; and the pattern
-- of the places that were flipped. Any other length is refused, nothing is written, and the pattern is zero.
pub record Scrubbed (before : List ℕ) (r : Scrub) (exit : List ℕ) : Type 0 where
  pub answer : r.answer ≡ choose (eqb (length before) 38) (answer_of (verdict code_of_block (joined 16 before))) (Err Length)
  pub pattern : r.pattern ≡ digits 16 38 (choose (eqb (length before) 38) (pattern_of code_of_block (joined 16 before)) 0)
  pub after : exit ≡ choose (eqb (length before) 38) (digits 16 38 (scrubbed code_of_block (joined 16 before))) before
