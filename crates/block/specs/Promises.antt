-- What is proved of the block's calls, whatever was given (`encode_promised`, `scrub_promised`, `one_outcome`). What is proved of the code
-- stands in the crate block_code. Assumes nothing.
use Rattle.std.specs.Prelude.{◌≡◌, ◌≢◌, ◌⊎◌, List, ℕ, ◌^◌, ◌≤◌, ◌<◌, length, take, replicate, Result, ⊤}
use Rattle.std.specs.Int.Bits.{bit_xor}
use Rattle.std.specs.Int.Count.{ones}
use Rattle.words.specs.Word.{dist}
use Rattle.words.specs.Digits.{digits, joined, Below}
use Rattle.refusals.specs.declared.Refusal.TheVariants.{LostBlock}
use Rattle.refusals.specs.Reply.{gives, refuses}
use Rattle.codes.specs.Verdict.{Verdict, clean, IsVerdict, Tie, answered, replied, flips_of, repaired}
use Rattle.codes.specs.Promises.{Demand3}
use Rattle.codes.specs.Tally.{tally_of_one, Again}
use Rattle.block_code.specs.Equations.{Codeword}
use Rattle.block_code.specs.Code.{codeword, code_of_block}
use Rattle.block.specs.Answer.{data_in, means, encode_means}
use Rattle.block.specs.Calls.{Encoded, Scrubbed}
use Rattle.block.specs.declared.Scrub.{Scrub}
use Rattle.refusals.specs.declared.Refusal.{Refusal}

-- What the encoder promises.
pub record EncodePromises : Type 0 where
  -- Exactly 32 words in and exactly 38 out are accepted; any other length is refusal 3, and nothing is written.
  pub accepted : (values before exit : List ℕ) (r : Result ⊤ Refusal) → length values ≡ 32 → length before ≡ 38
      → Encoded values before r exit → encode_means r exit ≡ gives (digits 16 38 (codeword (joined 16 values)))
  pub refused : (values before exit : List ℕ) (r : Result ⊤ Refusal) → (length values ≢ 32) ⊎ (length before ≢ 38)
      → Encoded values before r exit → (encode_means r exit ≡ refuses 3) × (exit ≡ before)
  -- What is given meets the equations, and words 0 to 31 are the data as given.
  pub meets : (values before exit ws : List ℕ) (r : Result ⊤ Refusal) → Encoded values before r exit → encode_means r exit ≡ gives ws
      → Codeword (joined 16 values) (joined 16 ws)
  pub data_kept : (values before exit ws : List ℕ) (r : Result ⊤ Refusal) → Below 16 values → Encoded values before r exit
      → encode_means r exit ≡ gives ws → take 32 ws ≡ values

-- What the scrub promises, whatever was read.
pub record ScrubPromises : Type 0 where
  -- Any length but 38 is refusal 3, and nothing is written.
  pub refused : (ws exit : List ℕ) (r : Scrub) → length ws ≢ 38 → Scrubbed ws r exit → (means r.answer exit ≡ refuses 3) × (exit ≡ ws)
  -- No block has two nearest codewords within 2 places, so there is no tie among the answers: ..
  pub no_tie : (ws : List ℕ) → Tie code_of_block (joined 16 ws) → ⊥
  -- .. of 38 words the verdict is given, or the block is lost and refused with 2.
  pub numbers : (ws exit : List ℕ) (r : Scrub) → length ws ≡ 38 → Scrubbed ws r exit
      → ((v : Verdict) × (means r.answer exit ≡ gives v)) ⊎ (means r.answer exit ≡ refuses 2)
  -- Answer and words are those of the verdict by its definition, the codeword or the words as they were; and every word has a verdict.
  pub is_verdict : (ws exit : List ℕ) (r : Scrub) (v : Verdict) → length ws ≡ 38 → Scrubbed ws r exit
      → IsVerdict code_of_block (joined 16 ws) v
      → (means r.answer exit ≡ replied LostBlock v) × (exit ≡ digits 16 38 (repaired code_of_block (joined 16 ws) v))
  pub has_verdict : (ws : List ℕ) → (v : Verdict) × IsVerdict code_of_block (joined 16 ws) v
  -- Demand 3: a block is put right exactly where some codeword is within 2 places; it is that codeword then, every other is further off,
  -- and the flips are the places that differ.
  pub demand3 : (ws exit : List ℕ) (r : Scrub) → length ws ≡ 38 → Scrubbed ws r exit
      → (v : Verdict) × (means r.answer exit ≡ replied LostBlock v) × Demand3 code_of_block (joined 16 ws) v
  -- So, where some codeword is within 2 places, the words are that codeword afterwards; where none is, the block is lost.
  pub within : (ws exit : List ℕ) (r : Scrub) (d : ℕ) → length ws ≡ 38 → Scrubbed ws r exit → d < 2 ^ 512
      → dist (joined 16 ws) (codeword d) ≤ code_of_block.radius
      → (means r.answer exit ≡ gives (answered d (dist (joined 16 ws) (codeword d)))) × (exit ≡ digits 16 38 (codeword d))
  pub beyond : (ws exit : List ℕ) (r : Scrub) → length ws ≡ 38 → Scrubbed ws r exit
      → ((d : ℕ) → d < 2 ^ 512 → code_of_block.radius < dist (joined 16 ws) (codeword d)) → means r.answer exit ≡ refuses 2
  -- Where a verdict is given the words are a codeword afterwards, and words 0 to 31 are its data; ..
  pub codeword_now : (ws exit : List ℕ) (r : Scrub) (v : Verdict) → Scrubbed ws r exit → means r.answer exit ≡ gives v
      → Codeword (data_in exit) (joined 16 exit)
  -- .. where something is refused, they are as they were.
  pub as_read : (ws exit : List ℕ) (r : Scrub) → Below 16 ws → Scrubbed ws r exit → ((v : Verdict) → means r.answer exit ≢ gives v)
      → exit ≡ ws
  -- The flips are the places in which the words differ from what they were, checks included.
  pub changed : (ws exit : List ℕ) (r : Scrub) (v : Verdict) → Below 16 ws → Scrubbed ws r exit → means r.answer exit ≡ gives v
      → flips_of v ≡ dist (joined 16 ws) (joined 16 exit)
  -- The pattern has 38 words of 16 bits. The words read and the pattern combined give the words afterwards: the codeword, unless the block
  -- is lost. ..
  pub pattern_fits : (ws exit : List ℕ) (r : Scrub) → Scrubbed ws r exit → (length r.pattern ≡ 38) × Below 16 r.pattern
  pub pattern_gives : (ws exit : List ℕ) (r : Scrub) → length ws ≡ 38 → Below 16 ws → Scrubbed ws r exit
      → bit_xor (joined 16 ws) (joined 16 r.pattern) ≡ joined 16 exit
  -- .. The flips are the ones in the pattern, ..
  pub pattern_flips : (ws exit : List ℕ) (r : Scrub) (v : Verdict) → Below 16 ws → Scrubbed ws r exit → means r.answer exit ≡ gives v
      → flips_of v ≡ ones (joined 16 r.pattern)
  -- .. and it is all zero where the block is clean, and where something is refused.
  pub pattern_clean : (ws exit : List ℕ) (r : Scrub) (d : ℕ) → Scrubbed ws r exit → means r.answer exit ≡ gives (clean d)
      → r.pattern ≡ replicate 38 0
  pub pattern_refused : (ws exit : List ℕ) (r : Scrub) → Scrubbed ws r exit → ((v : Verdict) → means r.answer exit ≢ gives v)
      → r.pattern ≡ replicate 38 0
  -- What was encoded is clean, with the same data, and stays as it is.
  pub encoded : (values before ws exit given : List ℕ) (a : Result ⊤ Refusal) (r : Scrub) → Below 16 values → Encoded values before a ws
      → encode_means a ws ≡ gives given → Scrubbed ws r exit → (means r.answer exit ≡ gives (clean (joined 16 values))) × (exit ≡ ws)
  -- Up to two flips of a written block, checks included, are undone, with the right data and count, and they are the pattern.
  pub undone : (d p : ℕ) (exit : List ℕ) (r : Scrub) → d < 2 ^ 512 → p < 2 ^ 608 → ones p ≤ code_of_block.radius
      → Scrubbed (digits 16 38 (bit_xor (codeword d) p)) r exit
      → (means r.answer exit ≡ gives (answered d (ones p))) × (r.pattern ≡ digits 16 38 p) × (exit ≡ digits 16 38 (codeword d))
  -- A second scrub finds clean what was clean or mended, and lost what was lost, with no flips, and changes nothing.
  pub again : (ws once twice : List ℕ) (r s : Scrub) → length ws ≡ 38 → Below 16 ws → Scrubbed ws r once → Scrubbed once s twice
      → (v : Verdict) × (u : Verdict) × (means r.answer once ≡ replied LostBlock v) × (means s.answer twice ≡ replied LostBlock u)
      × Again (tally_of_one v) (tally_of_one u) × (twice ≡ once)

-- No second outcome satisfies the statement of a call.
pub record OneOutcome : Type 0 where
  pub encode : (values before a b : List ℕ) (r s : Result ⊤ Refusal) → Encoded values before r a → Encoded values before s b
      → (r ≡ s) × (a ≡ b)
  pub scrub : (ws a b : List ℕ) (r s : Scrub) → Scrubbed ws r a → Scrubbed ws s b → (r ≡ s) × (a ≡ b)
