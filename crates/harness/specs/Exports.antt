-- What the exports answer and leave. Assumes nothing.
use Rattle.std.specs.Prelude.{◌≡◌, List, map, ℕ, ◌+◌, ◌*◌, length, Result, Ok, Err}
use Rattle.words.specs.Digits.{joined}
use Rattle.refusals.specs.declared.Refusal.TheVariants.{LostGrid}
use Rattle.refusals.specs.Reply.{Reply, gives, refused, numbered, number_of, number_in}
use Rattle.codes.specs.Verdict as codes
use Rattle.codes.specs.Verdict.{scrubbed, pattern_of}
use Rattle.codes.specs.Trials.{trials_of}
use Rattle.grid_code.specs.Code.{code_of_grid}
use Rattle.grid_code.specs.Sides.{sides}
use Rattle.grid_code.specs.Verdict.{Verdict, clean, blank, mended, lost, grid_verdict}
use Rattle.grid_rows.specs.Repair.{fixed}
use Rattle.grid.specs.Answer.{encode_means}
use Rattle.grid.specs.Calls.{Encoded}
use Rattle.block.specs.Answer.{means}
use Rattle.block.specs.Calls.{Scrubbed}
use Rattle.block.specs.declared.Scrub.{Scrub}
use Rattle.grid.specs.declared.Grid.{Grid}
use Rattle.refusals.specs.declared.Refusal.{Refusal}

-- the number of a grid that is given, and 0 where there is none
abbrev pub grid_in : Result Grid Refusal → ℕ
grid_in (Ok g) = joined 8 g.rows
grid_in (Err why) = 0

-- What `Grid::encode` answers, with its reply as one number, and the number of its grid.
pub record GridEncoded (value r grid : ℕ) : Type 0 where
  pub encoding : Result Grid Refusal
  pub is : Encoded value encoding
  pub number : r ≡ number_in (encode_means encoding)
  pub written : grid ≡ grid_in encoding

-- a verdict and the trials as one number: the data, the flips from bit 16 on, the number of a refusal from bit 24 on, the trials from bit 28
-- on, and bit 32 where the grid is blank
abbrev pub packed : Verdict → ℕ → ℕ
packed (clean d) t = d + t * 268435456
packed (blank n) t = n * 65536 + 4294967296 + t * 268435456
packed (mended d n) t = d + n * 65536 + t * 268435456
packed lost t = number_of (numbered LostGrid) * 16777216 + t * 268435456

-- .. of a word
abbrev pub shown : ℕ → ℕ
shown w = packed (grid_verdict w) (trials_of sides code_of_grid fixed w)

-- the reply of a block's scrub as one number: the flips, or the number of a refusal from bit 8 on
abbrev pub flips_or_number : Reply codes.Verdict → ℕ
flips_or_number (gives v) = codes.flips_of v
flips_or_number (refused k) = number_of k * 256

-- What `Block::scrub` answers, with its reply as one number, and its pattern.
pub record BlockScrubbed (before : List ℕ) (r : ℕ) (exit pattern : List ℕ) : Type 0 where
  pub scrub : Scrub
  pub is : Scrubbed before scrub exit
  pub number : r ≡ flips_or_number (means scrub.answer exit)
  pub written : pattern ≡ scrub.pattern

-- four slices of one length
abbrev pub Alike : List ℕ → List ℕ → List ℕ → List ℕ → Type 0
Alike words verdicts repaired patterns = (length verdicts ≡ length words) × (length repaired ≡ length words) × (length patterns ≡ length words)

-- Each word's verdict and trials, its codeword or the word as read, and its pattern. Where the slices are not of one length, nothing is written.
pub data Decoding (words verdicts repaired patterns verdicts' repaired' patterns' : List ℕ) : Type 0 where
  decodes : Alike words verdicts repaired patterns → verdicts' ≡ map shown words
      → repaired' ≡ map (scrubbed code_of_grid) words → patterns' ≡ map (pattern_of code_of_grid) words
      → Decoding words verdicts repaired patterns verdicts' repaired' patterns'
  stays : (Alike words verdicts repaired patterns → ⊥) → verdicts' ≡ verdicts → repaired' ≡ repaired → patterns' ≡ patterns
      → Decoding words verdicts repaired patterns verdicts' repaired' patterns'
