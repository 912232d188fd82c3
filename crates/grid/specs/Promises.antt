-- What is proved of the grid's calls, whatever was given or read (`encode_promised`, `decode_promised`, `trials_promised`,
-- `codeword_promised`, `one_outcome`).
-- What is proved of the code stands in the crate grid_code. Assumes nothing.
use Rattle.std.specs.Prelude.{◌≡◌, ◌≢◌, ◌⊎◌, Bool, true, List, ℕ, ◌+◌, ◌^◌, ◌≤◌, ◌<◌, length, Result}
use Rattle.std.specs.Int.Bits.{bit_xor}
use Rattle.std.specs.Int.Count.{ones}
use Rattle.words.specs.Word.{dist}
use Rattle.words.specs.Digits.{digits, joined, Below}
use Rattle.refusals.specs.Reply.{gives, refuses}
use Rattle.codes.specs.Verdict.{Tie}
use Rattle.codes.specs.Trials.{Repair, CandidateOf, Gives, TrialsDecide}
use Rattle.grid_code.specs.Equations.{Codeword}
use Rattle.grid_code.specs.Code.{codeword, code_of_grid}
use Rattle.grid_code.specs.Sides.{sides}
use Rattle.grid_code.specs.Verdict.{Verdict, clean, blank, erased, all_set, IsGridVerdict, answered, flips_of, GridDemand3}
use Rattle.grid.specs.Answer.{verdict_of, means, encode_means}
use Rattle.grid.specs.Calls.{Encoded, Numbered, Parted, Judged, Decoded}
use Rattle.grid.specs.declared.Answer.{Answer}
use Rattle.grid.specs.declared.Grid.{Grid}
use Rattle.refusals.specs.declared.Refusal.{Refusal}

-- What the encoder promises. Demand 2: 0 to 65,534 are encoded by the equations, and 65,535 is refused with 7.
pub record EncodePromises : Type 0 where
  pub accepted : (d : ℕ) (r : Result Grid Refusal) → d < erased → Encoded d r → encode_means r ≡ gives (digits 8 8 (codeword d))
  pub refused : (r : Result Grid Refusal) → Encoded erased r → encode_means r ≡ refuses 7
  pub meets : (d : ℕ) (r : Result Grid Refusal) (rows : List ℕ) → Encoded d r → encode_means r ≡ gives rows
      → Codeword d (joined 8 rows)

-- What the answer of a decoder promises, whatever was read.
pub record DecodePromises : Type 0 where
  -- The verdict is one by the definition, and there is no other.
  pub is_verdict : (rows : List ℕ) (r : Answer) → Decoded rows r → IsGridVerdict (joined 8 rows) (verdict_of r.verdict)
  pub only : (rows : List ℕ) (r : Answer) (v : Verdict) → Decoded rows r → IsGridVerdict (joined 8 rows) v → v ≡ verdict_of r.verdict
  -- Demand 3: data is handed out exactly where the codeword of a number is within 7 places, and it is that number; the grid is blank exactly
  -- where all ones are. Every other codeword is further off, and the flips are the places that differ.
  pub demand3 : (rows : List ℕ) (r : Answer) → Decoded rows r → GridDemand3 (joined 8 rows) (verdict_of r.verdict)
  -- No grid has two nearest codewords within 7 places, so there is no tie among the answers: ..
  pub no_tie : (rows : List ℕ) → Tie code_of_grid (joined 8 rows) → ⊥
  -- .. the verdict is given, or the grid is lost and refused with 1.
  pub numbers : (rows : List ℕ) (r : Answer) → Decoded rows r
      → (means r.verdict ≡ gives (verdict_of r.verdict)) ⊎ (means r.verdict ≡ refuses 1)
  -- The flips are the places in which the repaired grid differs from the grid as read, checks included.
  pub changed : (rows : List ℕ) (r : Answer) → length rows ≡ 8 → Below 8 rows → Decoded rows r
      → flips_of (verdict_of r.verdict) ≡ dist (joined 8 rows) (joined 8 r.grid.rows)
  -- Grid as read and pattern combined give the repaired grid, and the flips are the ones in the pattern.
  pub pattern_gives : (rows : List ℕ) (r : Answer) → length rows ≡ 8 → Below 8 rows → Decoded rows r
      → bit_xor (joined 8 rows) r.pattern ≡ joined 8 r.grid.rows
  pub pattern_flips : (rows : List ℕ) (r : Answer) → Decoded rows r → flips_of (verdict_of r.verdict) ≡ ones r.pattern
  -- The pattern is zero where the grid is clean, and where it is lost.
  pub pattern_clean : (rows : List ℕ) (d : ℕ) (r : Answer) → Decoded rows r → means r.verdict ≡ gives (clean d) → r.pattern ≡ 0
  pub pattern_refused : (rows : List ℕ) (r : Answer) → Decoded rows r → ((v : Verdict) → means r.verdict ≢ gives v) → r.pattern ≡ 0
  -- On refusal the repaired grid is the grid as read.
  pub as_read : (rows : List ℕ) (r : Answer) → length rows ≡ 8 → Below 8 rows → Decoded rows r
      → ((v : Verdict) → means r.verdict ≢ gives v) → r.grid.rows ≡ rows
  -- A blank grid is put right to all ones.
  pub blank_all_ones : (rows : List ℕ) (n : ℕ) (r : Answer) → Decoded rows r → means r.verdict ≡ gives (blank n)
      → r.grid.rows ≡ digits 8 8 all_set
  -- Decoding what was encoded gives the same data, verdict clean.
  pub encoded : (d : ℕ) (rows : List ℕ) (e : Result Grid Refusal) (r : Answer) → d < 2 ^ 16 → Encoded d e
      → encode_means e ≡ gives rows → Decoded rows r → (means r.verdict ≡ gives (clean d)) × (r.grid.rows ≡ rows)
  -- Up to seven flips of a written grid, checks included, are undone, with the right data and count, and are shown as they were made, ..
  pub undone : (d p : ℕ) (r : Answer) → d < erased → p < 2 ^ 64 → ones p ≤ code_of_grid.radius → Decoded (digits 8 8 (bit_xor (codeword d) p)) r
      → (means r.verdict ≡ gives (answered d (ones p))) × (r.grid.rows ≡ digits 8 8 (codeword d)) × (r.pattern ≡ p)
  -- .. and an erased grid stays blank with them.
  pub erased_undone : (p : ℕ) (r : Answer) → p < 2 ^ 64 → ones p ≤ code_of_grid.radius → Decoded (digits 8 8 (bit_xor all_set p)) r
      → (means r.verdict ≡ gives (blank (ones p))) × (r.grid.rows ≡ digits 8 8 all_set) × (r.pattern ≡ p)
  -- Eight are always lost, and the grid stays as read.
  pub eight : (d p : ℕ) (r : Answer) → d < 2 ^ 16 → p < 2 ^ 64 → ones p ≡ code_of_grid.radius + 1 → Decoded (digits 8 8 (bit_xor (codeword d) p)) r
      → (means r.verdict ≡ refuses 1) × (r.grid.rows ≡ digits 8 8 (bit_xor (codeword d) p))

-- What the trials promise, with every repair of rows: a row of the row code at most two flips away.
pub record TrialsPromises : Type 0 where
  -- There is a repair, and which one is taken makes no difference to a candidate.
  pub some_repair : (fix : ℕ → ℕ) × Repair sides fix
  pub any_repair : (fix other : ℕ → ℕ) (t w d : ℕ) → Repair sides fix → Repair sides other → t ≤ 2 → CandidateOf sides code_of_grid fix t w d
      → CandidateOf sides code_of_grid other t w d
  -- A trial has at most one candidate. If a codeword within 7 places exists, one of the two trials gives it.
  pub decide : (fix : ℕ → ℕ) → Repair sides fix → TrialsDecide sides code_of_grid fix
  -- The answer's trials are 1 exactly if the first candidate is within 7 places, and 2 otherwise.
  pub first_is_one : (fix : ℕ → ℕ) (rows : List ℕ) (r : Answer) (d n : ℕ) → Repair sides fix → Decoded rows r
      → Gives sides code_of_grid fix 2 (joined 8 rows) d n → r.trials ≡ 1
  pub one_is_first : (fix : ℕ → ℕ) (rows : List ℕ) (r : Answer) → Repair sides fix → Decoded rows r → r.trials ≡ 1
      → (d : ℕ) × (n : ℕ) × Gives sides code_of_grid fix 2 (joined 8 rows) d n
  pub one_or_two : (rows : List ℕ) (r : Answer) → Decoded rows r → (r.trials ≡ 1) ⊎ (r.trials ≡ 2)
  -- They are 1 where no place was flipped, and 2 where the grid is lost.
  pub unharmed_one : (rows : List ℕ) (r : Answer) (v : Verdict) → Decoded rows r → means r.verdict ≡ gives v → flips_of v ≡ 0
      → r.trials ≡ 1
  pub lost_two : (rows : List ℕ) (r : Answer) → Decoded rows r → ((v : Verdict) → means r.verdict ≢ gives v) → r.trials ≡ 2

-- What `Grid::is_codeword` promises: it is true of codewords, all ones among them, and of nothing else.
pub record CodewordPromises : Type 0 where
  pub codewords : (rows : List ℕ) (d : ℕ) (r : Bool) → d < 2 ^ 16 → joined 8 rows ≡ codeword d → Judged rows r → r ≡ true
  pub nothing_else : (rows : List ℕ) → Judged rows true → (d : ℕ) × (d < 2 ^ 16) × (joined 8 rows ≡ codeword d)

-- No second outcome satisfies the statement of a call.
pub record OneOutcome : Type 0 where
  pub encode : (d : ℕ) (a b : Result Grid Refusal) → Encoded d a → Encoded d b → a ≡ b
  pub number : (rows : List ℕ) (a b : ℕ) → Numbered rows a → Numbered rows b → a ≡ b
  pub of_number : (w : ℕ) (a b : List ℕ) → Parted w a → Parted w b → a ≡ b
  pub is_codeword : (rows : List ℕ) (a b : Bool) → Judged rows a → Judged rows b → a ≡ b
  pub decode_and_mend : (rows : List ℕ) (a b : Answer) → Decoded rows a → Decoded rows b → a ≡ b
