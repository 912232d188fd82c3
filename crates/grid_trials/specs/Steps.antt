-- What the steps of the decoder compute, so that their contracts can say it. No promise to a caller cites this file. Assumes nothing.
use Rattle.std.specs.Prelude.{◌≡◌, List, ℕ, ◌^◌, ◌<◌, Option, Some, None}
use Rattle.std.specs.Int.Bits.{bit_xor}
use Rattle.words.specs.Digits.{joined}
use Rattle.codes.specs.Verdict.{Verdict, clean, mended, lost, verdict}
use Rattle.codes.specs.Trials.{aside, Gives, GivesNone, Trials}
use Rattle.grid_code.specs.Code.{codeword, code_of_grid}
use Rattle.grid_code.specs.Sides.{sides, row_of}
use Rattle.grid_rows.specs.Repair.{fixed}
use Rattle.grid_trials.specs.declared.Near.{Near}

-- rows has the repaired rows of the word
abbrev pub Repaired : ℕ → ℕ → Type 0
Repaired word rows = (r : ℕ) → r < 8 → row_of rows r ≡ fixed (row_of word r)

-- marks has place 0 of the rows that trial t sets aside, and no other place
abbrev pub Marked : ℕ → ℕ → ℕ → Type 0
Marked t word marks = (r : ℕ) → r < 8 → row_of marks r ≡ aside fixed t (row_of word r)

-- `needing`: in a row that differs from its repair in the places of x, place 0 is marked where repairing it needs a flip, and where it needs
-- two
pub record Needing (flips any two : ℕ) : Type 0 where
  pub ones : (x r : ℕ) → x < 2 ^ 8 → r < 8 → row_of flips r ≡ bit_xor x (fixed x) → row_of any r ≡ aside fixed 1 x
  pub twos : (x r : ℕ) → x < 2 ^ 8 → r < 8 → row_of flips r ≡ bit_xor x (fixed x) → row_of two r ≡ aside fixed 2 x

-- `trial`: what trial t gives, which is so many trials with those before it
pub record Tried (t word trials : ℕ) (r : Option Near) : Type 0 where
  pub gives : (near : Near) → r ≡ Some near
      → (near.trials ≡ trials) × (d : ℕ) × (near.number ≡ codeword d) × Gives sides code_of_grid fixed t word d near.flips
  pub none : r ≡ None → GivesNone sides code_of_grid fixed t word

-- what is found: the codeword, the flips and the trials
abbrev pub found : ℕ → ℕ → ℕ → Option Near
found number flips trials = Some (record { number = number; flips = flips; trials = trials })

-- the codeword and the flips of a verdict, with the trials, or that there is none
abbrev pub near_of : ℕ → Verdict → Option Near
near_of n (clean d) = found (codeword d) 0 n
near_of n (mended d m) = found (codeword d) m n
near_of n lost = None

-- those of the verdict on the word, and the trials that are reported
pub record Decided (word : ℕ) (r : Option Near) : Type 0 where
  pub trials : ℕ
  pub answer : r ≡ near_of trials (verdict code_of_grid word)
  pub reported : Trials sides code_of_grid fixed word trials

-- `nearest`: the same, of eight rows.
pub record Nearby (rows : List ℕ) (r : Option Near) : Type 0 where
  pub is : Decided (joined 8 rows) r
