-- The grid of a number, decoded, and its number again. Assumes nothing.
use mathlib.Core.Path.{◌≡◌, ap, ◌∙◌}
use mathlib.Core.List.{List}
use Prim.Native.Nat.{ℕ, ◌^◌, ◌<◌}
use Rattle.words.specs.Digits.{digits, joined}
use Rattle.words.proofs.Digits.{joined-digits}
use Rattle.codes.specs.Verdict.{scrubbed, pattern_of}
use Rattle.codes.specs.Trials.{trials_of}
use Rattle.codes.proofs.Tally.{scrubbed_lt}
use Rattle.grid_code.specs.Code.{code_of_grid}
use Rattle.grid_code.specs.Sides.{sides}
use Rattle.grid_code.specs.Verdict.{grid_verdict}
use Rattle.grid_code.proofs.Distance.{codeword_lt}
use Rattle.grid_code.proofs.Promises.{promised}
use Rattle.grid_rows.specs.Repair.{fixed}
use Rattle.grid_rows.proofs.Repair.{repair}
use Rattle.grid_trials.proofs.Decoder.{decide}
use Rattle.grid.specs.Answer.{verdict_of}
use Rattle.grid.specs.Calls.{Decoded}
use Rattle.grid.specs.declared.Answer.{Answer}

pub decoded_verdict : (w : ℕ) (rows : List ℕ) (a : Answer) → w < 2 ^ 64 → rows ≡ digits 8 8 w → Decoded rows a → verdict_of a.verdict ≡ grid_verdict w
decoded_verdict w rows a l e d = d.answer ∙ ap grid_verdict (ap (joined 8) e ∙ joined-digits 8 8 w l)

pub decoded_pattern : (w : ℕ) (rows : List ℕ) (a : Answer) → w < 2 ^ 64 → rows ≡ digits 8 8 w → Decoded rows a → a.pattern ≡ pattern_of code_of_grid w
decoded_pattern w rows a l e d = d.pattern ∙ ap (pattern_of code_of_grid) (ap (joined 8) e ∙ joined-digits 8 8 w l)

pub decoded_trials : (w : ℕ) (rows : List ℕ) (a : Answer) → w < 2 ^ 64 → rows ≡ digits 8 8 w → Decoded rows a
    → a.trials ≡ trials_of sides code_of_grid fixed w
decoded_trials w rows a l e d =
    decide.reported (joined 8 rows) a.trials (trials_of sides code_of_grid fixed (joined 8 rows)) (d.trials fixed repair)
    (decide.computed (joined 8 rows))
    ∙ ap (trials_of sides code_of_grid fixed) (ap (joined 8) e ∙ joined-digits 8 8 w l)

pub scrubbed_number : (w : ℕ) → w < 2 ^ 64 → joined 8 (digits 8 8 (scrubbed code_of_grid w)) ≡ scrubbed code_of_grid w
scrubbed_number w l =
    joined-digits 8 8 (scrubbed code_of_grid w) (scrubbed_lt code_of_grid promised.verdicts (2 ^ 64) codeword_lt w l)

pub decoded_number : (w n : ℕ) (rows : List ℕ) (a : Answer) → w < 2 ^ 64 → rows ≡ digits 8 8 w → Decoded rows a → n ≡ joined 8 a.grid.rows
    → n ≡ scrubbed code_of_grid w
decoded_number w n rows a l e d p =
    p ∙ ap (joined 8) (d.repaired ∙ ap (λ (x : ℕ). digits 8 8 (scrubbed code_of_grid x)) (ap (joined 8) e ∙ joined-digits 8 8 w l))
    ∙ scrubbed_number w l
