-- `grid_code::completed` meets its contract: the two halves are those of the codeword. Assumes nothing.
use mathlib.Core.Path.{◌≡◌, ap₂, ◌∙◌, subst}
use Prim.Native.Nat.{ℕ, ◌*◌, ◌/◌, ◌%◌, ◌^◌, ◌<◌}
use lib.Bits.{bit_or}
use Rattle.words.proofs.Digits.{both_parts}
use Rattle.grid_code.specs.Equations.{data_of}
use Rattle.grid_code.specs.Code.{codeword}
use Rattle.grid_code.specs.Steps.{Checks}
use Rattle.grid_code.proofs.Checks.{lower_rows}
use Rattle.grid_code.proofs.Distance.{codeword_lt}
use Rattle.grid_code.proofs.Places.{data_lt}
use Rattle.grid_code.proofs.completed.Goals as goal

pub returns : goal.returns
returns c =
    let d : ℕ = data_of c.args.places in
    let l : d < 2 ^ 16 = data_lt c.args.places in
    let lower : c.lower.result ≡ codeword d / 2 ^ 32 =
    lower_rows d c.lower.result l (subst (λ (x : ℕ). Checks x c.lower.result) c.upper-rows.ensures c.lower.ensures) in
    record {
      answer =
          ap₂ (λ (h u : ℕ). bit_or (h * 2 ^ 32 % 2 ^ 64) u) (c.from.ensures ∙ lower) (c.from-2.ensures ∙ c.upper-rows.ensures)
          ∙ both_parts 32 32 (codeword d) (codeword_lt d l);
    }
