-- That no second outcome satisfies the statement of a step (`one_outcome`). Assumes nothing.
use Rattle.std.specs.Prelude.{◌≡◌, List, ℕ}
use Rattle.grid_rows.specs.Rows.{Packed, Unpacked, RepairedRows}

pub record OneOutcome : Type 0 where
  pub number : (rows : List ℕ) (a b : ℕ) → Packed rows a → Packed rows b → a ≡ b
  pub of_number : (w : ℕ) (a b : List ℕ) → Unpacked w a → Unpacked w b → a ≡ b
  pub repaired : (rows a b : List ℕ) → RepairedRows rows a → RepairedRows rows b → a ≡ b
