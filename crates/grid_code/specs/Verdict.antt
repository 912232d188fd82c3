-- The verdict on a grid (docs/FORMAT.md, Verdicts): that of every code, and blank where the nearest codeword is all ones. Assumes nothing.
use Rattle.std.specs.Prelude.{◌≡◌, ◌≢◌, ℕ, zero, suc, ◌≤◌, ◌<◌, eqb}
use Rattle.words.specs.Word.{choose}
use Rattle.codes.specs.Verdict as codes
use Rattle.codes.specs.Verdict.{off}
use Rattle.grid_code.specs.Code.{code_of_grid}

-- clean d and mended d n as in every code. blank n: an erased grid, after n flips. It has no data.
pub data Verdict : Type 0 where
  clean : ℕ → Verdict
  blank : ℕ → Verdict
  mended : ℕ → ℕ → Verdict
  lost : Verdict

-- Flash comes erased to all ones. That is the codeword of this value (specs/Promises.antt, `all_ones`), so no number is stored as it.
abbrev pub erased : ℕ
erased = 65535

abbrev pub all_set : ℕ
all_set = 0xFFFF_FFFF_FFFF_FFFF

-- What a verdict of the code is called of a grid: blank where the nearest codeword is all ones, and else as it is.
abbrev pub named : codes.Verdict → Verdict
named (codes.clean d) = choose (eqb d erased) (blank 0) (clean d)
named (codes.mended d n) = choose (eqb d erased) (blank n) (mended d n)
named codes.lost = lost

-- v is the verdict on the grid w: w has a verdict by the code, and v is what that is called
abbrev pub IsGridVerdict : ℕ → Verdict → Type 0
IsGridVerdict w v = (u : codes.Verdict) × codes.IsVerdict code_of_grid w u × (v ≡ named u)

-- the same as a function (specs/Promises.antt, `settled` and `one_verdict`)
abbrev pub grid_verdict : ℕ → Verdict
grid_verdict w = named (codes.verdict code_of_grid w)

-- clean or mended, by the flips
abbrev pub answered : ℕ → ℕ → Verdict
answered d zero = clean d
answered d (suc n) = mended d (suc n)

-- the flips, and 0 where there are none
abbrev pub flips_of : Verdict → ℕ
flips_of (clean d) = 0
flips_of (blank n) = n
flips_of (mended d n) = n
flips_of lost = 0

-- 1 where the verdict is clean, and 0 where not; the same for blank, mended and lost
abbrev pub is_clean : Verdict → ℕ
is_clean (clean d) = 1
is_clean (blank n) = 0
is_clean (mended d n) = 0
is_clean lost = 0

abbrev pub is_blank : Verdict → ℕ
is_blank (clean d) = 0
is_blank (blank n) = 1
is_blank (mended d n) = 0
is_blank lost = 0

abbrev pub is_mended : Verdict → ℕ
is_mended (clean d) = 0
is_mended (blank n) = 0
is_mended (mended d n) = 1
is_mended lost = 0

abbrev pub is_lost : Verdict → ℕ
is_lost (clean d) = 0
is_lost (blank n) = 0
is_lost (mended d n) = 0
is_lost lost = 1

-- what a verdict hands out: the data d, after n flips
abbrev pub Hands : Verdict → ℕ → ℕ → Type 0
Hands (clean e) d n = (e ≡ d) × (n ≡ 0)
Hands (blank m) d n = ⊥
Hands (mended e m) d n = (e ≡ d) × (n ≡ m)
Hands lost d n = ⊥

-- Demand 3, of the verdict v on the grid w. Blank is an answer of its own.
pub record GridDemand3 (w : ℕ) (v : Verdict) : Type 0 where
  -- data is handed out where the codeword of a number is within 7 places, and it is that number ..
  pub given : (d : ℕ) → d < erased → off code_of_grid w d ≤ 7 → Hands v d (off code_of_grid w d)
  -- .. and nowhere else
  pub within : (d n : ℕ) → Hands v d n → (d < erased) × (off code_of_grid w d ≤ 7)
  -- the grid is blank where all ones are within 7 places, and nowhere else
  pub blank_given : off code_of_grid w erased ≤ 7 → v ≡ blank (off code_of_grid w erased)
  pub blank_within : (n : ℕ) → v ≡ blank n → off code_of_grid w erased ≤ 7
  -- every other codeword is further off
  pub others : (d n : ℕ) → Hands v d n → (e : ℕ) → e ≤ erased → e ≢ d → off code_of_grid w d < off code_of_grid w e
  pub blank_others : (n : ℕ) → v ≡ blank n → (e : ℕ) → e < erased → off code_of_grid w erased < off code_of_grid w e
  -- the flips are the number of places that differ
  pub flips : (d n : ℕ) → Hands v d n → n ≡ off code_of_grid w d
  pub blank_flips : (n : ℕ) → v ≡ blank n → n ≡ off code_of_grid w erased
