-- What is proved of the grid's code, for all data values and all words (`promised`). Assumes nothing.
use Rattle.std.specs.Prelude.{◌≡◌, List, ℕ, ◌^◌, ◌<◌, length, get_or}
use Rattle.words.specs.Word.{bit}
use Rattle.words.specs.Digits.{digits, joined, Below}
use Rattle.codes.specs.Verdict as codes
use Rattle.codes.specs.Promises.{States, Promises, OneMoreIsLost}
use Rattle.codes.specs.Product.{InProduct}
use Rattle.codes.specs.Trials.{IsProduct}
use Rattle.grid_code.specs.Equations.{in_row, data_of, Codeword}
use Rattle.grid_code.specs.Code.{codeword, code_of_grid}
use Rattle.grid_code.specs.Verdict.{Verdict, lost, erased, all_set, IsGridVerdict, grid_verdict, flips_of, GridDemand3}
use Rattle.grid_code.specs.Sides.{sides, row_of}

pub record GridPromises : Type 0 where
  -- Row r is byte r of the number, lowest byte first, and place c of a row is bit c.
  pub places : (g r c : ℕ) → r < 8 → c < 8 → bit (get_or (digits 8 8 g) r 0) c ≡ in_row g r c
  -- From the number to the rows and back nothing changes, nor from eight rows to the number and back.
  pub there_and_back : (g : ℕ) → g < 2 ^ 64 → joined 8 (digits 8 8 g) ≡ g
  pub back_and_there : (rows : List ℕ) → length rows ≡ 8 → Below 8 rows → digits 8 8 (joined 8 rows) ≡ rows
  -- Demand 2: encoding equals the parity equations, for all 65,536 values. The numbers 0 to 65,534 are stored; 65,535 is all ones.
  pub meets : (d : ℕ) → d < 2 ^ 16 → Codeword d (codeword d)
  pub all_ones : codeword erased ≡ all_set
  -- They have one solution for each value, ..
  pub one_solution : (d g h : ℕ) → Codeword d g → Codeword d h → g ≡ h
  -- .. two values never have the same grid, ..
  pub one_value : (d e g : ℕ) → d < 2 ^ 16 → e < 2 ^ 16 → Codeword d g → Codeword e g → d ≡ e
  -- .. and the data places of a grid are its data.
  pub data_places : (d g : ℕ) → d < 2 ^ 16 → Codeword d g → data_of g ≡ d
  -- Each row of a codeword is in the row code and each column in the column code, two codes of distance 4: from that the 16 follows.
  pub product : IsProduct sides code_of_grid
  -- Nothing else is such a word of 64 places.
  pub nothing_else : (w : ℕ) → w < 2 ^ 64 → InProduct sides (row_of w) → w ≡ codeword (data_of w)
  -- The constants: radius 7, 64 places; two different codewords differ in at least 16 places, and some in no more.
  pub constants : States code_of_grid 7 64 16
  -- The code's verdicts: demand 3, no tie, and up to seven flips undone; eight are always lost.
  pub verdicts : Promises code_of_grid
  pub eight_are_lost : OneMoreIsLost code_of_grid
  -- What they are called of a grid: each has one verdict, that of the function.
  pub settled : (w : ℕ) → IsGridVerdict w (grid_verdict w)
  pub one_verdict : (w : ℕ) (v : Verdict) → IsGridVerdict w v → v ≡ grid_verdict w
  -- Demand 3, with blank as an answer of its own.
  pub demand3 : (w : ℕ) → GridDemand3 w (grid_verdict w)
  -- The flips are those of the code, and a grid is lost where it is by the code.
  pub flips : (w : ℕ) → flips_of (grid_verdict w) ≡ codes.flips_of (codes.verdict code_of_grid w)
  pub lost_alike : (w : ℕ) → grid_verdict w ≡ lost → codes.verdict code_of_grid w ≡ codes.lost
