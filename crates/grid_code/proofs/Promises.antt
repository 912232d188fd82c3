-- What specs/Promises.antt says of the grid's code holds. Assumes nothing.
use mathlib.Core.Path.{◌≡◌, refl, sym, ◌∙◌}
use Prim.Native.Nat.{ℕ, ◌≤◌}
use native.Mathlib.Nat.{le_trans, le_antisymm}
use native.Mathlib.Omega.{arith}
use lib.Count.{ones}
use lib.Dec.{lit<, lit≤}
use Rattle.words.specs.Word.{dist}
use Rattle.words.proofs.Digits.{bit-digits, joined-digits, digits-joined, dist-digits}
use Rattle.codes.specs.Verdict.{verdict}
use Rattle.codes.specs.Promises.{States, Promises}
use Rattle.codes.proofs.Promises.{every_code}
use Rattle.grid_code.specs.Code.{codeword, code_of_grid}
use Rattle.grid_code.specs.Verdict.{erased, all_set}
use Rattle.grid_code.specs.Promises.{GridPromises}
use Rattle.grid_code.proofs.Codeword.{is_codeword, one_solution, one_value}
use Rattle.grid_code.proofs.Distance.{is_product, from_product, codeword_lt, distance}
use Rattle.grid_code.proofs.Places.{data_is}
use Rattle.grid_code.proofs.Verdict as grid

-- the grids of 0 and 1
sixteen_apart : dist (codeword 0) (codeword 1) ≡ 16
unfolding codeword dist ones
sixteen_apart = dist-digits 8 8 (codeword 0) (codeword 1) (lit< tt) (lit< tt)

-- two codewords are 16 places apart or more, and some no more
states : {radius places n : ℕ} → radius ≡ 7 → places ≡ 64 → n ≤ 16 → 16 ≤ n → States code_of_grid radius places n
states p q l h = record {
  radius_is = p;
  places_are = q;
  fits = codeword_lt;
  apart = λ d e hd he ne. le_trans l (distance d e hd he ne);
  reached = (0, 1, lit< tt, lit< tt, (λ e. absurd (omega arith)), sixteen_apart ∙ le_antisymm h l);
}

all_ones : codeword erased ≡ all_set
unfolding codeword
all_ones = refl

verdicts : Promises code_of_grid
verdicts = (every_code code_of_grid).promises 16 distance (lit< tt)

pub promised : GridPromises
promised = record {
  places = λ g r c hr hc. sym (bit-digits 8 8 g r c hr hc);
  there_and_back = joined-digits 8 8;
  back_and_there = digits-joined 8 8;
  meets = is_codeword;
  all_ones = all_ones;
  one_solution = one_solution;
  one_value = one_value;
  data_places = data_is;
  product = is_product;
  nothing_else = from_product;
  constants = states refl refl (lit≤ tt) (lit≤ tt);
  verdicts = verdicts;
  eight_are_lost = (every_code code_of_grid).one_more_is_lost 16 distance (lit≤ tt);
  settled = grid.settled verdicts;
  one_verdict = grid.one_verdict verdicts;
  demand3 = grid.demand3 verdicts;
  flips = λ w. grid.same-flips (verdict code_of_grid w);
  lost_alike = λ w. grid.lost_alike (verdict code_of_grid w);
}
