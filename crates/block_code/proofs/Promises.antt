-- What specs/Promises.antt says of the block's code holds. Assumes nothing.
use mathlib.Core.Path.{sym}
use lib.Dec.{lit<}
use Rattle.words.proofs.Digits.{bit-digits, joined-digits, digits-joined}
use Rattle.codes.proofs.Promises.{every_code}
use Rattle.block_code.specs.Code.{code_of_block}
use Rattle.block_code.specs.Promises.{BlockPromises}
use Rattle.block_code.proofs.Distance.{distance, constants}
use Rattle.block_code.proofs.Equations.{meets, one_solution, one_value}

pub promised : BlockPromises
promised = record {
  places = λ w i c hi hc. sym (bit-digits 16 38 w i c hi hc);
  there_and_back = joined-digits 16 38;
  back_and_there = digits-joined 16 38;
  meets = meets;
  one_solution = one_solution;
  one_value = one_value;
  constants = constants;
  verdicts = (every_code code_of_block).promises 5 distance (lit< tt);
}
