-- Number after number.
use Rattle.std.proofs.Common.{◌≡◌, map, take}
use Rattle.words.specs.Bytes.{bytes_of, laid}
use Rattle.grid_code.specs.Code.{codeword}
use Rattle.card_write.proofs.grids.Given as goal

abbrev pub invariant-loop-i : goal.invariant-loop-i
invariant-loop-i l = l.bytes ≡ laid (bytes_of 8 (take l.i (map codeword l.numbers))) l.initial.bytes
