-- Word after word.
use Rattle.std.proofs.Common.{◌≡◌, take, map}
use Rattle.words.specs.Bytes.{bytes_of, laid}
use Rattle.values.proofs.write.Given as goal

abbrev pub invariant-loop-i : goal.invariant-loop-i
invariant-loop-i g l = let w = g.T.Word in l.bytes ≡ laid (bytes_of g.row.N (take l.i (map w.number l.words))) l.initial.bytes
