-- Word after word.
use Rattle.std.proofs.Common.{◌≡◌, length, take, map}
use Rattle.words.specs.Bytes.{words_in, laid}
use Rattle.values.proofs.read.Given as goal

abbrev pub invariant-loop-i : goal.invariant-loop-i
invariant-loop-i g l =
    let w = g.T.Word in
    map w.number l.words ≡ laid (take l.i (words_in g.row.N (length l.initial.words) l.bytes)) (map w.number l.initial.words)
