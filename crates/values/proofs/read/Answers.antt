-- `values::read` meets its contract: word after word. Assumes nothing.
use Rattle.std.proofs.Common.{ap, ◌∙◌, ◌/◌, ◌≤◌, ◌<◌, arith, length}
use Rattle.words.specs.Digits.{joined}
use Rattle.words.proofs.Bytes.{laid_none}
use Rattle.values.proofs.Fits.{chunk_there, next_taken, all_taken}
use Rattle.values.proofs.read.Goals as goal

pub as_chunks-requires : goal.as_chunks-requires
as_chunks-requires g c = let s = g.met.T.Word.size in (omega (arith, s), s.0)

pub loop-i-init : goal.loop-i-init
loop-i-init g c = laid_none _

pub loop-i-preserved : goal.loop-i-preserved
loop-i-preserved g c =
    let l = c.loop-i in
    let bytes = c.args.bytes.now in
    let words = c.args.words.now in
    let number = g.T.Word.number in
    let n = length words in
    let m = length bytes / g.row.N in
    let x = c.from_bytes.result in
    let chunk = c.index-chunks-i in
    let chunks = c.as_chunks in
    let more : l.i < m = omega (arith, chunks.ensures.front_len) in
    next_taken number g.row.N bytes words l.words l.i x c.loop-i-test.true l.invariant
    (c.from_bytes.ensures ∙ ap (joined 8) chunk.is
    ∙ chunk_there g.row.N m n bytes chunks.result.0.now l.i chunk.result chunks.ensures.front more c.loop-i-test.true)

pub returns : goal.returns
returns g c =
    let l = c.loop-i in
    let bytes = c.args.bytes.now in
    let words = c.args.words.now in
    let each = g.met.T.Word.each in
    let fits : length words ≤ length bytes / g.row.N = omega (arith, c.as_chunks.ensures.front_len) in
    rw (each words, each l.words)
    (all_taken g.T.Word.number g.row.N bytes words l.words l.i g.met.T.Word.size.0 fits c.loop-i-test.false l.invariant)
