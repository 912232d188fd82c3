-- `values::write` meets its contract: word after word. Assumes nothing.
use Rattle.std.proofs.Common.{◌≡◌, ◌*◌, ◌≤◌, sym, ap, ◌∙◌, arith, length, map, get_or}
use Rattle.std.proofs.lemmas.List.{length-map, get_or-map}
use Rattle.words.specs.Digits.{digits}
use Rattle.words.proofs.Turns.{no_words}
use Rattle.values.proofs.Fits.{room, next_put}
use Rattle.values.proofs.write.Goals as goal

pub loop-i-init : goal.loop-i-init
loop-i-init g c = no_words g.row.N (map g.T.Word.number c.args.words.now) _

pub loop-i-preserved : goal.loop-i-preserved
loop-i-preserved g c =
    let l = c.loop-i in
    let a = c.args in
    let n = g.row.N in
    let ws = map g.T.Word.number a.words.now in
    let m : length ws ≡ length a.words.now = length-map a.words.now g.T.Word.number in
    let fits : n * length ws ≤ length a.bytes.now = rw m (room g.met.T.Word.size.0 c.if-bytes-words.false) in
    let x = c.index-words-i.result in
    let is : g.T.Word.number x ≡ get_or ws l.i 0 = ap g.T.Word.number c.index-words-i.is ∙ sym (get_or-map g.T.Word.number a.words.now l.i x 0 c.loop-i-test.true) in
    next_put n ws a.bytes.now l.bytes l.i c.copy_from_slice.new.self (omega (arith, m)) fits l.invariant
    (c.copy_from_slice.ensures.after ∙ c.to_bytes.ensures ∙ ap (digits 8 n) is)
