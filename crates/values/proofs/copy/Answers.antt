-- `values::copy` meets its contract: place after place. Assumes nothing.
use Rattle.std.proofs.Common.{refl, ap, ◌∙◌, arith, get_or, set}
use lib.Seq.{take_all}
use Rattle.words.specs.Bytes.{laid}
use Rattle.words.proofs.Bytes.{laid_none}
use Rattle.words.proofs.Turns.{place_turn}
use Rattle.values.proofs.Fits.{copied}
use Rattle.values.proofs.copy.Goals as goal

pub loop-i-init : goal.loop-i-init
loop-i-init c = laid_none _

pub loop-i-preserved : goal.loop-i-preserved
loop-i-preserved c =
    let l = c.loop-i in
    let a = c.args in
    let turn = place_turn a.bytes.now a.to.now l.i _ (omega arith) (omega arith) refl in
    ap (λ t. set t l.i (get_or a.bytes.now l.i 0)) l.invariant ∙ turn

pub returns : goal.returns
returns c =
    let l = c.loop-i in
    let a = c.args in
    copied a.bytes.now a.to.now (omega arith) (l.invariant ∙ ap (λ b. laid b a.to.now) (take_all l.i a.bytes.now (omega arith)))
