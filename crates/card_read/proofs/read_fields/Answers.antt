-- `card_read::read_fields` meets its contract: field after field. With what is left read, all is. Assumes nothing.
use Rattle.std.proofs.Common.{◌-◌, ◌∙◌, arith, subst, length, take, drop}
use lib.ListN.{length-drop}
use Rattle.words.proofs.Lists.{length_part}
use Rattle.card_read.specs.Steps.{ReadsFields, Passed, ReadFirst}
use Rattle.card_read.proofs.Turns.{as_lent, lent_as, returned_long, turn_reads, turned}
use Rattle.card_read.proofs.read_fields.Goals as goal

pub read_first-requires : goal.read_first-requires
read_first-requires c =
    let l = c.loop-first in
    lent_as ReadsFields c.args.rest.now l.numbers l.flips l.at l.k l.invariant.reads

pub loop-first-preserved : goal.loop-first-preserved
loop-first-preserved c =
    let l = c.loop-first in
    let a = c.args in
    let i = l.invariant in
    let rest = a.rest.now in
    let size = c.in-Some.first.size in
    let g = c.in-Some.first.grids in
    let ns = c.read_first.new.numbers in
    let fs = c.read_first.new.flips in
    let step =
    as_lent (λ r n f. Passed r n f size g ns fs) rest l.numbers l.flips l.at l.k
    (subst (λ r. ReadFirst (take (length rest - l.at) (drop l.at rest)) (take (length l.numbers - l.k) (drop l.k l.numbers)) (take (length l.flips - l.k) (drop l.k l.flips)) r ns fs)
    c.in-Some.is c.read_first.ensures) in
    let n_long = c.read_first.auto.numbers ∙ length_part l.k l.numbers in
    let f_long = c.read_first.auto.flips ∙ length_part l.k l.flips in
    let n_same = returned_long l.numbers ns l.k g i.numbers_inside n_long in
    let f_same = returned_long l.flips fs l.k g i.flips_inside f_long in
    let n_room = length-drop l.k l.numbers in
    let f_room = length-drop l.k l.flips in
    record {
      inside = omega (arith, step.room, length-drop l.at rest, i.inside);
      few = omega (arith, step.few, i.few);
      numbers_inside = omega (arith, step.grids-room.0, n_room, n_same, i.numbers_inside);
      flips_inside = omega (arith, step.grids-room.1, f_room, f_same, i.flips_inside);
      numbers_long = n_same ∙ i.numbers_long;
      flips_long = f_same ∙ i.flips_long;
      reads = turn_reads rest a.numbers.now a.flips.now l.numbers l.flips ns fs l.at l.k size g i.numbers_inside i.flips_inside n_long f_long step i.completes;
      completes = turned rest a.numbers.now a.flips.now l.numbers l.flips ns fs l.at l.k size g i.numbers_inside i.flips_inside n_long f_long step i.completes;
    }
