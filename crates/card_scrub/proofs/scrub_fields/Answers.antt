-- `card_scrub::scrub_fields` meets its contract: field after field. With what is left scrubbed, all is. Assumes nothing.
use Rattle.std.proofs.Common.{◌+◌, ◌-◌, ◌≤◌, [], length, take, drop, sym, refl, ap, ◌∙◌, subst, arith}
use Rattle.card_scrub.specs.Calls.{tallies_of}
use Rattle.card_scrub.specs.Steps.{summed, Passed, ScrubbedFirst}
use Rattle.card_scrub.proofs.Parts.{no_fields, summed_none, none_none}
use Rattle.card_scrub.proofs.Turns.{Completes, begun, next, turned}
use Rattle.card_scrub.proofs.scrub_fields.Goals as goal

pub loop-first-init : goal.loop-first-init
loop-first-init c =
    let none = no_fields c.default-tallies.result c.default-tallies.ensures in
    let rest = c.args.rest.now in (
      omega arith,
      refl,
      ap (λ t. summed t (tallies_of [])) none ∙ none_none ∙ sym none,
      c.requires,
      subst (λ t. Completes rest t 0 rest) (sym none) (begun rest c.requires),
    )

pub loop-first-preserved : goal.loop-first-preserved
loop-first-preserved c =
    let l = c.loop-first in
    let whole = c.args.rest.now in
    let first = c.scrub_first in
    let size = c.in-Some.first.size in
    let here = c.in-Some.first.here in
    let lent = take (length l.rest - l.at) (drop l.at l.rest) in
    let step : Passed lent size here first.new.rest = subst (λ r. ScrubbedFirst lent r first.new.rest) c.in-Some.is first.ensures in
    let inside : l.at ≤ length l.rest = omega (arith, l.invariant.0, l.invariant.1) in
    let turn = turned l.rest first.new.rest whole l.at size l.tallies here inside step l.invariant.4 in
    let is = c.plus-tallies.ensures in (
      omega (arith, turn.0, l.invariant.1),
      turn.1 ∙ l.invariant.1,
      ap (λ t. summed t (tallies_of [])) is ∙ summed_none l.tallies here ∙ sym is,
      turn.2,
      subst (λ t. Completes whole t (l.at + size) (next l.rest first.new.rest whole l.at size l.tallies here inside step l.invariant.4)) (sym is) turn.3,
    )
