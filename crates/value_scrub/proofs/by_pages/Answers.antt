-- `value_scrub::by_pages` meets its contract: page after page. What was passed is scrubbed, and the rest is as it was. Assumes nothing.
use Rattle.std.proofs.Common.{◌≡◌, ◌+◌, ◌-◌, ◌*◌, ◌/◌, ◌≤◌, ◌<◌, length, drop, refl, ◌∙◌, arith, length-drop, length-take-le}
use Rattle.std.specs.Prelude.{min}
use Rattle.value_scrub.proofs.Scrubs.{no_grids, page_more, to_page_end}
use Rattle.value_scrub.proofs.by_pages.Goals as goal

pub loop-k-init : goal.loop-k-init
loop-k-init c = (refl, no_grids c.none-tally.result c.none-tally.ensures, refl)

pub loop-k-preserved : goal.loop-k-preserved
loop-k-preserved c =
    let l = c.loop-k in
    let value = c.args.value.now in
    let long = length value in
    let at = 512 * l.k in
    let end = c.min-end.result in
    let n = (end - at) / 8 in
    let m = end - at in
    let page = c.by_page in
    let inner : at < long = omega (arith, c.div_ceil-k-end.ensures) in
    let is : end ≡ min (at + 512) long = omega (arith, c.min-end.ensures, l.invariant.0) in
    let some : at + 8 * n ≡ end = omega (arith, is, inner, c.requires.1) in
    let few : n ≤ 64 = omega (arith, is, inner) in
    let inside : at + 8 * n ≤ long = omega (arith, some, is) in
    let all : m ≡ 8 * n = omega (arith, some, is, inner) in
    let part = length-take-le m (drop at l.value) (omega (arith, inside, all, length-drop at l.value, l.invariant.0)) in
    let out : length page.new.value ≡ 8 * n = page.auto.value ∙ part ∙ all in
    let more =
    page_more value l.value at n m l.tally page.result c.plus-tally.result page.new.value c.requires.0 inside (omega arith) l.invariant.0
    l.invariant.1 l.invariant.2 all out page.ensures c.plus-tally.ensures in
    let done = to_page_end value _ c.plus-tally.result (512 * (l.k + 1)) (at + 8 * n) (omega (arith, some, is)) more in
    (more.0, done.0, done.1)
