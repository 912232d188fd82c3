-- `harness_page::page_scrub` meets its contract: the stores behind the scrub. Assumes nothing.
use mathlib.Core.Path.{◌≡◌, refl, sym, ap, ◌∙◌}
use mathlib.Core.List.{[], ◌∷◌}
use native.Mathlib.Omega.{arith}
use lib.ListN.{length}
use Rattle.words.proofs.Bytes.{laid_all}
use Rattle.refusals.specs.Reply.{number_in}
use Rattle.page.specs.Answer.{means}
use Rattle.harness_page.specs.Exports.{shown, pattern_shown, scrubs, stays}
use Rattle.harness_page.proofs.page_scrub.Goals as goal

pub returns-then-tally-ne6 : goal.returns-then-tally-ne6
returns-then-tally-ne6 c = stays c.if-tally-ne6.true refl refl refl refl

pub returns-in-Ok : goal.returns-in-Ok
returns-in-Ok c =
    let a = c.args in
    let s = c.scrub in
    let t = c.in-Ok.t in
    let six : length a.tally.now ≡ 6 = omega arith in
    scrubs six s.result s.ensures (sym (ap (λ r. number_in (means r)) c.in-Ok.is))
    (c.copy_from_slice.ensures.after ∙ sym (laid_all (t.grids ∷ t.clean ∷ t.blank ∷ t.mended ∷ t.lost ∷ t.flips ∷ []) a.tally.now (sym six))
    ∙ sym (ap (λ r. shown r a.tally.now) c.in-Ok.is))
    (sym (ap (λ r. pattern_shown r a.pattern.now) c.in-Ok.is))

pub returns-in-Err : goal.returns-in-Err
returns-in-Err c =
    let a = c.args in
    let s = c.scrub in
    let six : length a.tally.now ≡ 6 = omega arith in
    scrubs six s.result s.ensures (c.number.ensures.answer ∙ sym (ap (λ r. number_in (means r)) c.in-Err.is))
    (sym (ap (λ r. shown r a.tally.now) c.in-Err.is)) (sym (ap (λ r. pattern_shown r a.pattern.now) c.in-Err.is))
