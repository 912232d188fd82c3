-- `harness_card::image_scrub` meets its contract: the stores behind the scrub. Assumes nothing.
use Rattle.std.proofs.Common.{◌≡◌, sym, ap, ◌∙◌, [], ◌∷◌, length, arith}
use Rattle.words.proofs.Bytes.{laid_all}
use Rattle.card_scrub.specs.Answer.{means}
use Rattle.harness_card.specs.Exports.{scrub_shown, tallied, pattern_shown, scrubs}
use Rattle.harness_card.proofs.image_scrub.Goals as goal

pub returns-in-Ok : goal.returns-in-Ok
returns-in-Ok c =
    let a = c.args in
    let s = c.scrub in
    let is = c.in-Ok.is in
    let eleven : length a.tallies.now ≡ 11 = omega arith in
    let g = c.in-Ok.t.grids in
    let b = c.in-Ok.t.blocks in
    scrubs eleven s.result s.ensures (c.packed-in-Ok.ensures ∙ sym (ap scrub_shown is))
    (c.copy_from_slice.ensures.after ∙ sym (laid_all (g.grids ∷ g.clean ∷ g.blank ∷ g.mended ∷ g.lost ∷ g.flips ∷ b.blocks ∷ b.clean ∷ b.mended ∷ b.lost ∷ b.flips ∷ [])
    a.tallies.now (sym eleven))
    ∙ sym (ap (λ r. tallied (means r) a.tallies.now) is))
    (sym (ap (λ r. pattern_shown (means r) a.pattern.now) is))

pub returns-in-Err : goal.returns-in-Err
returns-in-Err c =
    let a = c.args in
    let s = c.scrub in
    let is = c.in-Err.is in
    let eleven : length a.tallies.now ≡ 11 = omega arith in
    scrubs eleven s.result s.ensures (c.refused.ensures ∙ sym (ap scrub_shown is))
    (sym (ap (λ r. tallied (means r) a.tallies.now) is)) (sym (ap (λ r. pattern_shown (means r) a.pattern.now) is))
