-- `card_scrub::scrub` meets its contract: the whole image is checked before anything is written. Assumes nothing.
use Rattle.std.specs.Prelude.{Err, Ok, Result}
use Rattle.std.proofs.Common.{ℕ, List, sym, ap, ◌∙◌, subst, rules, get_or, Fits, w8}
use Rattle.image.specs.Card.{Card, image_of}
use Rattle.image.specs.Steps.{Walks}
use Rattle.image.proofs.Checking.{checked_found, whole, start, walks, title_is, title_room, behind_title, found_behind}
use Rattle.card_scrub.specs.Calls.{scrubbed_card, tallies_of}
use Rattle.card_scrub.proofs.Parts.{scrubbed_image}
use Rattle.card_scrub.proofs.scrub.Goals as goal
use Rattle.card_scrub.specs.declared.Tallies.{Tallies}
use Rattle.refusals.specs.declared.Refusal.{Refusal}

abbrev counted : Card → Result Tallies Refusal
counted c = Ok (tallies_of c.parts)

abbrev mended : Card → List ℕ
mended c = image_of (scrubbed_card c)

pub slice_bounds-scrub_fields-count : goal.slice_bounds-scrub_fields-count
slice_bounds-scrub_fields-count c =
    let s = c.args.image.now in
    title_room s (whole s c.check.ensures c.in_ok-check.was) c.title-title.result.now c.title-title.ensures

pub slice_bounds-scrub_fields-start : goal.slice_bounds-scrub_fields-start
slice_bounds-scrub_fields-start c =
    let s = c.args.image.now in
    title_room s (whole s c.check.ensures c.in_ok-check.was) c.title-title.result.now c.title-title.ensures

pub scrub_fields-requires : goal.scrub_fields-requires
scrub_fields-requires c =
    let s = c.args.image.now in
    let w = whole s c.check.ensures c.in_ok-check.was in
    subst Walks (sym (behind_title s w c.title-title.result.now c.title-title.ensures)) (walks s w)

pub returns : goal.returns
returns c =
    let s = c.args.image.now in
    let w = whole s c.check.ensures c.in_ok-check.was in
    let title = c.title-title in
    let scrub = c.scrub_fields in
    let found = found_behind s w title.result.now title.ensures in
    let small : (i : ℕ) → Fits w8 (get_or s i 0) = λ i. search rules in
    record {
      answer = ap Ok (scrub.ensures.answer _ _ w.card.parts found) ∙ sym (checked_found s Err counted w.within w.is);
      after =
          scrubbed_image s title.result.now scrub.new.rest w.card (start s w) (title_is s w title.result.now title.ensures)
          (λ i. (small i).fits) (scrub.ensures.after _ _ w.card.parts found)
          ∙ sym (checked_found s (λ why. s) mended w.within w.is);
    }
