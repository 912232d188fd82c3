-- `card_read::read` meets its contract: what the check refuses, then room, and all that is read stands behind no refusal. Assumes nothing.
use Rattle.std.specs.Prelude.{Ok}
use Rattle.std.proofs.Common.{ℕ, ◌≤◌, sym, ap, ap₂, ◌∙◌, arith, subst, length}
use Rattle.words.specs.Bytes.{laid}
use Rattle.image.specs.Card.{grids_in}
use Rattle.image.proofs.Checking.{whole, walks, title_is, title_room, behind_title, found_behind}
use Rattle.values.proofs.Fits.{copy_there}
use Rattle.card_read.specs.Steps.{ReadsFields}
use Rattle.card_read.proofs.Readings.{short_title, roomy, no_room, all_read}
use Rattle.card_read.proofs.read.Goals as goal

pub returns-then-title-name : goal.returns-then-title-name
returns-then-title-name c =
    let a = c.args in
    let s = a.image.now in
    let w = whole s c.check.ensures c.in_ok-grids.was in
    let name = title_is s w c.title-name.result.now c.title-name.ensures in
    no_room s a.title.now a.numbers.now a.flips.now w.card w.within w.is
    (short_title a.title.now a.numbers.now a.flips.now w.card (omega (arith, ap length name, c.if-title-name.true)))

pub slice_bounds-read_fields-count : goal.slice_bounds-read_fields-count
slice_bounds-read_fields-count c =
    let s = c.args.image.now in
    title_room s (whole s c.check.ensures c.in_ok-grids.was) c.title-name.result.now c.title-name.ensures

pub slice_bounds-read_fields-start : goal.slice_bounds-read_fields-start
slice_bounds-read_fields-start c =
    let s = c.args.image.now in
    title_room s (whole s c.check.ensures c.in_ok-grids.was) c.title-name.result.now c.title-name.ensures

pub read_fields-requires : goal.read_fields-requires
read_fields-requires c =
    let a = c.args in
    let s = a.image.now in
    let w = whole s c.check.ensures c.in_ok-grids.was in
    let here : length (grids_in w.card.parts) ≤ length a.numbers.now = omega (arith, w.grids, c.if-numbers-grids.false) in
    let there : length (grids_in w.card.parts) ≤ length a.flips.now = omega (arith, w.grids, c.if-flips-grids.false) in
    subst (λ b. ReadsFields b a.numbers.now a.flips.now) (sym (behind_title s w c.title-name.result.now c.title-name.ensures))
    (record { walks = walks s w; numbers_room = here; flips_room = there })

pub returns : goal.returns
returns c =
    let a = c.args in
    let s = a.image.now in
    let t = a.title.now in
    let ns = a.numbers.now in
    let fs = a.flips.now in
    let w = whole s c.check.ensures c.in_ok-grids.was in
    let title = c.title-name in
    let name = title_is s w title.result.now title.ensures in
    let found = found_behind s w title.result.now title.ensures in
    let room = c.if-title-name.false in
    let all =
    all_read s t ns fs w.card w.within w.is
    (roomy t ns fs w.card (omega (arith, ap length name, room)) (omega (arith, w.grids, c.if-numbers-grids.false))
    (omega (arith, w.grids, c.if-flips-grids.false))) in
    record {
      answer = ap₂ (λ (t g : ℕ). Ok (record { title = t; grids = g })) (ap length name) w.grids ∙ all.answer;
      title_after = copy_there title.result.now t c.copy.new.to room c.copy.ensures ∙ ap (λ n. laid n t) name ∙ all.title_after;
      numbers_after = c.read_fields.ensures.numbers_after _ _ w.card.parts found ∙ all.numbers_after;
      flips_after = c.read_fields.ensures.flips_after _ _ w.card.parts found ∙ all.flips_after;
    }
