-- What a scrub tells of the lines, and the two outcomes of the call. Assumes nothing.
use Rattle.std.specs.Prelude.{Err, Ok, Result}
use mathlib.Core.Path.{◌≡◌, refl, sym, ap, ap₂, ◌∙◌}
use mathlib.Core.Bool.{true, and-eq-true_iff}
use mathlib.Core.List.{List}
use Prim.Native.Nat.{ℕ, ◌≤◌, ◌<◌}
use native.Mathlib.Omega.{arith}
use lib.Dec.{eqb}
use lib.ListN.{length}
use borrow.Author.Tests.{le-leb, lt-leb}
use Rattle.words.specs.Digits.{Below}
use Rattle.words.specs.Bytes.{laid}
use Rattle.refusals.specs.declared.Refusal.{Refusal}
use Rattle.refusals.specs.declared.Refusal.TheVariants.{Room}
use Rattle.fields.specs.Fields.{title_most, title_length, first_bad, is_title}
use Rattle.fields.proofs.Titles.{title_length_lem}
use Rattle.image.specs.Card.{Card}
use Rattle.image.specs.Calls.{TitleGiven}
use Rattle.image.proofs.Checking.{checked_found, Decided, card_found, no_card, decided, title_given}
use Rattle.image.proofs.Promises as image
use Rattle.card_scrub.specs.declared.Tallies.{Tallies}
use Rattle.card_scrub.specs.Calls.{scrubbed_card, tallies_of, Scrubbed}
use Rattle.card.proofs.Promises.{scrub_promised}
use Rattle.lines.specs.Text.{refused_line, card_lines, lines_of}
use Rattle.lines.specs.Calls.{room, Printed}
use Rattle.lines.specs.Steps.{lines_with}

-- ---- what the lines are, by the answer of the scrub

abbrev pub counted : Card → Result Tallies Refusal
counted c = Ok (tallies_of c.parts)

pub refused_lines : (s exit : List ℕ) (why : Refusal) → Scrubbed s (Err why) exit → lines_of s ≡ refused_line why
refused_lines s exit why h = go (decided s)
  where
    go : Decided s → lines_of s ≡ refused_line why
    go (card_found c l e) = cc (h.answer, checked_found s Err counted l e)
    go (no_card other f) =
        let same : other ≡ why = cc (h.answer, f (Result Tallies Refusal) Err counted) in f (List ℕ) refused_line card_lines ∙ ap refused_line same

pub title_few : (title : List ℕ) → is_title title ≡ true → length title ≤ title_most
title_few title e =
    (title_length_lem (length title) ((and-eq-true_iff (title_length (length title)) (eqb (first_bad title) (length title))).0 e).0).1

-- the title is read behind the scrub, and is as it was
pub scrubbed_lines : (s exit title : List ℕ) (t : Tallies) → Below 8 s → Scrubbed s (Ok t) exit → TitleGiven exit title
    → (lines_of s ≡ lines_with title t) × (length title ≤ title_most)
scrubbed_lines s exit title t b h g = go (decided s)
  where
    go : Decided s → (lines_of s ≡ lines_with title t) × (length title ≤ title_most)
    go (no_card why f) = let z : ◌≡◌ {A = ℕ} 0 1 = cc (h.answer, f (Result Tallies Refusal) Err counted) in absurd (omega arith)
    go (card_found c l e) =
        let (d, is, still, frame, long) = scrub_promised.stays s exit (Ok t) t b h refl in
        let same : d ≡ c = cc in
        let tally : t ≡ tallies_of c.parts = cc (h.answer, checked_found s Err counted l e) in
        let name : title ≡ c.title = title_given exit title (scrubbed_card d) still g ∙ ap (λ (c : Card). c.title) same in (
          checked_found s refused_line card_lines l e ∙ ap₂ lines_with (sym name) (sym tally),
          omega (arith, ap length name, title_few c.title ((image.promised).back_and_there s c b e).0.title),
        )

-- ---- the call

module _ (s text : List ℕ) where
  pub no_room : length text < room → Printed s text (Err Room) s text
  no_room l = let f = lt-leb room (length text) l in record { answer = rw f; image_after = rw f; text_after = rw f }

  pub printed : room ≤ length text → {vs exit text' : List ℕ} {r : Result Tallies Refusal} {n : ℕ} → Scrubbed s r exit → lines_of s ≡ vs
      → n ≡ length vs → text' ≡ laid vs text → Printed s text (Ok n) exit text'
  printed l h e many over =
      let f = le-leb room (length text) l in
      record {
        answer = rw f (ap Ok (many ∙ sym (ap length e)));
        image_after = rw f h.after;
        text_after = rw f (over ∙ ap (λ l. laid l text) (sym e));
      }
