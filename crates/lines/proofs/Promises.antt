-- What specs/Promises.antt says of the call and of what it prints holds. Assumes nothing.
use Rattle.std.specs.Prelude.{Err, Ok, Result}
use mathlib.Core.Path.{◌≡◌, refl, sym, ap, ◌∙◌}
use mathlib.Core.List.{List}
use Prim.Native.Nat.{ℕ, ◌≤◌, ◌<◌}
use native.Mathlib.Decide.{dec_le}
use native.Mathlib.Omega.{arith}
use lib.ListN.{length}
use borrow.Author.Tests.{le-leb}
use Rattle.words.specs.Bytes.{laid}
use Rattle.words.proofs.Bytes.{length-laid}
use Rattle.refusals.specs.declared.Refusal.TheVariants.{Broken}
use Rattle.refusals.specs.Reply.{gives, refuses}
use Rattle.refusals.proofs.Promises.{nothing_given}
use Rattle.image.specs.Card.{Card, sound, most_bytes, card_of}
use Rattle.image.proofs.Checking.{checked_found, Decided, card_found, no_card, decided}
use Rattle.card_scrub.specs.declared.Tallies.{Tallies}
use Rattle.card_scrub.specs.Answer.{means as scrub_means}
use Rattle.card_scrub.specs.Calls.{tallies_of, Scrubbed}
use Rattle.lines.specs.Text.{bytes, decimal, labelled, title_line, grids_line, blocks_line, refused_line, card_lines, lines_of}
use Rattle.lines.specs.Answer.{means}
use Rattle.lines.specs.Calls.{room, Printed}
use Rattle.lines.specs.Steps.{lines_with}
use Rattle.lines.specs.Promises.{LinesPromises, OneOutcome}
use Rattle.lines.proofs.Digits.{one_digit, right_value, all_digits, no_zero_first, only_digits}
use Rattle.lines.proofs.Printing.{counted, refused_lines, no_room}
use Rattle.lines.proofs.Lengths.{one_line, three_lines, fits}
use Rattle.refusals.specs.declared.Refusal.{Refusal}

-- no second outcome
same : {image text a b s t : List ℕ} {r q : Result ℕ Refusal} → Printed image text r a s → Printed image text q b t → (r ≡ q) × (a ≡ b) × (s ≡ t)
same x y = (x.answer ∙ sym y.answer, x.image_after ∙ sym y.image_after, x.text_after ∙ sym y.text_after)

module _ {image text image' text' : List ℕ} {r : Result ℕ Refusal} (h : Printed image text r image' text') where
  short : length text < room → (means r ≡ refuses 6) × (image' ≡ image) × (text' ≡ text)
  short l = let (a, i, t) = same h (no_room image text l) in (ap means a, i, t)

  done : room ≤ length text
      → (means r ≡ gives (length (lines_of image))) × (text' ≡ laid (lines_of image) text)
      × ((q : Result Tallies Refusal) (exit : List ℕ) → Scrubbed image q exit → image' ≡ exit)
  done l =
      let f = le-leb room (length text) l in
      let answer : r ≡ Ok (length (lines_of image)) = h.answer ∙ (rw f) in
      (ap means answer, h.text_after ∙ (rw f), λ q exit s. h.image_after ∙ (rw f (sym s.after)))

  given : (n : ℕ) → means r ≡ gives n → n ≤ length text'
  given n m = go (dec_le room (length text))
    where
      go : Dec (room ≤ length text) → n ≤ length text'
      go (yes l) =
          let (a, t, i) = done l in
          let many : length (lines_of image) ≡ n = cc in
          omega (arith, fits image, many, ap length t, length-laid (lines_of image) text (omega (arith, fits image)))
      go (no l) = let z : ◌≡◌ {A = ℕ} 0 1 = cc (short (omega arith)).0 in absurd (omega arith)

-- the card of an image that was scrubbed
record Whole (s : List ℕ) (t : Tallies) : Type 0 where
  pub card : Card
  pub few : length s ≤ most_bytes
  pub is : card_of s ≡ sound card
  pub tally : t ≡ tallies_of card.parts

module _ (s exit : List ℕ) (q : Result Tallies Refusal) (t : Tallies) (h : Scrubbed s q exit) (m : scrub_means q ≡ gives t) where
  whole : Whole s t
  whole = go (decided s)
    where
      go : Decided s → Whole s t
      go (card_found c l e) =
          let a = ap scrub_means (h.answer ∙ checked_found s Err counted l e) in
          record { card = c; few = l; is = e; tally = cc }
      go (no_card why f) = nothing_given why (sym (ap scrub_means (h.answer ∙ f (Result Tallies Refusal) Err counted)) ∙ m)

  of_done : lines_of s ≡ lines_with whole.card.title t
  of_done =
      checked_found s refused_line card_lines whole.few whole.is ∙ ap (lines_with whole.card.title) (sym whole.tally)

-- four lines, computed
title_example : title_line (bytes "Mira") ≡ bytes "title Mira\n"
unfolding title_line
title_example = refl

grids_example : grids_line (record { grids = 2; clean = 0; blank = 0; mended = 1; lost = 1; flips = 1; pattern = 1 })
    ≡ bytes "grids 2 clean 0 blank 0 mended 1 lost 1 flips 1\n"
unfolding decimal labelled grids_line
grids_example = refl

blocks_example : blocks_line (record { blocks = 16; clean = 10; mended = 5; lost = 1; flips = 7 })
    ≡ bytes "blocks 16 clean 10 mended 5 lost 1 flips 7\n"
unfolding decimal labelled blocks_line
blocks_example = refl

place_example : refused_line (Broken 32768) ≡ bytes "refused 4 at 32768\n"
unfolding decimal labelled refused_line
place_example = refl

pub promised : LinesPromises
promised = record {
  short = λ image text image' text' r l h. short h l;
  done = λ image text image' text' r l h. done h l;
  fits = fits;
  given = λ image text image' text' r n h m. given h n m;
  of_done = λ s exit q t h m. let w = whole s exit q t h m in (w.card, w.is, of_done s exit q t h m);
  of_refused = refused_lines;
  three_lines = λ s exit q t h m. let w = whole s exit q t h m in three_lines s w.card w.few w.is;
  one_line = one_line;
  decimal-value = right_value;
  decimal-digits = all_digits;
  decimal_first = no_zero_first;
  decimal_zero = one_digit 0 (omega arith);
  decimal_only = only_digits;
  some_title = title_example;
  some_grids = grids_example;
  some_blocks = blocks_example;
  some_place = place_example;
}

pub one_outcome : OneOutcome
one_outcome = record { scrub = λ image text a b s t r q x y. same x y }
