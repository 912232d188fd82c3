-- What specs/Promises.antt says of reading back holds. Assumes nothing.
use Rattle.std.specs.Prelude.{Err, Result}
use mathlib.Core.Path.{◌≡◌, refl, ap, ◌∙◌}
use mathlib.Core.Logic.{◌≢◌}
use mathlib.Core.Bool.{Bool, true, false}
use mathlib.Core.List.{List}
use Prim.Native.Nat.{ℕ, ◌+◌, ◌≤◌}
use native.Mathlib.Omega.{arith}
use lib.ListN.{length}
use Rattle.refusals.specs.Reply.{gives}
use Rattle.grid_code.specs.Verdict.{Verdict, clean, blank, mended, lost, erased, grid_verdict, is_blank, GridDemand3}
use Rattle.grid_code.proofs.Promises.{promised}
use Rattle.image.specs.Card.{Card, sound, most_bytes, card_of}
use Rattle.image.proofs.Checking.{checked_long, checked_found, Decided, card_found, no_card, decided}
use Rattle.value_read.specs.Shown.{data_shown, flips_shown, data_of_grid}
use Rattle.card_read.specs.declared.Lengths.{Lengths}
use Rattle.card_read.specs.Answer.{means}
use Rattle.card_read.specs.Calls.{room_for, Read}
use Rattle.card_read.proofs.Readings.{same, not_read, no_room, all_read}
use Rattle.card.specs.Promises.{ReadPromises}
use Rattle.refusals.specs.declared.Refusal.{Refusal}

module _ (image title ns flips title' ns' flips' : List ℕ) (r : Result Lengths Refusal) (h : Read image title ns flips r title' ns' flips') where
  refused : ((v : Lengths) → means r ≢ gives v) → (title' ≡ title) × (ns' ≡ ns) × (flips' ≡ flips)
  refused n = go (decided image)
    where
      by_room : (c : Card) → length image ≤ most_bytes → card_of image ≡ sound c → (b : Bool) → room_for c title ns flips ≡ b
          → (title' ≡ title) × (ns' ≡ ns) × (flips' ≡ flips)
      by_room c l e true f = absurd (n _ (ap means (same h (all_read image title ns flips c l e f)).0))
      by_room c l e false f = let (a, t, m, k) = same h (no_room image title ns flips c l e f) in (t, m, k)

      go : Decided image → (title' ≡ title) × (ns' ≡ ns) × (flips' ≡ flips)
      go (card_found c l e) = by_room c l e (room_for c title ns flips) refl
      go (no_card why f) = let (a, t, m, k) = same h (not_read image title ns flips why (λ A refused whole. f A refused _)) in (t, m, k)

-- what is shown of a blank grid is shown of no other
shown_blank : (v : Verdict) (n : ℕ) → v ≡ blank n → (data_shown v ≡ erased) × (flips_shown v ≡ n + 128)
shown_blank v n e = (ap data_shown e, ap flips_shown e)

blank_only : (w : ℕ) → data_of_grid w ≡ erased → is_blank (grid_verdict w) ≡ 1
blank_only w e = go (grid_verdict w) (promised.demand3 w) e
  where
    go : (v : Verdict) → GridDemand3 w v → data_shown v ≡ erased → is_blank v ≡ 1
    go (clean d) h z = absurd (omega (arith, (h.within d 0 (refl, refl)).0, z))
    go (blank n) h z = refl
    go (mended d n) h z = absurd (omega (arith, (h.within d n (refl, refl)).0, z))
    go lost h z = absurd (omega (arith, z))

pub read_promised : ReadPromises
read_promised = record {
  refused = refused;
  blank_shown = λ w n. shown_blank (grid_verdict w) n;
  blank_only = blank_only;
  long = λ image title ns flips title' ns' flips' r l h. ap means (h.answer ∙ checked_long image Err _ l);
  broken_image = λ image title ns flips title' ns' flips' at r l e h. ap means (h.answer ∙ checked_found image Err _ l e);
  short = λ image title ns flips title' ns' flips' c r l e h n. ap means (same h (no_room image title ns flips c l e n)).0;
  accepted = λ image title ns flips title' ns' flips' c r l e h n.
      let (a, t, m, k) = same h (all_read image title ns flips c l e n) in (ap means a, t, m, k);
}
