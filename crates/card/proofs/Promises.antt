-- What specs/Promises.antt says of the card's calls holds: by the promises of an image, and by the laws of the tally. Assumes nothing.
use Rattle.std.specs.Prelude.{Err, Ok, Result}
use mathlib.Core.Path.{◌≡◌, sym, ap, ◌∙◌, subst}
use mathlib.Core.Logic.{◌≢◌}
use mathlib.Core.Bool.{true}
use mathlib.Core.List.{List, [], ◌++◌, map, append-nil}
use Prim.Native.Nat.{ℕ, ◌≤◌}
use native.Mathlib.Omega.{arith}
use lib.ListN.{length, get_or, take, drop, length-map}
use Rattle.words.specs.Digits.{Below}
use Rattle.words.specs.Bytes.{laid}
use Rattle.words.proofs.Bytes.{take-laid, drop-laid}
use Rattle.refusals.specs.Reply.{gives}
use Rattle.refusals.proofs.Promises.{nothing_given}
use Rattle.codes.specs.Verdict.{pattern_of}
use Rattle.codes.specs.Tally as codes
use Rattle.grid_code.specs.Code.{codeword, code_of_grid}
use Rattle.page.specs.Tally.{last_pattern, LastMended, AddsUp, Again}
use Rattle.page.proofs.Counts.{tallies}
use Rattle.fields.specs.Fields.{first_bad}
use Rattle.image.specs.Card.{Card, sound, most_bytes, grids_in, blocks_in, card_of, image_of}
use Rattle.image.specs.Answer.{means as check_means}
use Rattle.image.specs.Calls.{Checked}
use Rattle.image.specs.Promises.{Proper}
use Rattle.image.proofs.Checking.{checked_long, checked_found, Decided, card_found, no_card, decided}
use Rattle.image.proofs.Promises.{promised}
use Rattle.value_scrub.specs.Tally.{tally_in as blocks_tally}
use Rattle.card_scrub.specs.declared.Tallies.{Tallies}
use Rattle.card_scrub.specs.Answer.{means as scrub_means}
use Rattle.card_scrub.specs.Calls.{scrubbed_part, scrubbed_card, tallies_of, Scrubbed}
use Rattle.card_write.specs.Answer.{means as write_means}
use Rattle.card_write.specs.Calls.{card_on, card_with, size_written, lengths_allowed, none_erased, Wrote}
use Rattle.card_write.proofs.Writes as write
use Rattle.card_write.proofs.Writes.{no_image, image_written, same, not_allowed, bad_byte, one_erased, no_room, all_well, each_stored, all_stored, erased_there}
use Rattle.card_read.specs.Calls.{Read}
use Rattle.card_read.proofs.Readings as read
use Rattle.card.specs.Promises.{ScrubPromises, Switched, AllStored, WritePromises, OneOutcome}
use Rattle.card.proofs.Again.{block_laws, same_frame, second, still_proper, same_length, twice}
use Rattle.card.proofs.Switches.{put_right, none_switched, no_flips, length_on, lengths, few, found_on, read_on}
use Rattle.image.specs.declared.Counts.{Counts}
use Rattle.refusals.specs.declared.Refusal.{Refusal}

-- ---- scrub

module _ {s exit : List ℕ} {r : Result Tallies Refusal} (h : Scrubbed s r exit) where
  found : (c : Card) → length s ≤ most_bytes → card_of s ≡ sound c → (scrub_means r ≡ gives (tallies_of c.parts)) × (exit ≡ image_of (scrubbed_card c))
  found c l e = (ap scrub_means (h.answer ∙ checked_found s Err _ l e), h.after ∙ checked_found s (λ why. s) _ l e)

  not_scrubbed : ((t : Tallies) → scrub_means r ≢ gives t) → exit ≡ s
  not_scrubbed n = go (decided s)
    where
      go : Decided s → exit ≡ s
      go (card_found c l e) = absurd (n (tallies_of c.parts) (found c l e).0)
      go (no_card why f) = h.after ∙ f (List ℕ) (λ why. s) _

-- what was done, and is no refusal
record AfterScrub (s exit : List ℕ) (t : Tallies) : Type 0 where
  pub card : Card
  pub few : length s ≤ most_bytes
  pub is : card_of s ≡ sound card
  pub tally : t ≡ tallies_of card.parts
  pub after : exit ≡ image_of (scrubbed_card card)

module _ (s exit : List ℕ) (r : Result Tallies Refusal) (t : Tallies) (h : Scrubbed s r exit) (m : scrub_means r ≡ gives t) where
  after_scrub : AfterScrub s exit t
  after_scrub = go (decided s)
    where
      go : Decided s → AfterScrub s exit t
      go (card_found c l e) = let (a, b) = found h c l e in record { card = c; few = l; is = e; tally = cc; after = b }
      go (no_card why f) = nothing_given why (sym (ap scrub_means (h.answer ∙ f (Result Tallies Refusal) Err _)) ∙ m)

  sums : AddsUp t.grids × codes.AddsUp (blocks_tally t.blocks)
  sums =
      let ps = after_scrub.card.parts in
      subst (λ t. AddsUp t.grids × codes.AddsUp (blocks_tally t.blocks)) (sym after_scrub.tally)
      (tallies.all (grids_in ps), block_laws.all (blocks_in ps))

  last : (c : Card) (i : ℕ) → card_of s ≡ sound c → LastMended (grids_in c.parts) i
      → t.grids.pattern ≡ pattern_of code_of_grid (get_or (grids_in c.parts) i 0)
  last c i e h =
      let same : after_scrub.card ≡ c = cc after_scrub.is in
      ap (λ t. t.grids.pattern) after_scrub.tally ∙ ap (λ c. last_pattern (grids_in c.parts)) same ∙ tallies.last (grids_in c.parts) i h

  no_last : t.grids.mended ≡ 0 → t.grids.pattern ≡ 0
  no_last z =
      let is = after_scrub.tally in
      ap (λ t. t.grids.pattern) is ∙ tallies.no_last (grids_in after_scrub.card.parts) (sym (ap (λ t. t.grids.mended) is) ∙ z)

  module _ (b : Below 8 s) where
    abbrev card : Card
    card = after_scrub.card

    shape : Proper card × (image_of card ≡ s)
    shape = promised.back_and_there s card b after_scrub.is

    is_now : card_of exit ≡ sound (scrubbed_card card)
    is_now = ap card_of after_scrub.after ∙ promised.there_and_back (scrubbed_card card) (still_proper card shape.0)

    long_now : length exit ≡ length s
    long_now = ap length after_scrub.after ∙ same_length card ∙ ap length shape.1

    again : (q : Result Tallies Refusal) (last : List ℕ) → Scrubbed exit q last
        → (u : Tallies) × (scrub_means q ≡ gives u) × Again t.grids u.grids
        × codes.Again (blocks_tally t.blocks) (blocks_tally u.blocks) × (last ≡ exit)
    again q last k =
        let (a, e) = found k (scrubbed_card card) (omega (arith, after_scrub.few, long_now)) is_now in
        let u = tallies_of (map scrubbed_part card.parts) in
        let (g, b) =
        subst (λ t. Again t.grids u.grids × codes.Again (blocks_tally t.blocks) (blocks_tally u.blocks))
        (sym after_scrub.tally) (second card.parts) in
        (u, a, g, b, e ∙ ap image_of (twice card) ∙ sym after_scrub.after)

pub scrub_promised : ScrubPromises
scrub_promised = record {
  long = λ s exit r l h. ap scrub_means (h.answer ∙ checked_long s Err _ l);
  broken_image = λ s exit at r l e h. ap scrub_means (h.answer ∙ checked_found s Err _ l e);
  refused = λ s exit r h n. not_scrubbed h n;
  done = λ s exit c r l e h. found h c l e;
  sums = sums;
  last = λ s exit c r t i e h m. last s exit r t h m c i e;
  no_last = no_last;
  stays = λ s exit r t b h m.
      let done = after_scrub s exit r t h m in
      (done.card, done.is, is_now s exit r t h m b, same_frame done.card, long_now s exit r t h m b);
  again = λ s once last r q t b h m. again s once r t h m b q last;
}

-- ---- write

not_written : {title ns image exit : List ℕ} {r : Result ℕ Refusal} → Wrote title ns image r exit → ((k : ℕ) → write_means r ≢ gives k) → exit ≡ image
not_written {title} {ns} {image} {exit} h n = go (write.decided title ns image)
  where
    go : write.Decided title ns image → exit ≡ image
    go (no_image why d) = (same h d).1
    go (image_written a g n' l d) = absurd (n (size_written title ns) (ap write_means (same h d).0))

-- what was done, and is no refusal
record AfterWrite (title ns image exit : List ℕ) (k : ℕ) : Type 0 where
  pub allowed : lengths_allowed title ns ≡ true
  pub good : first_bad title ≡ length title
  pub stored : none_erased ns ≡ true
  pub long : k ≡ size_written title ns
  pub after : exit ≡ laid (image_of (card_with title ns)) image

module _ (title ns image exit : List ℕ) (r : Result ℕ Refusal) (k : ℕ) (h : Wrote title ns image r exit) (m : write_means r ≡ gives k) where
  after_write : AfterWrite title ns image exit k
  after_write = go (write.decided title ns image)
    where
      go : write.Decided title ns image → AfterWrite title ns image exit k
      go (no_image why d) = nothing_given why (sym (ap write_means (same h d).0) ∙ m)
      go (image_written a g n l d) = let (p, q) = same h d in record { allowed = a; good = g; stored = n; long = cc p; after = q }

  size_is : length (image_of (card_with title ns)) ≡ k
  size_is = let l = length-map ns codeword in omega (arith, length_on title (map codeword ns), l, after_write.long)

  image_is : take k exit ≡ image_of (card_with title ns)
  image_is = ap (take k) after_write.after ∙ take-laid (image_of (card_with title ns)) image k size_is

  behind_is : drop k exit ≡ drop k image
  behind_is = ap (drop k) after_write.after ∙ drop-laid (image_of (card_with title ns)) image k size_is

  module _ (small : Below 16 ns) where
    none : Switched ns (map codeword ns)
    none = none_switched ns small

    stored : AllStored ns
    stored = each_stored ns after_write.stored

    is_sound : card_of (take k exit) ≡ sound (card_with title ns)
    is_sound = ap card_of image_is ∙ found_on title ns after_write.allowed after_write.good (map codeword ns) none

    checks : (q : Result Counts Refusal) → Checked (take k exit) q → check_means q ≡ gives (record { grids = length ns; blocks = 0 })
    checks q c =
        let l = lengths title ns after_write.allowed in
        let m : length (map codeword ns ++ []) ≡ length ns = ap length (append-nil (map codeword ns)) ∙ length-map ns codeword in
        promised.sound_checked (take k exit) (card_with title ns) q (omega (arith, ap length image_is, size_is, after_write.long, l))
        is_sound c
        ∙ ap (λ (n : ℕ). gives (record { grids = n; blocks = 0 })) m

    -- with lamps switched
    restored : (ws last : List ℕ) (q : Result Tallies Refusal) → Switched ns ws → Scrubbed (image_of (card_on title ws)) q last
        → (scrub_means q ≡ gives (tallies_of (card_on title ws).parts)) × (last ≡ take k exit)
    restored ws last q s d =
        let (a, e) = found d (card_on title ws) (few title ns after_write.allowed after_write.good ws s)
        (found_on title ns after_write.allowed after_write.good ws s) in
        (a, e ∙ ap (λ ws. image_of (card_on title ws)) (put_right ns ws small stored s) ∙ sym image_is)

pub write_promised : WritePromises
write_promised = record {
  refused = λ title ns image exit r h n. not_written h n;
  lengths = λ title ns image exit r h e.
      ap write_means (h.answer ∙ sym (not_allowed title ns (length image) Err (Ok (size_written title ns)) e));
  bad_byte = λ title ns image exit r h e n.
      ap write_means (h.answer ∙ sym (bad_byte title ns (length image) Err (Ok (size_written title ns)) e n));
  erased_number = λ title ns image exit r i h e n l z.
      ap write_means (h.answer ∙ sym (one_erased title ns (length image) Err (Ok (size_written title ns)) e n (erased_there ns i l z)));
  short = λ title ns image exit r h e n s l.
      ap write_means (h.answer ∙ sym (no_room title ns (length image) Err (Ok (size_written title ns)) e n (all_stored ns s) l));
  accepted = λ title ns image exit r h e n s l.
      ap write_means (h.answer ∙ sym (all_well title ns (length image) Err (Ok (size_written title ns)) e n (all_stored ns s) l));
  written = λ title ns image exit r k h m.
      ((after_write title ns image exit r k h m).long, image_is title ns image exit r k h m, behind_is title ns image exit r k h m);
  is_sound = λ title ns image exit r k small h m. is_sound title ns image exit r k h m small;
  checks = λ title ns image exit r k q small h m c. checks title ns image exit r k h m small q c;
  reads_back = λ title ns image exit title₀ ns₀ flips₀ title₁ ns₁ flips₁ r k q small h m l₀ l₁ l₂ d.
      let w = after_write title ns image exit r k h m in
      let stored : AllStored ns = each_stored ns w.stored in
      let (a, t, n, f) =
      read_on title ns w.allowed w.good (map codeword ns) (none_switched ns small) title₀ ns₀ flips₀ l₀ l₁ l₂ q title₁ ns₁ flips₁ small stored
      (subst (λ s. Read s title₀ ns₀ flips₀ q title₁ ns₁ flips₁) (image_is title ns image exit r k h m) d) in
      (a, t, n, f ∙ ap (λ l. laid l flips₀) (no_flips ns small stored));
  restored = λ title ns image exit ws last r k q small h m s d. restored title ns image exit r k h m small ws last q s d;
  read_before = λ title ns image exit ws title₀ ns₀ flips₀ title₁ ns₁ flips₁ r k q small h m s l₀ l₁ l₂ d.
      let w = after_write title ns image exit r k h m in
      let (a, t, n, f) = read_on title ns w.allowed w.good ws s title₀ ns₀ flips₀ l₀ l₁ l₂ q title₁ ns₁ flips₁ small (each_stored ns w.stored) d in
      (a, t, n);
}

-- ---- no second outcome

pub one_outcome : OneOutcome
one_outcome = record {
  scrub = λ s a b r q x y. (x.answer ∙ sym y.answer, x.after ∙ sym y.after);
  write = λ title ns image a b r q x y. same x y;
  read = λ image title ns flips t₁ n₁ f₁ t₂ n₂ f₂ r q x y. read.same x y;
}
