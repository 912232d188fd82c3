-- What the check of an image tells, and how a sound image begins. Assumes nothing.
use Rattle.std.specs.Prelude.{Err, Ok, Result, None, Option, Some, ok_or}
use mathlib.Core.Path.{◌≡◌, refl, sym, ap, ◌∙◌}
use mathlib.Core.Logic.{◌≢◌}
use mathlib.Core.List.{List}
use Prim.Native.Nat.{ℕ, ◌+◌, ◌-◌, ◌≤◌, ◌<◌}
use native.Mathlib.Decide.{dec_le}
use native.Mathlib.Omega.{arith}
use lib.ListN.{length, take, drop, length-drop}
use borrow.Author.Tests.{le-leb, lt-leb}
use Rattle.words.proofs.Lists.{part_behind}
use Rattle.refusals.specs.declared.Refusal.{Refusal}
use Rattle.refusals.specs.declared.Refusal.TheVariants.{Length, Broken}
use Rattle.fields.specs.declared.Field.{Field}
use Rattle.fields.specs.declared.Field.TheVariants.{Title, Grids, Block, End}
use Rattle.fields.specs.Fields.{head_bytes, value, field_of}
use Rattle.fields.proofs.Fields.{known, length-value}
use Rattle.image.specs.Card.{Part, Card, Found, sound, broken, most_bytes, data_fields, grids_in, walk, under_title, titled, card_of}
use Rattle.image.specs.Calls.{by_found, checked_as, counts, Checked, title_in, TitleGiven}
use Rattle.image.specs.Steps.{title_size, Walks}
use Rattle.image.proofs.Walking.{card_titled}
use Rattle.image.proofs.Walks.{never}
use Rattle.image.specs.declared.Counts.{Counts}

-- ---- the title in front

pub title_there : (f : Option Field) {n : ℕ} → Some n ≡ title_size f → f ≡ Some (Title n)
title_there (Some (Title m)) e = cc
title_there (Some (Grids m)) e = cc
title_there (Some Block) e = cc
title_there (Some End) e = cc
title_there None e = cc

pub title_absent : (f : Option Field) → None ≡ title_size f → (n : ℕ) → f ≢ Some (Title n)
title_absent f e n t = let z : ◌≡◌ {A = Option ℕ} None (Some n) = e ∙ ap title_size t in cc

-- what is asked of an answer that may be missing
pub ok_given : {A : Type 0} (o : Option A) (why : Refusal) {a : A} → Ok a ≡ ok_or o why → Some a ≡ o
ok_given (Some b) why e = cc
ok_given None why e = cc

pub err_given : {A : Type 0} (o : Option A) (why w : Refusal) → Err w ≡ ok_or o why → (None ≡ o) × (w ≡ why)
err_given (Some b) why w e = cc
err_given None why w e = (refl, cc)

-- ---- by the length of an image, and the card that is found in it

module _ (s : List ℕ) {A : Type 0} (refused : Refusal → A) (whole : Card → A) where
  pub checked_long : most_bytes < length s → checked_as s refused whole ≡ refused Length
  checked_long l = rw (lt-leb (length s) most_bytes l)

  pub checked_found : length s ≤ most_bytes → {x : Found Card} → card_of s ≡ x
      → checked_as s refused whole ≡ by_found (λ at. refused (Broken at)) whole x
  checked_found l e = rw (le-leb (length s) most_bytes l, e)

abbrev pub grids_and_blocks : Card → Result Counts Refusal
grids_and_blocks c = Ok (counts c.parts)

-- a card is found, or there is one reason to refuse, whatever is asked
pub data Decided (s : List ℕ) : Type 1 where
  card_found : (c : Card) → length s ≤ most_bytes → card_of s ≡ sound c → Decided s
  no_card : (why : Refusal) → ((A : Type 0) (refused : Refusal → A) (whole : Card → A) → checked_as s refused whole ≡ refused why) → Decided s

pub decided : (s : List ℕ) → Decided s
decided s = go (dec_le (length s) most_bytes) (card_of s) refl
  where
    go : Dec (length s ≤ most_bytes) → (x : Found Card) → card_of s ≡ x → Decided s
    go (yes l) (sound c) e = card_found c l e
    go (yes l) (broken at) e = no_card (Broken at) (λ A refused whole. checked_found s refused whole l e)
    go (no l) x e = no_card Length (λ A refused whole. checked_long s refused whole (omega arith))

-- the card that was found
pub record Whole (s : List ℕ) (g : ℕ) : Type 0 where
  pub card : Card
  pub within : length s ≤ most_bytes
  pub is : card_of s ≡ sound card
  pub grids : g ≡ length (grids_in card.parts)

pub whole : (s : List ℕ) {c : Counts} {r : Result Counts Refusal} → Checked s r → r ≡ Ok c → Whole s c.grids
whole s {c = counted} h is = go (decided s)
  where
    go : Decided s → Whole s counted.grids
    go (card_found c l e) = record { card = c; within = l; is = e; grids = cc (h.answer, checked_found s Err grids_and_blocks l e) }
    go (no_card why f) = let z : ◌≡◌ {A = ℕ} 0 1 = cc (h.answer, f (Result Counts Refusal) Err grids_and_blocks) in absurd (omega arith)

-- ---- a sound image: its title, and the fields behind it

pub record Begins (s : List ℕ) (c : Card) : Type 0 where
  pub titled_so : field_of s ≡ Some (Title (length c.title))
  pub title_value : c.title ≡ value s
  pub found : walk data_fields (head_bytes + length c.title) (drop (head_bytes + length c.title) s) ≡ sound c.parts

pub begins : (s : List ℕ) (c : Card) → card_of s ≡ sound c → Begins s c
unfolding card_of
begins s c e = go (field_of s) refl e
  where
    behind : (n : ℕ) → field_of s ≡ Some (Title n) → (x : Found (List Part)) → walk data_fields (head_bytes + n) (drop (head_bytes + n) s) ≡ x
        → under_title (value s) x ≡ sound c → Begins s c
    behind n f (sound ps) w e =
        let same : record { title = value s; parts = ps } ≡ c = cc in
        let st = (known s f).0 in
        let long : n ≡ length c.title = omega (arith, ap (λ c. length c.title) same, length-value s (omega arith)) in
        record {
          titled_so = f ∙ ap (λ (n : ℕ). Some (Title n)) long;
          title_value = sym (ap (λ c. c.title) same);
          found =
              ap (λ (k : ℕ). walk data_fields (head_bytes + k) (drop (head_bytes + k) s)) (sym long) ∙ w
              ∙ ap (λ (c : Card). sound c.parts) same;
        }
    behind n f (broken at) w e = never e

    go : (f : Option Field) → field_of s ≡ f → card_of s ≡ sound c → Begins s c
    go (Some (Title n)) f e = behind n f (walk data_fields (head_bytes + n) (drop (head_bytes + n) s)) refl (sym (card_titled s n f) ∙ e)
    go (Some (Grids n)) f e = never (sym (ap (titled s) f) ∙ e)
    go (Some Block) f e = never (sym (ap (titled s) f) ∙ e)
    go (Some End) f e = never (sym (ap (titled s) f) ∙ e)
    go None f e = never (sym (ap (titled s) f) ∙ e)

pub title_given : (s r : List ℕ) (c : Card) → card_of s ≡ sound c → TitleGiven s r → r ≡ c.title
title_given s r c e t = let b = begins s c e in t.answer ∙ ap (title_in s) b.titled_so ∙ sym b.title_value

module _ (s : List ℕ) {g : ℕ} (w : Whole s g) where
  abbrev pub start : Begins s w.card
  start = begins s w.card w.is

  abbrev pub walks : Walks (drop (head_bytes + length w.card.title) s)
  walks = record {
    few = omega (arith, length-drop (head_bytes + length w.card.title) s, w.within);
    left = data_fields;
    at = head_bytes + length w.card.title;
    parts = w.card.parts;
    found = start.found;
  }

  -- the fields, as they are lent behind the title that was given
  module _ (r : List ℕ) (t : TitleGiven s r) where
    pub title_is : r ≡ w.card.title
    title_is = title_given s r w.card w.is t

    pub title_room : head_bytes + length r ≤ length s
    title_room = omega (arith, ap length title_is, (known s start.titled_so).0.room)

    pub behind_title : take (length s - (head_bytes + length r)) (drop (head_bytes + length r) s) ≡ drop (head_bytes + length w.card.title) s
    behind_title = part_behind (head_bytes + length r) s ∙ ap (λ t. drop (head_bytes + length t) s) title_is

    pub found_behind : walk data_fields (head_bytes + length w.card.title) (take (length s - (head_bytes + length r)) (drop (head_bytes + length r) s))
        ≡ sound w.card.parts
    found_behind = ap (walk data_fields (head_bytes + length w.card.title)) behind_title ∙ start.found
