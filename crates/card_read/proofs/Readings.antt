-- The grids of a field read back, and those of the fields behind it; and the order of the refusals of reading back. Assumes nothing.
use Rattle.std.specs.Prelude.{Err, Ok, Result, Some}
use mathlib.Core.Path.{◌≡◌, sym, ap, ap₂, ◌∙◌}
use mathlib.Core.Bool.{Bool, true, false}
use mathlib.Core.List.{List, ◌++◌, map, map-append}
use Prim.Native.Nat.{ℕ, ◌+◌, ◌/◌, ◌≤◌, ◌<◌}
use native.Mathlib.Omega.{arith}
use lib.ListN.{length, take, drop, length-append, length-map}
use borrow.Author.Tests.{le-leb, lt-leb}
use Rattle.words.specs.Word.{choose}
use Rattle.words.specs.Bytes.{words_in, laid}
use Rattle.words.proofs.Bytes.{length-words, laid-behind}
use Rattle.refusals.specs.declared.Refusal.{Refusal}
use Rattle.refusals.specs.declared.Refusal.TheVariants.{Room}
use Rattle.fields.specs.declared.Field.TheVariants.{Grids}
use Rattle.fields.specs.Fields.{value, field_of}
use Rattle.fields.proofs.Fields.{known, length-value}
use Rattle.image.specs.Card.{Part, Card, sound, most_bytes, grids_in, grids_at, card_of}
use Rattle.image.proofs.Walks.{Front}
use Rattle.image.proofs.Checking.{checked_found}
use Rattle.value_read.specs.Shown.{data_of_grids, flips_of_grids}
use Rattle.values.specs.Steps.{grids_of}
use Rattle.card_read.specs.Calls.{room_for, read_as, Read}
use Rattle.card_read.specs.declared.Lengths.{Lengths}

module _ (s : List ℕ) (ps : List Part) (n left next : ℕ) (f : field_of s ≡ Some (Grids n))
    (front : Front ps (grids_at n (value s)) left next (drop (3 + n) s)) where
  ws : List ℕ
  ws = words_in 8 (n / 8) (value s)

  -- how many there are
  pub grids_many : length (grids_in ps) ≡ n / 8 + length (grids_in front.behind)
  grids_many =
      ap (λ ps. length (grids_in ps)) front.is ∙ length-append (words_in 8 (n / 8) (value s)) (grids_in front.behind)
      ∙ ap (λ (k : ℕ). k + length (grids_in front.behind)) (length-words 8 (n / 8) (value s))

  -- what is laid behind the first of them
  pub read_on : (g : ℕ → ℕ) (part before t ys : List ℕ) → part ≡ value s → t ≡ laid (map g (grids_of part)) before
      → ys ≡ laid (map g (grids_in front.behind)) (drop (n / 8) t) → take (n / 8) t ++ ys ≡ laid (map g (grids_in ps)) before
  unfolding ws
  read_on g part before t ys is e h =
      let st = (known s f).0 in
      let l : length part / 8 ≡ n / 8 = omega (arith, ap length is, length-value s (omega (arith, st.size_is, st.room)), st.size_is) in
      let words : grids_of part ≡ ws = ap₂ (λ (k : ℕ) (p : List ℕ). words_in 8 k p) l is in
      laid-behind (map g ws) before (n / 8) (length-map ws g ∙ length-words 8 (n / 8) (value s)) t (map g (grids_in front.behind)) ys
      (e ∙ ap (λ l. laid (map g l) before) words) h
      ∙ ap (λ l. laid l before) (sym (map-append g ws (grids_in front.behind)) ∙ ap (λ ps. map g (grids_in ps)) (sym front.is))

-- ---- the room

module _ (title numbers flips : List ℕ) (c : Card) where
  abbrev many : ℕ
  many = length (grids_in c.parts)

  pub short_title : length title < length c.title → room_for c title numbers flips ≡ false
  short_title l = rw (lt-leb (length c.title) (length title) l)

  module _ (l : length c.title ≤ length title) (m : many ≤ length numbers) where
    pub roomy : many ≤ length flips → room_for c title numbers flips ≡ true
    roomy k = rw (le-leb (length c.title) (length title) l, le-leb many (length numbers) m, le-leb many (length flips) k)

-- ---- the order of the refusals

-- no second outcome
pub same : {image title numbers flips t₁ n₁ f₁ t₂ n₂ f₂ : List ℕ} {r q : Result Lengths Refusal} → Read image title numbers flips r t₁ n₁ f₁
    → Read image title numbers flips q t₂ n₂ f₂ → (r ≡ q) × (t₁ ≡ t₂) × (n₁ ≡ n₂) × (f₁ ≡ f₂)
same x y = (
  x.answer ∙ sym y.answer,
  x.title_after ∙ sym y.title_after,
  x.numbers_after ∙ sym y.numbers_after,
  x.flips_after ∙ sym y.flips_after,
)

module _ (image title numbers flips : List ℕ) where
  pub not_read : (why : Refusal)
      → ((A : Type 0) (refused : Refusal → A) (whole : Card → A) → read_as image title numbers flips refused whole ≡ refused why)
      → Read image title numbers flips (Err why) title numbers flips
  not_read why h = record {
    answer = sym (h (Result Lengths Refusal) Err _);
    title_after = sym (h (List ℕ) (λ why. title) _);
    numbers_after = sym (h (List ℕ) (λ why. numbers) _);
    flips_after = sym (h (List ℕ) (λ why. flips) _);
  }

  -- of a sound image, the room decides
  module _ (c : Card) (l : length image ≤ most_bytes) (e : card_of image ≡ sound c) where
    by_room : {A : Type 0} (refused : Refusal → A) (whole : Card → A) {b : Bool} → room_for c title numbers flips ≡ b
        → read_as image title numbers flips refused whole ≡ choose b (whole c) (refused Room)
    by_room refused whole n = checked_found image refused _ l e ∙ ap (λ (b : Bool). choose b (whole c) (refused Room)) n

    pub no_room : room_for c title numbers flips ≡ false → Read image title numbers flips (Err Room) title numbers flips
    no_room n = not_read Room (λ A refused whole. by_room refused whole n)

    pub all_read : room_for c title numbers flips ≡ true
        → Read image title numbers flips (Ok (record { title = length c.title; grids = length (grids_in c.parts) })) (laid c.title title)
        (laid (data_of_grids (grids_in c.parts)) numbers) (laid (flips_of_grids (grids_in c.parts)) flips)
    all_read n = record {
      answer = sym (by_room Err _ n);
      title_after = sym (by_room (λ why. title) _ n);
      numbers_after = sym (by_room (λ why. numbers) _ n);
      flips_after = sym (by_room (λ why. flips) _ n);
    }
