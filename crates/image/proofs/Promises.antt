-- The promises of an image. A card's front decides what is found, by what stands behind it; every image starts with such a front or with no
-- title, and so is the image of a card or has a break, and what is found tells which. Assumes nothing.
use Rattle.std.specs.Prelude.{Err, None, Option, Some}
use mathlib.Core.Path.{◌≡◌, refl, sym, ap, ◌∙◌, subst}
use mathlib.Core.Logic.{◌⊎◌, inl, inr}
use mathlib.Core.List.{List, [], ◌∷◌, ◌++◌, append_assoc, append-nil}
use Prim.Native.Nat.{ℕ, ◌+◌, ◌-◌}
use native.Mathlib.Omega.{arith}
use lib.ListN.{length, take, drop, length-append}
use lib.Seq.{drop-append_seam}
use Rattle.words.specs.Digits.{Below}
use Rattle.words.proofs.Bytes.{below_drop}
use Rattle.fields.specs.declared.Field.{Field}
use Rattle.fields.specs.declared.Field.TheVariants.{Title, Grids, Block, End}
use Rattle.fields.specs.Fields.{field_of}
use Rattle.fields.proofs.Fields.{past_end, known, found_end}
use Rattle.image.specs.Card.{Part, Card, Found, sound, broken, before, walk, under_title, card_of, head, front_of, image_of}
use Rattle.image.specs.Answer.{means}
use Rattle.image.specs.Promises.{Proper, Break, no_title, fails, repeated, seventeenth, behind_end, ImagePromises, OneOutcome}
use Rattle.image.proofs.Walking.{full_grids, full_block, walk_end, walk-behind, walk_title, walk_fails, untitled}
use Rattle.image.proofs.Shape.{stands_front, before_all, card_over, split, DataAt, Fronted, title_back}
use Rattle.image.proofs.Checking.{checked_long, checked_found, grids_and_blocks, title_given}

-- ---- what stands behind the front of a card decides

all_broken : (ps : List Part) (at : ℕ) → before_all ps (broken at) ≡ broken at
all_broken [] at = refl
all_broken (p ∷ ps) at = ap (before p) (all_broken ps at)

all_sound : (ps : List Part) → before_all ps (sound []) ≡ sound ps
all_sound [] = refl
all_sound (p ∷ ps) = ap (before p) (all_sound ps)

end_found : (bytes : List ℕ) → field_of (head 127 0 ++ bytes) ≡ Some End
end_found bytes = found_end (head 127 0 ++ bytes) (stands_front 127 0 [] bytes refl)

module _ (c : Card) (h : Proper c) where
  abbrev ps : List Part
  ps = c.parts

  abbrev at : ℕ
  at = length (front_of c)

  -- a break behind the front is the image's
  breaks : (rest : List ℕ) {place : ℕ} → walk (16 - length ps) at rest ≡ broken place → card_of (front_of c ++ rest) ≡ broken place
  breaks rest {place} e =
      card_over c h rest ∙ ap (λ (x : Found (List Part)). under_title c.title (before_all ps x)) e ∙ ap (under_title c.title) (all_broken ps place)

  whole : card_of (image_of c) ≡ sound c
  unfolding image_of
  whole =
      card_over c h (head 127 0)
      ∙ ap (λ (x : Found (List Part)). under_title c.title (before_all ps x)) (walk_end at (head 127 0) (16 - length ps) (end_found []) refl)
      ∙ ap (under_title c.title) (all_sound ps)

  more_behind : (b : ℕ) (bytes : List ℕ) → card_of (image_of c ++ b ∷ bytes) ≡ broken (length (image_of c))
  unfolding image_of
  more_behind b bytes =
      let rest : List ℕ = head 127 0 ++ b ∷ bytes in
      let place : at + 3 ≡ length (front_of c ++ head 127 0) = sym (length-append (front_of c) (head 127 0)) in
      ap card_of (append_assoc (front_of c) (head 127 0) (b ∷ bytes))
      ∙ breaks rest (walk-behind at rest (16 - length ps) (end_found (b ∷ bytes)) (λ e. omega arith) ∙ ap broken place)

  one_more : (rest : List ℕ) → length ps ≡ 16 → DataAt rest → card_of (front_of c ++ rest) ≡ broken at
  one_more rest full d =
      let none : 16 - length ps ≡ 0 = omega arith in
      breaks rest (ap (λ (k : ℕ). walk k at rest) none ∙ stops d)
    where
      stops : DataAt rest → walk 0 at rest ≡ broken at
      stops (inl (n, e)) = full_grids at rest n e
      stops (inr e) = full_block at rest e

found : {s : List ℕ} {place : ℕ} → Break s place → card_of s ≡ broken place
found {s} (no_title h) = untitled s h
found (fails c rest h is e) = ap card_of is ∙ breaks c h rest (walk_fails (length (front_of c)) rest (16 - length c.parts) e)
found (repeated c rest n h is e) = ap card_of is ∙ breaks c h rest (walk_title (length (front_of c)) rest (16 - length c.parts) n e)
found (seventeenth c rest h full is d) = ap card_of is ∙ one_more c h rest full d
found (behind_end c b bytes h is) = ap card_of is ∙ more_behind c h b bytes

-- ---- every image is that of a card, or has a break

abbrev Told : List ℕ → Type 0
Told s = ((c : Card) × Proper c × (image_of c ≡ s)) ⊎ ((place : ℕ) × Break s place)

-- an end behind the front of a card: either nothing is behind it, or some byte
ended : (s : List ℕ) (r : Fronted s) (bytes : List ℕ) → r.rest ≡ head 127 0 ++ bytes → Told s
unfolding image_of
ended s r [] e = inl (r.card, r.proper, sym (r.is ∙ ap (λ (l : List ℕ). front_of r.card ++ l) e))
ended s r (b ∷ bytes) e =
    inr (
      length (image_of r.card),
      behind_end r.card b bytes r.proper
          (r.is ∙ ap (λ (l : List ℕ). front_of r.card ++ l) e ∙ sym (append_assoc (front_of r.card) (head 127 0) (b ∷ bytes))),
    )

module _ (s : List ℕ) (h : Below 8 s) where
  fronted : Fronted s → Told s
  fronted r = go (field_of rest) refl
    where
      c : Card
      c = r.card

      rest : List ℕ
      rest = r.rest

      place : ℕ
      place = length (front_of c)

      below : Below 8 rest
      below = subst (Below 8) (ap (drop place) r.is ∙ drop-append_seam (front_of c) rest) (below_drop 8 place s h)

      go : (f : Option Field) → field_of rest ≡ f → Told s
      go (Some (Title n)) e = inr (place, repeated c rest n r.proper r.is e)
      go (Some (Grids n)) e = inr (place, seventeenth c rest r.proper (r.full (inl (n, e))) r.is (inl (n, e)))
      go (Some Block) e = inr (place, seventeenth c rest r.proper (r.full (inr e)) r.is (inr e))
      go (Some End) e =
          let st = known rest e in
          ended s r (drop 3 rest)
          (split 127 0 rest below st ∙ ap (λ (k : ℕ). head 127 0 ++ take k (drop 3 rest) ++ drop 3 rest) st.size_is)
      go None e = inr (place, fails c rest r.proper r.is e)

  told : Told s
  told = go (field_of s) refl
    where
      go : (f : Option Field) → field_of s ≡ f → Told s
      go (Some (Title n)) e = fronted (title_back s h n e)
      go (Some (Grids n)) e = inr (0, no_title (λ n q. let z : ◌≡◌ {A = ℕ} 0 1 = cc in omega arith))
      go (Some Block) e = inr (0, no_title (λ n q. let z : ◌≡◌ {A = ℕ} 0 1 = cc in omega arith))
      go (Some End) e = inr (0, no_title (λ n q. let z : ◌≡◌ {A = ℕ} 0 1 = cc in omega arith))
      go None e = inr (0, no_title (λ n q. let z : ◌≡◌ {A = ℕ} 0 1 = cc in omega arith))

  -- what is found is one thing, so that one of the other kind, or at another place, cannot be
  back : (c : Card) → card_of s ≡ sound c → Proper c × (image_of c ≡ s)
  back c e = go told
    where
      go : Told s → Proper c × (image_of c ≡ s)
      go (inl (d, p, is)) = let same : d ≡ c = cc (whole d p) in subst (λ (k : Card). Proper k × (image_of k ≡ s)) same (p, is)
      go (inr (place, b)) = let z : ◌≡◌ {A = ℕ} 0 1 = cc (found b) in absurd (omega arith)

  there : (place : ℕ) → card_of s ≡ broken place → Break s place
  there place e = go told
    where
      go : Told s → Break s place
      go (inl (c, p, is)) = let z : ◌≡◌ {A = ℕ} 0 1 = cc (whole c p) in absurd (omega arith)
      go (inr (k, b)) = let same : k ≡ place = cc (found b) in subst (Break s) same b

-- ---- no field left to find

nothing : field_of [] ≡ None
nothing = past_end [] (omega arith)

no_end : (c : Card) → Proper c → card_of (front_of c) ≡ broken (length (front_of c))
no_end c h = ap card_of (sym (append-nil (front_of c))) ∙ breaks c h [] (walk_fails (length (front_of c)) [] (16 - length c.parts) nothing)

-- ---- the calls

pub promised : ImagePromises
promised = record {
  there_and_back = whole;
  back_and_there = λ s c h. back s h c;
  broken_there = λ s place h. there s h place;
  break_found = λ s place. found;
  no_end = no_end;
  empty = found (no_title (λ n q. let z : ◌≡◌ {A = ℕ} 0 1 = cc nothing in omega arith));
  long = λ s r l k. ap means (k.answer ∙ checked_long s Err grids_and_blocks l);
  sound_checked = λ s c r l e k. ap means (k.answer ∙ checked_found s Err grids_and_blocks l e);
  broken_checked = λ s place r l e k. ap means (k.answer ∙ checked_found s Err grids_and_blocks l e);
  title_given = title_given;
}

pub one_outcome : OneOutcome
one_outcome = record {
  check = λ s a b p q. p.answer ∙ sym q.answer;
  title = λ s a b p q. p.answer ∙ sym q.answer;
}
