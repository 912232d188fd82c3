-- The place of a break is in the image, or right behind it. Assumes nothing.
use Rattle.std.specs.Prelude.{None, Option, Some}
use mathlib.Core.Path.{◌≡◌, refl, sym, ap, subst}
use mathlib.Core.List.{List}
use Prim.Native.Nat.{ℕ, zero, suc, ◌+◌, ◌≤◌}
use native.Mathlib.Decide.{ℕ_discrete}
use native.Mathlib.Omega.{arith}
use lib.ListN.{length, drop, length-drop}
use Rattle.fields.specs.declared.Field.{Field}
use Rattle.fields.specs.declared.Field.TheVariants.{Title, Grids, Block, End}
use Rattle.fields.specs.Fields.{value, field_of}
use Rattle.fields.proofs.Fields.{known}
use Rattle.image.specs.Card.{Part, Found, sound, broken, grids_at, block_at, before, walk, under_title, titled, card_of}
use Rattle.image.proofs.Walking.{walk_grids, walk_block, full_grids, full_block, walk_end, walk-behind, walk_title, walk_fails, card_titled}

-- a place, if there is one, is at most k
abbrev Inside : {A : Type 0} → ℕ → Found A → Type 0
Inside k (sound a) = Unit {0}
Inside k (broken at) = at ≤ k

behind_part : (p : Part) (x : Found (List Part)) {j k : ℕ} → j ≤ k → Inside j x → Inside k (before p x)
behind_part p (sound ps) l h = tt
behind_part p (broken at) l h = omega (arith, l, h)

behind_title : (title : List ℕ) (x : Found (List Part)) {j k : ℕ} → j ≤ k → Inside j x → Inside k (under_title title x)
behind_title title (sound ps) l h = tt
behind_title title (broken at) l h = omega (arith, l, h)

module _ (left at : ℕ) (s : List ℕ) where
  found : {x : Found (List Part)} → walk left at s ≡ x → Inside (at + length s) x → Inside (at + length s) (walk left at s)
  found e h = subst (Inside (at + length s)) (sym e) h

  at-end : field_of s ≡ Some End → Inside (at + length s) (walk left at s)
  at-end f = go (ℕ_discrete (length s) 3)
    where
      go : Dec (length s ≡ 3) → Inside (at + length s) (walk left at s)
      go (yes l) = found (walk_end at s left f l) tt
      go (no l) = found (walk-behind at s left f l) (omega (arith, (known s f).room))

  -- what stands in front decides, where it is known of each data field
  by_field : ((n : ℕ) → field_of s ≡ Some (Grids n) → Inside (at + length s) (walk left at s))
      → (field_of s ≡ Some Block → Inside (at + length s) (walk left at s)) → Inside (at + length s) (walk left at s)
  by_field grids block = go (field_of s) refl
    where
      go : (f : Option Field) → field_of s ≡ f → Inside (at + length s) (walk left at s)
      go (Some (Title n)) f = found (walk_title at s left n f) (omega arith)
      go (Some (Grids n)) f = grids n f
      go (Some Block) f = block f
      go (Some End) f = at-end f
      go None f = found (walk_fails at s left f) (omega arith)

walk_inside : (left at : ℕ) (s : List ℕ) → Inside (at + length s) (walk left at s)
walk_inside zero at s =
    by_field zero at s (λ n f. found zero at s (full_grids at s n f) (omega arith)) (λ f. found zero at s (full_block at s f) (omega arith))
walk_inside (suc left) at s =
    by_field (suc left) at s
    (λ n f.
    found (suc left) at s (walk_grids at s left n f)
    (behind_part (grids_at n (value s)) (walk left (at + (3 + n)) (drop (3 + n) s))
    (omega (arith, length-drop (3 + n) s, (known s f).0.room)) (walk_inside left (at + (3 + n)) (drop (3 + n) s))))
    (λ f.
    found (suc left) at s (walk_block at s left f)
    (behind_part (block_at (value s)) (walk left (at + 79) (drop 79 s)) (omega (arith, length-drop 79 s, (known s f).room))
    (walk_inside left (at + 79) (drop 79 s))))

card_inside : (s : List ℕ) → Inside (length s) (card_of s)
unfolding card_of
card_inside s = go (field_of s) refl
  where
    go : (f : Option Field) → field_of s ≡ f → Inside (length s) (titled s (field_of s))
    go (Some (Title n)) f =
        subst (Inside (length s)) (sym (card_titled s n f))
        (behind_title (value s) (walk 16 (3 + n) (drop (3 + n) s)) (omega (arith, length-drop (3 + n) s, (known s f).0.room))
        (walk_inside 16 (3 + n) (drop (3 + n) s)))
    go (Some (Grids n)) f = subst (Inside (length s)) (sym (ap (titled s) f)) (omega arith)
    go (Some Block) f = subst (Inside (length s)) (sym (ap (titled s) f)) (omega arith)
    go (Some End) f = subst (Inside (length s)) (sym (ap (titled s) f)) (omega arith)
    go None f = subst (Inside (length s)) (sym (ap (titled s) f)) (omega arith)

pub place_inside : (s : List ℕ) (at : ℕ) → card_of s ≡ broken at → at ≤ length s
place_inside s at e = subst (Inside (length s)) e (card_inside s)
