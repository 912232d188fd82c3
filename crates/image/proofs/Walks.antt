-- A walk over fields that are found sound, step by step: what stands at the front, what behind it, and how much there is. Assumes nothing.
use Rattle.std.specs.Prelude.{None, Option, Some}
use mathlib.Core.Path.{◌≡◌, refl, sym, ap, ◌∙◌, subst}
use mathlib.Core.Logic.{◌≢◌, ◌⊎◌, ⊎_elim}
use mathlib.Core.List.{List, [], ◌∷◌, ◌++◌}
use Prim.Native.Nat.{ℕ, zero, suc, ◌+◌, ◌*◌, ◌/◌, ◌≤◌}
use native.Mathlib.Decide.{ℕ_discrete}
use native.Mathlib.Omega.{arith}
use lib.ListN.{length, take, drop, length-append, length-drop}
use Rattle.words.specs.Digits.{Below}
use Rattle.words.specs.Bytes.{words_in}
use Rattle.words.proofs.Bytes.{length-words}
use Rattle.fields.specs.declared.Field.{Field}
use Rattle.fields.specs.declared.Field.TheVariants.{Title, Grids, Block, End}
use Rattle.fields.specs.Fields.{size, value, field_of}
use Rattle.fields.proofs.Fields.{known}
use Rattle.image.specs.Card.{Part, Found, sound, broken, grids_in, blocks_in, grids_at, block_at, before, walk, head}
use Rattle.image.proofs.Walking.{walk_grids, walk_block, full_grids, full_block, walk_end, walk-behind, walk_title, walk_fails}
use Rattle.image.proofs.Shape.{split}
use Rattle.image.specs.Steps.{Walks}

abbrev pub less : ℕ → ℕ
less zero = zero
less (suc n) = n

pub never : {A X : Type 0} {at : ℕ} {a : A} → broken at ≡ sound a → X
never e = let z : ◌≡◌ {A = ℕ} 0 1 = cc in absurd (omega arith)

-- a data field p in front, and what was found behind it
pub record Front (ps : List Part) (p : Part) (left next : ℕ) (rest : List ℕ) : Type 0 where
  pub behind : List Part
  pub is : ps ≡ p ∷ behind
  pub found : walk left next rest ≡ sound behind

fronted : (ps : List Part) (p : Part) (left next : ℕ) (rest : List ℕ) → before p (walk left next rest) ≡ sound ps → Front ps p left next rest
fronted ps p left next rest e = go (walk left next rest) refl e
  where
    go : (x : Found (List Part)) → walk left next rest ≡ x → before p x ≡ sound ps → Front ps p left next rest
    go (sound qs) f e = record { behind = qs; is = cc; found = f }
    go (broken k) f e = never e

module _ (at : ℕ) (s : List ℕ) (ps : List Part) where
  pub grids_front : (left n : ℕ) → field_of s ≡ Some (Grids n) → walk left at s ≡ sound ps → Front ps (grids_at n (value s)) (less left) (at + (3 + n)) (drop (3 + n) s)
  grids_front zero n f e = never (sym (full_grids at s n f) ∙ e)
  grids_front (suc left) n f e =
      fronted ps (grids_at n (value s)) left (at + (3 + n)) (drop (3 + n) s) (sym (walk_grids at s left n f) ∙ e)

  pub block_front : (left : ℕ) → field_of s ≡ Some Block → walk left at s ≡ sound ps → Front ps (block_at (value s)) (less left) (at + 79) (drop 79 s)
  block_front zero f e = never (sym (full_block at s f) ∙ e)
  block_front (suc left) f e = fronted ps (block_at (value s)) left (at + 79) (drop 79 s) (sym (walk_block at s left f) ∙ e)

  ended : (left : ℕ) → field_of s ≡ Some End → walk left at s ≡ sound ps → (ps ≡ []) × (length s ≡ 3)
  ended left f e = go (ℕ_discrete (length s) 3)
    where
      go : Dec (length s ≡ 3) → (ps ≡ []) × (length s ≡ 3)
      go (yes l) = (cc (walk_end at s left f l), l)
      go (no l) = never (sym (walk-behind at s left f l) ∙ e)

  -- .. as the last arm of a match has it: nothing but the end is left
  pub only_end : (left : ℕ) (f : Option Field) → f ≡ field_of s → ((n : ℕ) → f ≢ Some (Grids n)) → f ≢ Some Block → Below 8 s → walk left at s ≡ sound ps
      → (ps ≡ []) × (s ≡ head 127 0)
  only_end left (Some (Title n)) f g k b e = never (sym (walk_title at s left n (sym f)) ∙ e)
  only_end left (Some (Grids n)) f g k b e = absurd (g n refl)
  only_end left (Some Block) f g k b e = absurd (k refl)
  only_end left (Some End) f g k b e =
      let (none, three) = ended left (sym f) e in
      (none, split 127 0 s b (known s (sym f)) ∙ nothing s (known s (sym f)).size_is three)
    where
      nothing : (s : List ℕ) → size s ≡ 0 → length s ≡ 3 → head 127 0 ++ value s ++ drop 3 s ≡ head 127 0
      nothing [] z l = absurd (omega (arith, l))
      nothing (a ∷ []) z l = absurd (omega (arith, l))
      nothing (a ∷ b ∷ []) z l = absurd (omega (arith, l))
      nothing (a ∷ b ∷ c ∷ []) z l = ap (λ (n : ℕ). head 127 0 ++ take n [] ++ []) z
      nothing (a ∷ b ∷ c ∷ d ∷ xs) z l = absurd (omega (arith, l))
  only_end left None f g k b e = never (sym (walk_fails at s left (sym f)) ∙ e)

-- a title and the end are neither grids nor a block
pub passed_over : (f : Field) → ((n : ℕ) × (f ≡ Title n)) ⊎ (f ≡ End) → ((n : ℕ) → Some f ≢ Some (Grids n)) × (Some f ≢ Some Block)
passed_over (Title m) e = (λ n z. cc, λ z. cc)
passed_over (Grids m) e = ⊎_elim (λ (n, z). cc) (λ z. cc) e
passed_over Block e = ⊎_elim (λ (n, z). cc) (λ z. cc) e
passed_over End e = (λ n z. cc, λ z. cc)

-- there are no more grids and blocks than bytes for them
abbrev Bound : List Part → List ℕ → Type 0
Bound ps s = (8 * length (grids_in ps) ≤ length s) × (length (blocks_in ps) ≤ length s)

module _ (at : ℕ) (s : List ℕ) (ps : List Part) (left : ℕ) (w : walk left at s ≡ sound ps)
    (behind : (at : ℕ) (s : List ℕ) (ps : List Part) → walk (less left) at s ≡ sound ps → Bound ps s) where
  bound : (f : Option Field) → field_of s ≡ f → Bound ps s
  bound (Some (Title n)) f = never (sym (walk_title at s left n f) ∙ w)
  bound (Some (Grids n)) f =
      let front = grids_front at s ps left n f w in
      let b = behind (at + (3 + n)) (drop (3 + n) s) front.behind front.found in
      let ws = words_in 8 (n / 8) (value s) in
      let l = length-append ws (grids_in front.behind) in
      subst (λ ps. Bound ps s) (sym front.is) (
        omega (arith, b.0, l, length-words 8 (n / 8) (value s), length-drop (3 + n) s, (known s f).0.room),
        omega (arith, b.1, length-drop (3 + n) s),
      )
  bound (Some Block) f =
      let front = block_front at s ps left f w in
      let b = behind (at + 79) (drop 79 s) front.behind front.found in
      subst (λ ps. Bound ps s) (sym front.is)
      (omega (arith, b.0, length-drop 79 s), omega (arith, b.1, length-drop 79 s, (known s f).room))
  bound (Some End) f = subst (λ ps. Bound ps s) (sym (ended at s ps left f w).0) (omega arith, omega arith)
  bound None f = never (sym (walk_fails at s left f) ∙ w)

pub bounded : (left at : ℕ) (s : List ℕ) (ps : List Part) → walk left at s ≡ sound ps → Bound ps s
bounded zero at s ps w = end_only (field_of s) refl
  where
    end_only : (f : Option Field) → field_of s ≡ f → Bound ps s
    end_only (Some (Title n)) f = never (sym (walk_title at s zero n f) ∙ w)
    end_only (Some (Grids n)) f = never (sym (full_grids at s n f) ∙ w)
    end_only (Some Block) f = never (sym (full_block at s f) ∙ w)
    end_only (Some End) f = subst (λ ps. Bound ps s) (sym (ended at s ps zero f w).0) (omega arith, omega arith)
    end_only None f = never (sym (walk_fails at s zero f) ∙ w)
bounded (suc left) at s ps w = bound at s ps (suc left) w (λ at s ps w. bounded left at s ps w) (field_of s) refl

-- ---- what is found behind a field

abbrev pub walks_on : (s : List ℕ) (n : ℕ) (w : Walks s) → field_of s ≡ Some (Grids n) → Walks (drop (3 + n) s)
walks_on s n w f =
    let front = grids_front w.at s w.parts w.left n f w.found in
    record { few = omega (arith, w.few, length-drop (3 + n) s); left = less w.left; at = w.at + (3 + n); parts = front.behind; found = front.found }

abbrev pub block_walks_on : (s : List ℕ) (w : Walks s) → field_of s ≡ Some Block → Walks (drop 79 s)
block_walks_on s w f =
    let front = block_front w.at s w.parts w.left f w.found in
    record { few = omega (arith, w.few, length-drop 79 s); left = less w.left; at = w.at + 79; parts = front.behind; found = front.found }
