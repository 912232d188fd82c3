-- A walk over the fields, step by step, and what it counts. Assumes nothing.
use Rattle.std.specs.Prelude.{Err, Ok, None, Option, Some}
use mathlib.Core.Path.{◌≡◌, refl, sym, ap, ap₂, ◌∙◌}
use mathlib.Core.Logic.{◌≢◌}
use mathlib.Core.List.{List, [], ◌∷◌, ◌++◌}
use Prim.Native.Nat.{ℕ, zero, suc, ◌+◌, ◌/◌}
use native.Mathlib.Nat.{zero-add}
use native.Mathlib.Omega.{arith}
use lib.ListN.{length, drop, length-append}
use borrow.Author.Tests.{eq-eqb, ne_eqb}
use Rattle.words.specs.Word.{choose}
use Rattle.words.specs.Bytes.{words_in}
use Rattle.words.proofs.Bytes.{length-words}
use Rattle.refusals.specs.declared.Refusal.TheVariants.{Broken}
use Rattle.fields.specs.declared.Field.{Field}
use Rattle.fields.specs.declared.Field.TheVariants.{Title, Grids, Block, End}
use Rattle.fields.specs.Fields.{value, field_of}
use Rattle.fields.proofs.Fields.{known}
use Rattle.image.specs.Card.{Part, grids, block, Card, Found, sound, broken, grids_in, blocks_in, grids_at, block_at, before, follow, walk, under_title, titled, card_of}
use Rattle.image.specs.Calls.{by_found, counts}
use Rattle.image.specs.Steps.{found_after}

-- ---- what is counted

after_grids : (g b : ℕ) (ws : List ℕ) (x : Found (List Part)) → found_after g b (before (grids ws) x) ≡ found_after (g + length ws) b x
after_grids g b ws (sound ps) =
    let e : g + length (ws ++ grids_in ps) ≡ g + length ws + length (grids_in ps) = omega (arith, length-append ws (grids_in ps)) in
    ap (λ (n : ℕ). Ok (record { grids = n; blocks = b + length (blocks_in ps) })) e
after_grids g b ws (broken at) = refl

after_block : (g b w : ℕ) (x : Found (List Part)) → found_after g b (before (block w) x) ≡ found_after g (b + 1) x
after_block g b w (sound ps) =
    let e : b + length (w ∷ blocks_in ps) ≡ b + 1 + length (blocks_in ps) = omega arith in ap (λ (n : ℕ). Ok (record { grids = g + length (grids_in ps); blocks = n })) e
after_block g b w (broken at) = refl

-- ---- one step

module _ (at : ℕ) (s : List ℕ) where
  stepped : (left : ℕ) {f : Option Field} → field_of s ≡ f → walk (suc left) at s ≡ follow (walk left) at s f
  unfolding walk
  stepped left e = ap (follow (walk left) at s) e

  last : {f : Option Field} → field_of s ≡ f → walk zero at s ≡ follow (λ next bytes. broken at) at s f
  unfolding walk
  last e = ap (follow (λ next bytes. broken at) at s) e

  pub walk_grids : (left n : ℕ) → field_of s ≡ Some (Grids n)
      → walk (suc left) at s ≡ before (grids_at n (value s)) (walk left (at + (3 + n)) (drop (3 + n) s))
  walk_grids left n e =
      stepped left e
      ∙ ap (λ (k : ℕ). before (grids_at n (value s)) (walk left (at + (3 + n)) (drop (3 + k) s))) (known s e).0.size_is

  pub walk_block : (left : ℕ) → field_of s ≡ Some Block
      → walk (suc left) at s ≡ before (block_at (value s)) (walk left (at + 79) (drop 79 s))
  walk_block left e =
      stepped left e ∙ ap (λ (k : ℕ). before (block_at (value s)) (walk left (at + 79) (drop (3 + k) s))) (known s e).size_is

  -- a seventeenth data field
  pub full_grids : (n : ℕ) → field_of s ≡ Some (Grids n) → walk zero at s ≡ broken at
  full_grids n e = last e

  pub full_block : field_of s ≡ Some Block → walk zero at s ≡ broken at
  full_block e = last e

  -- the fields at which any walk stops
  stops : {f : Option Field} {x : Found (List Part)} → ((go : ℕ → List ℕ → Found (List Part)) → follow go at s f ≡ x)
      → field_of s ≡ f → (left : ℕ) → walk left at s ≡ x
  stops h e zero = last e ∙ h (λ next bytes. broken at)
  stops h e (suc left) = stepped left e ∙ h (walk left)

  pub walk_end : (left : ℕ) → field_of s ≡ Some End → length s ≡ 3 → walk left at s ≡ sound []
  walk_end left e l = stops (λ go. ap (λ b. choose b (sound []) (broken (at + 3))) (eq-eqb (length s) 3 l)) e left

  pub walk-behind : (left : ℕ) → field_of s ≡ Some End → (length s ≡ 3 → ⊥) → walk left at s ≡ broken (at + 3)
  walk-behind left e l = stops (λ go. ap (λ b. choose b (sound []) (broken (at + 3))) (ne_eqb (length s) 3 l)) e left

  pub walk_title : (left n : ℕ) → field_of s ≡ Some (Title n) → walk left at s ≡ broken at
  walk_title left n e = stops (λ go. refl) e left

  pub walk_fails : (left : ℕ) → field_of s ≡ None → walk left at s ≡ broken at
  walk_fails left e = stops (λ go. refl) e left

  -- .. counted
  pub after_grids_step : (g b left n : ℕ) → field_of s ≡ Some (Grids n)
      → found_after g b (walk (suc left) at s) ≡ found_after (g + n / 8) b (walk left (at + (3 + n)) (drop (3 + n) s))
  after_grids_step g b left n e =
      ap (found_after g b) (walk_grids left n e)
      ∙ after_grids g b (words_in 8 (n / 8) (value s)) (walk left (at + (3 + n)) (drop (3 + n) s))
      ∙ ap (λ (k : ℕ). found_after (g + k) b (walk left (at + (3 + n)) (drop (3 + n) s))) (length-words 8 (n / 8) (value s))

  pub after_block_step : (g b left : ℕ) → field_of s ≡ Some Block
      → found_after g b (walk (suc left) at s) ≡ found_after g (b + 1) (walk left (at + 79) (drop 79 s))
  after_block_step g b left e = ap (found_after g b) (walk_block left e) ∙ after_block g b _ (walk left (at + 79) (drop 79 s))

-- ---- the whole image

pub card_titled : (s : List ℕ) (n : ℕ) → field_of s ≡ Some (Title n) → card_of s ≡ under_title (value s) (walk 16 (3 + n) (drop (3 + n) s))
unfolding card_of
card_titled s n e =
    ap (titled s) e ∙ ap (λ (k : ℕ). under_title (value s) (walk 16 (3 + n) (drop (3 + k) s))) (known s e).0.size_is

-- a first field that is no title
pub untitled : (s : List ℕ) → ((n : ℕ) → field_of s ≢ Some (Title n)) → card_of s ≡ broken 0
unfolding card_of
untitled s h = go (field_of s) h
  where
    go : (f : Option Field) → ((n : ℕ) → f ≢ Some (Title n)) → titled s f ≡ broken 0
    go (Some (Title n)) h = absurd (h n refl)
    go (Some (Grids n)) h = refl
    go (Some Block) h = refl
    go (Some End) h = refl
    go None h = refl

pub after_whole : (title : List ℕ) (x : Found (List Part))
    → by_found (λ at. Err (Broken at)) (λ (c : Card). Ok (counts c.parts)) (under_title title x) ≡ found_after 0 0 x
after_whole title (sound ps) = sym (ap₂ (λ (g b : ℕ). Ok (record { grids = g; blocks = b })) (zero-add (length (grids_in ps))) (zero-add (length (blocks_in ps))))
after_whole title (broken at) = refl
