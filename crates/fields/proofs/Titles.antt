-- The length of a title, and its first bad byte, as a search from the front finds it. Assumes nothing.
use mathlib.Core.Path.{◌≡◌, refl, sym, ap, ◌∙◌}
use mathlib.Core.Bool.{Bool, true, false, and-eq-true_iff}
use mathlib.Core.List.{List}
use Prim.Native.Nat.{ℕ, suc, ◌+◌, ◌≤◌, ◌<◌}
use lib.ListN.{length}
use lib.Dec.{leb, ltb, eqb}
use native.Mathlib.Omega.{arith}
use borrow.Author.Tests.{leb-true, ltb-true, ltb-false, eq-eqb, ne_eqb}
use Rattle.std.specs.Prelude.{not, cond, is_some, Some, None}
use Rattle.std.specs.List.{position_or_len}
use Rattle.std.proofs.lemmas.List.Sums.{prefix_len-le-length}
use Rattle.std.proofs.lemmas.List.Recursion.{is_position_or_len}
use Rattle.words.specs.Word.{choose}
use Rattle.fields.specs.Fields.{title_byte, title_length, first_bad, bad_byte}

pub title_length_lem : (n : ℕ) → title_length n ≡ true → (1 ≤ n) × (n ≤ 24)
title_length_lem n e = let (l, h) = (and-eq-true_iff (leb 1 n) (leb n 24)).0 e in (leb-true 1 n l, leb-true n 24 h)

-- the search for a bad byte is that of the library, ..
pub first_bad_is : (t : List ℕ) → first_bad t ≡ position_or_len (λ b. not (title_byte b)) t
unfolding first_bad
first_bad_is = is_position_or_len first_bad (λ b. not (title_byte b)) refl (λ b t. step (title_byte b) t)
  where
    step : (b : Bool) (t : List ℕ) → choose b (suc (first_bad t)) 0 ≡ cond (not b) 0 (1 + first_bad t)
    step true t = omega arith
    step false t = refl

pub bad_byte_is : (t : List ℕ) → bad_byte t ≡ choose (ltb (first_bad t) (length t)) (Some (first_bad t)) None
bad_byte_is t = ap (λ (n : ℕ). cond (ltb n (length t)) (Some n) None) (sym (first_bad_is t)) ∙ go (ltb (first_bad t) (length t))
  where
    go : (b : Bool) → cond b (Some (first_bad t)) None ≡ choose b (Some (first_bad t)) None
    go true = refl
    go false = refl

no_further : (t : List ℕ) → first_bad t ≤ length t
no_further t = omega (arith, first_bad_is t, prefix_len-le-length (λ b. not (not (title_byte b))) t)

-- .. and where it finds none, all are fine
pub all_fine : (t : List ℕ) (b : Bool) → is_some (bad_byte t) ≡ not b → b ≡ eqb (first_bad t) (length t)
all_fine t b e = go b (ltb (first_bad t) (length t)) refl (sym (ap is_some (bad_byte_is t)) ∙ e)
  where
    go : (b l : Bool) → ltb (first_bad t) (length t) ≡ l → is_some (choose l (Some (first_bad t)) None) ≡ not b → b ≡ eqb (first_bad t) (length t)
    go true true h e = cc
    go true false h e = sym (eq-eqb (first_bad t) (length t) (omega (arith, no_further t, ltb-false (first_bad t) (length t) h)))
    go false true h e = sym (ne_eqb (first_bad t) (length t) (λ p. omega (arith, p, ltb-true (first_bad t) (length t) h)))
    go false false h e = cc

pub bad_there : (t : List ℕ) {n : ℕ} → Some n ≡ bad_byte t → (n ≡ first_bad t) × (first_bad t < length t)
bad_there t {n} e = go (ltb (first_bad t) (length t)) refl (e ∙ bad_byte_is t)
  where
    go : (l : Bool) → ltb (first_bad t) (length t) ≡ l → Some n ≡ choose l (Some (first_bad t)) None → (n ≡ first_bad t) × (first_bad t < length t)
    go true h e = (cc, ltb-true (first_bad t) (length t) h)
    go false h e = cc

pub none_bad : (t : List ℕ) → None ≡ bad_byte t → first_bad t ≡ length t
none_bad t e = go (ltb (first_bad t) (length t)) refl (e ∙ bad_byte_is t)
  where
    go : (l : Bool) → ltb (first_bad t) (length t) ≡ l → None ≡ choose l (Some (first_bad t)) None → first_bad t ≡ length t
    go true h e = cc
    go false h e = omega (arith, no_further t, ltb-false (first_bad t) (length t) h)
