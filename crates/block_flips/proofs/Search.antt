-- The steps of the search for flips, over plain values: a place that explains a syndrome, alone or with another. Assumes nothing.
use Rattle.std.specs.Prelude.{Option, Some, None}
use mathlib.Core.Path.{◌≡◌, refl, sym, ap, ◌∙◌, subst}
use mathlib.Core.Logic.{◌⊎◌, inl, inr, ◌≢◌}
use mathlib.Core.Bool.{Bool, true, false}
use Prim.Native.Nat.{ℕ, ◌≤◌, ◌<◌}
use native.Mathlib.Omega.{arith}
use borrow.Author.Tests.{lt-ltb, le-ltb}
use Rattle.block_code.specs.Checks.{no_checks, mixed, none_set, of_place}
use Rattle.block_code.specs.declared.Checks.{Checks}
use Rattle.block_code.proofs.Distance.{same_place}
use Rattle.block_code.proofs.Mixing.{mixed_self, mixed_comm, mixed_back, eq_of_mixed, none_set_lem, some_set}
use Rattle.block_flips.specs.Steps.{lowest_of, Explained, OnlyPlace, RuledOut, Attempted, Among, Guessed, Unexplained, in_order}
use Rattle.block_flips.specs.declared.Flips.TheVariants.{One}
use Rattle.block_flips.proofs.Naming.{Only, order, low32, low16, only_check}

-- ---- one place

pub same_number : {p q : ℕ} → Some p ≡ Some q → p ≡ q
same_number e = cc

pub not_both : {p : ℕ} {o : Option ℕ} → o ≡ None → o ≡ Some p → ⊥
not_both n e = cc

module _ (s : Checks) (p : ℕ) where
  -- what is left after it is none exactly where it is all
  left_none : mixed s (of_place p) ≡ no_checks → of_place p ≡ s
  left_none e = sym (eq_of_mixed s (of_place p) e)

  none_left : of_place p ≡ s → mixed s (of_place p) ≡ no_checks
  none_left e = ap (λ (k : Checks). mixed k (of_place p)) (sym e) ∙ mixed_self (of_place p)

  pub explained : (r : Bool) → p < 608 → r ≡ none_set (mixed s (of_place p)) → Explained p s r
  explained r h n = record {
    yes = λ e. (h, left_none (none_set_lem (mixed s (of_place p)) (sym n ∙ e)));
    no = λ e l q. some_set (mixed s (of_place p)) (sym n ∙ e) (none_left q);
  }

  pub not_alone : Only s p → Explained p s false → OnlyPlace s None
  not_alone only x = record {
    sound = λ q e. cc;
    all = λ q _ h e.
        let same : p ≡ q = only q h e in
        x.no refl (subst (λ (z : ℕ). z < 608) (sym same) h) (ap of_place same ∙ e);
  }

-- no check is set, so no place leaves just a check
pub no_check : (s : Checks) → 608 ≤ lowest_of s → (low32 s ≡ 32) ⊎ (low16 s ≡ 16) → OnlyPlace s None
no_check s n z = record { sound = λ q e. cc; all = λ q _ h e. absurd (omega (arith, only_check s (lowest_of s) refl z q h e)) }

-- ---- a place tried

module _ (s : Checks) (p : ℕ) where
  pub tried_one : p < 608 → none_set (mixed s (of_place p)) ≡ true → Attempted s p (Some (One p))
  tried_one h n = (h, left_none s p (none_set_lem (mixed s (of_place p)) n))

  -- another place that explains s with p is all that is left
  left : (r : ℕ) → mixed (of_place p) (of_place r) ≡ s → of_place r ≡ mixed s (of_place p)
  left r e =
      sym (ap (λ (k : Checks). mixed k (of_place p)) (sym e) ∙ mixed_comm (mixed (of_place p) (of_place r)) (of_place p)
      ∙ mixed_back (of_place p) (of_place r))

  -- something is left, and no other place explains it
  ruled_out : none_set (mixed s (of_place p)) ≡ false
      → ((r : ℕ) → p < 608 → r < 608 → of_place r ≡ mixed s (of_place p) → p ≡ r) → RuledOut s p
  ruled_out n only = record {
    alone = λ h e. some_set (mixed s (of_place p)) n (none_left s p e);
    paired = λ r h l ne e. ne (only r h l (left r e));
  }

  pub tried_two : (q : ℕ) → p < 608 → none_set (mixed s (of_place p)) ≡ false → OnlyPlace (mixed s (of_place p)) (Some q)
      → Attempted s p (in_order p q)
  tried_two q h n a = go (order p q)
    where
      l : q < 608
      l = (a.sound q refl).0

      its : of_place q ≡ mixed s (of_place p)
      its = (a.sound q refl).1

      is : mixed (of_place p) (of_place q) ≡ s
      is = ap (mixed (of_place p)) (its ∙ mixed_comm s (of_place p)) ∙ mixed_back (of_place p) s

      go : (p < q) ⊎ ((q < p) ⊎ (p ≡ q)) → Attempted s p (in_order p q)
      go (inl m) = rw (lt-ltb p q m) (m, l, is)
      go (inr (inl m)) = rw (le-ltb p q (omega arith), lt-ltb q p m) (m, h, mixed_comm (of_place q) (of_place p) ∙ is)
      go (inr (inr m)) =
          rw (le-ltb p q (omega arith), le-ltb q p (omega arith))
          (ruled_out n (λ r g k e. same_place p r g k (ap of_place m ∙ its ∙ sym e)))

  -- what is left is not none, and no place alone explains it
  pub tried_more : none_set (mixed s (of_place p)) ≡ false → OnlyPlace (mixed s (of_place p)) None → Attempted s p None
  tried_more n a = ruled_out n (λ r h m e. absurd (a.all r refl m e))

-- ---- both guesses

module _ (s : Checks) (p : Option ℕ) where
  pub none_found : Guessed s p → ((q : ℕ) → p ≡ Some q → RuledOut s q) → RuledOut s (lowest_of s) → Unexplained s
  none_found g x y = record {
    alone = λ q h e. (fails q (g.alone q h e)).alone h e;
    paired = λ q r h m ne e. go q r h m ne e (g.paired q r h m ne e);
  }
    where
      fails : (q : ℕ) → Among s p q → RuledOut s q
      fails q (inl e) = x q e
      fails q (inr e) = subst (RuledOut s) e y

      go : (q r : ℕ) → q < 608 → r < 608 → q ≢ r → mixed (of_place q) (of_place r) ≡ s → Among s p q ⊎ Among s p r → ⊥
      go q r h m ne e (inl a) = (fails q a).paired r h m ne e
      go q r h m ne e (inr a) = (fails r a).paired q m h (λ z. ne (sym z)) (mixed_comm (of_place r) (of_place q) ∙ e)
