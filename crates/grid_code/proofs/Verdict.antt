-- What a verdict of the code is called of a grid: the flips and the lost grids stay, and demand 3 has blank as an answer of its own. Assumes
-- nothing.
use mathlib.Core.Path.{◌≡◌, refl, sym, ap, ◌∙◌, subst}
use mathlib.Core.Logic.{◌≢◌}
use mathlib.Core.Bool.{Bool, true, false}
use Prim.Native.Nat.{ℕ, zero, suc, ◌+◌}
use native.Mathlib.Decide.{ℕ_discrete}
use native.Mathlib.Omega.{arith}
use lib.Dec.{eqb, lit<}
use borrow.Author.Tests.{eq-eqb, ne_eqb}
use Rattle.words.specs.Word.{choose}
use Rattle.codes.specs.Verdict as codes
use Rattle.codes.specs.Promises as promises
use Rattle.grid_code.specs.Code.{codeword, code_of_grid}
use Rattle.grid_code.specs.Verdict.{Verdict, clean, blank, mended, lost, erased, named, grid_verdict, IsGridVerdict, answered, flips_of, is_clean, is_blank, is_mended, is_lost, Hands, GridDemand3}

-- ---- by the data and the flips

blank_mended : (d n : ℕ) → d ≡ erased → named (codes.mended d n) ≡ blank n
blank_mended d n e = rw (eq-eqb d erased e)

pub named_blank : (d n : ℕ) → d ≡ erased → named (codes.answered d n) ≡ blank n
named_blank d zero e = rw (eq-eqb d erased e)
named_blank d (suc n) e = blank_mended d (suc n) e

pub named_clean : (d : ℕ) → d ≢ erased → named (codes.clean d) ≡ clean d
named_clean d ne = rw (ne_eqb d erased ne)

pub named_mended : (d n : ℕ) → d ≢ erased → named (codes.mended d n) ≡ mended d n
named_mended d n ne = rw (ne_eqb d erased ne)

pub named-answered : (d n : ℕ) → d ≢ erased → named (codes.answered d n) ≡ answered d n
named-answered d zero ne = named_clean d ne
named-answered d (suc n) ne = named_mended d (suc n) ne

-- ---- each is one of four, and the flips are the code's

pub one_kind : (v : Verdict) → is_clean v + is_blank v + is_mended v + is_lost v ≡ 1
one_kind (clean d) = refl
one_kind (blank n) = refl
one_kind (mended d n) = refl
one_kind lost = refl

pub same-flips : (v : codes.Verdict) → flips_of (named v) ≡ codes.flips_of v
same-flips (codes.clean d) = go (eqb d erased)
  where
    go : (b : Bool) → flips_of (choose b (blank 0) (clean d)) ≡ 0
    go true = refl
    go false = refl
same-flips (codes.mended d n) = go (eqb d erased)
  where
    go : (b : Bool) → flips_of (choose b (blank n) (mended d n)) ≡ n
    go true = refl
    go false = refl
same-flips codes.lost = refl

-- a grid is lost where it is by the code
pub lost_alike : (v : codes.Verdict) → named v ≡ lost → v ≡ codes.lost
lost_alike (codes.clean d) e = absurd (go (eqb d erased) (ap is_lost e))
  where
    go : (b : Bool) → is_lost (choose b (blank 0) (clean d)) ≡ 1 → ⊥
    go true z = omega (arith, z)
    go false z = omega (arith, z)
lost_alike (codes.mended d n) e = absurd (go (eqb d erased) (ap is_lost e))
  where
    go : (b : Bool) → is_lost (choose b (blank n) (mended d n)) ≡ 1 → ⊥
    go true z = omega (arith, z)
    go false z = omega (arith, z)
lost_alike codes.lost e = refl

-- .. and mended as it is by the code
pub mended_alike : (v : codes.Verdict) (d n : ℕ) → named v ≡ mended d n → v ≡ codes.mended d n
mended_alike (codes.clean e) d n p = absurd (go (eqb e erased) (ap is_mended p))
  where
    go : (b : Bool) → is_mended (choose b (blank 0) (clean e)) ≡ 1 → ⊥
    go true z = omega (arith, z)
    go false z = omega (arith, z)
mended_alike (codes.mended e m) d n p = go (ℕ_discrete e erased)
  where
    go : Dec (e ≡ erased) → codes.mended e m ≡ codes.mended d n
    go (yes q) = absurd (omega (arith, ap is_mended (sym (blank_mended e m q) ∙ p)))
    go (no ne) = let q : mended e m ≡ mended d n = sym (named_mended e m ne) ∙ p in cc
mended_alike codes.lost d n p = absurd (omega (arith, ap is_mended p))

-- ---- what is handed out

hands : (v : codes.Verdict) (d n : ℕ) → d ≢ erased → promises.Hands v d n → Hands (named v) d n
hands (codes.clean e) d n ne (s, z) = rw (ne_eqb e erased (λ q. ne (sym s ∙ q))) (s, z)
hands (codes.mended e m) d n ne (s, z) = rw (ne_eqb e erased (λ q. ne (sym s ∙ q))) (s, z)
hands codes.lost d n ne h = absurd h

handed : (v : codes.Verdict) (d n : ℕ) → Hands (named v) d n → promises.Hands v d n × (d ≢ erased)
handed (codes.clean e) d n h = go (ℕ_discrete e erased)
  where
    go : Dec (e ≡ erased) → ((e ≡ d) × (n ≡ 0)) × (d ≢ erased)
    go (yes q) = absurd (subst (λ v. Hands v d n) (named_blank e 0 q) h)
    go (no ne) = let (s, z) = subst (λ v. Hands v d n) (named_clean e ne) h in ((s, z), λ q. ne (s ∙ q))
handed (codes.mended e m) d n h = go (ℕ_discrete e erased)
  where
    go : Dec (e ≡ erased) → ((e ≡ d) × (n ≡ m)) × (d ≢ erased)
    go (yes q) = absurd (subst (λ v. Hands v d n) (blank_mended e m q) h)
    go (no ne) = let (s, z) = subst (λ v. Hands v d n) (named_mended e m ne) h in ((s, z), λ q. ne (s ∙ q))
handed codes.lost d n h = absurd h

blanks : (v : codes.Verdict) (n : ℕ) → promises.Hands v erased n → named v ≡ blank n
blanks (codes.clean e) n (s, z) = rw (eq-eqb e erased s, z)
blanks (codes.mended e m) n (s, z) = rw (eq-eqb e erased s, z)
blanks codes.lost n h = absurd h

blanked : (v : codes.Verdict) (n : ℕ) → named v ≡ blank n → promises.Hands v erased n
blanked (codes.clean e) n p = go (ℕ_discrete e erased)
  where
    go : Dec (e ≡ erased) → (e ≡ erased) × (n ≡ 0)
    go (yes q) = (q, sym (ap flips_of p) ∙ same-flips (codes.clean e))
    go (no ne) = absurd (omega (arith, ap is_blank (sym (named_clean e ne) ∙ p)))
blanked (codes.mended e m) n p = go (ℕ_discrete e erased)
  where
    go : Dec (e ≡ erased) → (e ≡ erased) × (n ≡ m)
    go (yes q) = (q, sym (ap flips_of p) ∙ same-flips (codes.mended e m))
    go (no ne) = absurd (omega (arith, ap is_blank (sym (named_mended e m ne) ∙ p)))
blanked codes.lost n p = absurd (omega (arith, ap is_blank p))

-- a blank grid is put right to the codeword of the erased value
pub blank_repaired : (w : ℕ) (v : codes.Verdict) (n : ℕ) → named v ≡ blank n → codes.repaired code_of_grid w v ≡ codeword erased
blank_repaired w (codes.clean e) n p = ap codeword (blanked (codes.clean e) n p).0
blank_repaired w (codes.mended e m) n p = ap codeword (blanked (codes.mended e m) n p).0
blank_repaired w codes.lost n p = absurd (omega (arith, ap is_blank p))

module _ (P : promises.Promises code_of_grid) (w : ℕ) where
  pub settled : IsGridVerdict w (grid_verdict w)
  settled = (codes.verdict code_of_grid w, (P.settled w).has, refl)

  pub one_verdict : (v : Verdict) → IsGridVerdict w v → v ≡ grid_verdict w
  one_verdict v (u, h, e) = e ∙ ap named ((P.settled w).one u h)

  pub demand3 : GridDemand3 w (grid_verdict w)
  demand3 =
      let u : codes.Verdict = codes.verdict code_of_grid w in
      let D : promises.Demand3 code_of_grid w u = P.demand3 w in
      record {
        given = λ d l near. hands u d (codes.off code_of_grid w d) (λ e. absurd (omega (arith, e))) (D.given d (omega arith) near);
        within = λ d n h.
            let (k, ne) = handed u d n h in
            let (l, near) = D.within d n k in
            (omega (arith, ne), near);
        blank_given = λ near. blanks u (codes.off code_of_grid w erased) (D.given erased (lit< tt) near);
        blank_within = λ n e. (D.within erased n (blanked u n e)).1;
        others = λ d n h e l. D.others d n (handed u d n h).0 e (omega arith);
        blank_others = λ n h e l. D.others erased n (blanked u n h) e (omega arith) (λ q. absurd (omega (arith, q)));
        flips = λ d n h. D.flips d n (handed u d n h).0;
        blank_flips = λ n e. D.flips erased n (blanked u n e);
      }
