-- From the steps to the word that agrees: a word that has the rows that are not set aside agrees, and one that agrees has them, but for one
-- row where there are few. Assumes nothing.
use Rattle.std.specs.Prelude.{None, Option, Some}
use mathlib.Core.Path.{◌≡◌, refl, sym, ap, ◌∙◌, subst}
use mathlib.Core.Logic.{◌≢◌, ◌⊎◌, inl, inr}
use Prim.Native.Nat.{ℕ, zero, suc, ◌+◌, ◌*◌, ◌%◌, ◌^◌, ◌≤◌, ◌<◌, suc-le-suc, min}
use native.Mathlib.Nat.{zero-lt-suc, le_of_suc-le-suc}
use native.Mathlib.Decide.{ℕ_discrete}
use native.Mathlib.Omega.{arith}
use lib.Bits.{bit_and, bit_xor, differ}
use lib.Dec.{eqb, lit<}
use Rattle.words.specs.Word.{dist, sum_to}
use Rattle.words.proofs.Bit.{odd_lt}
use Rattle.words.proofs.Dist.{dist_self, eq_of_dist}
use Rattle.words.proofs.Linear.{same, mask, low, then, digit, agree, at_zero}
use Rattle.words.proofs.Sum.{sum_eq, sum_zero, sum_none, sum_single}
use Rattle.words.proofs.Test.{all_below, at_below}
use Rattle.codes.specs.Product.{unlike}
use Rattle.grid_code.specs.Sides.{row_of}
use Rattle.grid_columns.specs.Columns.{InColumns, wrong, Agrees, Solves}
use Rattle.grid_columns.specs.Steps.{Asides, Taken, Keeps, Mends, One, Beside, Tested}
use Rattle.grid_columns.proofs.Rows.{flip_here, flip_there}

-- s agrees with the rows, but for the columns; and it is each word that agrees
pub record Candidate (rows aside s : ℕ) : Type 0 where
  pub few : 2 * sum_to 8 (wrong rows aside s) + sum_to 8 (row_of aside) ≤ 3
  pub all : (y : ℕ) → Agrees rows aside y → s ≡ y

-- so the columns decide
pub decided : {rows aside s : ℕ} (r : Option ℕ) → s < 2 ^ 64 → Candidate rows aside s → Tested s r → Solves rows aside r
decided {rows} {aside} (Some y) h c (e, code) = subst (Agrees rows aside) (sym e) (record { fits = h; code = code; few = c.few })
decided None h c none = λ y a. none (subst InColumns (sym (c.all y a)) a.code)

-- ---- row by row

module _ (rows aside y r : ℕ) where
  wrong_le : wrong rows aside y r ≤ 1
  wrong_le = omega arith

  wrong_aside : row_of aside r ≡ 1 → wrong rows aside y r ≡ 0
  wrong_aside e =
      let d : wrong rows aside y r ≡ min 0 (unlike (row_of y r) (row_of rows r)) =
      ap (λ (x : ℕ). min (differ x 1) (unlike (row_of y r) (row_of rows r))) e in
      omega arith

  wrong_same : row_of y r ≡ row_of rows r → wrong rows aside y r ≡ 0
  wrong_same e =
      let z : dist (row_of y r) (row_of rows r) ≡ 0 = ap (λ (x : ℕ). dist x (row_of rows r)) e ∙ dist_self (row_of rows r) in
      omega arith

  same_of_wrong : row_of aside r ≡ 0 → wrong rows aside y r ≡ 0 → row_of y r ≡ row_of rows r
  same_of_wrong e z =
      let d : min 1 (unlike (row_of y r) (row_of rows r)) ≡ 0 =
      sym (ap (λ (x : ℕ). min (differ x 1) (unlike (row_of y r) (row_of rows r))) e) ∙ z in
      eq_of_dist (row_of y r) (row_of rows r) (omega arith)

-- a sum of at most 1 has one term that is not 0, or none
pub record Lone (n : ℕ) (f : ℕ → ℕ) : Type 0 where
  pub at : ℕ
  pub below : at < n
  pub others : (r : ℕ) → r < n → r ≢ at → f r ≡ 0

lone : (n : ℕ) (f : ℕ → ℕ) → sum_to (suc n) f ≤ 1 → Lone (suc n) f
lone zero f h = record { at = 0; below = lit< tt; others = λ r l ne. absurd (ne (omega arith)) }
lone (suc n) f h = go (ℕ_discrete (f 0) 0) (lone n (λ i. f (suc i)) (omega arith))
  where
    go : Dec (f 0 ≡ 0) → Lone (suc n) (λ i. f (suc i)) → Lone (suc (suc n)) f
    go (no nz) o = record { at = 0; below = zero-lt-suc (suc n); others = rest }
      where
        rest : (r : ℕ) → r < suc (suc n) → r ≢ 0 → f r ≡ 0
        rest zero l ne = absurd (ne refl)
        rest (suc r) l ne = sum_zero (suc n) (λ i. f (suc i)) (omega (arith, nz)) r (le_of_suc-le-suc l)
    go (yes z) o = record { at = suc o.at; below = suc-le-suc o.below; others = rest }
      where
        rest : (r : ℕ) → r < suc (suc n) → r ≢ suc o.at → f r ≡ 0
        rest zero l ne = z
        rest (suc r) l ne = o.others r (le_of_suc-le-suc l) (λ e. ne (ap suc e))

-- M names the rows that are not set aside
module _ (M : ℕ → Type 0) (rows aside s : ℕ) (named : (r : ℕ) → r < 8 → M r → row_of aside r ≡ 0)
    (other : (r : ℕ) → r < 8 → M r ⊎ (row_of aside r ≡ 1))
  where
    fine : (r : ℕ) → r < 8 → (M r → row_of s r ≡ row_of rows r) → wrong rows aside s r ≡ 0
    fine r h k = go (other r h)
      where
        go : M r ⊎ (row_of aside r ≡ 1) → wrong rows aside s r ≡ 0
        go (inl m) = wrong_same rows aside s r (k m)
        go (inr e) = wrong_aside rows aside s r e

    -- all of them are right, ..
    pub all_right : 2 ≤ sum_to 8 (row_of aside) → sum_to 8 (row_of aside) ≤ 3 → Mends M rows s → Candidate rows aside s
    all_right two three m = record {
      few =
          plain (sum_to 8 (wrong rows aside s)) (sum_to 8 (row_of aside))
          (sum_none 8 (wrong rows aside s) (λ r h. fine r h (m.kept r h))) three;
      all = λ y a.
          let z : sum_to 8 (wrong rows aside y) ≡ 0 = zero_of (sum_to 8 (wrong rows aside y)) (sum_to 8 (row_of aside)) a.few two in
          m.right y a.fits a.code (λ r h n. same_of_wrong rows aside y r (named r h n) (sum_zero 8 (wrong rows aside y) z r h));
    }
      where
        plain : (w n : ℕ) → w ≡ 0 → n ≤ 3 → 2 * w + n ≤ 3
        plain w n z l = omega arith

        zero_of : (w n : ℕ) → 2 * w + n ≤ 3 → 2 ≤ n → w ≡ 0
        zero_of w n h l = omega arith

    -- .. or all but one, whichever it is
    pub one_wrong : sum_to 8 (row_of aside) ≤ 1 → (row : ℕ) → row < 8 → Keeps (λ r. M r × (r ≢ row)) rows s
        → ((j : ℕ) → j < 8 → (y : ℕ) → y < 2 ^ 64 → InColumns y → Keeps (λ r. M r × (r ≢ j)) rows y → s ≡ y) → Candidate rows aside s
    one_wrong one row l kept right = record {
      few =
          let e : sum_to 8 (wrong rows aside s) ≡ wrong rows aside s row =
          sum_single 8 row (wrong rows aside s) l (λ r h ne. fine r h (λ m. kept r h (m, ne))) in
          plain (sum_to 8 (wrong rows aside s)) (sum_to 8 (row_of aside)) (wrong rows aside s row) e (wrong_le rows aside s row) one;
      all = λ y a.
          let l : sum_to 8 (wrong rows aside y) ≤ 1 = at_most (sum_to 8 (wrong rows aside y)) (sum_to 8 (row_of aside)) a.few in
          let o : Lone 8 (wrong rows aside y) = lone 7 (wrong rows aside y) l in
          right o.at o.below y a.fits a.code
          (λ r h (m, ne). same_of_wrong rows aside y r (named r h m) (o.others r h ne));
    }
      where
        plain : (w n t : ℕ) → w ≡ t → t ≤ 1 → n ≤ 1 → 2 * w + n ≤ 3
        plain w n t e l h = omega arith

        at_most : (w n : ℕ) → 2 * w + n ≤ 3 → w ≤ 1
        at_most w n h = omega arith

-- ---- the rows set aside, one after the other

sum_less : (n i : ℕ) (f g : ℕ → ℕ) → i < n → f i ≡ suc (g i) → ((r : ℕ) → r < n → r ≢ i → g r ≡ f r) → sum_to n f ≡ suc (sum_to n g)
sum_less zero i f g l e s = absurd (omega arith)
sum_less (suc n) zero f g l e s =
    omega (arith, e, sum_eq n (λ r. g (suc r)) (λ r. f (suc r)) (λ r h. s (suc r) (suc-le-suc h) (λ z. absurd (omega arith))))
sum_less (suc n) (suc i) f g l e s =
    omega (
      arith,
      s 0 (zero-lt-suc n) (λ z. absurd (omega arith)),
      sum_less n i (λ r. f (suc r)) (λ r. g (suc r)) (le_of_suc-le-suc l) e (λ r h ne. s (suc r) (suc-le-suc h) (λ z. ne (omega arith))),
    )

pub take : {aside i rest : ℕ} → i < 8 → row_of aside i ≡ 1 → rest ≡ bit_xor aside (1 * 2 ^ (8 * i)) → Taken aside i rest
take {aside} {i} {rest} l e is = record {
  here = e;
  gone = gone;
  same = same;
  sum = sum_less 8 i (row_of aside) (row_of rest) l (e ∙ ap suc (sym gone)) same;
}
  where
    gone : row_of rest i ≡ 0
    gone = ap (λ (x : ℕ). row_of x i) is ∙ flip_here aside i 1 l (lit< tt) ∙ ap (λ (x : ℕ). bit_xor x 1) e

    same : (r : ℕ) → r < 8 → r ≢ i → row_of rest r ≡ row_of aside r
    same r h ne = ap (λ (x : ℕ). row_of x r) is ∙ flip_there aside i 1 l (lit< tt) r h ne

pub others_aside : {aside i rest : ℕ} → Asides aside → Taken aside i rest → Asides rest
others_aside {aside} {i} {rest} p t r h = go (ℕ_discrete r i)
  where
    go : Dec (r ≡ i) → row_of rest r < 2
    go (yes q) = subst (λ (x : ℕ). x < 2) (sym (ap (row_of rest) q ∙ t.gone)) (lit< tt)
    go (no ne) = subst (λ (x : ℕ). x < 2) (sym (t.same r h ne)) (p r h)

pub marked : (marks : ℕ) → marks < 2 ^ 64 → Asides (bit_and marks 0x0101_0101_0101_0101)
marked marks h r l =
    subst (λ (x : ℕ). x < 2)
    (sym (agree (then (mask same 0x0101_0101_0101_0101) (digit 8 8 r)) (low (digit 8 8 r) 1) 64
    (at_below 8 (λ r. all_below 64 (λ k. eqb (row_of (bit_and (2 ^ k) 0x0101_0101_0101_0101) r) (row_of (2 ^ k) r % 2))) tt r l) marks h))
    (odd_lt (row_of marks r))

no_rows : (aside r : ℕ) → aside ≡ 0 → row_of aside r ≡ 0
no_rows aside r z = ap (λ (x : ℕ). row_of x r) z ∙ at_zero (digit 8 8 r)

none_aside : (aside : ℕ) → aside ≡ 0 → sum_to 8 (row_of aside) ≡ 0
none_aside aside z = sum_none 8 (row_of aside) (λ r h. no_rows aside r z)

-- none is set aside
pub aside_none : {rows aside s : ℕ} → aside ≡ 0 → One rows s → Candidate rows aside s
aside_none {rows} {aside} {s} z o =
    one_wrong (λ r. r ≡ r) rows aside s (λ r h m. no_rows aside r z) (λ r h. inl refl) (plain (none_aside aside z)) o.row o.below
    (λ r h (m, ne). o.kept r h ne) (λ j l y hy p k. o.right j l y hy p (λ r h ne. k r h (refl, ne)))
  where
    plain : {n : ℕ} → n ≡ 0 → n ≤ 1
    plain e = omega arith

-- row i is, and no other
pub aside_one : {rows aside i rest s : ℕ} → Taken aside i rest → rest ≡ 0 → Beside rows i s → Candidate rows aside s
aside_one {rows} {aside} {i} {rest} {s} t z o =
    one_wrong (λ r. r ≢ i) rows aside s (λ r h ne. sym (t.same r h ne) ∙ no_rows rest r z) (λ r h. named r (ℕ_discrete r i))
    (plain t.sum (none_aside rest z)) o.row o.below o.kept o.right
  where
    named : (r : ℕ) → Dec (r ≡ i) → (r ≢ i) ⊎ (row_of aside r ≡ 1)
    named r (yes e) = inr (ap (row_of aside) e ∙ t.here)
    named r (no ne) = inl ne

    plain : {n m : ℕ} → n ≡ suc m → m ≡ 0 → n ≤ 1
    plain e z = omega arith

-- rows i and j are, and no others
pub aside_two : {rows aside i rest j last s : ℕ} → Taken aside i rest → Taken rest j last → last ≡ 0
    → Mends (λ r. (r ≢ i) × (r ≢ j)) rows s → Candidate rows aside s
aside_two {rows} {aside} {i} {rest} {j} {last} {s} t u z o =
    all_right (λ r. (r ≢ i) × (r ≢ j)) rows aside s (λ r h (m, n). sym (t.same r h m) ∙ sym (u.same r h n) ∙ no_rows last r z)
    (λ r h. named r h (ℕ_discrete r i) (ℕ_discrete r j)) (least t.sum u.sum) (most t.sum u.sum (none_aside last z))
    o
  where
    named : (r : ℕ) → r < 8 → Dec (r ≡ i) → Dec (r ≡ j) → ((r ≢ i) × (r ≢ j)) ⊎ (row_of aside r ≡ 1)
    named r h (yes e) d = inr (ap (row_of aside) e ∙ t.here)
    named r h (no m) (yes e) = inr (sym (t.same r h m) ∙ ap (row_of rest) e ∙ u.here)
    named r h (no m) (no n) = inl (m, n)

    least : {n m l : ℕ} → n ≡ suc m → m ≡ suc l → 2 ≤ n
    least e f = omega arith

    most : {n m l : ℕ} → n ≡ suc m → m ≡ suc l → l ≡ 0 → n ≤ 3
    most e f z = omega arith

module _ {aside i rest j last k left : ℕ} (t : Taken aside i rest) (u : Taken rest j last) (v : Taken last k left) where
  -- rows i, j and k are, and no others
  pub aside_three : {rows s : ℕ} → left ≡ 0 → Mends (λ r. (r ≢ i) × (r ≢ j) × (r ≢ k)) rows s → Candidate rows aside s
  aside_three {rows} {s} z o =
      all_right (λ r. (r ≢ i) × (r ≢ j) × (r ≢ k)) rows aside s
      (λ r h (m, n, q). sym (t.same r h m) ∙ sym (u.same r h n) ∙ sym (v.same r h q) ∙ no_rows left r z)
      (λ r h. named r h (ℕ_discrete r i) (ℕ_discrete r j) (ℕ_discrete r k)) (least t.sum u.sum)
      (most t.sum u.sum v.sum (none_aside left z)) o
    where
      named : (r : ℕ) → r < 8 → Dec (r ≡ i) → Dec (r ≡ j) → Dec (r ≡ k) → ((r ≢ i) × (r ≢ j) × (r ≢ k)) ⊎ (row_of aside r ≡ 1)
      named r h (yes e) d f = inr (ap (row_of aside) e ∙ t.here)
      named r h (no m) (yes e) f = inr (sym (t.same r h m) ∙ ap (row_of rest) e ∙ u.here)
      named r h (no m) (no n) (yes e) = inr (sym (t.same r h m) ∙ sym (u.same r h n) ∙ ap (row_of last) e ∙ v.here)
      named r h (no m) (no n) (no q) = inl (m, n, q)

      least : {n m l : ℕ} → n ≡ suc m → m ≡ suc l → 2 ≤ n
      least e f = omega arith

      most : {n m l d : ℕ} → n ≡ suc m → m ≡ suc l → l ≡ suc d → d ≡ 0 → n ≤ 3
      most e f g z = omega arith

  -- more are
  pub aside_more : {rows m rest : ℕ} → Taken left m rest → (y : ℕ) → Agrees rows aside y → ⊥
  aside_more {rows} w y a = four (sum_to 8 (wrong rows aside y)) (sum_to 8 (row_of aside)) a.few t.sum u.sum v.sum w.sum
    where
      four : (w n : ℕ) {m l d e : ℕ} → 2 * w + n ≤ 3 → n ≡ suc m → m ≡ suc l → l ≡ suc d → d ≡ suc e → ⊥
      four w n few e f g h = omega arith
