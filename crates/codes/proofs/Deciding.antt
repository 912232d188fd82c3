-- What two trials decide, over the side and the code: what a trial gives is the verdict, and where both give none the word is lost. Assumes
-- nothing.
use mathlib.Core.Path.{◌≡◌, refl, sym, ap, ◌∙◌, subst}
use mathlib.Core.Logic.{◌⊎◌, inl, inr}
use mathlib.Core.Bool.{Bool, true, false, ◌&&◌, ◌||◌, true≢false, false≢true}
use Prim.Native.Nat.{ℕ, zero, suc, ◌*◌, ◌^◌, ◌≤◌, ◌<◌}
use native.Mathlib.Decide.{dec_le}
use native.Mathlib.Omega.{arith}
use lib.Dec.{leb}
use lib.Seq.{ext_get_or}
use borrow.Author.Tests.{leb-true, leb-false, le-leb}
use Rattle.words.specs.Word.{choose}
use Rattle.words.specs.Digits.{digits, joined}
use Rattle.words.proofs.Digits.{length_digits, digits_below, joined-digits, dist-digits}
use Rattle.words.proofs.Dist.{dist_self}
use Rattle.words.proofs.Test.{below_suc}
use Rattle.codes.specs.Verdict.{Code, clean, lost, answered, off, verdict}
use Rattle.codes.specs.Promises.{Distance}
use Rattle.codes.specs.Product.{Sides, Same, places_apart, Distance4}
use Rattle.codes.specs.Trials.{Repair, pays, TrialPromises, rows_in, IsProduct, CandidateOf, Gives, GivesNone, some_below, Trials, one, two, trials_of, TrialsDecide}
use Rattle.codes.proofs.Promises.{none_near, found, every_code, clean_word}
use Rattle.codes.proofs.Trials.{every_trial, repaired_candidate, same_row}

-- words with the same n rows of n places are the same
pub same_word : (n g h : ℕ) → g < 2 ^ (n * n) → h < 2 ^ (n * n) → Same n (rows_in n g) (rows_in n h) → g ≡ h
same_word n g h p q s =
    sym (joined-digits n n g p)
    ∙ ap (joined n)
    (ext_get_or 0 (digits n n g) (digits n n h) (length_digits n n g ∙ sym (length_digits n n h)) (λ i l. s i (omega (arith, l, length_digits n n g))))
    ∙ joined-digits n n h q

-- ---- whether one number passes

and_true : (a b : Bool) → (a && b) ≡ true → (a ≡ true) × (b ≡ true)
and_true true b e = (refl, e)
and_true false b e = absurd (false≢true e)

and-false : (a b : Bool) → (a && b) ≡ false → a ≡ true → b ≡ false
and-false true b e h = e
and-false false b e h = absurd (false≢true h)

some_below_lem : (n : ℕ) (f : ℕ → Bool) → some_below n f ≡ true → (d : ℕ) × (d < n) × (f d ≡ true)
unfolding some_below
some_below_lem zero f e = absurd (false≢true e)
some_below_lem (suc n) f e = go (f n) refl (some_below_lem n f)
  where
    go : (b : Bool) → f n ≡ b → (some_below n f ≡ true → (d : ℕ) × (d < n) × (f d ≡ true)) → (d : ℕ) × (d < suc n) × (f d ≡ true)
    go true p r = (n, omega arith, p)
    go false p r =
        let (d, l, q) = r (sym (ap (λ (b : Bool). b || some_below n f) p) ∙ e) in
        (d, omega arith, q)

none_below : (n : ℕ) (f : ℕ → Bool) → some_below n f ≡ false → (d : ℕ) → d < n → f d ≡ false
unfolding some_below
none_below zero f e = λ d l. absurd (omega arith)
none_below (suc n) f e = go (f n) refl (none_below n f)
  where
    go : (b : Bool) → f n ≡ b → (some_below n f ≡ false → (d : ℕ) → d < n → f d ≡ false) → (d : ℕ) → d < suc n → f d ≡ false
    go true p r = absurd (true≢false (sym (ap (λ (b : Bool). b || some_below n f) p) ∙ e))
    go false p r = below_suc (λ (d : ℕ). f d ≡ false) n (r (sym (ap (λ (b : Bool). b || some_below n f) p) ∙ e)) p

module _ (S : Sides) (C : Code) (fix : ℕ → ℕ) (row4 : Distance4 S.side S.Row) (col4 : Distance4 S.side S.Col) (R : Repair S fix)
    (P : IsProduct S C) where
  T : TrialPromises S fix
  T = (every_trial S).trials row4 col4 fix R

  below : (w r : ℕ) → r < S.side → rows_in S.side w r < 2 ^ S.side
  below w r h = digits_below S.side S.side w r

  -- in places, row by row
  apart : (w d : ℕ) → w < 2 ^ (S.side * S.side) → d < C.values
      → off C w d ≡ places_apart S.side (rows_in S.side w) (rows_in S.side (C.encode d))
  apart w d h l = dist-digits S.side S.side w (C.encode d) h (P.fits d l)

  one_candidate : (t w d e : ℕ) → d < C.values → e < C.values → CandidateOf S C fix t w d → CandidateOf S C fix t w e → d ≡ e
  one_candidate t w d e hd he p q =
      P.one_value d e hd he
      (same_word S.side (C.encode d) (C.encode e) (P.fits d hd) (P.fits e he)
      (T.one_candidate t (rows_in S.side w) (rows_in S.side (C.encode d)) (rows_in S.side (C.encode e)) p q))

  two_trials : (w d : ℕ) → w < 2 ^ (S.side * S.side) → d < C.values → off C w d ≤ C.radius
      → Gives S C fix 2 w d (off C w d) ⊎ Gives S C fix 1 w d (off C w d)
  two_trials w d h l near =
      each
      (T.two_trials (rows_in S.side w) (rows_in S.side (C.encode d)) (below w) (P.code d l)
      (omega (arith, near, P.radius_is, apart w d h l)))
    where
      given : (t : ℕ) → CandidateOf S C fix t w d → Gives S C fix t w d (off C w d)
      given t c = record { below = l; candidate = c; places = refl; near = near }

      each : CandidateOf S C fix 2 w d ⊎ CandidateOf S C fix 1 w d → Gives S C fix 2 w d (off C w d) ⊎ Gives S C fix 1 w d (off C w d)
      each (inl c) = inl (given 2 c)
      each (inr c) = inr (given 1 c)

  -- ---- the number of trials

  reported : (w a b : ℕ) → Trials S C fix w a → Trials S C fix w b → a ≡ b
  reported w a b (one d n g) (one e m h) = refl
  reported w a b (two g) (two h) = refl
  reported w a b (one d n g) (two h) = absurd (omega (arith, g.near, g.places, h d g.below g.candidate))
  reported w a b (two h) (one d n g) = absurd (omega (arith, g.near, g.places, h d g.below g.candidate))

  computed : (w : ℕ) → Trials S C fix w (trials_of S C fix w)
  unfolding trials_of
  computed w = go (some_below C.values within) refl
    where
      paid : ℕ → ℕ
      paid d = pays fix S.side 2 (rows_in S.side w) (rows_in S.side (C.encode d))

      few : ℕ → Bool
      few d = leb (paid d) 3

      within : ℕ → Bool
      within d = few d && leb (off C w d) C.radius

      go : (b : Bool) → some_below C.values within ≡ b → Trials S C fix w (choose b 1 2)
      go true e =
          let (d, l, p) = some_below_lem C.values within e in
          let (f, n) = and_true (few d) (leb (off C w d) C.radius) p in
          one d (off C w d) (record {
            below = l;
            candidate = record { code = P.code d l; few = leb-true (paid d) 3 f };
            places = refl;
            near = leb-true (off C w d) C.radius n;
          })
      go false e =
          two (λ d l c.
          leb-false (off C w d) C.radius (and-false (few d) (leb (off C w d) C.radius) (none_below C.values within e d l) (le-leb (paid d) 3 c.few)))

  -- with every repair it is the same
  pub any_trials : (other : ℕ → ℕ) (w n : ℕ) → Repair S other → Trials S C fix w n → Trials S C other w n
  any_trials other w n Q (one d m g) =
      one d m (record {
        below = g.below;
        candidate = T.any_repair other 2 (rows_in S.side w) (rows_in S.side (C.encode d)) Q (omega arith) (below w) g.candidate;
        places = g.places;
        near = g.near;
      })
  any_trials other w n Q (two h) =
      two (λ d l c. h d l (((every_trial S).trials row4 col4 other Q).any_repair fix 2 (rows_in S.side w) (rows_in S.side (C.encode d)) R (omega arith) (below w) c))

  -- ---- the repaired rows

  -- the rows alone need over 7 flips: then every codeword is further off
  pub too_far : (w : ℕ) → w < 2 ^ (S.side * S.side) → C.radius < places_apart S.side (rows_in S.side w) (λ r. fix (rows_in S.side w r))
      → (d : ℕ) → d < C.values → C.radius < off C w d
  too_far w h far d l =
      omega (arith, far, apart w d h l, T.rows_alone (rows_in S.side w) (rows_in S.side (C.encode d)) (below w) (P.code d l))

  -- they are a codeword within 7 places: then trial one gives it
  pub repaired_gives : (w d : ℕ) → w < 2 ^ (S.side * S.side) → d < C.values
      → ((r : ℕ) → r < S.side → rows_in S.side (C.encode d) r ≡ fix (rows_in S.side w r)) → off C w d ≤ C.radius
      → Gives S C fix 2 w d (off C w d)
  repaired_gives w d h l is near = record {
    below = l;
    candidate =
        repaired_candidate S row4 col4 fix R (rows_in S.side w) (rows_in S.side (C.encode d)) is (P.code d l)
        (omega (arith, near, P.radius_is, apart w d h l));
    places = refl;
    near = near;
  }

  -- a codeword is its own candidate
  itself : (d : ℕ) → d < C.values → Gives S C fix 2 (C.encode d) d (off C (C.encode d) d)
  itself d l =
      repaired_gives (C.encode d) d (P.fits d l) l
      (λ r h. sym (same_row S row4 col4 fix R (rows_in S.side (C.encode d) r) (below (C.encode d) r h) ((P.code d l).rows r h)))
      (omega (arith, dist_self (C.encode d)))

  -- ---- the verdict

  module _ (D : ℕ) (far : Distance C D) (wide : 2 * C.radius < D) where
    -- what a trial gives is the verdict
    pub given_verdict : (t w d n : ℕ) → Gives S C fix t w d n → verdict C w ≡ answered d n
    given_verdict t w d n g =
        found C D far wide w d g.below (omega (arith, g.near, g.places)) ∙ ap (answered d) (sym g.places)

    -- where both give none, the word is lost
    pub none_lost : (w : ℕ) → w < 2 ^ (S.side * S.side) → GivesNone S C fix 2 w → GivesNone S C fix 1 w → verdict C w ≡ lost
    none_lost w h first second = none_near C w (λ d l. each d l (dec_le (off C w d) C.radius))
      where
        not_given : (d : ℕ) → d < C.values → off C w d ≤ C.radius → Gives S C fix 2 w d (off C w d) ⊎ Gives S C fix 1 w d (off C w d) → ⊥
        not_given d l near (inl g) = omega (arith, near, first d l g.candidate)
        not_given d l near (inr g) = omega (arith, near, second d l g.candidate)

        each : (d : ℕ) → d < C.values → Dec (off C w d ≤ C.radius) → C.radius < off C w d
        each d l (yes near) = absurd (not_given d l near (two_trials w d h l near))
        each d l (no k) = omega arith

    clean_one : (w d : ℕ) → verdict C w ≡ clean d → Trials S C fix w 1
    clean_one w d v =
        let (l, e) = clean_word C ((every_code C).promises D far wide) w d v in
        subst (λ (x : ℕ). Trials S C fix x 1) (sym e) (one d (off C (C.encode d) d) (itself d l))

    -- a word with a codeword within the radius is not lost
    lost_two : (w : ℕ) → verdict C w ≡ lost → Trials S C fix w 2
    lost_two w v = two (λ d l c. each d l (dec_le (off C w d) C.radius))
      where
        not_lost : (d n : ℕ) → lost ≡ answered d n → ⊥
        not_lost d zero e = let z : ◌≡◌ {A = ℕ} 0 1 = cc in omega arith
        not_lost d (suc n) e = let z : ◌≡◌ {A = ℕ} 0 1 = cc in omega arith

        each : (d : ℕ) → d < C.values → Dec (off C w d ≤ C.radius) → C.radius < off C w d
        each d l (yes near) = absurd (not_lost d (off C w d) (sym v ∙ found C D far wide w d l near))
        each d l (no k) = omega arith

    pub trials_decide : TrialsDecide S C fix
    trials_decide = record { one_candidate = one_candidate; two_trials = two_trials; computed = computed; reported = reported; clean_one = clean_one; lost_two = lost_two }
