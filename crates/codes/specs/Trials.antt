-- The two trials of the decoder of a product, over the side and the code: the rows that are set aside, the candidate of a trial, and the
-- trials that are reported. Assumes nothing.
use Rattle.std.specs.Prelude.{◌≡◌, ◌⊎◌, Bool, false, ◌&&◌, ◌||◌, ℕ, zero, suc, ◌+◌, ◌*◌, ◌^◌, ◌≤◌, ◌<◌, leb, get_or}
use Rattle.words.specs.Word.{choose, bit, dist, sum_to}
use Rattle.words.specs.Digits.{digits}
use Rattle.codes.specs.Verdict.{Code, clean, lost, off, verdict}
use Rattle.codes.specs.Product.{Sides, InProduct, Same, unlike, places_apart, Distance4}

-- `fix` repairs a row: it gives a row of the row code at most two flips away. In a code of distance 4 none is nearer, and what a row needs
-- is the same with every repair.
pub record Repair (S : Sides) (fix : ℕ → ℕ) : Type 0 where
  pub fits : (x : ℕ) → x < 2 ^ S.side → fix x < 2 ^ S.side
  pub row : (x : ℕ) → x < 2 ^ S.side → S.Row (bit (fix x))
  pub near : (x : ℕ) → x < 2 ^ S.side → dist x (fix x) ≤ 2

-- ---- a trial. Trial one sets aside the rows that need two flips, trial two those that need one or two: t is 2 in trial one and 1 in trial
-- two.

module _ (fix : ℕ → ℕ) where
  -- 1 where the row x is set aside: repairing it needs t flips or more
  unfoldable pub aside : ℕ → ℕ → ℕ
  aside t x = choose (leb t (dist x (fix x))) 1 0

  -- 1 where the row x is not set aside and its repair is not the row c
  unfoldable pub wrong : ℕ → ℕ → ℕ → ℕ
  wrong t x c = choose (leb t (dist x (fix x))) 0 (unlike c (fix x))

  -- 2w + s, over n rows: what the trial on the word read pays for the codeword c
  abbrev pub pays : ℕ → ℕ → (ℕ → ℕ) → (ℕ → ℕ) → ℕ
  pays n t read c = 2 * sum_to n (λ r. wrong t (read r) (c r)) + sum_to n (λ r. aside t (read r))

-- The candidate on the word read: a codeword c whose rows, other than the s rows set aside, agree with the repaired rows in all but w, with
-- 2w + s at most 3.
pub record Candidate (S : Sides) (fix : ℕ → ℕ) (t : ℕ) (read c : ℕ → ℕ) : Type 0 where
  pub code : InProduct S c
  pub few : pays fix S.side t read c ≤ 3

-- What a trial promises.
pub record TrialPromises (S : Sides) (fix : ℕ → ℕ) : Type 0 where
  -- it has at most one candidate
  pub one_candidate : (t : ℕ) (read u v : ℕ → ℕ) → Candidate S fix t read u → Candidate S fix t read v → Same S.side u v
  -- a codeword within 7 places of the word read is the candidate of trial one or of trial two
  pub two_trials : (read c : ℕ → ℕ) → ((r : ℕ) → r < S.side → read r < 2 ^ S.side) → InProduct S c
      → places_apart S.side read c ≤ 7 → Candidate S fix 2 read c ⊎ Candidate S fix 1 read c
  -- every codeword is at least as far off as the repaired rows are
  pub rows_alone : (read c : ℕ → ℕ) → ((r : ℕ) → r < S.side → read r < 2 ^ S.side) → InProduct S c
      → places_apart S.side read (λ r. fix (read r)) ≤ places_apart S.side read c
  -- which repair of a row with two flips is taken makes no difference
  pub any_repair : (other : ℕ → ℕ) (t : ℕ) (read c : ℕ → ℕ) → Repair S other → t ≤ 2 → ((r : ℕ) → r < S.side → read r < 2 ^ S.side)
      → Candidate S fix t read c → Candidate S other t read c

-- What is proved of the trials on every product of two codes of distance 4, with every repair of rows (`every_trial`).
pub record EveryTrial (S : Sides) : Type 0 where
  pub trials : Distance4 S.side S.Row → Distance4 S.side S.Col → (fix : ℕ → ℕ) → Repair S fix → TrialPromises S fix

-- ---- the trials on a word of a code

-- whether one of the numbers below n passes
unfoldable pub some_below : ℕ → (ℕ → Bool) → Bool
some_below zero f = false
some_below (suc n) f = f n || some_below n f

-- the rows of a word, n places each
abbrev pub rows_in : ℕ → ℕ → ℕ → ℕ
rows_in n w r = get_or (digits n n w) r 0

-- The codewords of C are words of the product.
pub record IsProduct (S : Sides) (C : Code) : Type 0 where
  pub radius_is : C.radius ≡ 7
  pub fits : (d : ℕ) → d < C.values → C.encode d < 2 ^ (S.side * S.side)
  pub code : (d : ℕ) → d < C.values → InProduct S (rows_in S.side (C.encode d))
  pub one_value : (d e : ℕ) → d < C.values → e < C.values → C.encode d ≡ C.encode e → d ≡ e

module _ (S : Sides) (C : Code) (fix : ℕ → ℕ) where
  -- the codeword of d is the candidate on the word w
  abbrev pub CandidateOf : ℕ → ℕ → ℕ → Type 0
  CandidateOf t w d = Candidate S fix t (rows_in S.side w) (rows_in S.side (C.encode d))

  -- the trial gives the codeword of d, n places off: it is the candidate, and within the radius
  pub record Gives (t w d n : ℕ) : Type 0 where
    pub below : d < C.values
    pub candidate : CandidateOf t w d
    pub places : n ≡ off C w d
    pub near : n ≤ C.radius

  -- the trial gives none: it has no candidate within the radius
  abbrev pub GivesNone : ℕ → ℕ → Type 0
  GivesNone t w = (d : ℕ) → d < C.values → CandidateOf t w d → C.radius < off C w d

  -- The trials that are reported: 1 if the first candidate is within the radius, 2 otherwise.
  pub data Trials (w : ℕ) : ℕ → Type 0 where
    one : (d n : ℕ) → Gives 2 w d n → Trials w 1
    two : GivesNone 2 w → Trials w 2

  -- the same, computed: over all codewords, which are words of the product
  unfoldable pub trials_of : ℕ → ℕ
  trials_of w =
      choose
      (some_below C.values
      (λ d. leb (pays fix S.side 2 (rows_in S.side w) (rows_in S.side (C.encode d))) 3 && leb (off C w d) C.radius))
      1 2

  -- What is proved of them (`trials_decide`).
  pub record TrialsDecide : Type 0 where
    pub one_candidate : (t w d e : ℕ) → d < C.values → e < C.values → CandidateOf t w d → CandidateOf t w e → d ≡ e
    -- if a codeword within the radius exists, one of the two trials gives it
    pub two_trials : (w d : ℕ) → w < 2 ^ (S.side * S.side) → d < C.values → off C w d ≤ C.radius
        → Gives 2 w d (off C w d) ⊎ Gives 1 w d (off C w d)
    -- a word has one number of trials, 1 where it is clean and 2 where it is lost
    pub computed : (w : ℕ) → Trials w (trials_of w)
    pub reported : (w a b : ℕ) → Trials w a → Trials w b → a ≡ b
    pub clean_one : (w d : ℕ) → verdict C w ≡ clean d → Trials w 1
    pub lost_two : (w : ℕ) → verdict C w ≡ lost → Trials w 2
