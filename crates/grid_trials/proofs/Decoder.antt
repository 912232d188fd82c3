-- Why two trials decide. What the columns give is the trial's candidate: it agrees with the repaired rows in all rows but three, so it has
-- rows of the row code, and it is a codeword. Assumes nothing.
use Rattle.std.specs.Prelude.{None, Option, Some}
use Rattle.std.specs.Option.{is_some}
use mathlib.Core.Path.{◌≡◌, refl, sym, ap, ap₂, ◌∙◌, subst}
use mathlib.Core.Logic.{◌≢◌}
use mathlib.Core.Bool.{true, false, false≢true}
use mathlib.Core.List.{List, map}
use Prim.Native.Nat.{ℕ, zero, suc, ◌+◌, ◌*◌, ◌^◌, ◌≤◌, ◌<◌, min}
use native.Mathlib.Omega.{arith}
use lib.Bits.{bit_and, differ}
use lib.Dec.{lit<, lit≤}
use lib.ListN.{length, get_or, length-map}
use Rattle.words.specs.Word.{bit, dist, combined, sum_to}
use Rattle.words.specs.Digits.{joined, Below}
use Rattle.words.proofs.Digits.{bit-digits, digits_below, dist-digits, joined_lt}
use Rattle.words.proofs.Linear.{combined_eq}
use Rattle.words.proofs.Dist.{dist_self}
use Rattle.words.proofs.Sum.{sum_eq, sum_none}
use Rattle.codes.specs.Verdict.{answered, verdict, lost}
use Rattle.codes.specs.Product.{InProduct, unlike, Distance4}
use Rattle.codes.specs.Trials as codes
use Rattle.codes.specs.Trials.{Repair, aside, pays, CandidateOf, Gives, GivesNone, one, two, TrialsDecide}
use Rattle.codes.proofs.Address.{distance4}
use Rattle.codes.proofs.Promises.{none_near}
use Rattle.codes.proofs.Trials.{wrong_is, aside_lt, apart_pays, every_trial}
use Rattle.codes.proofs.Whole.{rows_whole}
use Rattle.codes.proofs.Deciding.{any_trials, too_far, repaired_gives, given_verdict, none_lost, trials_decide}
use Rattle.grid_code.specs.Equations.{in_column, data_of}
use Rattle.grid_code.specs.Code.{codeword, code_of_grid}
use Rattle.grid_code.specs.Sides.{row_entries, col_entries, sides, row_of}
use Rattle.grid_code.proofs.Places.{data_lt}
use Rattle.grid_code.proofs.Distance.{codeword_lt, distance, is_product, from_product}
use Rattle.grid_code.proofs.Promises.{promised}
use Rattle.grid_rows.specs.Repair.{fixed}
use Rattle.grid_rows.specs.Rows.{Packed, RepairedRows}
use Rattle.grid_rows.proofs.Repair.{repair, repaired-row, repaired_below}
use Rattle.grid_columns.specs.Columns.{InColumns, wrong, Agrees}
use Rattle.grid_trials.specs.Steps.{Repaired, Marked, Tried, found, near_of, Decided, Nearby}
use Rattle.grid_trials.specs.declared.Near.{Near}
use Rattle.grid_trials.proofs.Aside.{odd-row}

row4 : Distance4 8 (λ f. combined row_entries f ≡ 0)
row4 = distance4 row_entries tt

col4 : Distance4 8 (λ f. combined col_entries f ≡ 0)
col4 = distance4 col_entries tt

-- what is proved of the trials, with every repair of rows, ..
pub decide_with : (fix : ℕ → ℕ) → Repair sides fix → TrialsDecide sides code_of_grid fix
decide_with fix R = trials_decide sides code_of_grid fix row4 col4 R is_product 16 distance (lit< tt)

-- .. which makes no difference
pub any_candidate : (fix other : ℕ → ℕ) (t w d : ℕ) → Repair sides fix → Repair sides other → t ≤ 2 → CandidateOf sides code_of_grid fix t w d
    → CandidateOf sides code_of_grid other t w d
any_candidate fix other t w d R Q l =
    ((every_trial sides).trials row4 col4 fix R).any_repair other t (row_of w) (row_of (codeword d)) Q l (λ r h. digits_below 8 8 w r)

pub any_report : (fix : ℕ → ℕ) (w n : ℕ) → Repair sides fix → codes.Trials sides code_of_grid fixed w n → codes.Trials sides code_of_grid fix w n
any_report fix w n R = any_trials sides code_of_grid fixed row4 col4 repair is_product fix w n R

pub decide : TrialsDecide sides code_of_grid fixed
decide = decide_with fixed repair

-- ---- words whose columns hold

-- a word that has the repaired rows in all rows but three is a codeword
module _ (word y : ℕ) (fits : y < 2 ^ 64) (cols : InColumns y) where
  in_product : sum_to 8 (λ r. unlike (fixed (row_of word r)) (row_of y r)) ≤ 3 → InProduct sides (row_of y)
  in_product few = record {
    fits = λ r h. digits_below 8 8 y r;
    rows =
        rows_whole 4 row_entries col_entries tt tt (λ r. fixed (row_of word r)) (row_of y)
        (λ r h. repair.row (row_of word r) (digits_below 8 8 word r)) columns few;
    cols = columns;
  }
    where
      columns : (c : ℕ) → c < 8 → combined col_entries (λ r. bit (row_of y r) c) ≡ 0
      columns c h =
          sym (combined_eq col_entries (in_column y c) (λ r. bit (row_of y r) c) (λ r k. bit-digits 8 8 y r c k h)) ∙ cols c h

  is_codeword : sum_to 8 (λ r. unlike (fixed (row_of word r)) (row_of y r)) ≤ 3 → y ≡ codeword (data_of y)
  is_codeword few = from_product y fits (in_product few)

columns_hold : (d : ℕ) → d < 2 ^ 16 → InColumns (codeword d)
columns_hold d l c h =
    combined_eq col_entries (in_column (codeword d) c) (λ r. bit (row_of (codeword d) r) c) (λ r k. bit-digits 8 8 (codeword d) r c k h)
    ∙ (is_product.code d l).cols c h

-- ---- a trial: to agree with the rows is to be the candidate

same_near : {a b : Near} → Some a ≡ Some b → a ≡ b
same_near e = cc

not_none : {X : Type 0} (n : Near) → None ≡ Some n → X
not_none n e = let z : ◌≡◌ {A = ℕ} 0 1 = cc in absurd (omega arith)

module _ (t word rows marks : ℕ) (fits : marks < 2 ^ 64) (put : Repaired word rows) (marked : Marked t word marks) where
  abbrev set_aside : ℕ
  set_aside = bit_and marks 0x0101_0101_0101_0101

  aside_row : (r : ℕ) → r < 8 → row_of set_aside r ≡ aside fixed t (row_of word r)
  aside_row r h = omega (arith, odd-row marks r fits h, marked r h, aside_lt fixed t (row_of word r))

  wrong_row : (y r : ℕ) → r < 8 → wrong rows set_aside y r ≡ codes.wrong fixed t (row_of word r) (row_of y r)
  wrong_row y r h =
      ap₂ (λ (a b : ℕ). min (differ a 1) (unlike (row_of y r) b)) (aside_row r h) (put r h) ∙ sym (wrong_is fixed t (row_of word r) (row_of y r))

  same_few : (y : ℕ) → 2 * sum_to 8 (wrong rows set_aside y) + sum_to 8 (row_of set_aside) ≡ pays fixed 8 t (row_of word) (row_of y)
  same_few y =
      ap₂ (λ (a b : ℕ). 2 * a + b)
      (sum_eq 8 (wrong rows set_aside y) (λ r. codes.wrong fixed t (row_of word r) (row_of y r)) (wrong_row y))
      (sum_eq 8 (row_of set_aside) (λ r. aside fixed t (row_of word r)) aside_row)

  agrees : (d : ℕ) → d < 2 ^ 16 → CandidateOf sides code_of_grid fixed t word d → Agrees rows set_aside (codeword d)
  agrees d l c = record {
    fits = codeword_lt d l;
    code = columns_hold d l;
    few = subst (λ (x : ℕ). x ≤ 3) (sym (same_few (codeword d))) c.few;
  }

  module _ (y : ℕ) (a : Agrees rows set_aside y) where
    few : pays fixed 8 t (row_of word) (row_of y) ≤ 3
    few = subst (λ (x : ℕ). x ≤ 3) (same_few y) a.few

    three_rows : sum_to 8 (λ r. unlike (fixed (row_of word r)) (row_of y r)) ≤ 3
    three_rows = omega (arith, few, apart_pays fixed t 8 (row_of word) (row_of y))

    is : y ≡ codeword (data_of y)
    is = is_codeword word y a.fits a.code three_rows

    candidate : CandidateOf sides code_of_grid fixed t word (data_of y)
    candidate =
        subst (λ (g : ℕ). codes.Candidate sides fixed t (row_of word) (row_of g)) is
        (record { code = in_product word y a.fits a.code three_rows; few = few })

    far : 7 < dist word y → GivesNone sides code_of_grid fixed t word
    far over d l c =
        let e : d ≡ data_of y = decide.one_candidate t word d (data_of y) l (data_lt y) c candidate in
        omega (arith, over, ap (dist word) (is ∙ ap codeword (sym e)))

    pub tried_far : (k : ℕ) → 7 < dist word y → Tried t word k None
    tried_far k over = record { gives = λ near e. not_none near e; none = λ e. far over }

    pub tried_near : (k : ℕ) → dist word y ≤ 7 → Tried t word k (found y (dist word y) k)
    tried_near k close = record {
      gives = λ near e.
          subst (λ (n : Near). (n.trials ≡ k) × (d : ℕ) × (n.number ≡ codeword d) × Gives sides code_of_grid fixed t word d n.flips)
          (same_near e)
          (refl, data_of y, is, record { below = data_lt y; candidate = candidate; places = ap (dist word) is; near = close });
      none = λ e. not_none _ (sym e);
    }

  pub tried_none : (k : ℕ) → ((y : ℕ) → Agrees rows set_aside y → ⊥) → Tried t word k None
  tried_none k none = record {
    gives = λ near e. not_none near e;
    none = λ e d l c. absurd (none (codeword d) (agrees d l c));
  }

-- the trials are the same where the same rows are set aside
pub same_trial : (s t word marks : ℕ) → Marked s word marks → Marked t word marks → GivesNone sides code_of_grid fixed s word
    → GivesNone sides code_of_grid fixed t word
same_trial s t word marks p q none d l c =
    none d l (record {
      code = c.code;
      few =
          subst (λ (x : ℕ). x ≤ 3)
          (ap₂ (λ (a b : ℕ). 2 * a + b)
          (sum_eq 8 (λ r. codes.wrong fixed t (row_of word r) (row_of (codeword d) r))
          (λ r. codes.wrong fixed s (row_of word r) (row_of (codeword d) r))
          (λ r h.
          wrong_is fixed t (row_of word r) (row_of (codeword d) r)
          ∙ ap (λ (a : ℕ). min (differ a 1) (unlike (row_of (codeword d) r) (fixed (row_of word r)))) (same r h)
          ∙ sym (wrong_is fixed s (row_of word r) (row_of (codeword d) r))))
          (sum_eq 8 (λ r. aside fixed t (row_of word r)) (λ r. aside fixed s (row_of word r)) same))
          c.few;
    })
  where
    same : (r : ℕ) → r < 8 → aside fixed t (row_of word r) ≡ aside fixed s (row_of word r)
    same r h = sym (q r h) ∙ p r h

-- ---- what is decided

near_answered : (k d n : ℕ) → near_of k (answered d n) ≡ found (codeword d) n k
near_answered k d zero = refl
near_answered k d (suc n) = refl

module _ (word : ℕ) where
  given : (t k d n : ℕ) → Gives sides code_of_grid fixed t word d n → codes.Trials sides code_of_grid fixed word k → Decided word (found (codeword d) n k)
  given t k d n g reported = record {
    trials = k;
    answer =
        sym (ap (near_of k) (given_verdict sides code_of_grid fixed row4 col4 repair is_product 16 distance (lit< tt) t word d n g)
        ∙ near_answered k d n);
    reported = reported;
  }

  pub lost_decides : verdict code_of_grid word ≡ lost → GivesNone sides code_of_grid fixed 2 word → Decided word None
  lost_decides v none = record { trials = 2; answer = sym (ap (near_of 2) v); reported = two none }

  pub none_decides : word < 2 ^ 64 → GivesNone sides code_of_grid fixed 2 word → GivesNone sides code_of_grid fixed 1 word → Decided word None
  none_decides fits first second =
      lost_decides (none_lost sides code_of_grid fixed row4 col4 repair is_product 16 distance (lit< tt) word fits first second) first

  -- a trial that gives a codeword gives the one that is decided
  decides : (t k d : ℕ) (n : Near) → n.trials ≡ k → n.number ≡ codeword d → Gives sides code_of_grid fixed t word d n.flips
      → codes.Trials sides code_of_grid fixed word k → Decided word (Some n)
  decides t k d n made is g reported =
      subst (Decided word) (sym (λ i. Some (record { number = is i; flips = n.flips; trials = made i }))) (given t k d n.flips g reported)

  first_given : (n : Near) → Tried 2 word 1 (Some n) → Decided word (Some n)
  first_given n h = let (made, d, is, g) = h.gives n refl in decides 2 1 d n made is g (one d n.flips g)

  -- what the first trial gives decides, ..
  first_decides : (r : Option Near) → Tried 2 word 1 r → is_some r ≡ true → Decided word r
  first_decides (Some n) h e = first_given n h
  first_decides None h e = absurd (false≢true e)

  -- .. and so does that it gives none, where the second sets the same rows aside
  first_alone : (r : Option Near) (marks : ℕ) → word < 2 ^ 64 → Marked 2 word marks → Marked 1 word marks → Tried 2 word 1 r → Decided word r
  first_alone (Some n) marks fits twos ones h = first_given n h
  first_alone None marks fits twos ones h = none_decides fits (h.none refl) (same_trial 2 1 word marks twos ones (h.none refl))

  first_none : (r : Option Near) → Tried 2 word 1 r → is_some r ≡ false → GivesNone sides code_of_grid fixed 2 word
  first_none (Some n) h e = absurd (false≢true (sym e))
  first_none None h e = h.none refl

  -- else the second one decides
  second_decides : (r : Option Near) → word < 2 ^ 64 → GivesNone sides code_of_grid fixed 2 word → Tried 1 word 2 r → Decided word r
  second_decides (Some n) fits none h = let (made, d, is, g) = h.gives n refl in decides 1 2 d n made is g (two none)
  second_decides None fits none h = none_decides fits none (h.none refl)

-- ---- trial after trial: which one is made, and which rows it sets aside

pub data Stage (word any : ℕ) : ℕ → ℕ → Type 0 where
  first : (marks : ℕ) → Marked 2 word marks → Stage word any 1 marks
  second : GivesNone sides code_of_grid fixed 2 word → Stage word any 2 any

-- the first sets the rows aside that needed two flips
pub begun : (word any marks : ℕ) → Marked 2 word marks → Stage word any 1 marks
begun word any marks twos = first marks twos

module _ (word any : ℕ) (fits : word < 2 ^ 64) (ones : Marked 1 word any) where
  -- a trial that gives a codeword decides, ..
  pub stage_gives : (made marks : ℕ) (r : Option Near) → Stage word any made marks → ((t : ℕ) → Marked t word marks → Tried t word made r)
      → is_some r ≡ true → Decided word r
  stage_gives made marks r (first m twos) by e = first_decides word r (by 2 twos) e
  stage_gives made marks r (second none) by e = second_decides word r fits none (by 1 ones)

  -- .. and so does one that sets aside all that the next could, ..
  pub stage_ends : (made marks : ℕ) (r : Option Near) → Stage word any made marks → ((t : ℕ) → Marked t word marks → Tried t word made r)
      → marks ≡ any → Decided word r
  stage_ends made marks r (first m twos) by e = first_alone word r marks fits twos (subst (Marked 1 word) (sym e) ones) (by 2 twos)
  stage_ends made marks r (second none) by e = second_decides word r fits none (by 1 ones)

  -- .. else there is the next
  pub stage_next : (made marks : ℕ) (r : Option Near) → Stage word any made marks → ((t : ℕ) → Marked t word marks → Tried t word made r)
      → is_some r ≡ false → marks ≢ any → Stage word any (made + 1) any
  stage_next made marks r (first m twos) by e ne = second (first_none word r (by 2 twos) e)
  stage_next made marks r (second none) by e ne = absurd (ne refl)

-- ---- from the rows as read

module _ (rows : List ℕ) (eight : length rows ≡ 8) (small : Below 8 rows) (word x : ℕ) (put : List ℕ)
    (is : Packed rows word) (packed : Packed put x) (made : RepairedRows rows put) where
  word_row : (r : ℕ) → row_of word r ≡ get_or rows r 0
  word_row r = ap (λ (w : ℕ). row_of w r) is.answer ∙ ap (λ (l : List ℕ). get_or l r 0) (promised.back_and_there rows eight small)

  length_put : length (map fixed rows) ≡ 8
  length_put = length-map rows fixed ∙ eight

  pub is_repaired : Repaired word x
  is_repaired r h =
      ap (λ (w : ℕ). row_of w r) (packed.answer ∙ ap (joined 8) made.answer)
      ∙ ap (λ (l : List ℕ). get_or l r 0) (promised.back_and_there (map fixed rows) length_put (repaired_below rows small))
      ∙ repaired-row rows r ∙ ap fixed (sym (word_row r))

  word_lt : word < 2 ^ 64
  word_lt = subst (λ (w : ℕ). w < 2 ^ 64) (sym is.answer) (joined_lt 8 8 rows eight small)

  x_lt : x < 2 ^ 64
  x_lt =
      subst (λ (w : ℕ). w < 2 ^ 64) (sym (packed.answer ∙ ap (joined 8) made.answer))
      (joined_lt 8 8 (map fixed rows) length_put (repaired_below rows small))

  to_rows : (r : Option Near) → Decided word r → Nearby rows r
  to_rows r d = record { is = subst (λ (w : ℕ). Decided w r) is.answer d }

  -- in how many places the repaired rows differ from the rows as read
  apart : dist word x ≡ sum_to 8 (λ r. dist (row_of word r) (fixed (row_of word r)))
  apart =
      dist-digits 8 8 word x word_lt x_lt
      ∙ sum_eq 8 (λ r. dist (row_of word r) (row_of x r)) (λ r. dist (row_of word r) (fixed (row_of word r))) (λ r h. ap (dist (row_of word r)) (is_repaired r h))

  -- they need over seven flips
  pub beyond : 7 < dist word x → Nearby rows None
  beyond far =
      let all : (d : ℕ) → d < 2 ^ 16 → 7 < dist word (codeword d) =
      too_far sides code_of_grid fixed row4 col4 repair is_product word word_lt (subst (λ (n : ℕ). 7 < n) apart far) in
      to_rows None (lost_decides word (none_near code_of_grid word all) (λ d l c. all d l))

  -- their columns hold
  pub within : dist word x ≤ 7 → InColumns x → Nearby rows (found x (dist word x) 1)
  within near cols =
      to_rows (found x (dist word x) 1)
      (subst (λ (y : ℕ). Decided word (found y (dist word y) 1)) (sym e)
      (given word 2 1 (data_of x) (dist word (codeword (data_of x))) gives (one (data_of x) (dist word (codeword (data_of x))) gives)))
    where
      none : sum_to 8 (λ r. unlike (fixed (row_of word r)) (row_of x r)) ≡ 0
      none =
          sum_none 8 (λ r. unlike (fixed (row_of word r)) (row_of x r))
          (λ r h. ap (unlike (fixed (row_of word r))) (is_repaired r h) ∙ ap (min 1) (dist_self (fixed (row_of word r))))

      e : x ≡ codeword (data_of x)
      e = is_codeword word x x_lt cols (subst (λ (n : ℕ). n ≤ 3) (sym none) (lit≤ tt))

      gives : Gives sides code_of_grid fixed 2 word (data_of x) (dist word (codeword (data_of x)))
      gives =
          repaired_gives sides code_of_grid fixed row4 col4 repair is_product word (data_of x) word_lt (data_lt x)
          (λ r h. ap (λ (g : ℕ). row_of g r) (sym e) ∙ is_repaired r h) (subst (λ (g : ℕ). dist word g ≤ 7) e near)

  pub decided : (r : Option Near) → (Repaired word x → Decided word r) → Nearby rows r
  decided r by = to_rows r (by is_repaired)
