-- A number in decimal: its last digit and those before it, how many there are, and what they are. Assumes nothing.
use mathlib.Core.Path.{◌≡◌, sym, ap, ap₂, ◌∙◌, subst}
use mathlib.Core.List.{List, [], ◌∷◌, ◌++◌, append-nil, reverse}
use Prim.Native.Nat.{ℕ, zero, suc, ◌+◌, ◌-◌, ◌*◌, ◌/◌, ◌%◌, ◌^◌, ◌≤◌, ◌<◌}
use native.Mathlib.Nat.{not-suc-le-zero, zero-add, pow-suc}
use native.Mathlib.Decide.{dec_lt}
use native.Mathlib.Omega.{arith}
use lib.ListN.{length, get_or, length-append, get_or-append}
use lib.Seq.{append_snoc, get_or_at}
use borrow.Author.Tests.{lt-ltb, le-ltb}
use Rattle.std.proofs.lemmas.List.{reverse-append}
use Rattle.lines.specs.Text.{digit, decimal_in, decimal}
use Rattle.lines.specs.Promises.{value_from, value_of, Digits}

-- ---- the last digit, and those before it

split : {A : Type 0} (n : ℕ) → (n < 10 → A) → (10 ≤ n → A) → A
split {A} n one more = go (dec_lt n 10)
  where
    go : Dec (n < 10) → A
    go (yes h) = one h
    go (no h) = more (omega arith)

last_in : (k n : ℕ) → n < 10 → decimal_in (suc k) n ≡ digit n ∷ []
last_in k n h = rw (lt-ltb n 10 h) (ap {B = List ℕ} (λ (d : ℕ). digit d ∷ []) (omega arith))

more_in : (k n : ℕ) → 10 ≤ n → decimal_in (suc k) n ≡ decimal_in k (n / 10) ++ (digit (n % 10) ∷ [])
more_in k n h = rw (le-ltb n 10 h)

same_in : (k j n : ℕ) → n < k → n < j → decimal_in k n ≡ decimal_in j n
same_in zero j n h l = absurd (not-suc-le-zero h)
same_in (suc k) zero n h l = absurd (not-suc-le-zero l)
same_in (suc k) (suc j) n h l =
    split n (λ s. last_in k n s ∙ sym (last_in j n s))
    (λ s.
    more_in k n s
    ∙ ap (λ l. l ++ (digit (n % 10) ∷ [])) (same_in k j (n / 10) (omega (arith, h, s)) (omega (arith, l, s)))
    ∙ sym (more_in j n s))

pub one_digit : (n : ℕ) → n < 10 → decimal n ≡ digit n ∷ []
unfolding decimal
one_digit n h = last_in n n h

pub more_digits : (n : ℕ) → 10 ≤ n → decimal n ≡ decimal (n / 10) ++ (digit (n % 10) ∷ [])
unfolding decimal
more_digits n h = more_in n n h ∙ ap (λ l. l ++ (digit (n % 10) ∷ [])) (same_in n (suc (n / 10)) (n / 10) (omega arith) (omega arith))

-- what holds of the numbers of one digit, and of those behind whose first digits it holds, holds of all
pub by_digits : (P : ℕ → Type 0) → ((n : ℕ) → n < 10 → P n) → ((n : ℕ) → 10 ≤ n → P (n / 10) → P n) → (n : ℕ) → P n
by_digits P one more n = below (suc n) n (omega arith)
  where
    below : (k n : ℕ) → n < k → P n
    below zero n h = absurd (not-suc-le-zero h)
    below (suc k) n h = split n (one n) (λ s. more n s (below k (n / 10) (omega (arith, h, s))))

-- ---- how many there are

length_one : (n : ℕ) → n < 10 → length (decimal n) ≡ 1
length_one n h = ap length (one_digit n h)

pub length_more : (n : ℕ) → 10 ≤ n → length (decimal n) ≡ length (decimal (n / 10)) + 1
length_more n h = ap length (more_digits n h) ∙ length-append (decimal (n / 10)) (digit (n % 10) ∷ [])

pub some_digits : (n : ℕ) → 1 ≤ length (decimal n)
some_digits = by_digits (λ n. 1 ≤ length (decimal n)) (λ n h. omega (arith, length_one n h)) (λ n h p. omega (arith, length_more n h))

few_digits : (k n : ℕ) → n < 10 ^ suc k → length (decimal n) ≤ suc k
few_digits zero n h = omega (arith, length_one n h)
few_digits (suc k) n h =
    split n (λ s. omega (arith, length_one n s))
    (λ s. omega (arith, few_digits k (n / 10) (omega (arith, h, pow-suc 10 (suc k))), length_more n s))

pub digits_32 : (n : ℕ) → n < 2 ^ 32 → length (decimal n) ≤ 10
digits_32 n h = few_digits 9 n (omega arith)

pub digits_64 : (n : ℕ) → n < 2 ^ 64 → length (decimal n) ≤ 20
digits_64 n h = few_digits 19 n (omega arith)

-- ---- one after the other, the last first

module _ (n rest : ℕ) (ds : List ℕ) (is : decimal rest ++ reverse ds ≡ decimal n) where
  abbrev more : List ℕ
  more = ds ++ (digit (rest % 10) ∷ [])

  turned : reverse more ≡ digit (rest % 10) ∷ reverse ds
  turned = reverse-append ds (digit (rest % 10) ∷ [])

  pub first_turn : rest < 10 → reverse more ≡ decimal n
  first_turn h =
      let e : rest % 10 ≡ rest = omega arith in
      turned ∙ ap {B = List ℕ} (λ (d : ℕ). digit d ∷ reverse ds) e ∙ sym (ap (λ l. l ++ reverse ds) (one_digit rest h)) ∙ is

  pub next_turn : 10 ≤ rest → decimal (rest / 10) ++ reverse more ≡ decimal n
  next_turn h =
      ap (λ l. decimal (rest / 10) ++ l) turned ∙ sym (append_snoc (decimal (rest / 10)) (digit (rest % 10)) (reverse ds))
      ∙ sym (ap (λ l. l ++ reverse ds) (more_digits rest h))
      ∙ is

-- ---- what they are

value_last : (v : ℕ) (ds : List ℕ) (d : ℕ) → value_from v (ds ++ (digit d ∷ [])) ≡ value_from v ds * 10 + d
value_last v [] d = omega arith
value_last v (x ∷ ds) d = value_last (v * 10 + (x - 48)) ds d

pub right_value : (n : ℕ) → value_of (decimal n) ≡ n
right_value =
    by_digits (λ n. value_of (decimal n) ≡ n) (λ n h. ap value_of (one_digit n h) ∙ omega arith)
    (λ n h p. ap value_of (more_digits n h) ∙ value_last 0 (decimal (n / 10)) (n % 10) ∙ omega (arith, p))

abbrev Digit : ℕ → Type 0
Digit b = (48 ≤ b) × (b ≤ 57)

all_more : (ds : List ℕ) (d : ℕ) → d < 10 → Digits ds → Digits (ds ++ (digit d ∷ []))
all_more ds d h all i l = go (dec_lt i (length ds))
  where
    go : Dec (i < length ds) → Digit (get_or (ds ++ (digit d ∷ [])) i 0)
    go (yes s) = subst Digit (sym (get_or-append ds (digit d ∷ []) 0 i s)) (all i s)
    go (no s) =
        let e : length ds ≡ i = omega (arith, l, length-append ds (digit d ∷ [])) in
        subst Digit (sym (get_or_at ds (digit d) [] 0 i e)) (omega arith, omega arith)

pub all_digits : (n : ℕ) → Digits (decimal n)
all_digits =
    by_digits (λ n. Digits (decimal n))
    (λ n h. subst Digits (sym (one_digit n h)) (all_more [] n h (λ i l. absurd (not-suc-le-zero l))))
    (λ n h p. subst Digits (sym (more_digits n h)) (all_more (decimal (n / 10)) (n % 10) (omega arith) p))

pub no_zero_first : (n : ℕ) → 0 < n → 48 < get_or (decimal n) 0 0
no_zero_first =
    by_digits (λ n. 0 < n → 48 < get_or (decimal n) 0 0) (λ n h some. subst (λ l. 48 < get_or l 0 0) (sym (one_digit n h)) (omega arith))
    (λ n h p some.
    subst (λ l. 48 < get_or l 0 0) (sym (more_digits n h))
    (subst (λ (b : ℕ). 48 < b) (sym (get_or-append (decimal (n / 10)) (digit (n % 10) ∷ []) 0 0 (some_digits (n / 10))))
    (p (omega arith))))

-- ---- no others say it

-- digits behind those of v
behind : (v : ℕ) (ds : List ℕ) → 0 < v → Digits ds → decimal (value_from v ds) ≡ decimal v ++ ds
behind v [] some h = sym (append-nil (decimal v))
behind v (d ∷ ds) some h =
    let (least, most) = h 0 (omega arith) in
    let n = v * 10 + (d - 48) in
    let front : n / 10 ≡ v = omega (arith, least, most) in
    let last : digit (n % 10) ≡ d = omega (arith, least, most) in
    behind n ds (omega arith) (λ i l. h (suc i) (omega (arith, l)))
    ∙ ap (λ l. l ++ ds) (more_digits n (omega arith))
    ∙ append_snoc (decimal (n / 10)) (digit (n % 10)) ds
    ∙ ap₂ {C = List ℕ} (λ (m b : ℕ). decimal m ++ b ∷ ds) front last

pub only_digits : (d : ℕ) (ds : List ℕ) → Digits (d ∷ ds) → 48 < d → decimal (value_of (d ∷ ds)) ≡ d ∷ ds
only_digits d ds h some =
    let (least, most) = h 0 (omega arith) in
    let first : digit (d - 48) ≡ d = omega (arith, some) in
    ap (λ (k : ℕ). decimal (value_from k ds)) (zero-add (d - 48))
    ∙ behind (d - 48) ds (omega (arith, some)) (λ i l. h (suc i) (omega (arith, l)))
    ∙ ap (λ l. l ++ ds) (one_digit (d - 48) (omega (arith, most)))
    ∙ ap {B = List ℕ} (λ (b : ℕ). b ∷ ds) first
