-- What one place, or two checks, leave in a syndrome: the lowest check that is set, the one place that explains it, the second column. Assumes
-- nothing.
use mathlib.Core.Path.{◌≡◌, refl, sym, ap, ap₂, ◌∙◌, subst}
use mathlib.Core.Logic.{◌⊎◌, inl, inr, ◌≢◌}
use mathlib.Core.Bool.{Bool}
use Prim.Native.Nat.{ℕ, suc, ◌+◌, ◌-◌, ◌*◌, ◌^◌, ◌≤◌, ◌<◌}
use native.Mathlib.Decide.{dec_lt}
use native.Mathlib.Nat.{one-mul, pow-suc}
use native.Mathlib.Omega.{arith}
use lib.Bits.{bit_xor, xor_comm, xor_self, xor_zero_r, xor_shifted}
use lib.Count.{count_trailing_zeros, trailing_of_zero, trailing_le, count_leading_zeros, leading_unique}
use lib.Dec.{eqb}
use lib.Pow.{pow_pos, pow-lt}
use borrow.Author.Tests.{eq-eqb, ne_eqb}
use Rattle.words.specs.Word.{choose}
use Rattle.words.proofs.Ones.{trailing_pow, trailing_two}
use Rattle.words.proofs.Xor.{xor_cancel_l}
use Rattle.block_code.specs.Checks.{mixed, of_place}
use Rattle.block_code.specs.declared.Checks.{Checks}
use Rattle.block_code.proofs.Mixing.{mixed_comm}
use Rattle.block_code.proofs.Places.{row_at, column_at, diagonal_at, IsData, IsCheck, Check, Kind, kind}
use Rattle.block_flips.specs.Steps.{lowest_of}

abbrev pub rows : Checks → ℕ
rows s = s.rows

abbrev pub columns : Checks → ℕ
columns s = s.columns

abbrev pub diagonals : Checks → ℕ
diagonals s = s.diagonals

-- the lowest row, column and diagonal, and the second column
abbrev pub low32 : Checks → ℕ
low32 s = count_trailing_zeros 32 s.rows

abbrev pub low16 : Checks → ℕ
low16 s = count_trailing_zeros 16 s.columns

abbrev pub low64 : Checks → ℕ
low64 s = count_trailing_zeros 64 s.diagonals

abbrev pub next16 : Checks → ℕ
next16 s = count_trailing_zeros 16 (bit_xor s.columns (2 ^ low16 s))

-- no place but p alone explains s
abbrev pub Only : Checks → ℕ → Type 0
Only s p = (q : ℕ) → q < 608 → of_place q ≡ s → p ≡ q

-- ---- numbers with no place, one or two

none : (n x : ℕ) → x ≡ 0 → count_trailing_zeros n x ≡ n
none n x e = ap (count_trailing_zeros n) e ∙ trailing_of_zero n

pub some : (n x : ℕ) → count_trailing_zeros n x ≢ n → count_trailing_zeros n x < n
some n x ne = go (dec_lt (count_trailing_zeros n x) n)
  where
    go : Dec (count_trailing_zeros n x < n) → count_trailing_zeros n x < n
    go (yes h) = h
    go (no h) = absurd (ne (omega (arith, trailing_le n x)))

pub one : (n a x : ℕ) → a < n → 2 ^ a ≡ x → count_trailing_zeros n x ≡ a
one n a x h e = ap (count_trailing_zeros n) (sym e) ∙ trailing_pow n a h

pub two : (n a b x : ℕ) → a < n → a < b → bit_xor (2 ^ a) (2 ^ b) ≡ x → count_trailing_zeros n x ≡ a
two n a b x h l e = ap (count_trailing_zeros n) (sym e) ∙ trailing_two n a b h l

pub order : (a b : ℕ) → (a < b) ⊎ ((b < a) ⊎ (a ≡ b))
order a b = go (dec_lt a b) (dec_lt b a)
  where
    go : Dec (a < b) → Dec (b < a) → (a < b) ⊎ ((b < a) ⊎ (a ≡ b))
    go (yes l) m = inl l
    go (no l) (yes m) = inr (inl m)
    go (no l) (no m) = inr (inr (omega arith))

-- two places above k, or one that cancels out
pub above : (k a b x : ℕ) → k < a → k < b → a < 64 → b < 64 → bit_xor (2 ^ a) (2 ^ b) ≡ x → k < count_trailing_zeros 64 x
above k a b x ka kb ha hb e = go (order a b)
  where
    go : (a < b) ⊎ ((b < a) ⊎ (a ≡ b)) → k < count_trailing_zeros 64 x
    go (inl l) = omega (arith, two 64 a b x ha l e)
    go (inr (inl l)) = omega (arith, two 64 b a x hb l (xor_comm (2 ^ b) (2 ^ a) ∙ e))
    go (inr (inr q)) = omega (arith, none 64 x (sym e ∙ ap (λ (y : ℕ). bit_xor (2 ^ y) (2 ^ b)) q ∙ xor_self (2 ^ b)))

-- the highest place of one, and of two
highest : (r x : ℕ) → r < 32 → 2 ^ r ≤ x → x < 2 ^ suc r → count_leading_zeros 32 x ≡ 31 - r
highest r x h l m = sym (leading_unique 32 x (31 - r) (suc r) (omega arith) m (omega (arith, pow-suc 2 r)))

pub highest_one : (r x : ℕ) → r < 32 → 2 ^ r ≡ x → count_leading_zeros 32 x ≡ 31 - r
highest_one r x h e = highest r x h (omega arith) (omega (arith, pow-suc 2 r, pow_pos r))

pub highest_two : (k r x : ℕ) → k < r → r < 32 → bit_xor (2 ^ r) (2 ^ k) ≡ x → count_leading_zeros 32 x ≡ 31 - r
highest_two k r x l h e =
    let sum : 2 ^ r + 2 ^ k ≡ x =
    sym (ap (λ (y : ℕ). bit_xor y (2 ^ k)) (sym (one-mul (2 ^ r))) ∙ xor_shifted 1 r (2 ^ k) (pow-lt l) ∙ ap (λ (y : ℕ). y + 2 ^ k) (one-mul (2 ^ r)))
    ∙ e in
    highest r x h (omega arith) (omega (arith, pow-lt l, pow-suc 2 r))

module _ (s : Checks) where
  -- ---- the lowest check

  pub lowest_row : s.rows ≢ 0 → lowest_of s ≡ 512 + low32 s
  lowest_row ne =
      ap (λ (b : Bool). choose b (choose (eqb s.columns 0) (560 + low64 s) (544 + low16 s)) (512 + low32 s)) (ne_eqb s.rows 0 ne)

  pub lowest_column : s.rows ≡ 0 → s.columns ≢ 0 → lowest_of s ≡ 544 + low16 s
  lowest_column z ne =
      ap₂ (λ (b c : Bool). choose b (choose c (560 + low64 s) (544 + low16 s)) (512 + low32 s)) (eq-eqb s.rows 0 z) (ne_eqb s.columns 0 ne)

  pub lowest_diagonal : s.rows ≡ 0 → s.columns ≡ 0 → lowest_of s ≡ 560 + low64 s
  lowest_diagonal z y =
      ap₂ (λ (b c : Bool). choose b (choose c (560 + low64 s) (544 + low16 s)) (512 + low32 s)) (eq-eqb s.rows 0 z) (eq-eqb s.columns 0 y)

  pub some_rows : (r : ℕ) → r < 32 → low32 s ≡ r → s.rows ≢ 0
  some_rows r h e z = absurd (omega (arith, none 32 s.rows z))

  pub some_columns : (c : ℕ) → c < 16 → low16 s ≡ c → s.columns ≢ 0
  some_columns c h e z = absurd (omega (arith, none 16 s.columns z))

  is_row : (k : ℕ) → k < 32 → low32 s ≡ k → lowest_of s ≡ 512 + k
  is_row k h e = lowest_row (some_rows k h e) ∙ ap (λ (a : ℕ). 512 + a) e

  is_column : (k : ℕ) → k < 16 → s.rows ≡ 0 → low16 s ≡ k → lowest_of s ≡ 544 + k
  is_column k h z e = lowest_column z (some_columns k h e) ∙ ap (λ (a : ℕ). 544 + a) e

  is_diagonal : (k : ℕ) → s.rows ≡ 0 → s.columns ≡ 0 → low64 s ≡ k → lowest_of s ≡ 560 + k
  is_diagonal k z y e = lowest_diagonal z y ∙ ap (λ (a : ℕ). 560 + a) e

  -- ---- one flip

  pub check_alone : (q : ℕ) → Check q s → lowest_of s ≡ q
  check_alone q (inl x) = is_row x.k x.below (one 32 x.k s.rows x.below (ap rows x.is)) ∙ x.place
  check_alone q (inr (inl x)) =
      is_column x.k x.below (sym (ap rows x.is)) (one 16 x.k s.columns x.below (ap columns x.is)) ∙ x.place
  check_alone q (inr (inr x)) =
      is_diagonal x.k (sym (ap rows x.is)) (sym (ap columns x.is))
      (one 64 x.k s.diagonals (omega (arith, x.below)) (ap diagonals x.is))
      ∙ x.place

  -- the kind of a place that explains s
  pub explaining : (q : ℕ) → q < 608 → of_place q ≡ s → Kind q s
  explaining q h e = subst (Kind q) e (kind q h)

  data-row_of : (q : ℕ) (x : IsData q s) → low32 s ≡ x.row
  data-row_of q x = one 32 x.row s.rows x.row_below (ap rows x.is)

  data_column_of : (q : ℕ) (x : IsData q s) → low16 s ≡ x.column
  data_column_of q x = one 16 x.column s.columns x.column_below (ap columns x.is)

  -- the one place that can: the lowest check without rows or without columns, and with both the data place
  pub only_check : (p : ℕ) → p ≡ lowest_of s → (low32 s ≡ 32) ⊎ (low16 s ≡ 16) → Only s p
  only_check p is z q h e = go z (explaining q h e)
    where
      go : (low32 s ≡ 32) ⊎ (low16 s ≡ 16) → Kind q s → p ≡ q
      go z (inr x) = is ∙ check_alone q x
      go (inl z) (inl x) = absurd (omega (arith, data-row_of q x, x.row_below))
      go (inr z) (inl x) = absurd (omega (arith, data_column_of q x, x.column_below))

  pub only_data : low32 s < 32 → low16 s < 16 → Only s (16 * low32 s + low16 s)
  only_data r c q h e = go (explaining q h e)
    where
      go : Kind q s → 16 * low32 s + low16 s ≡ q
      go (inl x) = ap₂ (λ (a b : ℕ). 16 * a + b) (data-row_of q x) (data_column_of q x) ∙ x.place
      go (inr (inl x)) = absurd (omega (arith, none 16 s.columns (sym (ap columns x.is))))
      go (inr (inr (inl x))) = absurd (omega (arith, none 32 s.rows (sym (ap rows x.is))))
      go (inr (inr (inr x))) = absurd (omega (arith, none 32 s.rows (sym (ap rows x.is))))

  -- ---- two checks

  -- of one kind, the lower
  pub lower : (first n : ℕ) (at : ℕ → Checks) → ((j k : ℕ) → j < n → j < k → mixed (at j) (at k) ≡ s → lowest_of s ≡ first + j)
      → (p q : ℕ) (a b : Checks) → IsCheck first n at p a → IsCheck first n at q b → p ≢ q → mixed a b ≡ s
      → (lowest_of s ≡ p) ⊎ (lowest_of s ≡ q)
  lower first n at law p q a b x y ne e = go (order x.k y.k)
    where
      go : (x.k < y.k) ⊎ ((y.k < x.k) ⊎ (x.k ≡ y.k)) → (lowest_of s ≡ p) ⊎ (lowest_of s ≡ q)
      go (inl l) = inl (law x.k y.k x.below l (ap₂ mixed x.is y.is ∙ e) ∙ x.place)
      go (inr (inl l)) = inr (law y.k x.k y.below l (ap₂ mixed y.is x.is ∙ mixed_comm b a ∙ e) ∙ y.place)
      go (inr (inr l)) = absurd (ne (sym x.place ∙ ap (λ (k : ℕ). first + k) l ∙ y.place))

  rows_two : (j k : ℕ) → j < 32 → j < k → mixed (row_at j) (row_at k) ≡ s → lowest_of s ≡ 512 + j
  rows_two j k h l e = is_row j h (two 32 j k s.rows h l (ap rows e))

  columns_two : (j k : ℕ) → j < 16 → j < k → mixed (column_at j) (column_at k) ≡ s → lowest_of s ≡ 544 + j
  columns_two j k h l e = is_column j h (sym (ap rows e)) (two 16 j k s.columns h l (ap columns e))

  diagonals_two : (j k : ℕ) → j < 48 → j < k → mixed (diagonal_at j) (diagonal_at k) ≡ s → lowest_of s ≡ 560 + j
  diagonals_two j k h l e = is_diagonal j (sym (ap rows e)) (sym (ap columns e)) (two 64 j k s.diagonals (omega arith) l (ap diagonals e))

  row_first : (p : ℕ) (a b : Checks) → IsCheck 512 32 row_at p a → b.rows ≡ 0 → mixed a b ≡ s → lowest_of s ≡ p
  row_first p a b x z e =
      is_row x.k x.below
      (one 32 x.k s.rows x.below (sym (xor_zero_r (2 ^ x.k)) ∙ ap₂ bit_xor (ap rows x.is) (sym z) ∙ ap rows e))
      ∙ x.place

  column_first : (p q : ℕ) (a b : Checks) → IsCheck 544 16 column_at p a → IsCheck 560 48 diagonal_at q b → mixed a b ≡ s → lowest_of s ≡ p
  column_first p q a b x y e =
      let f = ap₂ mixed x.is y.is ∙ e in
      is_column x.k x.below (sym (ap rows f))
      (one 16 x.k s.columns x.below (sym (xor_zero_r (2 ^ x.k)) ∙ ap columns f))
      ∙ x.place

  no_rows : {q n first : ℕ} {at : ℕ → Checks} {b : Checks} → ((k : ℕ) → (at k).rows ≡ 0) → IsCheck first n at q b → b.rows ≡ 0
  no_rows h y = sym (ap rows y.is) ∙ h y.k

  pub two_checks : (p q : ℕ) (a b : Checks) → Check p a → Check q b → p ≢ q → mixed a b ≡ s → (lowest_of s ≡ p) ⊎ (lowest_of s ≡ q)
  two_checks p q a b (inl x) (inl y) ne e = lower 512 32 row_at rows_two p q a b x y ne e
  two_checks p q a b (inl x) (inr (inl y)) ne e = inl (row_first p a b x (no_rows (λ k. refl) y) e)
  two_checks p q a b (inl x) (inr (inr y)) ne e = inl (row_first p a b x (no_rows (λ k. refl) y) e)
  two_checks p q a b (inr (inl x)) (inl y) ne e = inr (row_first q b a y (no_rows (λ k. refl) x) (mixed_comm b a ∙ e))
  two_checks p q a b (inr (inr x)) (inl y) ne e = inr (row_first q b a y (no_rows (λ k. refl) x) (mixed_comm b a ∙ e))
  two_checks p q a b (inr (inl x)) (inr (inl y)) ne e = lower 544 16 column_at columns_two p q a b x y ne e
  two_checks p q a b (inr (inl x)) (inr (inr y)) ne e = inl (column_first p q a b x y e)
  two_checks p q a b (inr (inr x)) (inr (inl y)) ne e = inr (column_first q p b a y x (mixed_comm b a ∙ e))
  two_checks p q a b (inr (inr x)) (inr (inr y)) ne e = lower 560 48 diagonal_at diagonals_two p q a b x y ne e

  -- ---- the second column

  rest : (b y : ℕ) → low16 s ≡ b → bit_xor (2 ^ b) y ≡ s.columns → y ≡ bit_xor s.columns (2 ^ low16 s)
  rest b y l e = sym (ap₂ (λ (m n : ℕ). bit_xor m (2 ^ n)) (sym e) l ∙ xor_comm (bit_xor (2 ^ b) y) (2 ^ b) ∙ xor_cancel_l (2 ^ b) y)

  pub next_none : (c : ℕ) → c < 16 → 2 ^ c ≡ s.columns → next16 s ≡ 16
  next_none c h e =
      none 16 (bit_xor s.columns (2 ^ low16 s)) (sym (rest c 0 (one 16 c s.columns h e) (xor_zero_r (2 ^ c) ∙ e)))

  pub next_two : (b c : ℕ) → b < c → c < 16 → bit_xor (2 ^ b) (2 ^ c) ≡ s.columns → next16 s ≡ c
  next_two b c l h e = one 16 c (bit_xor s.columns (2 ^ low16 s)) h (rest b (2 ^ c) (two 16 b c s.columns (omega arith) l e) e)
