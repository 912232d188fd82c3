-- Wherever one flip or two explain a syndrome, one of them is the chosen place or the lowest check. Assumes nothing.
use Rattle.std.specs.Prelude.{Option, Some, None}
use mathlib.Core.Path.{◌≡◌, refl, sym, ap, ap₂, ◌∙◌}
use mathlib.Core.Logic.{◌⊎◌, inl, inr, ⊎_swap, ⊎_map, ◌≢◌}
use Prim.Native.Nat.{ℕ, ◌+◌, ◌-◌, ◌*◌, ◌^◌, ◌≤◌, ◌<◌}
use native.Mathlib.Decide.{dec_lt, ℕ_discrete}
use native.Mathlib.Omega.{arith}
use lib.Bits.{bit_xor, xor_comm, xor_self, xor_zero_r}
use lib.Count.{count_trailing_zeros, trailing_of_zero, trailing_le, count_leading_zeros}
use Rattle.words.proofs.Xor.{xor_by}
use Rattle.block_code.specs.Checks.{mixed, of_place}
use Rattle.block_code.specs.declared.Checks.{Checks}
use Rattle.block_code.proofs.Mixing.{mixed_comm}
use Rattle.block_code.proofs.Places.{data_at, row_at, IsData, Kind, kind}
use Rattle.block_flips.specs.Steps.{lowest_of, Among, Guessed}
use Rattle.block_flips.proofs.Naming.{rows, columns, diagonals, low32, low16, low64, next16, one, two, order, above, highest_one, highest_two, some_rows, some_columns, check_alone, explaining, lowest_row, lowest_column, two_checks, next_none, next_two}

-- the code's tests, one after the other, and what holds where one is the first that passes
pub record Branch (A P N : Type 0) : Type 0 where
  pub yes : A → P
  pub no : (A → ⊥) → N

pub taken : {A P N : Type 0} → A → P → Branch A P N
taken a p = record { yes = λ b. p; no = λ n. absurd (n a) }

pub left : {A P N : Type 0} → (A → ⊥) → N → Branch A P N
left n x = record { yes = λ a. absurd (n a); no = λ m. x }

-- p is the place at this row and this column, where there is one
abbrev Place : ℕ → ℕ → Option ℕ → Type 0
Place row column p = (r c : ℕ) → r < 32 → c < 16 → row ≡ r → column ≡ c → p ≡ Some (16 * r + c)

pub placed : {row column : ℕ} {p : Option ℕ} → (row < 32 → column < 16 → p ≡ Some (16 * row + column)) → Place row column p
placed at r c hr hc x y = at (omega arith) (omega arith) ∙ ap Some (omega arith)

abbrev pub lead32 : Checks → ℕ
lead32 s = count_leading_zeros 32 s.rows

-- p is chosen, and x the second column
abbrev pub Choice : Checks → Option ℕ → ℕ → Type 0
Choice s p x =
    Branch (s.rows ≡ 0) (low16 s ≤ low64 s → Place (low64 s - low16 s) (low16 s) p)
    (Branch (s.columns ≡ 0) (low32 s ≤ low64 s → Place (low32 s) (low64 s - low32 s) p)
    (Branch (low64 s ≡ low32 s + low16 s) (Place (low32 s) (low16 s) p)
    (Branch (x < 16) (Place (low32 s) x p) (lead32 s ≤ 31 → Place (31 - lead32 s) (low16 s) p))))

module _ (s : Checks) (g : Option ℕ) (x : ℕ) (is : low16 s < 16 → x ≡ next16 s) (C : Choice s g x) where
  by_column : (r c : ℕ) → r < 32 → c < 16 → s.rows ≡ 0 → low16 s ≡ c → low64 s ≡ r + c → g ≡ Some (16 * r + c)
  by_column r c hr hc z u v = C.yes z (omega arith) r c hr hc (omega arith) u

  by_row : (r c : ℕ) → r < 32 → c < 16 → s.columns ≡ 0 → low32 s ≡ r → low64 s ≡ r + c → g ≡ Some (16 * r + c)
  by_row r c hr hc z u v = (C.no (some_rows s r hr u)).yes z (omega arith) r c hr hc u (omega arith)

  by_both : (r c : ℕ) → r < 32 → c < 16 → low32 s ≡ r → low16 s ≡ c → low64 s ≡ r + c → g ≡ Some (16 * r + c)
  by_both r c hr hc u v w = ((C.no (some_rows s r hr u)).no (some_columns s c hc v)).yes (omega arith) r c hr hc u v

  by_second : (r b c : ℕ) → r < 32 → b < 16 → c < 16 → low32 s ≡ r → low16 s ≡ b → low64 s ≢ r + b → next16 s ≡ c → g ≡ Some (16 * r + c)
  by_second r b c hr hb hc u v ne w =
      let y : x ≡ c = is (omega arith) ∙ w in
      (((C.no (some_rows s r hr u)).no (some_columns s b hb v)).no (λ e. ne (omega arith))).yes (omega arith) r c hr hc u y

  by_highest : (q r c : ℕ) → q < 32 → r < 32 → c < 16 → low32 s ≡ q → low16 s ≡ c → low64 s ≢ q + c → next16 s ≡ 16 → lead32 s ≡ 31 - r
      → g ≡ Some (16 * r + c)
  by_highest q r c hq hr hc u v ne w l =
      let y : x ≡ 16 = is (omega arith) ∙ w in
      (((C.no (some_rows s q hq u)).no (some_columns s c hc v)).no (λ e. ne (omega arith))).no (λ h. absurd (omega arith))
      (omega arith) r c hr hc (omega arith) v

  -- the row and the column have nothing else
  clear : (r c : ℕ) → r < 32 → c < 16 → 2 ^ r ≡ s.rows → 2 ^ c ≡ s.columns → g ≡ Some (16 * r + c)
  clear r c hr hc e f = go (ℕ_discrete (low64 s) (r + c))
    where
      row : low32 s ≡ r
      row = one 32 r s.rows hr e

      column : low16 s ≡ c
      column = one 16 c s.columns hc f

      go : Dec (low64 s ≡ r + c) → g ≡ Some (16 * r + c)
      go (yes d) = by_both r c hr hc row column d
      go (no d) = by_highest r r c hr hr hc row column d (next_none s c hc f) (highest_one r s.rows hr e)

  -- ---- a data place and a check

  -- the diagonal of the place, below the system parity
  low_diagonal : (r c : ℕ) → r < 32 → c < 16 → bit_xor (bit_xor (2 ^ (r + c)) (2 ^ 47)) 0 ≡ s.diagonals → low64 s ≡ r + c
  low_diagonal r c hr hc e =
      two 64 (r + c) 47 s.diagonals (omega arith) (omega arith) (sym (xor_zero_r (bit_xor (2 ^ (r + c)) (2 ^ 47))) ∙ e)

  data-row : (r c k : ℕ) → r < 32 → c < 16 → k < 32 → mixed (data_at r c) (row_at k) ≡ s → g ≡ Some (16 * r + c)
  data-row r c k hr hc hk e = go (order r k)
    where
      alone : 2 ^ c ≡ s.columns
      alone = sym (xor_zero_r (2 ^ c)) ∙ ap columns e

      column : low16 s ≡ c
      column = one 16 c s.columns hc alone

      diagonal : low64 s ≡ r + c
      diagonal = low_diagonal r c hr hc (ap diagonals e)

      go : (r < k) ⊎ ((k < r) ⊎ (r ≡ k)) → g ≡ Some (16 * r + c)
      go (inl l) = by_both r c hr hc (two 32 r k s.rows hr l (ap rows e)) column diagonal
      go (inr (inl l)) =
          by_highest k r c hk hr hc (two 32 k r s.rows hk l (xor_comm (2 ^ k) (2 ^ r) ∙ ap rows e)) column (λ z. absurd (omega (arith, diagonal)))
          (next_none s c hc alone) (highest_two k r s.rows l hr (ap rows e))
      go (inr (inr l)) = by_column r c hr hc (sym (ap rows e) ∙ ap (λ (y : ℕ). bit_xor (2 ^ y) (2 ^ k)) l ∙ xor_self (2 ^ k)) column diagonal

  -- two columns, b the place's, and the lowest diagonal its own
  data-column : (r b c : ℕ) → r < 32 → b < 16 → c < 16 → low32 s ≡ r → bit_xor (2 ^ b) (2 ^ c) ≡ s.columns → low64 s ≡ r + b → g ≡ Some (16 * r + b)
  data-column r b c hr hb hc row e diagonal = go (order b c)
    where
      go : (b < c) ⊎ ((c < b) ⊎ (b ≡ c)) → g ≡ Some (16 * r + b)
      go (inl l) = by_both r b hr hb row (two 16 b c s.columns hb l e) diagonal
      go (inr (inl l)) =
          let f = xor_comm (2 ^ c) (2 ^ b) ∙ e in
          by_second r c b hr hc hb row (two 16 c b s.columns hc l f) (λ z. absurd (omega arith)) (next_two s c b l hb f)
      go (inr (inr l)) = by_row r b hr hb (sym e ∙ ap (λ (y : ℕ). bit_xor (2 ^ y) (2 ^ c)) l ∙ xor_self (2 ^ c)) row diagonal

  -- ---- two data places

  -- the system parity cancels out
  two_diagonals : (a b : ℕ) → bit_xor (2 ^ a) (2 ^ b) ≡ bit_xor (bit_xor (2 ^ a) (2 ^ 47)) (bit_xor (2 ^ b) (2 ^ 47))
  two_diagonals a b = sym (ap (bit_xor (bit_xor (2 ^ a) (2 ^ 47))) (xor_comm (2 ^ b) (2 ^ 47)) ∙ xor_by (2 ^ a) (2 ^ 47) (2 ^ b))

  in_row_lem : (r b c : ℕ) → r < 32 → b < 16 → b < c → mixed (data_at r b) (data_at r c) ≡ s → g ≡ Some (16 * r + b)
  in_row_lem r b c hr hb l e =
      by_column r b hr hb (sym (ap rows e) ∙ xor_self (2 ^ r)) (two 16 b c s.columns hb l (ap columns e))
      (two 64 (r + b) (r + c) s.diagonals (omega arith) (omega arith) (two_diagonals (r + b) (r + c) ∙ ap diagonals e))

  -- the lower row is q's
  in_rows : (q r b c : ℕ) → q < 32 → r < 32 → b < 16 → c < 16 → q < r → mixed (data_at q b) (data_at r c) ≡ s → g ≡ Some (16 * q + b)
  in_rows q r b c hq hr hb hc l e = go (dec_lt c b)
    where
      row : low32 s ≡ q
      row = two 32 q r s.rows hq l (ap rows e)

      both : bit_xor (2 ^ (q + b)) (2 ^ (r + c)) ≡ s.diagonals
      both = two_diagonals (q + b) (r + c) ∙ ap diagonals e

      go : Dec (c < b) → g ≡ Some (16 * q + b)
      go (yes m) =
          let f = xor_comm (2 ^ c) (2 ^ b) ∙ ap columns e in
          by_second q c b hq hc hb row (two 16 c b s.columns hc m f)
          (λ z. absurd (omega (arith, above (q + c) (q + b) (r + c) s.diagonals (omega arith) (omega arith) (omega arith) (omega arith) both)))
          (next_two s c b m hb f)
      go (no m) = data-column q b c hq hb hc row (ap columns e) (two 64 (q + b) (r + c) s.diagonals (omega arith) (omega arith) both)

  -- ---- any two

  two_data : (p q : ℕ) (a b : Checks) → IsData p a → IsData q b → p ≢ q → mixed a b ≡ s → (g ≡ Some p) ⊎ (g ≡ Some q)
  two_data p q a b x y ne e = go (order x.row y.row) (order x.column y.column)
    where
      f : mixed (data_at x.row x.column) (data_at y.row y.column) ≡ s
      f = ap₂ mixed x.is y.is ∙ e

      h : mixed (data_at y.row y.column) (data_at x.row x.column) ≡ s
      h = ap₂ mixed y.is x.is ∙ mixed_comm b a ∙ e

      go : (x.row < y.row) ⊎ ((y.row < x.row) ⊎ (x.row ≡ y.row)) → (x.column < y.column) ⊎ ((y.column < x.column) ⊎ (x.column ≡ y.column))
          → (g ≡ Some p) ⊎ (g ≡ Some q)
      go (inl l) m =
          inl (in_rows x.row y.row x.column y.column x.row_below y.row_below x.column_below y.column_below l f ∙ ap Some x.place)
      go (inr (inl l)) m =
          inr (in_rows y.row x.row y.column x.column y.row_below x.row_below y.column_below x.column_below l h ∙ ap Some y.place)
      go (inr (inr l)) (inl m) =
          inl (in_row_lem x.row x.column y.column x.row_below x.column_below m
          (ap (λ (r : ℕ). mixed (data_at x.row x.column) (data_at r y.column)) l ∙ f)
          ∙ ap Some x.place)
      go (inr (inr l)) (inr (inl m)) =
          inr (in_row_lem y.row y.column x.column y.row_below y.column_below m
          (ap (λ (r : ℕ). mixed (data_at y.row y.column) (data_at r x.column)) (sym l) ∙ h)
          ∙ ap Some y.place)
      go (inr (inr l)) (inr (inr m)) = absurd (ne (sym x.place ∙ ap₂ (λ (r c : ℕ). 16 * r + c) l m ∙ y.place))

  data_first : (p q : ℕ) (a b : Checks) → IsData p a → Kind q b → p ≢ q → mixed a b ≡ s → Among s g p ⊎ Among s g q
  data_first p q a b x (inl y) ne e = ⊎_map inl inl (two_data p q a b x y ne e)
  data_first p q a b x (inr (inl y)) ne e =
      inl (inl (data-row x.row x.column y.k x.row_below x.column_below y.below (ap₂ mixed x.is y.is ∙ e) ∙ ap Some x.place))
  data_first p q a b x (inr (inr (inl y))) ne e =
      let f = ap₂ mixed x.is y.is ∙ e in
      inl (inl (data-column x.row x.column y.k x.row_below x.column_below y.below
      (one 32 x.row s.rows x.row_below (sym (xor_zero_r (2 ^ x.row)) ∙ ap rows f)) (ap columns f)
      (low_diagonal x.row x.column x.row_below x.column_below (ap diagonals f))
      ∙ ap Some x.place))
  data_first p q a b x (inr (inr (inr y))) ne e =
      let f = ap₂ mixed x.is y.is ∙ e in
      inl (inl (clear x.row x.column x.row_below x.column_below (sym (xor_zero_r (2 ^ x.row)) ∙ ap rows f)
      (sym (xor_zero_r (2 ^ x.column)) ∙ ap columns f)
      ∙ ap Some x.place))

  paired : (p q : ℕ) (a b : Checks) → Kind p a → Kind q b → p ≢ q → mixed a b ≡ s → Among s g p ⊎ Among s g q
  paired p q a b (inl x) y ne e = data_first p q a b x y ne e
  paired p q a b (inr x) (inl y) ne e = ⊎_swap (data_first q p b a y (inr x) (λ z. ne (sym z)) (mixed_comm b a ∙ e))
  paired p q a b (inr x) (inr y) ne e = ⊎_map inr inr (two_checks s p q a b x y ne e)

  alone : (q : ℕ) → Kind q s → Among s g q
  alone q (inl x) = inl (clear x.row x.column x.row_below x.column_below (ap rows x.is) (ap columns x.is) ∙ ap Some x.place)
  alone q (inr x) = inr (check_alone s q x)

  pub guessed : Guessed s g
  guessed = record {
    alone = λ q h e. alone q (explaining s q h e);
    paired = λ p q hp hq ne e. paired p q (of_place p) (of_place q) (kind p hp) (kind q hq) ne e;
  }

-- where no check is set there is nothing to guess
pub nothing : (s : Checks) → 608 ≤ lowest_of s → Guessed s None
nothing s n = guessed s None (next16 s) (λ h. refl) (taken rows-none (λ l r d hr hd x y. absurd (omega (arith, low))))
  where
    rows-none : s.rows ≡ 0
    rows-none = go (ℕ_discrete s.rows 0)
      where
        go : Dec (s.rows ≡ 0) → s.rows ≡ 0
        go (yes e) = e
        go (no ne) = absurd (omega (arith, n, lowest_row s ne, trailing_le 32 s.rows))

    columns-none : s.columns ≡ 0
    columns-none = go (ℕ_discrete s.columns 0)
      where
        go : Dec (s.columns ≡ 0) → s.columns ≡ 0
        go (yes e) = e
        go (no ne) = absurd (omega (arith, n, lowest_column s rows-none ne, trailing_le 16 s.columns))

    low : low16 s ≡ 16
    low = ap (count_trailing_zeros 16) columns-none ∙ trailing_of_zero 16
