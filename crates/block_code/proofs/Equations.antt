-- The equations: the codeword of each data value meets them, and nothing else does. Both sides of an equation are linear in the data, and
-- they agree at each single place. Assumes nothing.
use mathlib.Core.Path.{◌≡◌, refl, sym, ap, ap₂, ◌∙◌}
use mathlib.Core.Bool.{Bool, true, false}
use Prim.Native.Nat.{ℕ, ◌+◌, ◌-◌, ◌*◌, ◌/◌, ◌%◌, ◌^◌, ◌<◌}
use native.Mathlib.Decide.{dec_lt}
use native.Mathlib.Omega.{arith}
use lib.Bits.{bit_xor, differ}
use lib.Dec.{eqb}
use borrow.Author.Tests.{eq-eqb, ne_eqb}
use Rattle.words.specs.Word.{choose, bit, sum_to}
use Rattle.words.specs.Digits.{digits}
use Rattle.words.proofs.Bit.{bit_zero, bit-xor, bit-xor-sum, bit_lower, bit_upper, differ_zero, eq_of_bits}
use Rattle.words.proofs.Linear.{Linear, at_zero, by_places}
use Rattle.words.proofs.Ones.{bit-pow}
use Rattle.words.proofs.Sum.{sum_eq, sum_none, sum_single, sum-parity}
use Rattle.block_code.specs.Equations.{in_word, parity_where, Codeword}
use Rattle.block_code.specs.Code.{rows_of, columns_of, diagonals_of, codeword}
use Rattle.block_code.proofs.Syndromes.{row_sums, column_sums, diagonal_sums, rows_lt, columns_lt, codeword_lt}
use Rattle.block_code.proofs.Places.{rows_at, columns_at, diagonals_at}

-- ---- a parity over places

-- 1 where the test holds
abbrev mark : Bool → ℕ
mark b = choose b 1 0

module _ (test : ℕ → ℕ → Bool) where
  picked_none : (b : Bool) → choose {A = ℕ} b 0 0 ≡ 0
  picked_none true = refl
  picked_none false = refl

  parity_none : parity_where test 0 ≡ 0
  parity_none =
      ap (λ (x : ℕ). x % 2)
      (sum_none 32 (λ r. sum_to 16 (λ c. choose (test r c) (in_word 0 r c) 0)) (λ r l.
      sum_none 16 (λ c. choose (test r c) (in_word 0 r c) 0) (λ c m.
      ap (λ (x : ℕ). choose (test r c) x 0) (bit_zero (16 * r + c)) ∙ picked_none (test r c))))

  parity-sum : (a b : ℕ) → parity_where test (bit_xor a b) ≡ (parity_where test a + parity_where test b) % 2
  parity-sum a b =
      sum-parity 32 (rows a) (rows b) (rows (bit_xor a b)) (λ r.
      sum-parity 16 (at a r) (at b r) (at (bit_xor a b) r) (λ c. one (test r c) r c))
      ∙ mods (sum_to 32 (rows a)) (sum_to 32 (rows b))
    where
      at : ℕ → ℕ → ℕ → ℕ
      at w r c = choose (test r c) (in_word w r c) 0

      rows : ℕ → ℕ → ℕ
      rows w r = sum_to 16 (λ c. choose (test r c) (in_word w r c) 0)

      one : (t : Bool) (r c : ℕ) → choose t (in_word (bit_xor a b) r c) 0 % 2 ≡ (choose t (in_word a r c) 0 + choose t (in_word b r c) 0) % 2
      one true r c = omega (arith, bit-xor-sum a b (16 * r + c))
      one false r c = refl

      mods : (x y : ℕ) → (x + y) % 2 ≡ (x % 2 + y % 2) % 2
      mods x y = omega arith

  parity-place : (r c : ℕ) → r < 32 → c < 16 → parity_where test (2 ^ (16 * r + c)) ≡ mark (test r c)
  parity-place r c hr hc =
      ap (λ (x : ℕ). x % 2)
      (sum_single 32 r (λ i. sum_to 16 (at i)) hr (λ i l ne. sum_none 16 (at i) (λ j m. elsewhere i j m (λ e. ne (omega arith))))
      ∙ sum_single 16 c (at r) hc (λ j m ne. elsewhere r j m (λ e. ne (omega arith))) ∙ here)
      ∙ bits (test r c)
    where
      at : ℕ → ℕ → ℕ
      at i j = choose (test i j) (in_word (2 ^ (16 * r + c)) i j) 0

      elsewhere : (i j : ℕ) → j < 16 → (16 * r + c ≡ 16 * i + j → ⊥) → at i j ≡ 0
      elsewhere i j m ne =
          ap (λ (x : ℕ). choose (test i j) x 0)
          (bit-pow (16 * r + c) (16 * i + j) ∙ ap mark (ne_eqb (16 * r + c) (16 * i + j) ne))
          ∙ picked_none (test i j)

      here : at r c ≡ mark (test r c)
      here =
          ap (λ (x : ℕ). choose (test r c) x 0) (bit-pow (16 * r + c) (16 * r + c) ∙ ap mark (eq-eqb (16 * r + c) (16 * r + c) refl))

      bits : (b : Bool) → mark b % 2 ≡ mark b
      bits true = refl
      bits false = refl

  -- a linear map whose bit j is the parity at single places has it as its bit j everywhere
  parity-bit : (f : Linear) (j : ℕ) → ((r c : ℕ) → r < 32 → c < 16 → bit (f.at (2 ^ (16 * r + c))) j ≡ mark (test r c))
      → (d : ℕ) → d < 2 ^ 512 → bit (f.at d) j ≡ parity_where test d
  parity-bit f j h =
      by_places (λ (d : ℕ). bit (f.at d) j ≡ parity_where test d) (ap (λ (x : ℕ). bit x j) (at_zero f) ∙ bit_zero j ∙ sym parity_none)
      (λ a b p q. ap (λ (x : ℕ). bit x j) (f.sum a b) ∙ bit-xor-sum (f.at a) (f.at b) j ∙ ap₂ (λ (x y : ℕ). (x + y) % 2) p q ∙ sym (parity-sum a b))
      512 place
    where
      place : (k : ℕ) → k < 512 → bit (f.at (2 ^ k)) j ≡ parity_where test (2 ^ k)
      place k l =
          let e : k ≡ 16 * (k / 16) + k % 16 = omega arith in
          ap (λ (x : ℕ). bit (f.at (2 ^ x)) j) e ∙ h (k / 16) (k % 16) (omega arith) (omega arith)
          ∙ sym (parity-place (k / 16) (k % 16) (omega arith) (omega arith)) ∙ ap (λ (x : ℕ). parity_where test (2 ^ x)) (sym e)

  -- it is of the data places alone
  parity_same : (w d : ℕ) → ((r c : ℕ) → r < 32 → c < 16 → in_word w r c ≡ in_word d r c) → parity_where test w ≡ parity_where test d
  parity_same w d h =
      ap (λ (x : ℕ). x % 2)
      (sum_eq 32 (λ r. sum_to 16 (λ c. choose (test r c) (in_word w r c) 0)) (λ r. sum_to 16 (λ c. choose (test r c) (in_word d r c) 0)) (λ r l.
      sum_eq 16 (λ c. choose (test r c) (in_word w r c) 0) (λ c. choose (test r c) (in_word d r c) 0) (λ c m.
      ap (λ (x : ℕ). choose (test r c) x 0) (h r c l m))))

-- ---- the codeword meets the equations

module _ (d : ℕ) (h : d < 2 ^ 512) where
  abbrev rows : ℕ
  rows = rows_of (digits 16 32 d)

  abbrev columns : ℕ
  columns = columns_of (digits 16 32 d)

  abbrev diagonals : ℕ
  diagonals = diagonals_of (digits 16 32 d)

  at_data : (r c : ℕ) → r < 32 → c < 16 → in_word (codeword d) r c ≡ in_word d r c
  unfolding codeword
  at_data r c hr hc = bit_lower 512 ((diagonals * 2 ^ 16 + columns) * 2 ^ 32 + rows) d (16 * r + c) h (omega arith)

  at_check : (k : ℕ) → bit (codeword d) (512 + k) ≡ bit ((diagonals * 2 ^ 16 + columns) * 2 ^ 32 + rows) k
  unfolding codeword
  at_check k = bit_upper 512 ((diagonals * 2 ^ 16 + columns) * 2 ^ 32 + rows) d k h

  at_row : (n : ℕ) → n < 32 → bit (codeword d) (512 + n) ≡ bit rows n
  at_row n l = at_check n ∙ bit_lower 32 (diagonals * 2 ^ 16 + columns) rows n (rows_lt d) l

  at_column : (n : ℕ) → n < 16 → bit (codeword d) (512 + (32 + n)) ≡ bit columns n
  at_column n l =
      at_check (32 + n) ∙ bit_upper 32 (diagonals * 2 ^ 16 + columns) rows n (rows_lt d) ∙ bit_lower 16 diagonals columns n (columns_lt d) l

  at_diagonal : (t : ℕ) → bit (codeword d) (512 + (32 + (16 + t))) ≡ bit diagonals t
  at_diagonal t =
      at_check (32 + (16 + t)) ∙ bit_upper 32 (diagonals * 2 ^ 16 + columns) rows (16 + t) (rows_lt d) ∙ bit_upper 16 diagonals columns t (columns_lt d)

  -- a parity over the block is that over its data
  over : (test : ℕ → ℕ → Bool) → parity_where test d ≡ parity_where test (codeword d)
  over test = sym (parity_same test (codeword d) d at_data)

  -- bit t of a data place's diagonal and system parity
  diagonal_bit : (r c t : ℕ) → r < 32 → c < 16 → bit (diagonal_sums.at (2 ^ (16 * r + c))) t ≡ differ (mark (eqb (r + c) t)) (mark (eqb 47 t))
  diagonal_bit r c t hr hc =
      ap (λ (x : ℕ). bit x t) (diagonals_at r c hr hc) ∙ bit-xor (2 ^ (r + c)) (2 ^ 47) t ∙ ap₂ differ (bit-pow (r + c) t) (bit-pow 47 t)

  pub meets : Codeword d (codeword d)
  meets = record {
    fits = codeword_lt d h;
    data_places = at_data;
    rows = λ n l.
        ap (bit (codeword d)) (omega arith) ∙ at_row n l
        ∙ parity-bit (λ r c. eqb r n) row_sums n (λ r c hr hc. ap (λ (x : ℕ). bit x n) (rows_at r c hr hc) ∙ bit-pow r n) d h
        ∙ over (λ r c. eqb r n);
    columns = λ n l.
        ap (bit (codeword d)) (omega arith) ∙ at_column n l
        ∙ parity-bit (λ r c. eqb c n) column_sums n (λ r c hr hc. ap (λ (x : ℕ). bit x n) (columns_at r c hr hc) ∙ bit-pow c n) d h
        ∙ over (λ r c. eqb c n);
    diagonals = λ t l.
        ap (bit (codeword d)) (omega arith) ∙ at_diagonal t
        ∙ parity-bit (λ r c. eqb (r + c) t) diagonal_sums t (λ r c hr hc.
        diagonal_bit r c t hr hc ∙ ap (λ (b : Bool). differ (mark (eqb (r + c) t)) (mark b)) (ne_eqb 47 t (λ e. absurd (omega arith)))
        ∙ differ_zero (mark (eqb (r + c) t))) d h
        ∙ over (λ r c. eqb (r + c) t);
    system =
        at_diagonal 47
        ∙ parity-bit (λ r c. true) diagonal_sums 47 (λ r c hr hc.
        diagonal_bit r c 47 hr hc ∙ ap (λ (b : Bool). differ (mark b) 1) (ne_eqb (r + c) 47 (λ e. absurd (omega arith)))) d h
        ∙ over (λ r c. true);
  }

-- ---- and nothing else does

pub one_solution : (d g h : ℕ) → Codeword d g → Codeword d h → g ≡ h
one_solution d g h p q = eq_of_bits 608 g h p.fits q.fits (λ i l. data-or i (dec_lt i 512) (dec_lt i 544) (dec_lt i 560) (dec_lt i 607) l)
  where
    same_data : (r c : ℕ) → r < 32 → c < 16 → in_word g r c ≡ in_word h r c
    same_data r c hr hc = p.data_places r c hr hc ∙ sym (q.data_places r c hr hc)

    same_check : (i word b : ℕ) (test : ℕ → ℕ → Bool) → i ≡ 16 * word + b → in_word g word b ≡ parity_where test g
        → in_word h word b ≡ parity_where test h → bit g i ≡ bit h i
    same_check i word b test e x y = ap (bit g) e ∙ x ∙ parity_same test g h same_data ∙ sym y ∙ ap (bit h) (sym e)

    data-or : (i : ℕ) → Dec (i < 512) → Dec (i < 544) → Dec (i < 560) → Dec (i < 607) → i < 608 → bit g i ≡ bit h i
    data-or i (yes a) b c s l =
        let e : i ≡ 16 * (i / 16) + i % 16 = omega arith in
        ap (bit g) e ∙ same_data (i / 16) (i % 16) (omega arith) (omega arith) ∙ ap (bit h) (sym e)
    data-or i (no a) (yes b) c s l =
        let n : ℕ = i - 512 in
        same_check i (32 + n / 16) (n % 16) (λ r c. eqb r n) (omega arith) (p.rows n (omega arith)) (q.rows n (omega arith))
    data-or i (no a) (no b) (yes c) s l =
        let n : ℕ = i - 544 in
        same_check i 34 n (λ r c. eqb c n) (omega arith) (p.columns n (omega arith)) (q.columns n (omega arith))
    data-or i (no a) (no b) (no c) (yes s) l =
        let t : ℕ = i - 560 in
        same_check i (35 + t / 16) (t % 16) (λ r c. eqb (r + c) t) (omega arith) (p.diagonals t (omega arith)) (q.diagonals t (omega arith))
    data-or i (no a) (no b) (no c) (no s) l = same_check i 37 15 (λ r c. true) (omega arith) p.system q.system

pub one_value : (d e g : ℕ) → d < 2 ^ 512 → e < 2 ^ 512 → Codeword d g → Codeword e g → d ≡ e
one_value d e g hd he p q =
    eq_of_bits 512 d e hd he (λ i l.
    let s : i ≡ 16 * (i / 16) + i % 16 = omega arith in
    ap (bit d) s ∙ sym (p.data_places (i / 16) (i % 16) (omega arith) (omega arith)) ∙ q.data_places (i / 16) (i % 16) (omega arith) (omega arith)
    ∙ ap (bit e) (sym s))
