-- What wrong rows leave in the parity and in the checks, and how they are put right from these. Assumes nothing.
use mathlib.Core.Path.{◌≡◌, refl, sym, ap, ap₂, ◌∙◌, subst}
use mathlib.Core.Logic.{◌≢◌, ◌⊎◌, ⊎_elim, inl, inr}
use Prim.Native.Nat.{ℕ, zero, suc, ◌*◌, ◌/◌, ◌^◌, ◌≤◌, ◌<◌, suc-le-suc}
use native.Mathlib.Nat.{eq-zero-or-pos, zero-mul, one-mul}
use native.Mathlib.Decide.{ℕ_discrete}
use native.Mathlib.Omega.{arith}
use lib.Bits.{bit_xor, differ, xor_comm, xor_self, xor_zero_r, xor_lt}
use lib.Count.{count_trailing_zeros}
use lib.Dec.{eqb, ltb, ltb→lt}
use lib.ListN.{get_or}
use Rattle.words.specs.Word.{bit, picked, sum_to}
use Rattle.words.specs.Digits.{digits}
use Rattle.words.proofs.Bit.{by_bit, bit-cases, bit_lt, bit_half, bit-xor, xor_half, trailing_set, differ_one}
use Rattle.words.proofs.Digits.{digits_below}
use Rattle.words.proofs.Linear.{Linear, same, none, then, digit, total, total_lt, agree, at_zero}
use Rattle.words.proofs.Sum.{sum_eq, sum_bits}
use Rattle.words.proofs.Test.{all_below, at_below, at_pair, same_below}
use Rattle.words.proofs.Xor.{xor_assoc, xor_left_comm, xor_cancel_l, eq_of_xor, xor-shl}
use Rattle.grid_code.specs.Sides.{row_of}
use Rattle.grid_code.proofs.Checks.{checks}
use Rattle.grid_columns.specs.Columns.{InColumns}
use Rattle.grid_columns.specs.Steps.{parts, rows_by_halves, parity_of, OneByte, Keeps, Rights, Mends, One, Beside, Paired}
use Rattle.grid_columns.proofs.Columns.{in_none}
use Rattle.grid_columns.proofs.Rows.{placed, flip_there, OneRow, TwoRows, ThreeRows, one_row, two_rows, three_rows}

-- ---- the parity

abbrev parities : Linear
parities = total 8 (digit 8 8)

pub parity_lt : (w : ℕ) → parity_of w < 256
parity_lt w = total_lt 8 8 (digit 8 8) w (digits_below 8 8 w)

parity_placed : (i a : ℕ) → i < 8 → a < 256 → parity_of (a * 2 ^ (8 * i)) ≡ a
parity_placed i a l h =
    agree (then (placed i) parities) same 8 (at_below 8 (λ i. all_below 8 (λ k. eqb (parities.at (2 ^ k * 2 ^ (8 * i))) (2 ^ k))) tt i l) a h

parity_code : (y : ℕ) → y < 2 ^ 64 → InColumns y → parity_of y ≡ 0
parity_code y h p = agree parities (then checks (total 4 (digit 8 4))) 64 tt y h ∙ ap (total 4 (digit 8 4)).at (in_none y h p)

-- ---- the checks

abbrev pub check : ℕ → ℕ → ℕ
check e k = get_or (digits 8 4 e) k 0

abbrev pub parts_of : ℕ → ℕ
parts_of i = get_or parts i 0

pick : ℕ → Linear
pick zero = none
pick (suc z) = same

pick_at : (z a : ℕ) → (pick z).at a ≡ picked z a
unfolding pick
pick_at zero a = refl
pick_at (suc z) a = refl

check_placed : (i k a : ℕ) → i < 8 → k < 4 → a < 256 → check (checks.at (a * 2 ^ (8 * i))) k ≡ picked (bit (parts_of i) k) a
unfolding pick
check_placed i k a hi hk h =
    agree (then (placed i) (then checks (digit 8 4 k))) (pick (bit (parts_of i) k)) 8
    (at_pair 8 4 (λ i k. all_below 8 (λ n. eqb (check (checks.at (2 ^ n * 2 ^ (8 * i))) k) ((pick (bit (parts_of i) k)).at (2 ^ n)))) tt i k hi
    hk) a h
    ∙ pick_at (bit (parts_of i) k) a

check_sum : (v w k : ℕ) → check (checks.at (bit_xor v w)) k ≡ bit_xor (check (checks.at v) k) (check (checks.at w) k)
check_sum v w k = (then checks (digit 8 4 k)).sum v w

-- a word of the code leaves nothing in them
check_code : (y w k : ℕ) → y < 2 ^ 64 → InColumns y → check (checks.at (bit_xor y w)) k ≡ check (checks.at w) k
check_code y w k h p =
    check_sum y w k
    ∙ ap (λ (x : ℕ). bit_xor x (check (checks.at w) k)) (ap (λ (e : ℕ). check e k) (in_none y h p) ∙ at_zero (digit 8 4 k))

-- the error b stands in the checks n
abbrev Shows : ℕ → ℕ → ℕ → Type 0
Shows n b e = (k : ℕ) → k < 4 → check e k ≡ picked (bit n k) b

shows_one : (y j b : ℕ) → y < 2 ^ 64 → InColumns y → j < 8 → b < 256 → Shows (parts_of j) b (checks.at (bit_xor y (b * 2 ^ (8 * j))))
shows_one y j b h p hj hb k l = check_code y (b * 2 ^ (8 * j)) k h p ∙ check_placed j k b hj l hb

both_picked : (x y b : ℕ) → x < 2 → y < 2 → bit_xor (picked x b) (picked y b) ≡ picked (differ x y) b
both_picked x y b hx hy =
    by_bit (λ (x : ℕ). bit_xor (picked x b) (picked y b) ≡ picked (differ x y) b) refl
    (by_bit (λ (y : ℕ). bit_xor b (picked y b) ≡ picked (differ 1 y) b) (xor_zero_r b) (xor_self b) y hy) x hx

shows_two : (y i j b : ℕ) → y < 2 ^ 64 → InColumns y → i < 8 → j < 8 → b < 256
    → Shows (bit_xor (parts_of i) (parts_of j)) b (checks.at (bit_xor y (bit_xor (b * 2 ^ (8 * i)) (b * 2 ^ (8 * j)))))
shows_two y i j b h p hi hj hb k l =
    check_code y (bit_xor (b * 2 ^ (8 * i)) (b * 2 ^ (8 * j))) k h p
    ∙ check_sum (b * 2 ^ (8 * i)) (b * 2 ^ (8 * j)) k
    ∙ ap₂ bit_xor (check_placed i k b hi l hb) (check_placed j k b hj l hb)
    ∙ both_picked (bit (parts_of i) k) (bit (parts_of j) k) b (bit_lt (parts_of i) k) (bit_lt (parts_of j) k)
    ∙ ap (λ (x : ℕ). picked x b) (sym (bit-xor (parts_of i) (parts_of j) k))

-- the error, from a check that is not 0
lowest_is : (n b e r : ℕ) → 0 < n → n < 16 → Shows n b e → OneByte e r → r ≡ b
lowest_is n b e r hn h s p = go (bit-cases (bit n p.place) (bit_lt n p.place))
  where
    shown : r ≡ picked (bit n p.place) b
    shown = p.is ∙ s p.place p.below

    go : (bit n p.place ≡ 0) ⊎ (bit n p.place ≡ 1) → r ≡ b
    go (inr o) = shown ∙ ap (λ (x : ℕ). picked x b) o
    go (inl z) =
        let r0 : r ≡ 0 = shown ∙ ap (λ (x : ℕ). picked x b) z in
        let (l, o) = trailing_set 4 n hn h in
        r0 ∙ sym (sym (s (count_trailing_zeros 4 n) l ∙ ap (λ (x : ℕ). picked x b) o) ∙ ap (λ (x : ℕ). check x (count_trailing_zeros 4 n)) (none_left r0)
        ∙ at_zero (digit 8 4 (count_trailing_zeros 4 n)))
      where
        none_left : r ≡ 0 → e ≡ 0
        none_left r0 = ⊎_elim (λ z. z) (λ l. absurd (omega (arith, p.some l))) (eq-zero-or-pos e)

twice_picked : (z b m : ℕ) → z < 2 → 0 < b → picked (picked z b) m ≡ z * m
twice_picked z zero m hz h = absurd (omega arith)
twice_picked z (suc b) m hz h = by_bit (λ (z : ℕ). picked (picked z (suc b)) m ≡ z * m) (sym (zero-mul m)) (sym (one-mul m)) z hz

-- the checks in which it stands, without check 0
abbrev pub nonzero : ℕ → ℕ
nonzero e = sum_to 3 (λ k. picked (check e (suc k)) (2 ^ k))

nonzero_is : (n b e : ℕ) → n < 16 → 0 < b → Shows n b e → nonzero e ≡ n / 2
nonzero_is n b e h hb s =
    sum_eq 3 (λ k. picked (check e (suc k)) (2 ^ k)) (λ k. bit (n / 2) k * 2 ^ k)
    (λ k l.
    ap (λ (x : ℕ). picked x (2 ^ k)) (s (suc k) (suc-le-suc l))
    ∙ twice_picked (bit n (suc k)) b (2 ^ k) (bit_lt n (suc k)) hb
    ∙ ap (λ (x : ℕ). x * 2 ^ k) (bit_half n k))
    ∙ sum_bits 3 (n / 2) (omega arith)

pub picked_le : (b value : ℕ) → picked b value ≤ value
picked_le zero value = omega arith
picked_le (suc b) value = omega arith

pub nonzero_lt : (e : ℕ) → nonzero e < 8
nonzero_lt e = omega (arith, picked_le (check e 1) 1, picked_le (check e 2) 2, picked_le (check e 3) 4)

pub byte_lt : (e r : ℕ) → OneByte e r → r < 256
byte_lt e r p = subst (λ (x : ℕ). x < 256) (sym p.is) (digits_below 8 4 e p.place)

-- ---- the numbers of the rows

pub parts_lt : (i : ℕ) → i < 8 → parts_of i < 16
parts_lt i h = ltb→lt (parts_of i) 16 (at_below 8 (λ i. ltb (parts_of i) 16) tt i h)

row_back : (j : ℕ) → j < 8 → get_or rows_by_halves (parts_of j / 2) 0 ≡ j
row_back = same_below 8 (λ j. get_or rows_by_halves (parts_of j / 2) 0) (λ j. j) tt

-- no two rows have the same
pub parts_apart : (i j : ℕ) → i < 8 → j < 8 → i ≢ j → 0 < bit_xor (parts_of i) (parts_of j)
parts_apart i j hi hj ne = go (bit_xor (parts_of i) (parts_of j)) refl
  where
    go : (n : ℕ) → bit_xor (parts_of i) (parts_of j) ≡ n → 0 < n
    go zero e =
        absurd (ne (sym (row_back i hi) ∙ ap (λ (n : ℕ). get_or rows_by_halves (n / 2) 0) (eq_of_xor (parts_of i) (parts_of j) e) ∙ row_back j hj))
    go (suc n) e = omega arith

pub both_lt : (i j : ℕ) → i < 8 → j < 8 → bit_xor (parts_of i) (parts_of j) < 16
both_lt i j hi hj = xor_lt 4 (parts_of i) (parts_of j) (parts_lt i hi) (parts_lt j hj)

-- ---- evened out

abbrev pub evened : ℕ → ℕ → ℕ
evened rows i = bit_xor rows (parity_of rows * 2 ^ (8 * i))

regroup : (x a d e : ℕ) → bit_xor (bit_xor (bit_xor x a) d) (bit_xor e d) ≡ bit_xor x (bit_xor a e)
regroup x a d e = simp (xor_assoc, xor_comm, xor_cancel_l)

undo : (x a d : ℕ) → bit_xor (bit_xor (bit_xor x (bit_xor a d)) a) d ≡ x
undo x a d = simp (xor_assoc, xor_comm, xor_cancel_l, xor_self)

-- of the errors a and b in row i, d in row j and e in row k: without a and d, and without b and e
without_j : (x a b d e : ℕ) → bit_xor (bit_xor (bit_xor x (bit_xor (bit_xor a b) (bit_xor d e))) a) d ≡ bit_xor x (bit_xor b e)
without_j x a b d e = simp (xor_assoc, xor_left_comm, xor_comm, xor_cancel_l)

without_k : (x a b d e : ℕ) → bit_xor (bit_xor (bit_xor x (bit_xor (bit_xor a b) (bit_xor d e))) b) e ≡ bit_xor x (bit_xor a d)
without_k x a b d e = simp (xor_assoc, xor_left_comm, xor_comm, xor_cancel_l, xor_self)

-- y is the rows with a added to row i, and D, whose parity is d: then the parity of the rows is that of both
module _ (rows y i a D d : ℕ) (hy : y < 2 ^ 64) (p : InColumns y) (hi : i < 8) (ha : a < 256)
    (is : y ≡ bit_xor (bit_xor rows (a * 2 ^ (8 * i))) D) (pd : parity_of D ≡ d)
  where
    parity_is : parity_of rows ≡ bit_xor a d
    parity_is =
        eq_of_xor (parity_of rows) (bit_xor a d)
        (sym (xor_assoc (parity_of rows) a d)
        ∙ sym (parities.sum (bit_xor rows (a * 2 ^ (8 * i))) D
        ∙ ap₂ bit_xor (parities.sum rows (a * 2 ^ (8 * i)) ∙ ap (bit_xor (parity_of rows)) (parity_placed i a hi ha)) pd)
        ∙ sym (ap parity_of is)
        ∙ parity_code y hy p)

    evens : evened rows i ≡ bit_xor y (bit_xor (d * 2 ^ (8 * i)) D)
    evens =
        ap (bit_xor rows) (ap (λ (x : ℕ). x * 2 ^ (8 * i)) parity_is ∙ xor-shl (8 * i) a d)
        ∙ sym (regroup rows (a * 2 ^ (8 * i)) D (d * 2 ^ (8 * i)))
        ∙ sym (ap (λ (x : ℕ). bit_xor x (bit_xor (d * 2 ^ (8 * i)) D)) is)

none_placed : (x i : ℕ) → bit_xor x (0 * 2 ^ (8 * i)) ≡ x
none_placed x i = ap (bit_xor x) (zero-mul (2 ^ (8 * i))) ∙ xor_zero_r x

-- one row is wrong
even_one : (rows y i a : ℕ) → y < 2 ^ 64 → InColumns y → i < 8 → a < 256 → y ≡ bit_xor rows (a * 2 ^ (8 * i)) → evened rows i ≡ y
even_one rows y i a hy p hi ha is =
    evens rows y i a 0 0 hy p hi ha (is ∙ sym (xor_zero_r (bit_xor rows (a * 2 ^ (8 * i))))) refl
    ∙ ap (bit_xor y) (xor_zero_r (0 * 2 ^ (8 * i))) ∙ none_placed y i

-- two are
even_two : (rows y i j a b : ℕ) → y < 2 ^ 64 → InColumns y → i < 8 → j < 8 → a < 256 → b < 256
    → y ≡ bit_xor (bit_xor rows (a * 2 ^ (8 * i))) (b * 2 ^ (8 * j)) → evened rows i ≡ bit_xor y (bit_xor (b * 2 ^ (8 * i)) (b * 2 ^ (8 * j)))
even_two rows y i j a b hy p hi hj ha hb is = evens rows y i a (b * 2 ^ (8 * j)) b hy p hi ha is (parity_placed j b hj hb)

pub keeps_even : (rows i : ℕ) → i < 8 → Keeps (λ r. r ≢ i) rows (evened rows i)
keeps_even rows i hi r hr ne = flip_there rows i (parity_of rows) hi (parity_lt rows) r hr ne

-- ---- no row set aside

module _ (rows row : ℕ) (hr : rows < 2 ^ 64) (is : row ≡ get_or rows_by_halves (nonzero (checks.at rows)) 0)
    (l : row < 8)
  where
    one_right : (j : ℕ) → j < 8 → Rights (λ r. r ≢ j) rows (evened rows row)
    one_right j hj y hy p s = go (one_row rows y j hr hy hj s)
      where
        go : OneRow rows y j → evened rows row ≡ y
        go o = with_a (ℕ_discrete o.a 0)
          where
            with_a : Dec (o.a ≡ 0) → evened rows row ≡ y
            with_a (yes z) =
                even_one rows y row 0 hy p l (omega arith)
                (o.is ∙ ap (λ (a : ℕ). bit_xor rows (a * 2 ^ (8 * j))) z ∙ none_placed rows j ∙ sym (none_placed rows row))
            with_a (no ne) =
                let back : rows ≡ bit_xor y (o.a * 2 ^ (8 * j)) =
                sym (ap (λ (x : ℕ). bit_xor x (o.a * 2 ^ (8 * j))) o.is ∙ again rows (o.a * 2 ^ (8 * j))) in
                let found : row ≡ j =
                is
                ∙ ap (λ (n : ℕ). get_or rows_by_halves n 0)
                (nonzero_is (parts_of j) o.a (checks.at rows) (parts_lt j hj) (omega (arith, ne))
                (subst (λ (x : ℕ). Shows (parts_of j) o.a (checks.at x)) (sym back) (shows_one y j o.a hy p hj o.byte)))
                ∙ row_back j hj in
                ap (evened rows) found ∙ even_one rows y j o.a hy p hj o.byte o.is
              where
                again : (x a : ℕ) → bit_xor (bit_xor x a) a ≡ x
                again x a = xor_assoc x a a ∙ ap (bit_xor x) (xor_self a) ∙ xor_zero_r x

    pub one_mended : One rows (evened rows row)
    one_mended = record { row = row; below = l; kept = keeps_even rows row l; right = one_right }

-- ---- two rows with the same error

module _ (even i j error : ℕ) (he : even < 2 ^ 64) (hi : i < 8) (hj : j < 8) (l : error < 256)
    (lowest : OneByte (checks.at even) error)
  where
    abbrev undone : ℕ
    undone = bit_xor (bit_xor even (error * 2 ^ (8 * i))) (error * 2 ^ (8 * j))

    pair_right : i ≢ j → (y b : ℕ) → y < 2 ^ 64 → InColumns y → b < 256 → even ≡ bit_xor y (bit_xor (b * 2 ^ (8 * i)) (b * 2 ^ (8 * j)))
        → undone ≡ y
    pair_right ne y b hy p hb e =
        let found : error ≡ b =
        lowest_is (bit_xor (parts_of i) (parts_of j)) b (checks.at even) error (parts_apart i j hi hj ne) (both_lt i j hi hj)
        (subst (λ (x : ℕ). Shows (bit_xor (parts_of i) (parts_of j)) b (checks.at x)) (sym e) (shows_two y i j b hy p hi hj hb)) lowest in
        ap₂ (λ (x b : ℕ). bit_xor (bit_xor x (b * 2 ^ (8 * i))) (b * 2 ^ (8 * j))) e found ∙ undo y (b * 2 ^ (8 * i)) (b * 2 ^ (8 * j))

    pair_alone : InColumns even → undone ≡ even
    pair_alone p =
        let found : error ≡ 0 =
        lowest.is ∙ ap (λ (x : ℕ). check x lowest.place) (in_none even he p) ∙ at_zero (digit 8 4 lowest.place) in
        ap (λ (b : ℕ). bit_xor (bit_xor even (b * 2 ^ (8 * i))) (b * 2 ^ (8 * j))) found
        ∙ none_placed (bit_xor even (0 * 2 ^ (8 * i))) j ∙ none_placed even i

    pub pair_mended : Paired even i j undone
    pair_mended = record {
      kept = λ r h (p, q).
          flip_there (bit_xor even (error * 2 ^ (8 * i))) j error hj l r h q ∙ flip_there even i error hi l r h p;
      right = pair_right;
      alone = pair_alone;
    }

-- ---- two rows set aside

pub two_mended : (rows i j s : ℕ) → rows < 2 ^ 64 → i < 8 → j < 8 → i ≢ j → Paired (evened rows i) i j s
    → Mends (λ r. (r ≢ i) × (r ≢ j)) rows s
two_mended rows i j s hr hi hj ne made = record {
  kept = λ r h (p, q). made.kept r h (p, q) ∙ keeps_even rows i hi r h p;
  right = λ y hy p k. right y hy p (two_rows rows y i j hr hy hi hj k);
}
  where
    right : (y : ℕ) → y < 2 ^ 64 → InColumns y → TwoRows rows y i j → s ≡ y
    right y hy p t =
        made.right ne y t.more.a hy p t.more.byte
        (even_two rows y i j t.a t.more.a hy p hi hj t.byte t.more.byte t.more.is)

-- ---- one row set aside

module _ (rows i row s : ℕ) (hr : rows < 2 ^ 64) (hi : i < 8)
    (is : row ≡ get_or rows_by_halves (bit_xor (nonzero (checks.at (evened rows i))) (parts_of i / 2)) 0) (l : row < 8)
    (made : Paired (evened rows i) i row s)
  where
    beside_alone : (y a : ℕ) → y < 2 ^ 64 → InColumns y → a < 256 → y ≡ bit_xor rows (a * 2 ^ (8 * i)) → s ≡ y
    beside_alone y a hy p ha is =
        let e : evened rows i ≡ y = even_one rows y i a hy p hi ha is in
        made.alone (subst InColumns (sym e) p) ∙ e

    beside_right : (j : ℕ) → j < 8 → Rights (λ r. (r ≢ i) × (r ≢ j)) rows s
    beside_right j hj y hy p k = go (ℕ_discrete j i) (two_rows rows y i j hr hy hi hj k)
      where
        go : Dec (j ≡ i) → TwoRows rows y i j → s ≡ y
        go (yes e) t =
            let o : OneRow rows y i = one_row rows y i hr hy hi (λ r h ne. k r h (ne, λ q. ne (q ∙ e))) in
            beside_alone y o.a hy p o.byte o.is
        go (no ne) t = with_b (ℕ_discrete t.more.a 0)
          where
            with_b : Dec (t.more.a ≡ 0) → s ≡ y
            with_b (yes z) =
                beside_alone y t.a hy p t.byte
                (t.more.is ∙ ap (λ (b : ℕ). bit_xor (bit_xor rows (t.a * 2 ^ (8 * i))) (b * 2 ^ (8 * j))) z
                ∙ none_placed (bit_xor rows (t.a * 2 ^ (8 * i))) j)
            with_b (no nz) =
                let b : ℕ = t.more.a in
                let e : evened rows i ≡ bit_xor y (bit_xor (b * 2 ^ (8 * i)) (b * 2 ^ (8 * j))) =
                even_two rows y i j t.a b hy p hi hj t.byte t.more.byte t.more.is in
                let found : row ≡ j =
                is
                ∙ ap (λ (n : ℕ). get_or rows_by_halves (bit_xor n (parts_of i / 2)) 0)
                (nonzero_is (bit_xor (parts_of i) (parts_of j)) b (checks.at (evened rows i)) (both_lt i j hi hj) (omega (arith, nz))
                (subst (λ (x : ℕ). Shows (bit_xor (parts_of i) (parts_of j)) b (checks.at x)) (sym e)
                (shows_two y i j b hy p hi hj t.more.byte)))
                ∙ ap (λ (n : ℕ). get_or rows_by_halves n 0)
                (ap (λ (n : ℕ). bit_xor n (parts_of i / 2)) (xor_half (parts_of i) (parts_of j))
                ∙ xor_comm (bit_xor (parts_of i / 2) (parts_of j / 2)) (parts_of i / 2) ∙ xor_cancel_l (parts_of i / 2) (parts_of j / 2))
                ∙ row_back j hj in
                made.right (λ q. ne (sym (q ∙ found))) y b hy p t.more.byte
                (e ∙ ap (λ (j : ℕ). bit_xor y (bit_xor (b * 2 ^ (8 * i)) (b * 2 ^ (8 * j)))) (sym found))

    pub beside_mended : Beside rows i s
    beside_mended = record {
      row = row;
      below = l;
      kept = λ r h (m, n). made.kept r h (m, n) ∙ keeps_even rows i hi r h m;
      right = beside_right;
    }

-- ---- three rows

-- A check in which row i takes part where x is set, row j where y is and row k where z is, with the errors b and g of rows j and k, and both
-- in row i: where one of rows j and k takes part in it, one of their errors is left.
abbrev left : (x y z b g : ℕ) → ℕ
left x y z b g = bit_xor (picked x (bit_xor b g)) (bit_xor (picked y b) (picked z g))

abbrev OneLeft : (b g x y z : ℕ) → Type 0
OneLeft b g x y z = (differ x y ≡ 1 → left x y z b g ≡ b) × (differ x y ≡ 0 → left x y z b g ≡ g)

one_left : (x y z b g : ℕ) → x < 2 → y < 2 → z < 2 → differ y z ≡ 1 → OneLeft b g x y z
one_left x y z b g hx hy hz e =
    subst (OneLeft b g x y) (differ_one y z hy hz e)
    (by_bit (λ (x : ℕ). OneLeft b g x y (differ y 1))
    (by_bit (λ (y : ℕ). OneLeft b g 0 y (differ y 1))
    ((λ q. absurd (omega arith)), (λ q. refl))
    ((λ q. xor_zero_r b), (λ q. absurd (omega arith))) y hy)
    (by_bit (λ (y : ℕ). OneLeft b g 1 y (differ y 1))
    ((λ q. xor_assoc b g g ∙ ap (bit_xor b) (xor_self g) ∙ xor_zero_r b), (λ q. absurd (omega arith)))
    ((λ q. absurd (omega arith)), (λ q. ap (bit_xor (bit_xor b g)) (xor_zero_r b) ∙ xor_comm (bit_xor b g) b ∙ xor_cancel_l b g)) y hy) x hx)

module _ (rows i j k at error : ℕ) (hr : rows < 2 ^ 64) (hi : i < 8) (hj : j < 8) (hk : k < 8) (ht : at < 4) (he : error < 256)
    (apart : bit (bit_xor (parts_of j) (parts_of k)) at ≡ 1) (is : error ≡ check (checks.at (evened rows i)) at)
  where
    -- 1 where one of rows i and j takes part in the check
    abbrev own : ℕ
    own = differ (bit (parts_of i) at) (bit (parts_of j) at)

    keeps_both : (n : ℕ) → n < 8 → (r : ℕ) → r < 8 → r ≢ i → r ≢ n
        → row_of (bit_xor (bit_xor (evened rows i) (error * 2 ^ (8 * i))) (error * 2 ^ (8 * n))) r ≡ row_of rows r
    keeps_both n hn r h p q =
        flip_there (bit_xor (evened rows i) (error * 2 ^ (8 * i))) n error hn he r h q ∙ flip_there (evened rows i) i error hi he r h p
        ∙ keeps_even rows i hi r h p

    -- the errors b and g of rows j and k, for a word y
    module _ (y : ℕ) (hy : y < 2 ^ 64) (p : InColumns y) (t : ThreeRows rows y i j k) where
      abbrev b : ℕ
      b = t.more.a

      abbrev g : ℕ
      g = t.more.more.a

      even_three : evened rows i ≡ bit_xor y (bit_xor (bit_xor b g * 2 ^ (8 * i)) (bit_xor (b * 2 ^ (8 * j)) (g * 2 ^ (8 * k))))
      even_three =
          evens rows y i t.a (bit_xor (b * 2 ^ (8 * j)) (g * 2 ^ (8 * k))) (bit_xor b g) hy p hi t.byte
          (t.more.more.is ∙ xor_assoc (bit_xor rows (t.a * 2 ^ (8 * i))) (b * 2 ^ (8 * j)) (g * 2 ^ (8 * k)))
          (parities.sum (b * 2 ^ (8 * j)) (g * 2 ^ (8 * k))
          ∙ ap₂ bit_xor (parity_placed j b hj t.more.byte) (parity_placed k g hk t.more.more.byte))

      even_apart : evened rows i
          ≡ bit_xor y (bit_xor (bit_xor (b * 2 ^ (8 * i)) (g * 2 ^ (8 * i))) (bit_xor (b * 2 ^ (8 * j)) (g * 2 ^ (8 * k))))
      even_apart =
          even_three ∙ ap (λ (x : ℕ). bit_xor y (bit_xor x (bit_xor (b * 2 ^ (8 * j)) (g * 2 ^ (8 * k))))) (xor-shl (8 * i) b g)

      both_byte : bit_xor b g < 256
      both_byte = xor_lt 8 b g t.more.byte t.more.more.byte

      error_is : error ≡ left (bit (parts_of i) at) (bit (parts_of j) at) (bit (parts_of k) at) b g
      error_is =
          is ∙ ap (λ (x : ℕ). check (checks.at x) at) even_three
          ∙ check_code y (bit_xor (bit_xor b g * 2 ^ (8 * i)) (bit_xor (b * 2 ^ (8 * j)) (g * 2 ^ (8 * k)))) at hy p
          ∙ check_sum (bit_xor b g * 2 ^ (8 * i)) (bit_xor (b * 2 ^ (8 * j)) (g * 2 ^ (8 * k))) at
          ∙ ap₂ bit_xor (check_placed i at (bit_xor b g) hi ht both_byte)
          (check_sum (b * 2 ^ (8 * j)) (g * 2 ^ (8 * k)) at
          ∙ ap₂ bit_xor (check_placed j at b hj ht t.more.byte) (check_placed k at g hk ht t.more.more.byte))

      cases : (own ≡ 1 → error ≡ b) × (own ≡ 0 → error ≡ g)
      cases =
          let (u, v) =
          one_left (bit (parts_of i) at) (bit (parts_of j) at) (bit (parts_of k) at) b g (bit_lt (parts_of i) at) (bit_lt (parts_of j) at)
          (bit_lt (parts_of k) at) (sym (bit-xor (parts_of j) (parts_of k) at) ∙ apart) in
          ((λ q. error_is ∙ u q), (λ q. error_is ∙ v q))

      -- with b undone in rows i and j, rows i and k have the error g, ..
      left_k : own ≡ 1
          → bit_xor (bit_xor (evened rows i) (error * 2 ^ (8 * i))) (error * 2 ^ (8 * j))
          ≡ bit_xor y (bit_xor (g * 2 ^ (8 * i)) (g * 2 ^ (8 * k)))
      left_k q =
          ap₂ (λ (x e : ℕ). bit_xor (bit_xor x (e * 2 ^ (8 * i))) (e * 2 ^ (8 * j))) even_apart (cases.0 q)
          ∙ without_j y (b * 2 ^ (8 * i)) (g * 2 ^ (8 * i)) (b * 2 ^ (8 * j)) (g * 2 ^ (8 * k))

      -- .. and with g undone in rows i and k, rows i and j have the error b
      left_j : own ≡ 0
          → bit_xor (bit_xor (evened rows i) (error * 2 ^ (8 * i))) (error * 2 ^ (8 * k))
          ≡ bit_xor y (bit_xor (b * 2 ^ (8 * i)) (b * 2 ^ (8 * j)))
      left_j q =
          ap₂ (λ (x e : ℕ). bit_xor (bit_xor x (e * 2 ^ (8 * i))) (e * 2 ^ (8 * k))) even_apart (cases.1 q)
          ∙ without_k y (b * 2 ^ (8 * i)) (g * 2 ^ (8 * i)) (b * 2 ^ (8 * j)) (g * 2 ^ (8 * k))

    pub three_by_j : i ≢ k → own ≡ 1 → (s : ℕ)
        → Paired (bit_xor (bit_xor (evened rows i) (error * 2 ^ (8 * i))) (error * 2 ^ (8 * j))) i k s
        → Mends (λ r. (r ≢ i) × (r ≢ j) × (r ≢ k)) rows s
    three_by_j ne q s made = record {
      kept = λ r h (m, n, o). made.kept r h (m, o) ∙ keeps_both j hj r h m n;
      right = λ y hy p keeps.
          let t : ThreeRows rows y i j k = three_rows rows y i j k hr hy hi hj hk keeps in
          made.right ne y t.more.more.a hy p t.more.more.byte (left_k y hy p t q);
    }

    pub three_by_k : i ≢ j → own ≡ 0 → (s : ℕ)
        → Paired (bit_xor (bit_xor (evened rows i) (error * 2 ^ (8 * i))) (error * 2 ^ (8 * k))) i j s
        → Mends (λ r. (r ≢ i) × (r ≢ j) × (r ≢ k)) rows s
    three_by_k ne q s made = record {
      kept = λ r h (m, n, o). made.kept r h (m, n) ∙ keeps_both k hk r h m o;
      right = λ y hy p keeps.
          let t : ThreeRows rows y i j k = three_rows rows y i j k hr hy hi hj hk keeps in
          made.right ne y t.more.a hy p t.more.byte (left_j y hy p t q);
    }
