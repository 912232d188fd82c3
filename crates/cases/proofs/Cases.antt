-- The worked numbers hold: one computed test over the list. Assumes nothing.
use mathlib.Core.Path.{◌≡◌, refl, sym, ap, ◌∙◌, subst}
use mathlib.Core.Logic.{◌≢◌}
use mathlib.Core.Bool.{Bool, false, ◌&&◌}
use mathlib.Core.List.{List, [], ◌∷◌}
use Prim.Native.Nat.{ℕ, zero, suc, ◌*◌, ◌^◌, ◌≤◌, ◌<◌}
use native.Mathlib.Omega.{arith}
use lib.Bits.{bit_xor}
use lib.Count.{ones}
use lib.Dec.{T, ltb, leb, eqb, ltb→lt, leb→le, eqb→eq, lit<}
use Rattle.words.specs.Word.{dist, sum_to}
use Rattle.words.specs.Digits.{digits}
use Rattle.words.proofs.Dist.{dist_sym}
use Rattle.words.proofs.Digits.{dist-digits}
use Rattle.words.proofs.Test.{both_left, both_right, every}
use Rattle.words.proofs.Xor.{xor_cancel_l}
use Rattle.codes.specs.Verdict as codes
use Rattle.codes.specs.Verdict.{off, answered, verdict, repaired, pattern_of}
use Rattle.codes.proofs.Promises.{found, has_verdict, answered-repaired}
use Rattle.grid_code.specs.Equations as grid
use Rattle.grid_code.specs.Code.{codeword, code_of_grid}
use Rattle.grid_code.specs.Verdict.{Verdict, clean, blank, mended, lost, erased, named}
use Rattle.grid_code.specs.Sides.{row_of}
use Rattle.grid_code.proofs.Codeword.{is_codeword}
use Rattle.grid_code.proofs.Distance.{codeword_lt, distance}
use Rattle.grid_code.proofs.Promises.{promised}
use Rattle.grid_code.proofs.Verdict.{named_blank, named_clean, named_mended}
use Rattle.block_code.specs.Equations as blocks
use Rattle.block_code.specs.Code.{odd, stacked, rows_of, columns_of, with_checks, code_of_block, codeword as block_of}
use Rattle.block_code.proofs.Promises.{promised as block-promised}
use Rattle.block_code.proofs.Places.{system_columns}
use Rattle.cases.specs.Cases.{Case, of_grid, solves, read, distant, of_block, cases, Says, Hold}

-- ---- what is computed

-- the places in which a word differs from the grid of d, row by row
apart : ℕ → ℕ → ℕ
apart w d = sum_to 8 (λ r. dist (row_of w r) (row_of (codeword d) r))

-- data and word are in range, and that is what is counted
distant? : ℕ → ℕ → ℕ → Bool
distant? w d n = ltb w (2 ^ 64) && (ltb d (2 ^ 16) && eqb (apart w d) n)

-- .. within seven, and they are the pattern p
mends? : ℕ → ℕ → ℕ → ℕ → Bool
mends? w d n p = distant? w d n && (leb n 7 && eqb (bit_xor w (codeword d)) p)

-- the block of d, with the system parity over the columns: 16 places to count and not 32
block : ℕ → ℕ
block d =
    with_checks d (rows_of (digits 16 32 d)) (columns_of (digits 16 32 d))
    (bit_xor (stacked 1 (λ x. x) (digits 16 32 d)) (odd (columns_of (digits 16 32 d)) * 2 ^ 47))

right? : Case → Bool
right? (of_grid d g) = ltb d erased && eqb (codeword d) g
right? (solves d g) = ltb d (2 ^ 16) && eqb (codeword d) g
right? (read w (clean d) p) = ltb d erased && mends? w d 0 p
right? (read w (blank n) p) = mends? w erased n p
right? (read w (mended d zero) p) = false
right? (read w (mended d (suc n)) p) = ltb d erased && mends? w d (suc n) p
right? (read w lost p) = distant? w 0 8 && eqb p 0
right? (distant w d n) = distant? w d n
right? (of_block d w) = ltb d (2 ^ 512) && eqb (block d) w

-- ---- and what follows

counted : (w d : ℕ) → w < 2 ^ 64 → d < 2 ^ 16 → off code_of_grid w d ≡ apart w d
unfolding apart
counted w d l h = dist-digits 8 8 w (codeword d) l (codeword_lt d h)

distance_is : (w d n : ℕ) → T (distant? w d n) → (d < 2 ^ 16) × (off code_of_grid w d ≡ n)
unfolding distant?
distance_is w d n t =
    let l : w < 2 ^ 64 = ltb→lt w (2 ^ 64) (both_left (ltb w (2 ^ 64)) (ltb d (2 ^ 16) && eqb (apart w d) n) t) in
    let u : T (ltb d (2 ^ 16) && eqb (apart w d) n) = both_right (ltb w (2 ^ 64)) (ltb d (2 ^ 16) && eqb (apart w d) n) t in
    let h : d < 2 ^ 16 = ltb→lt d (2 ^ 16) (both_left (ltb d (2 ^ 16)) (eqb (apart w d) n) u) in
    (h, counted w d l h ∙ eqb→eq (apart w d) n (both_right (ltb d (2 ^ 16)) (eqb (apart w d) n) u))

near : (w d n p : ℕ) → T (mends? w d n p) → (verdict code_of_grid w ≡ answered d n) × (pattern_of code_of_grid w ≡ p)
unfolding mends?
near w d n p t =
    let same? = eqb (bit_xor w (codeword d)) p in
    let (h, e) = distance_is w d n (both_left (distant? w d n) (leb n 7 && same?) t) in
    let u : T (leb n 7 && same?) = both_right (distant? w d n) (leb n 7 && same?) t in
    let few : n ≤ 7 = leb→le n 7 (both_left (leb n 7) same? u) in
    let v : verdict code_of_grid w ≡ answered d n =
    found code_of_grid 16 distance (lit< tt) w d h (subst (λ (x : ℕ). x ≤ 7) (sym e) few) ∙ ap (answered d) e in (
      v,
      ap (λ v. bit_xor w (repaired code_of_grid w v)) v ∙ ap (bit_xor w) (answered-repaired code_of_grid w d n)
          ∙ eqb→eq (bit_xor w (codeword d)) p (both_right (leb n 7) same? u),
    )

-- what was answered is the verdict, by its name, with its pattern
reads : (w p : ℕ) (v : Verdict) (u : codes.Verdict) → verdict code_of_grid w ≡ u → v ≡ named u → pattern_of code_of_grid w ≡ p → Says (read w v p)
reads w p v u e is q = ((u, has_verdict code_of_grid promised.verdicts w e, is), q)

-- a number, and what is said of it
numbered : (d : ℕ) (b : Bool) → T (ltb d erased && b) → (d < erased) × T b
numbered d b t = (ltb→lt d erased (both_left (ltb d erased) b t), both_right (ltb d erased) b t)

number : (d : ℕ) → d < erased → d ≢ erased
number d l e = absurd (omega (arith, l, e))

is_solved : (d g : ℕ) → d < 2 ^ 16 → T (eqb (codeword d) g) → grid.Codeword d g
is_solved d g h t = subst (grid.Codeword d) (eqb→eq (codeword d) g t) (is_codeword d h)

-- a word eight places from the grid of 0 is lost
far : (w : ℕ) → T (distant? w 0 8) → verdict code_of_grid w ≡ codes.lost
unfolding dist
far w t =
    let e : ones (bit_xor (codeword 0) w) ≡ 8 = dist_sym (codeword 0) w ∙ (distance_is w 0 8 t).1 in
    ap (verdict code_of_grid) (sym (xor_cancel_l (codeword 0) w)) ∙ promised.eight_are_lost 0 (bit_xor (codeword 0) w) (lit< tt) e

same_block : (d : ℕ) → d < 2 ^ 512 → block_of d ≡ block d
unfolding block_of block
same_block d h =
    ap (λ (x : ℕ). with_checks d (rows_of (digits 16 32 d)) (columns_of (digits 16 32 d)) (bit_xor (stacked 1 (λ x. x) (digits 16 32 d)) (x * 2 ^ 47)))
    (system_columns d h)

right : (c : Case) → T (right? c) → Says c
unfolding right?
right (of_grid d g) t =
    let (l, u) = numbered d (eqb (codeword d) g) t in
    let h : d < 2 ^ 16 = omega arith in
    let v = ap (verdict code_of_grid) (sym (eqb→eq (codeword d) g u)) ∙ promised.verdicts.unharmed d h in
    (is_solved d g h u, (codes.clean d, has_verdict code_of_grid promised.verdicts g v, sym (named_clean d (number d l))))
right (solves d g) t =
    is_solved d g (ltb→lt d (2 ^ 16) (both_left (ltb d (2 ^ 16)) (eqb (codeword d) g) t)) (both_right (ltb d (2 ^ 16)) (eqb (codeword d) g) t)
right (read w (clean d) p) t =
    let (l, u) = numbered d (mends? w d 0 p) t in
    let (v, q) = near w d 0 p u in
    reads w p (clean d) (codes.clean d) v (sym (named_clean d (number d l))) q
right (read w (blank n) p) t =
    let (v, q) = near w erased n p t in
    reads w p (blank n) (answered erased n) v (sym (named_blank erased n refl)) q
right (read w (mended d zero) p) t = absurd t
right (read w (mended d (suc n)) p) t =
    let (l, u) = numbered d (mends? w d (suc n) p) t in
    let (v, q) = near w d (suc n) p u in
    reads w p (mended d (suc n)) (codes.mended d (suc n)) v (sym (named_mended d (suc n) (number d l))) q
right (read w lost p) t =
    let v = far w (both_left (distant? w 0 8) (eqb p 0) t) in
    reads w p lost codes.lost v refl (promised.verdicts.pattern.none_lost w v ∙ sym (eqb→eq p 0 (both_right (distant? w 0 8) (eqb p 0) t)))
right (distant w d n) t = (distance_is w d n t).1
right (of_block d w) t =
    let h : d < 2 ^ 512 = ltb→lt d (2 ^ 512) (both_left (ltb d (2 ^ 512)) (eqb (block d) w) t) in
    let e : block_of d ≡ w = same_block d h ∙ eqb→eq (block d) w (both_right (ltb d (2 ^ 512)) (eqb (block d) w) t) in (
      subst (blocks.Codeword d) e (block-promised.meets d h),
      has_verdict code_of_block block-promised.verdicts w (ap (verdict code_of_block) (sym e) ∙ block-promised.verdicts.unharmed d h),
    )

each : (cs : List Case) → T (every right? cs) → Hold cs
each [] t = tt
each (c ∷ cs) t = (right c (both_left (right? c) (every right? cs) t), each cs (both_right (right? c) (every right? cs) t))

pub cases_hold : Hold cases
unfolding codeword block stacked right? mends? distant? apart dist ones
cases_hold = each cases tt
