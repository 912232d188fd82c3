-- `block_words::held` meets its contract: six words side by side. Assumes nothing.
use Rattle.std.proofs.Common.{◌≡◌, ℕ, ◌+◌, ◌*◌, ◌/◌, ◌%◌, ◌^◌, ◌≤◌, ◌<◌, List, length, get_or, drop, bit_or, sym, ap, ◌∙◌, arith, rules}
use Prim.Native.Nat.{suc}
use lib.Dec.{lit<}
use Rattle.words.specs.Digits.{joined, Below}
use Rattle.words.proofs.Digits.{joined-drop, joined_next, side_by_side}
use Rattle.block_code.specs.Checks.{held_by}
use Rattle.block_words.proofs.held.Goals as goal

-- what the number holds, by its words
holds : (ws : List ℕ) → 38 ≤ length ws → Below 16 ws
    → held_by (joined 16 ws) ≡ record {
      rows = get_or ws 33 0 * 2 ^ 16 + get_or ws 32 0;
      columns = get_or ws 34 0;
      diagonals = (get_or ws 37 0 * 2 ^ 16 + get_or ws 36 0) * 2 ^ 16 + get_or ws 35 0;
    }
holds ws n h = λ i. record { rows = rows i; columns = columns i; diagonals = diagonals i }
  where
    next : (k : ℕ) → k < 38 → joined 16 (drop k ws) ≡ joined 16 (drop (suc k) ws) * 2 ^ 16 + get_or ws k 0
    next k l = joined_next 16 k ws (omega arith)

    rows : joined 16 ws / 2 ^ 512 % 2 ^ 32 ≡ get_or ws 33 0 * 2 ^ 16 + get_or ws 32 0
    rows = ap (λ (x : ℕ). x % 2 ^ 32) (joined-drop 16 32 ws h) ∙ omega (arith, next 32 (lit< tt), next 33 (lit< tt), h 32, h 33)

    columns : joined 16 ws / 2 ^ 544 % 2 ^ 16 ≡ get_or ws 34 0
    columns = ap (λ (x : ℕ). x % 2 ^ 16) (joined-drop 16 34 ws h) ∙ omega (arith, next 34 (lit< tt), h 34)

    diagonals : joined 16 ws / 2 ^ 560 % 2 ^ 48 ≡ (get_or ws 37 0 * 2 ^ 16 + get_or ws 36 0) * 2 ^ 16 + get_or ws 35 0
    diagonals =
        ap (λ (x : ℕ). x % 2 ^ 48) (joined-drop 16 35 ws h)
        ∙ omega (arith, next 35 (lit< tt), next 36 (lit< tt), next 37 (lit< tt), h 35, h 36, h 37)

pub returns : goal.returns
returns c =
    let ws : List ℕ = c.args.words.now in
    let small : (i : ℕ) → get_or ws i 0 < 2 ^ 16 = λ i. search rules in
    let rows = side_by_side 16 16 (small 33) (small 32) in
    let middle : get_or ws 36 0 * 2 ^ 16 < 2 ^ 32 = omega (arith, small 36) in
    let upper : bit_or (get_or ws 37 0 * 2 ^ 32 % 2 ^ 64) (get_or ws 36 0 * 2 ^ 16 % 2 ^ 64) ≡ (get_or ws 37 0 * 2 ^ 16 + get_or ws 36 0) * 2 ^ 16 % 2 ^ 64 =
    ap (bit_or (get_or ws 37 0 * 2 ^ 32 % 2 ^ 64)) (omega (arith, small 36)) ∙ side_by_side 32 32 {a = get_or ws 37 0} (omega (arith, small 37)) middle
    ∙ omega (arith, small 37, small 36) in
    let diagonals =
    ap (λ (x : ℕ). bit_or x (get_or ws 35 0)) upper
    ∙ side_by_side 48 16 {a = get_or ws 37 0 * 2 ^ 16 + get_or ws 36 0} (omega (arith, small 37, small 36)) (small 35) in
    rw (c.from.ensures, c.from-2.ensures, c.from-3.ensures, c.from-4.ensures, c.from-5.ensures)
    ((λ i. record { rows = rows i; columns = get_or ws 34 0; diagonals = diagonals i }) ∙ sym (holds ws (omega arith) small))
