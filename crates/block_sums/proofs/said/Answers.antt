-- `block_sums::said` meets its contract: all of it is known of the number that the 32 words make. Assumes nothing.
use Rattle.std.proofs.Common.{◌≡◌, ℕ, ◌*◌, ◌/◌, ◌%◌, ◌^◌, ◌≤◌, ◌<◌, true, List, [], ◌∷◌, length, get_or, take, drop, sym, ap, ◌∙◌, arith, length-drop}
use Rattle.std.specs.Simd.{first_chunks}
use Prim.Native.Nat.{zero, suc}
use native.Mathlib.Nat.{mod-lt, not-suc-le-zero, le_of_suc-le-suc}
use lib.Count.{ones}
use lib.Dec.{leb, lit<}
use lib.Pow.{pow_pos}
use borrow.Author.Tests.{le-leb}
use Rattle.words.specs.Digits.{digits, joined, Below}
use Rattle.words.proofs.Bit.{odd_lt}
use Rattle.words.proofs.Digits.{digits_low, digits-take, joined-digits, joined-drop}
use Rattle.words.proofs.Bytes.{below_drop}
use Rattle.block_code.specs.Code.{odd, columns_of}
use Rattle.block_code.specs.Checks.{said_by}
use Rattle.block_sums.proofs.Sums.{upper, halves, all_columns, with_system}
use Rattle.block_sums.proofs.said.Goals as goal

-- number k of four words each is the number of chunk k
chunk : (n m k : ℕ) (xs : List ℕ) → k < n → k < m → 4 * m ≤ length xs → Below 16 xs
    → joined 16 (get_or (first_chunks 4 m xs) k []) ≡ get_or (digits 64 n (joined 16 xs)) k 0
chunk zero m k xs l h e small = absurd (not-suc-le-zero l)
chunk (suc n) zero k xs l h e small = absurd (not-suc-le-zero h)
chunk (suc n) (suc m) zero xs l h e small =
    let x : ℕ = joined 16 xs in
    ap (joined 16) (sym (digits_low 16 4 x ∙ digits-take 16 4 xs (omega arith) small)) ∙ joined-digits 16 4 (x % 2 ^ 64) (mod-lt x (pow_pos 64))
chunk (suc n) (suc m) (suc k) xs l h e small =
    chunk n m k (drop 4 xs) (le_of_suc-le-suc l) (le_of_suc-le-suc h) (omega (arith, length-drop 4 xs)) (below_drop 16 4 xs small)
    ∙ ap (λ (x : ℕ). get_or (digits 64 n x) k 0) (sym (joined-drop 16 4 xs small))

pub returns : goal.returns
returns c =
    let ws : List ℕ = c.args.words.now in
    let m : ℕ = length ws / 4 in
    let enough : 8 ≤ m = omega (arith, c.as_chunks.ensures.front_len, c.in-len8-up.len_at_least) in
    let every : leb 32 (length ws) ≡ true = le-leb 32 (length ws) (omega arith) in
    let small : Below 16 ws = λ i. omega (arith, c.type_inv.words i) in
    let w : ℕ = joined 16 ws % 2 ^ 512 in
    let low : w < 2 ^ 512 = mod-lt (joined 16 ws) (pow_pos 512) in
    let words : digits 16 32 w ≡ take 32 ws = digits_low 16 32 (joined 16 ws) ∙ digits-take 16 32 ws (omega arith) small in
    let is : (k : ℕ) → k < 8 → joined 16 (get_or c.as_chunks.result.0.now k []) ≡ get_or (digits 64 8 (joined 16 ws)) k 0 =
    λ k l. ap (λ (cs : List (List ℕ)). joined 16 (get_or cs k [])) c.as_chunks.ensures.front
    ∙ chunk 8 m k ws l (omega arith) (omega arith) small in
    let read : List ℕ =
    c.number.result ∷ c.number-2.result ∷ c.number-3.result ∷ c.number-4.result ∷ c.number-5.result ∷ c.number-6.result ∷ c.number-7.result
    ∷ c.number-8.result ∷ [] in
    let parts : digits 64 8 w ≡ read =
    digits_low 64 8 (joined 16 ws)
    ∙ (λ i. sym (c.number.ensures ∙ is 0 (lit< tt)) i ∷ sym (c.number-2.ensures ∙ is 1 (lit< tt)) i ∷ sym (c.number-3.ensures ∙ is 2 (lit< tt)) i
    ∷ sym (c.number-4.ensures ∙ is 3 (lit< tt)) i ∷ sym (c.number-5.ensures ∙ is 4 (lit< tt)) i ∷ sym (c.number-6.ensures ∙ is 5 (lit< tt)) i
    ∷ sym (c.number-7.ensures ∙ is 6 (lit< tt)) i ∷ sym (c.number-8.ensures ∙ is 7 (lit< tt)) i ∷ []) in
    let part : (j : ℕ) → get_or read j 0 ≡ get_or (digits 64 8 w) j 0 = λ j. ap (λ (l : List ℕ). get_or l j 0) (sym parts) in
    let rows = halves w low odd 0 32 (λ x l. odd_lt (ones x)) (omega arith)
    (c.rows_of.ensures (upper.at w) (ap (drop 4) parts)) (c.rows_of-2.ensures w (ap (take 4) parts)) in
    let columns : c.columns_of-columns.result ≡ columns_of (digits 16 32 w) =
    c.columns_of-columns.ensures ∙ rw (part 0, part 1, part 2, part 3, part 4, part 5, part 6, part 7) (all_columns w low) in
    let diagonals = with_system w low columns (halves w low (λ x. x) 15 64 (λ x l. l) (omega arith)
    (c.diagonals_of.ensures (upper.at w) (ap (drop 4) parts)) (c.diagonals_of-2.ensures w (ap (take 4) parts))) in
    record { answer = rw (every, c.from-system.ensures) ((λ i. record { rows = rows i; columns = columns i; diagonals = diagonals i }) ∙ ap said_by words) }
