-- `grid_columns::three` meets its contract: a check in which one of rows j and k takes part has the error of one of them. Assumes nothing.
use Rattle.std.proofs.Common.{◌≡◌, ℕ, ◌*◌, ◌/◌, ◌^◌, ◌<◌, sym, ap, ap₂, subst, ◌∙◌, rules}
use mathlib.Core.Logic.{⊎_elim}
use lib.Bits.{bit_and, bit_xor, differ, and_mask}
use Rattle.words.specs.Word.{bit}
use Rattle.words.proofs.Bit.{bit_lt, bit-cases, bit-xor, differ_lt}
use Rattle.words.proofs.Digits.{digits_below}
use Rattle.grid_code.proofs.Checks.{checks, checks_is}
use Rattle.grid_columns.specs.Steps.{Paired}
use Rattle.grid_columns.proofs.Errors.{check, parts_of, three_by_j, three_by_k}
use Rattle.grid_columns.proofs.three.Goals as goal

byte : (e at : ℕ) {r : ℕ} → r ≡ check e at → r < 256
byte e at p = subst (λ (x : ℕ). x < 256) (sym p) (digits_below 8 4 e at)

-- the bit that the code tests
tested : (i j at : ℕ) {a b : ℕ} → a ≡ parts_of i → b ≡ parts_of j
    → bit_and (bit_xor a b / 2 ^ at) 1 ≡ differ (bit (parts_of i) at) (bit (parts_of j) at)
tested i j at {a} {b} p q =
    and_mask (bit_xor a b / 2 ^ at) 1 ∙ ap (λ (x : ℕ). bit x at) (ap₂ bit_xor p q) ∙ bit-xor (parts_of i) (parts_of j) at

pub returns-then-parts-at-eq1 : goal.returns-then-parts-at-eq1
returns-then-parts-at-eq1 c =
    let error = c.of-error in
    let e = c.column_checks in
    let at = c.check_apart-at in
    let even = c.evened-even in
    let rows : ℕ = c.args.rows in
    let i = c.args.i in
    let j = c.args.j in
    let k = c.args.k in
    let h : rows < 2 ^ 64 = search rules in
    let l : even.result < 2 ^ 64 = search rules in
    three_by_j rows i.index j.index k.index at.result.index error.result h i.below j.below k.below at.result.below
    (byte e.result at.result.index error.ensures) at.ensures
    (error.ensures
    ∙ ap (λ (x : ℕ). check x at.result.index) (checks_is even.result e.result l e.ensures ∙ ap checks.at even.ensures))
    c.requires.1
    (sym (tested i.index j.index at.result.index c.parts.ensures c.parts-2.ensures) ∙ c.if-parts-at-eq1.true)
    c.paired.result
    (subst (λ (x : ℕ). Paired x i.index k.index c.paired.result)
    (c.both_flipped.ensures ∙ ap (λ (x : ℕ). bit_xor (bit_xor x (error.result * 2 ^ (8 * i.index))) (error.result * 2 ^ (8 * j.index))) even.ensures)
    c.paired.ensures)

pub returns : goal.returns
returns c =
    let error = c.of-error in
    let e = c.column_checks in
    let at = c.check_apart-at in
    let even = c.evened-even in
    let rows : ℕ = c.args.rows in
    let i = c.args.i in
    let j = c.args.j in
    let k = c.args.k in
    let h : rows < 2 ^ 64 = search rules in
    let l : even.result < 2 ^ 64 = search rules in
    three_by_k rows i.index j.index k.index at.result.index error.result h i.below j.below k.below at.result.below
    (byte e.result at.result.index error.ensures) at.ensures
    (error.ensures
    ∙ ap (λ (x : ℕ). check x at.result.index) (checks_is even.result e.result l e.ensures ∙ ap checks.at even.ensures))
    c.requires.0
    (⊎_elim (λ z. z)
    (λ o. absurd (c.if-parts-at-eq1.false (tested i.index j.index at.result.index c.parts.ensures c.parts-2.ensures ∙ o)))
    (bit-cases (differ (bit (parts_of i.index) at.result.index) (bit (parts_of j.index) at.result.index))
    (differ_lt (bit (parts_of i.index) at.result.index) (bit (parts_of j.index) at.result.index) (bit_lt (parts_of i.index) at.result.index)
    (bit_lt (parts_of j.index) at.result.index))))
    c.paired-2.result
    (subst (λ (x : ℕ). Paired x i.index j.index c.paired-2.result)
    (c.both_flipped-2.ensures ∙ ap (λ (x : ℕ). bit_xor (bit_xor x (error.result * 2 ^ (8 * i.index))) (error.result * 2 ^ (8 * k.index))) even.ensures)
    c.paired-2.ensures)
