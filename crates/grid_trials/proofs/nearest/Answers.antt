-- `grid_trials::nearest` meets its contract: the repaired rows decide, or the trials do. Assumes nothing.
use mathlib.Core.List.{List}
use Prim.Native.Nat.{ℕ}
use native.Mathlib.Omega.{arith}
use lib.ListN.{get_or}
use mir.Syntax.{w8}
use mir.Val.{Fits}
use borrow.Author.Rules.{rules}
use Rattle.words.specs.Word.{dist}
use Rattle.grid_trials.proofs.Decoder.{beyond, within, decided}
use Rattle.grid_trials.proofs.nearest.Goals as goal

pub returns-then-needed-gt-RADIUS : goal.returns-then-needed-gt-RADIUS
unfolding dist
returns-then-needed-gt-RADIUS c =
    let rows : List ℕ = c.args.rows in
    let small : (i : ℕ) → Fits w8 (get_or rows i 0) = λ i. search rules in
    let word = c.number-word in
    beyond rows (search rules) (λ i. (small i).fits) word.result c.number-repaired.result c.repaired.result word.ensures
    c.number-repaired.ensures c.repaired.ensures c.if-needed-gt-RADIUS.true

pub returns-then-hold : goal.returns-then-hold
unfolding dist
returns-then-hold c =
    let rows : List ℕ = c.args.rows in
    let small : (i : ℕ) → Fits w8 (get_or rows i 0) = λ i. search rules in
    let word = c.number-word in
    within rows (search rules) (λ i. (small i).fits) word.result c.number-repaired.result c.repaired.result word.ensures
    c.number-repaired.ensures c.repaired.ensures (omega (arith, c.if-needed-gt-RADIUS.false)) (c.hold.ensures.yes c.if-hold.true)

pub returns : goal.returns
returns c =
    let rows : List ℕ = c.args.rows in
    let small : (i : ℕ) → Fits w8 (get_or rows i 0) = λ i. search rules in
    let word = c.number-word in
    decided rows (search rules) (λ i. (small i).fits) word.result c.number-repaired.result c.repaired.result word.ensures
    c.number-repaired.ensures c.repaired.ensures c.trials.result c.trials.ensures
