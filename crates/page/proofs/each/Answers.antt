-- `page::each` meets its contract: grid after grid, by the laws of a turn. Assumes nothing.
use mathlib.Core.Path.{◌≡◌, sym, ap, ◌∙◌}
use mathlib.Core.List.{List}
use Prim.Native.Nat.{ℕ, ◌+◌, ◌≤◌, ◌<◌}
use native.Mathlib.Omega.{arith}
use lib.ListN.{length, set}
use lib.Seq.{take_all}
use Rattle.words.proofs.Lists.{partly, partly_none, partly_all}
use Rattle.codes.specs.Verdict.{scrubbed}
use Rattle.codes.specs.Tally.{sum_by}
use Rattle.grid_code.specs.Code.{code_of_grid}
use Rattle.page.specs.Tally.{last_from, grid_tally}
use Rattle.page.proofs.Laws.{turn_page, turn_tally, turn_roomy}
use Rattle.page.proofs.each.Goals as goal
use Rattle.page.proofs.each.Goals.{then-step-word, else-step-word}

pub loop-word-init : goal.loop-word-init
unfolding sum_by last_from
loop-word-init c = (partly_none (scrubbed code_of_grid) _, c.none-tally.ensures.answer)

pub with_grid-step-requires : goal.with_grid-step-requires
with_grid-step-requires c =
    let l = c.loop-word in
    turn_roomy c.args.page.now l.word-items l.word-index l.tally (omega arith) (omega arith) l.invariant.0 l.invariant.1

pub loop-word-preserved : goal.loop-word-preserved
loop-word-preserved c =
    let l = c.loop-word in
    let p : List ℕ = c.args.page.now in
    let step = c.with_grid-step in
    let few : length p ≤ 512 = omega arith in
    let more : l.word-index < length p = omega arith in
    let written : set l.word-items l.word-index step.result.word ≡ partly (scrubbed code_of_grid) (l.word-index + 1) p =
    turn_page p l.word-items l.word-index l.tally more few l.invariant.0 l.invariant.1 step.result.word step.ensures.0 in
    let page_is : c.if-step-word.word-items ≡ set l.word-items l.word-index step.result.word =
    elim c.if-step-word.branch [
      | then-step-word w ↦ w.word-items-is
      | else-step-word w ↦ w.word-items-is ∙ sym (ap (set l.word-items l.word-index) w.if-step-word.false)
    ] in (
      page_is ∙ written,
      step.ensures.1 ∙ turn_tally p l.word-items l.word-index l.tally more few l.invariant.0 l.invariant.1,
    )

pub returns : goal.returns
returns c =
    let l = c.loop-word in
    let p : List ℕ = c.args.page.now in
    let all : length p ≤ l.word-index = omega arith in
    (l.invariant.1 ∙ ap grid_tally (take_all l.word-index p all), l.invariant.0 ∙ partly_all (scrubbed code_of_grid) p l.word-index all)
