-- `block::Block::scrub` meets its contract: where the block is clean, where it is lost, and where the flips that were found are undone and
-- are the pattern. Assumes nothing.
use Rattle.std.proofs.Common.{List, ℕ, sym, refl, ◌∙◌, arith, rules}
use mathlib.Core.Path.{subst}
use Rattle.block_code.proofs.Mixing.{none_set_lem, some_set}
use Rattle.block_words.proofs.Outcomes.{syndrome_all}
use Rattle.block.specs.Calls.{Scrubbed}
use Rattle.block.proofs.Outcomes.{is_clean_lem, undoes}
use Rattle.block.proofs.Block.scrub.Goals as goal

pub returns-then-is_none : goal.returns-then-is_none
returns-then-is_none c =
    let ws : List ℕ = c.args.words.now in
    let s = c.syndrome-syndrome in
    subst (λ r. Scrubbed ws r ws) (sym c.unchanged-then-is_none.ensures)
    (is_clean_lem ws (omega arith, λ i. search rules)
    (sym (syndrome_all s.ensures (omega arith)) ∙ none_set_lem s.result (sym c.is_none.ensures.answer ∙ c.if-is_none.true)))

pub returns-in_default : goal.returns-in_default
returns-in_default c =
    let ws : List ℕ = c.args.words.now in
    let s = c.syndrome-syndrome in
    subst (λ r. Scrubbed ws r ws) (sym c.unchanged-in_default.ensures)
    (undoes ws (omega arith, λ i. search rules) (syndrome_all s.ensures (omega arith))
    (some_set s.result (sym c.is_none.ensures.answer ∙ c.if-is_none.false)) c.in_default.ensures refl refl refl)

pub returns : goal.returns
returns c =
    let s = c.syndrome-syndrome in
    undoes c.args.words.now (omega arith, λ i. search rules) (syndrome_all s.ensures (omega arith))
    (some_set s.result (sym c.is_none.ensures.answer ∙ c.if-is_none.false)) c.in-Some.ensures (sym c.mended.ensures) c.flip_each.ensures
    c.flip_each-2.ensures
