-- `block_flips::attempt` meets its contract. Assumes nothing.
use Rattle.std.proofs.Common.{Some, None, sym, ap, ◌∙◌}
use mathlib.Core.Path.{subst}
use Rattle.block_code.specs.Checks.{mixed, none_set}
use Rattle.block_code.specs.declared.Checks.{Checks}
use Rattle.block_flips.specs.Steps.{OnlyPlace, Attempted}
use Rattle.block_flips.proofs.Search.{tried_one, tried_two, tried_more}
use Rattle.block_flips.proofs.attempt.Goals as goal

pub returns-then-is_none : goal.returns-then-is_none
returns-then-is_none c =
    let s : Checks = c.args.s in
    let p = c.args.p in
    let rest = c.bitxor-rest.ensures.answer ∙ ap (mixed s) c.of_place.ensures.answer in
    tried_one s p.index p.below (sym (c.is_none.ensures.answer ∙ ap none_set rest) ∙ c.if-is_none.true)

pub returns : goal.returns
returns c =
    let s : Checks = c.args.s in
    let p = c.args.p in
    let rest = c.bitxor-rest.ensures.answer ∙ ap (mixed s) c.of_place.ensures.answer in
    subst (Attempted s p.index) (sym c.in_order.ensures)
    (tried_two s p.index c.in_ok-alone.field-0.index p.below (sym (c.is_none.ensures.answer ∙ ap none_set rest) ∙ c.if-is_none.false)
    (subst (λ (k : Checks). OnlyPlace k (Some c.in_ok-alone.field-0.index)) rest c.in_ok-alone.ensures))

pub returns-in_err-alone : goal.returns-in_err-alone
returns-in_err-alone c =
    let s : Checks = c.args.s in
    let p = c.args.p in
    let rest = c.bitxor-rest.ensures.answer ∙ ap (mixed s) c.of_place.ensures.answer in
    subst (Attempted s p.index) (sym c.from_residual.ensures)
    (tried_more s p.index (sym (c.is_none.ensures.answer ∙ ap none_set rest) ∙ c.if-is_none.false)
    (subst (λ (k : Checks). OnlyPlace k None) rest c.in_err-alone.ensures))
