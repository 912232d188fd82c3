-- `block_flips::nearest` meets its contract: a guess that explains the syndrome, or none does. Assumes nothing.
use Rattle.std.proofs.Common.{◌≡◌, ℕ, Option, Some, None, sym, ap, ◌∙◌, arith}
use Rattle.std.specs.Option.{unwrap_or, option_map}
use mathlib.Core.Path.{refl, subst}
use Rattle.block_code.specs.declared.Checks.{Checks}
use Rattle.block_flips.specs.Steps.{RuledOut, Nearest}
use Rattle.block_flips.specs.declared.Place.{Place}
use Rattle.block_flips.proofs.Guessing.{nothing}
use Rattle.block_flips.proofs.Search.{same_number, not_both, none_found}
use Rattle.block_flips.proofs.nearest.Goals as goal

-- the place that is chosen, where there is one, is the first guess
guess : (o : Option Place) (p : Place) (q : ℕ) → option_map (λ x. x.index) o ≡ Some q → (unwrap_or o p).index ≡ q
guess (Some x) p q e = same_number e
guess None p q e = absurd (not_both refl e)

pub returns : goal.returns
returns c =
    let s : Checks = c.args.s in
    let check = c.in_ok-check.check in
    let first = c.unwrap_or in
    record {
      answer =
          none_found s _ c.chosen.ensures
          (λ q e. subst (RuledOut s) (ap (λ (p : Place). p.index) first.ensures ∙ guess c.chosen.result check q e)
          (c.loop-p.invariant 0 first.result (omega arith) refl))
          (subst (RuledOut s) (sym c.in_ok-check.ensures.lowest) (c.loop-p.invariant 1 check (omega arith) refl));
    }

pub returns-in_err-check : goal.returns-in_err-check
returns-in_err-check c =
    let s : Checks = c.args.s in
    let n = c.lowest.ensures.none c.in_err-check.was in
    subst (Nearest s) (sym c.from_residual.ensures)
    (record {
      answer =
          none_found s None (nothing s n) (λ q e. absurd (not_both refl e))
          (record { alone = λ h. absurd (omega arith); paired = λ q h. absurd (omega arith) });
    })
