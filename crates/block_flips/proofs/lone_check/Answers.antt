-- `block_flips::lone_check` meets its contract: no other place than the lowest check explains the syndrome. Assumes nothing.
use Rattle.std.specs.Prelude.{Option}
use Rattle.std.specs.Option.{option_map}
use Rattle.std.proofs.Common.{sym}
use mathlib.Core.Path.{subst}
use Rattle.block_code.specs.declared.Checks.{Checks}
use Rattle.block_flips.specs.Steps.{OnlyPlace}
use Rattle.block_flips.specs.declared.Place.{Place}
use Rattle.block_flips.proofs.Naming.{only_check}
use Rattle.block_flips.proofs.Search.{not_alone, no_check}
use Rattle.block_flips.proofs.lone_check.Goals as goal

pub returns-else-explains : goal.returns-else-explains
returns-else-explains c = λ z.
    let s : Checks = c.args.s in
    not_alone s c.in_ok-low.low.index
    (only_check s c.in_ok-low.low.index (sym c.in_ok-low.ensures.lowest) z)
    c.if-explains.ensures

pub returns-in_err-low : goal.returns-in_err-low
returns-in_err-low c = λ z.
    subst (λ (o : Option Place). OnlyPlace c.args.s (option_map (λ p. p.index) o)) (sym c.from_residual.ensures)
    (no_check c.args.s (c.lowest.ensures.none c.in_err-low.was) z)
