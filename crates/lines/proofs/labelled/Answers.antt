-- `lines::labelled` meets its contract: the word, then the number. Assumes nothing.
use Rattle.std.proofs.Common.{ℕ, subst, ap, arith, length}
use Rattle.lines.specs.Text.{decimal}
use Rattle.lines.specs.Steps.{Added}
use Rattle.lines.proofs.Adding.{then}
use Rattle.lines.proofs.Digits.{digits_32}
use Rattle.lines.proofs.labelled.Goals as goal

pub decimal-requires : goal.decimal-requires
decimal-requires c =
    let few = digits_32 c.args.n c.ranges.n.fits in
    omega (arith, c.requires, c.put.ensures.few, few, ap (λ (k : ℕ). length (decimal k)) c.from.ensures)

pub returns : goal.returns
returns c =
    let digits = subst (λ k. Added (decimal k) (length (decimal k)) c.put.new.text c.decimal.new.text) c.from.ensures c.decimal.ensures in
    let all = then c.put.ensures digits in
    record { after = all.after; few = omega (arith, all.few, digits_32 c.args.n c.ranges.n.fits) }
