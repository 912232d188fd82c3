-- `lines::place` meets its contract. Assumes nothing.
use Rattle.std.proofs.Common.{subst, sym, arith}
use Rattle.lines.specs.Text.{labelled, place_text}
use Rattle.lines.specs.Steps.{place_room, Added}
use Rattle.lines.proofs.Adding.{then}
use Rattle.lines.proofs.Digits.{digits_64}
use Rattle.lines.proofs.place.Goals as goal

pub decimal-requires : goal.decimal-requires
decimal-requires c = omega (arith, c.requires, c.put.ensures.few, digits_64 c.in-Some.n (omega arith))

pub returns-in-Some : goal.returns-in-Some
unfolding labelled
returns-in-Some c =
    let all = then c.put.ensures c.decimal.ensures in
    subst (λ p. Added (place_text p) place_room c.args.text.now c.decimal.new.text) (sym c.in-Some.is)
    (record { after = all.after; few = omega (arith, all.few, digits_64 c.in-Some.n (omega arith)) })
