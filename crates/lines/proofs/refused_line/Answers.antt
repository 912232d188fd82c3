-- `lines::refused_line` meets its contract: number, place, line end. Assumes nothing.
use Rattle.std.specs.Prelude.{Option}
use Rattle.std.proofs.Common.{ℕ, ◌++◌, ap₂, subst}
use Rattle.lines.specs.Text.{bytes, labelled, place_text, refused_line}
use Rattle.lines.specs.Steps.{refused_room, Added}
use Rattle.lines.proofs.Adding.{then}
use Rattle.lines.proofs.refused_line.Goals as goal

pub returns : goal.returns
unfolding refused_line labelled
returns c =
    let line = λ (k : ℕ) (p : Option ℕ). labelled "refused " k ++ place_text p ++ bytes "\n" in
    subst (λ bs. Added bs refused_room c.args.text.now c.put.new.text) (ap₂ line c.number.ensures.answer c.place.ensures.answer)
    (then (then c.labelled.ensures c.place-2.ensures) c.put.ensures)
