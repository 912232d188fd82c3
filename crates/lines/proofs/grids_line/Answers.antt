-- `lines::grids_line` meets its contract: one number behind the other. Assumes nothing.
use Rattle.lines.specs.Text.{labelled, grids_line}
use Rattle.lines.proofs.Adding.{then}
use Rattle.lines.proofs.grids_line.Goals as goal

pub returns : goal.returns
unfolding grids_line labelled
returns c =
    let to_two = then c.labelled.ensures c.labelled-2.ensures in
    let to_three = then to_two c.labelled-3.ensures in
    let to_four = then to_three c.labelled-4.ensures in
    let to_five = then to_four c.labelled-5.ensures in
    then (then to_five c.labelled-6.ensures) c.put.ensures
