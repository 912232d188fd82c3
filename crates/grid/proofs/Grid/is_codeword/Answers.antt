-- `grid::Grid::is_codeword` meets its contract: a codeword is the grid of its data places. Assumes nothing.
use Rattle.grid.proofs.Verdicts.{is_judged}
use Rattle.grid.proofs.Grid.is_codeword.Goals as goal

pub returns : goal.returns
returns c =
    is_judged c.args.self.rows c.from-word.result c.from-word.ensures.answer
    c.places_of.result c.completed.result c.places_of.ensures c.completed.ensures
