-- `lines::title_line` meets its contract: word, title, line end. Assumes nothing.
use Rattle.lines.specs.Text.{title_line}
use Rattle.lines.proofs.Adding.{then}
use Rattle.lines.proofs.title_line.Goals as goal

pub returns : goal.returns
unfolding title_line
returns c = then (then c.put.ensures c.put-2.ensures) c.put-3.ensures
