-- `grid_code::data_of` meets its contract: it gathers the data. Assumes nothing.
use mathlib.Core.Path.{sym}
use Rattle.grid_code.proofs.Places.{gather_lt, gathered}
use Rattle.grid_code.proofs.data_of.Goals as goal

pub overflow_cast-result : goal.overflow_cast-result
overflow_cast-result c = record { fits = gather_lt c.args.places }

pub returns : goal.returns
returns c = record { answer = sym (gathered c.args.places c.ranges.places.fits) }
