-- `grid_columns::Aside::new` keeps its type's promise: no other place is left. Assumes nothing.
use Rattle.grid_columns.proofs.Deciding.{marked}
use Rattle.grid_columns.proofs.Aside.new.Goals as goal

pub invariant_of-result : goal.invariant_of-result
invariant_of-result c = record { only_marks = marked c.args.marks c.ranges.marks.fits }
