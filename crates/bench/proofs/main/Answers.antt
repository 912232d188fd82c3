-- `bench::main` is safe: what the call gives is a part of the text. Assumes nothing.
use Rattle.std.proofs.Common.{sym, ap, length-take-le}
use Rattle.lines.specs.Answer.{means}
use Rattle.lines.proofs.Promises.{promised}
use Rattle.bench.proofs.main.Goals as goal

pub slice_bounds-text-end : goal.slice_bounds-text-end
slice_bounds-text-end c = promised.given _ _ _ _ _ c.in-Ok.many c.scrub.ensures (ap means c.in-Ok.is)

pub slice_bounds-write_all-end : goal.slice_bounds-write_all-end
slice_bounds-write_all-end c =
    sym (length-take-le c.in-Ok.many c.scrub.new.text (promised.given _ _ _ _ _ c.in-Ok.many c.scrub.ensures (ap means c.in-Ok.is)))
