-- `image::title` meets its contract. Assumes nothing.
use Rattle.std.proofs.Common.{ℕ, List, arith, sym, ap, ◌∙◌}
use Rattle.fields.specs.Fields.{field_of}
use Rattle.fields.proofs.Fields.{value_is, known}
use Rattle.image.specs.Calls.{title_in}
use Rattle.image.proofs.Checking.{title_there}
use Rattle.image.proofs.title.Goals as goal

pub overflow_add-result : goal.overflow_add-result
overflow_add-result c = omega (arith, (known c.args.image.now (title_there (field_of c.args.image.now) c.in-Some.ensures)).0.room)

pub slice_bounds-result-end : goal.slice_bounds-result-end
slice_bounds-result-end c = (known c.args.image.now (title_there (field_of c.args.image.now) c.in-Some.ensures)).0.room

pub returns-in-Some : goal.returns-in-Some
returns-in-Some c =
    let s : List ℕ = c.args.image.now in
    let there = title_there (field_of s) c.in-Some.ensures in
    record { answer = value_is s c.in-Some.n (known s there).0.size_is ∙ sym (ap (title_in s) there) }
