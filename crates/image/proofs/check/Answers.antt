-- `image::check` meets its contract. Assumes nothing.
use Rattle.std.specs.Prelude.{Err}
use Rattle.std.proofs.Common.{◌+◌, ℕ, List, drop, arith, sym, ◌∙◌}
use Rattle.std.proofs.lemmas.Result.{err_from_is_err_and}
use Rattle.refusals.specs.declared.Refusal.TheVariants.{Broken}
use Rattle.fields.specs.Fields.{value, field_of}
use Rattle.fields.proofs.Fields.{known}
use Rattle.image.specs.Card.{walk}
use Rattle.image.proofs.Checking.{title_there, title_absent, ok_given, err_given, checked_found, grids_and_blocks}
use Rattle.image.proofs.Walking.{card_titled, untitled, after_whole}
use Rattle.image.proofs.check.Goals as goal

pub returns-in_err-n : goal.returns-in_err-n
returns-in_err-n c =
    let s : List ℕ = c.args.image.now in
    let given = err_from_is_err_and c.from_residual.result c.from_residual.ensures.1 in
    let (none, why) = err_given c.title_size.result (Broken 0) c.in_err-n.field-0.0 c.in_err-n.ensures.value in
    let absent = untitled s (title_absent (field_of s) (none ∙ c.title_size.ensures)) in
    rw (given.1, given.2, why) (record { answer = sym (checked_found s Err grids_and_blocks (omega arith) absent) })

pub overflow_add-n : goal.overflow_add-n
overflow_add-n c =
    let s : List ℕ = c.args.image.now in
    let there = title_there (field_of s) (ok_given c.title_size.result (Broken 0) c.in_ok-n.ensures.value ∙ c.title_size.ensures) in
    omega (arith, (known s there).0.room)

pub walk-requires : goal.walk-requires
walk-requires c =
    let s : List ℕ = c.args.image.now in
    let there = title_there (field_of s) (ok_given c.title_size.result (Broken 0) c.in_ok-n.ensures.value ∙ c.title_size.ensures) in
    ((known s there).0.room, omega arith)

pub returns : goal.returns
returns c =
    let s : List ℕ = c.args.image.now in
    let n : ℕ = c.in_ok-n.n in
    let there = title_there (field_of s) (ok_given c.title_size.result (Broken 0) c.in_ok-n.ensures.value ∙ c.title_size.ensures) in
    record {
      answer =
          c.walk.ensures
          ∙ sym (checked_found s Err grids_and_blocks (omega arith) (card_titled s n there)
          ∙ after_whole (value s) (walk 16 (3 + n) (drop (3 + n) s)));
    }
