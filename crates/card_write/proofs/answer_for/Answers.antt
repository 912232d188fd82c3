-- `card_write::answer_for` meets its contract: what comes first decides. Assumes nothing.
use Rattle.std.specs.Prelude.{Ok, Err}
use Rattle.std.proofs.Common.{◌∙◌, ℕ, arith, sym, ap}
use Rattle.refusals.specs.declared.Refusal.TheVariants.{Broken}
use Rattle.fields.proofs.Titles.{bad_there, none_bad}
use Rattle.card_write.specs.Calls.{size_written}
use Rattle.card_write.proofs.Writes.{allowed, bad_byte, one_erased, no_room, all_well}
use Rattle.card_write.proofs.answer_for.Goals as goal

pub returns-in-Some : goal.returns-in-Some
returns-in-Some c =
    let title = c.args.title.now in
    let ns = c.args.numbers.now in
    let (here, few) = bad_there title c.in-Some.ensures in
    let fits = allowed title ns (sym c.is_title_length.ensures.answer ∙ c.if-not-is_title_length.false) (omega arith) in
    ap (λ (n : ℕ). Err (Broken n)) (omega (arith, here))
    ∙ bad_byte title ns c.args.room Err (Ok (size_written title ns)) fits (λ e. omega (arith, e, few))

pub returns-then-not-none_erased : goal.returns-then-not-none_erased
returns-then-not-none_erased c =
    let title = c.args.title.now in
    let ns = c.args.numbers.now in
    let fits = allowed title ns (sym c.is_title_length.ensures.answer ∙ c.if-not-is_title_length.false) (omega arith) in
    one_erased title ns c.args.room Err (Ok (size_written title ns)) fits (none_bad title c.in_default.ensures)
    (sym c.none_erased.ensures ∙ c.if-not-none_erased.true)

pub returns-then-room-size : goal.returns-then-room-size
returns-then-room-size c =
    let title = c.args.title.now in
    let ns = c.args.numbers.now in
    let fits = allowed title ns (sym c.is_title_length.ensures.answer ∙ c.if-not-is_title_length.false) (omega arith) in
    no_room title ns c.args.room Err (Ok (size_written title ns)) fits (none_bad title c.in_default.ensures)
    (sym c.none_erased.ensures ∙ c.if-not-none_erased.false) (omega arith)

pub returns : goal.returns
returns c =
    let title = c.args.title.now in
    let ns = c.args.numbers.now in
    let fits = allowed title ns (sym c.is_title_length.ensures.answer ∙ c.if-not-is_title_length.false) (omega arith) in
    ap (λ (n : ℕ). Ok n) (omega arith)
    ∙ all_well title ns c.args.room Err (Ok (size_written title ns)) fits (none_bad title c.in_default.ensures)
    (sym c.none_erased.ensures ∙ c.if-not-none_erased.false) (omega arith)
