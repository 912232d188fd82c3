-- `image::next` meets its contract: one step of the definition's. Assumes nothing.
use Rattle.std.proofs.Common.{◌≡◌, ◌-◌, ℕ, List, length, take, drop, length-drop, arith, sym, ap, ◌∙◌, subst}
use Rattle.std.specs.Prelude.{Option, Some, None, Ok, Err, ok_or}
use Rattle.words.proofs.Lists.{part_behind, length_part}
use Rattle.std.proofs.lemmas.Result.{err_from_is_err_and}
use Rattle.refusals.specs.declared.Refusal.{Refusal}
use Rattle.refusals.specs.declared.Refusal.TheVariants.{Broken}
use Rattle.fields.specs.declared.Field.{Field}
use Rattle.fields.specs.Fields.{field_of}
use Rattle.fields.proofs.Fields.{known}
use Rattle.image.proofs.Checking.{ok_given, err_given}
use Rattle.image.proofs.Stepping.{Onwards, behind_grids, behind_block, room_grids, room_block, more_behind, second_title, rule_fails}
use Rattle.image.proofs.next.Goals as goal

-- the field that stands behind the offset, where there is one, ..
stands : (at : ℕ) (s : List ℕ) {o : Option Field} (why : Refusal) (f : Field) {g : Field} → o ≡ field_of (take (length s - at) (drop at s))
    → Ok f ≡ ok_or o why → f ≡ g → field_of (drop at s) ≡ Some g
stands at s {o} why f e i j = sym (ap field_of (part_behind at s)) ∙ sym e ∙ sym (ok_given o why i) ∙ ap Some j

-- .. and where there is none
fails : (at : ℕ) (s : List ℕ) {o : Option Field} (why w : Refusal) → o ≡ field_of (take (length s - at) (drop at s)) → Err w ≡ ok_or o why
    → (field_of (drop at s) ≡ None) × (w ≡ why)
fails at s {o} why w e i =
    let (none, same) = err_given o why w i in (sym (ap field_of (part_behind at s)) ∙ sym e ∙ sym none, same)

pub returns-in_err-n : goal.returns-in_err-n
returns-in_err-n c =
    let given = err_from_is_err_and c.from_residual.result c.from_residual.ensures.1 in
    let (none, why) = fails c.args.p.at c.args.image.now (Broken c.args.p.at) c.in_err-n.field-0.0 c.front.ensures.answer c.in_err-n.ensures.value in
    rw (given.1, given.2, why) (rule_fails c.args.image.now c.args.p c.requires none)

pub overflow_add-n : goal.overflow_add-n
overflow_add-n c =
    let f = stands c.args.p.at c.args.image.now (Broken c.args.p.at) c.in_ok-n.field-0 c.front.ensures.answer c.in_ok-n.ensures.value c.in-Grids.is in
    omega (arith, (known (drop c.args.p.at c.args.image.now) f).0.room, length-drop c.args.p.at c.args.image.now)

pub behind-requires : goal.behind-requires
behind-requires c =
    room_grids c.args.image.now c.args.p c.requires c.in-Grids.n
    (stands c.args.p.at c.args.image.now (Broken c.args.p.at) c.in_ok-n.field-0 c.front.ensures.answer c.in_ok-n.ensures.value c.in-Grids.is)

pub returns-in_err-behind-in-Grids : goal.returns-in_err-behind-in-Grids
returns-in_err-behind-in-Grids c =
    let given = err_from_is_err_and c.from_residual-in_err-behind-in-Grids.result c.from_residual-in_err-behind-in-Grids.ensures.1 in
    let f = stands c.args.p.at c.args.image.now (Broken c.args.p.at) c.in_ok-n.field-0 c.front.ensures.answer c.in_ok-n.ensures.value c.in-Grids.is in
    rw (given.1, given.2)
    (subst (Onwards c.args.image.now c.args.p) (sym c.in_err-behind-in-Grids.ensures) (behind_grids c.args.image.now c.args.p c.requires c.in-Grids.n f))

pub behind-requires-in-Block : goal.behind-requires-in-Block
behind-requires-in-Block c =
    room_block c.args.image.now c.args.p c.requires
    (stands c.args.p.at c.args.image.now (Broken c.args.p.at) c.in_ok-n.field-0 c.front.ensures.answer c.in_ok-n.ensures.value c.in-Block.is)

pub returns-in_err-behind-in-Block : goal.returns-in_err-behind-in-Block
returns-in_err-behind-in-Block c =
    let given = err_from_is_err_and c.from_residual-in_err-behind-in-Block.result c.from_residual-in_err-behind-in-Block.ensures.1 in
    let f = stands c.args.p.at c.args.image.now (Broken c.args.p.at) c.in_ok-n.field-0 c.front.ensures.answer c.in_ok-n.ensures.value c.in-Block.is in
    rw (given.1, given.2)
    (subst (Onwards c.args.image.now c.args.p) (sym c.in_err-behind-in-Block.ensures) (behind_block c.args.image.now c.args.p c.requires f))

pub returns-in_ok-behind-in-Grids : goal.returns-in_ok-behind-in-Grids
returns-in_ok-behind-in-Grids c =
    let f = stands c.args.p.at c.args.image.now (Broken c.args.p.at) c.in_ok-n.field-0 c.front.ensures.answer c.in_ok-n.ensures.value c.in-Grids.is in
    subst (Onwards c.args.image.now c.args.p) (sym c.in_ok-behind-in-Grids.ensures) (behind_grids c.args.image.now c.args.p c.requires c.in-Grids.n f)

pub returns-in_ok-behind-in-Block : goal.returns-in_ok-behind-in-Block
returns-in_ok-behind-in-Block c =
    let f = stands c.args.p.at c.args.image.now (Broken c.args.p.at) c.in_ok-n.field-0 c.front.ensures.answer c.in_ok-n.ensures.value c.in-Block.is in
    subst (Onwards c.args.image.now c.args.p) (sym c.in_ok-behind-in-Block.ensures) (behind_block c.args.image.now c.args.p c.requires f)

pub returns-else-rest-eq-HEAD : goal.returns-else-rest-eq-HEAD
returns-else-rest-eq-HEAD c =
    let l = length_part c.args.p.at c.args.image.now in
    more_behind c.args.image.now c.args.p c.requires
    (stands c.args.p.at c.args.image.now (Broken c.args.p.at) c.in_ok-n.field-0 c.front.ensures.answer c.in_ok-n.ensures.value c.in-End.is)
    (λ e. c.if-rest-eq-HEAD.false (omega (arith, e, l, length-drop c.args.p.at c.args.image.now)))

pub returns-in-Title : goal.returns-in-Title
returns-in-Title c =
    second_title c.args.image.now c.args.p c.requires _
    (stands c.args.p.at c.args.image.now (Broken c.args.p.at) c.in_ok-n.field-0 c.front.ensures.answer c.in_ok-n.ensures.value c.in-Title.is)
