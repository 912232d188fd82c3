-- `card_scrub::scrub_first` meets its contract: a grids field, a block, or the end. Assumes nothing.
use Rattle.std.specs.Prelude.{Option, Some, None}
use Rattle.std.proofs.Common.{◌≢◌, [], ◌≡◌, ℕ, ◌+◌, ◌-◌, ◌++◌, true, List, map, take, drop, sym, ap, ◌∙◌, subst, arith, rules, get_or, Fits, w8}
use Rattle.words.specs.Digits.{Below}
use Rattle.fields.specs.Fields.{is_grids, field_of}
use Rattle.fields.proofs.Fields.{known, value_long}
use Rattle.image.specs.Card.{head, parts_bytes}
use Rattle.image.proofs.Walks.{only_end, passed_over}
use Rattle.fields.specs.declared.Field.{Field}
use Rattle.fields.specs.declared.Field.TheVariants.{Grids, Block}
use Rattle.card_scrub.specs.Steps.{ScrubbedFields}
use Rattle.value_scrub.proofs.Scrubs.{fitting_grids, fitting_block}
use Rattle.card_scrub.specs.Calls.{scrubbed_part, tallies_of}
use Rattle.card_scrub.proofs.Parts.{grids-passed, block-passed}
use Rattle.card_scrub.proofs.scrub_first.Goals as goal

pub overflow_add-size : goal.overflow_add-size
overflow_add-size c = omega (arith, (known c.args.rest.now (sym c.front.ensures.answer ∙ c.in_ok-n.was ∙ ap Some c.in-Grids.is)).0.room, c.requires.few)

pub slice_bounds-grids-end : goal.slice_bounds-grids-end
slice_bounds-grids-end c = (known c.args.rest.now (sym c.front.ensures.answer ∙ c.in_ok-n.was ∙ ap Some c.in-Grids.is)).0.room

pub slice_bounds-block-end : goal.slice_bounds-block-end
slice_bounds-block-end c = (known c.args.rest.now (sym c.front.ensures.answer ∙ c.in_ok-n.was ∙ ap Some c.in-Block.is)).room

pub returns-in-Grids : goal.returns-in-Grids
returns-in-Grids c =
    let s : List ℕ = c.args.rest.now in
    let n = c.in-Grids.n in
    let f = sym c.front.ensures.answer ∙ c.in_ok-n.was ∙ ap Some c.in-Grids.is in
    let small : (i : ℕ) → Fits w8 (get_or s i 0) = λ i. search rules in
    let bytes : Below 8 s = λ i. (small i).fits in
    let field = c.grids-grids in
    let k = known s f in
    let long = value_long s n k.0.room in
    let fits = subst (λ (m : ℕ). is_grids m ≡ true) (sym long) k.1 in
    grids-passed s field.new.value n (3 + n - 3) field.result c.no_blocks.result c.requires bytes f (omega arith) (field.auto.value ∙ long)
    (fitting_grids (take (3 + n - 3) (drop 3 s)) field.new.value field.result fits field.ensures) c.no_blocks.ensures

pub returns-in-Block : goal.returns-in-Block
returns-in-Block c =
    let s : List ℕ = c.args.rest.now in
    let f = sym c.front.ensures.answer ∙ c.in_ok-n.was ∙ ap Some c.in-Block.is in
    let small : (i : ℕ) → Fits w8 (get_or s i 0) = λ i. search rules in
    let bytes : Below 8 s = λ i. (small i).fits in
    let field = c.block-blocks in
    let long = value_long s 76 (known s f).room in
    block-passed s field.new.value field.result c.none.result c.requires bytes f (field.auto.value ∙ long)
    (fitting_block (take 76 (drop 3 s)) field.new.value field.result long field.ensures) c.none.ensures

-- the end, or no field that is scrubbed
module _ (rest : List ℕ) (bytes : Below 8 rest) (f : Option Field) (is : f ≡ field_of rest) (a : (n : ℕ) → f ≢ Some (Grids n))
    (b : f ≢ Some Block) where
  nothing : ScrubbedFields rest (tallies_of []) rest
  unfolding parts_bytes
  nothing = record {
    answer = λ left at ps w. ap tallies_of (sym (only_end at rest ps left f is a b bytes w).0);
    after = λ left at ps w.
        let only = only_end at rest ps left f is a b bytes w in
        only.1 ∙ ap (λ ps. parts_bytes (map scrubbed_part ps) ++ head 127 0) (sym only.0);
  }

pub returns-in-Title : goal.returns-in-Title
returns-in-Title c =
    let s : List ℕ = c.args.rest.now in
    let small : (i : ℕ) → Fits w8 (get_or s i 0) = λ i. search rules in
    let (a, b) = passed_over c.in_ok-n.field-0 c.in-Title.is in
    nothing s (λ i. (small i).fits) (Some c.in_ok-n.field-0) c.in_ok-n.ensures.answer a b

pub returns-in_err-n : goal.returns-in_err-n
returns-in_err-n c =
    let s : List ℕ = c.args.rest.now in
    let small : (i : ℕ) → Fits w8 (get_or s i 0) = λ i. search rules in
    rw c.from_residual.ensures (nothing s (λ i. (small i).fits) None c.in_err-n.ensures.answer (λ n e. cc) (λ e. cc))
