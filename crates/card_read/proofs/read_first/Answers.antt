-- `card_read::read_first` meets its contract: a grids field, a block, or the end. Assumes nothing.
use Rattle.std.specs.Prelude.{Option, Some, None}
use Rattle.std.proofs.Common.{◌-◌, ◌+◌, ℕ, List, sym, ap, ◌∙◌, arith, take, drop, ◌≡◌, ◌≢◌}
use Rattle.words.specs.Digits.{Below}
use Rattle.words.specs.Bytes.{laid}
use Rattle.words.proofs.Bytes.{laid_none}
use Rattle.fields.proofs.Fields.{known, value_is}
use Rattle.image.specs.Card.{grids_in}
use Rattle.image.proofs.Walks.{only_end, passed_over}
use Rattle.fields.specs.declared.Field.{Field}
use Rattle.fields.specs.declared.Field.TheVariants.{Grids, Block}
use Rattle.fields.specs.Fields.{field_of}
use Rattle.card_read.specs.Steps.{ReadsGrids}
use Rattle.value_read.specs.Shown.{data_of_grids, flips_of_grids}
use Rattle.card_read.proofs.Turns.{grids-passed, block-passed}
use Rattle.card_read.proofs.read_first.Goals as goal

pub overflow_add-size : goal.overflow_add-size
overflow_add-size c = omega (arith, (known c.args.rest.now (sym c.front.ensures.answer ∙ c.in_ok-n.was ∙ ap Some c.in-Grids.is)).0.room, c.requires.walks.few)

pub slice_bounds-grids-end : goal.slice_bounds-grids-end
slice_bounds-grids-end c = (known c.args.rest.now (sym c.front.ensures.answer ∙ c.in_ok-n.was ∙ ap Some c.in-Grids.is)).0.room

pub returns-in-Grids : goal.returns-in-Grids
returns-in-Grids c =
    let s : List ℕ = c.args.rest.now in
    let n = c.in-Grids.n in
    let f = sym c.front.ensures.answer ∙ c.in_ok-n.was ∙ ap Some c.in-Grids.is in
    grids-passed s (take (3 + n - 3) (drop 3 s)) c.args.numbers.now c.args.flips.now c.grids.new.numbers c.grids.new.flips n c.requires f
    (value_is s n (known s f).0.size_is) c.grids.ensures

pub returns-in-Block : goal.returns-in-Block
returns-in-Block c =
    block-passed c.args.rest.now c.args.numbers.now c.args.flips.now c.requires (sym c.front.ensures.answer ∙ c.in_ok-n.was ∙ ap Some c.in-Block.is)

-- the end, or no field that is read
module _ (rest numbers flips : List ℕ) (bytes : Below 8 rest) (f : Option Field) (is : f ≡ field_of rest) (a : (n : ℕ) → f ≢ Some (Grids n))
    (b : f ≢ Some Block) where
  nothing : ReadsGrids rest numbers flips numbers flips
  nothing = record {
    numbers_after = λ left at ps w.
        laid_none numbers ∙ ap (λ ps. laid (data_of_grids (grids_in ps)) numbers) (sym (only_end at rest ps left f is a b bytes w).0);
    flips_after = λ left at ps w.
        laid_none flips ∙ ap (λ ps. laid (flips_of_grids (grids_in ps)) flips) (sym (only_end at rest ps left f is a b bytes w).0);
  }

pub returns-in-Title : goal.returns-in-Title
returns-in-Title c =
    let (a, b) = passed_over c.in_ok-n.field-0 c.in-Title.is in
    nothing c.args.rest.now c.args.numbers.now c.args.flips.now (λ i. omega (arith, c.type_inv.rest i)) (Some c.in_ok-n.field-0)
    c.in_ok-n.ensures.answer a b

pub returns-in_err-n : goal.returns-in_err-n
returns-in_err-n c =
    rw c.from_residual.ensures
    (nothing c.args.rest.now c.args.numbers.now c.args.flips.now (λ i. omega (arith, c.type_inv.rest i)) None c.in_err-n.ensures.answer
    (λ n e. cc) (λ e. cc))
