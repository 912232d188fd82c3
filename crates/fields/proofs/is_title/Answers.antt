-- `fields::is_title` meets its contract. Assumes nothing.
use Rattle.std.proofs.Common.{◌∙◌, ap, sym, Bool, ◌&&◌, ℕ, List, length, eqb}
use Rattle.std.specs.Prelude.{is_some}
use Rattle.fields.specs.Fields.{first_bad}
use Rattle.fields.proofs.Titles.{all_fine}
use Rattle.fields.proofs.is_title.Goals as goal

pub returns-then-is_title_length : goal.returns-then-is_title_length
returns-then-is_title_length c =
    let t : List ℕ = c.args.bytes.now in
    all_fine t c.is_none.result (sym (ap is_some c.first_bad.ensures) ∙ c.is_none.ensures)
    ∙ ap (λ (b : Bool). b && eqb (first_bad t) (length t)) (sym c.if-is_title_length.true ∙ c.is_title_length.ensures.answer)
