-- `grid_code::encoded` meets its contract: the grid with the data places of a value is that of the value. Assumes nothing.
use mathlib.Core.Path.{ap, ◌∙◌}
use Prim.Native.Nat.{ℕ, ◌^◌, ◌<◌}
use borrow.Author.Rules.{rules}
use Rattle.grid_code.specs.Code.{codeword}
use Rattle.grid_code.proofs.Places.{completes, data_back}
use Rattle.grid_code.proofs.encoded.Goals as goal

pub returns : goal.returns
returns c =
    let d : ℕ = c.args.value in
    let l : d < 2 ^ 16 = search rules in
    record {
      answer = completes (codeword d) c.data_places.ensures.answer c.completed.ensures ∙ ap codeword (data_back d l);
    }
