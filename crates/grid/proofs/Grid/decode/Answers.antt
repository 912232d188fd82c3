-- `grid::Grid::decode` meets its contract: a codeword is its own nearest. Assumes nothing.
use mathlib.Core.Path.{subst}
use mathlib.Core.List.{List}
use Prim.Native.Nat.{ℕ}
use Rattle.grid.specs.Calls.{Judged}
use Rattle.grid.proofs.Verdicts.{is_codeword}
use Rattle.grid.proofs.Grid.decode.Goals as goal

pub returns-then-is_codeword : goal.returns-then-is_codeword
returns-then-is_codeword c =
    let rows : List ℕ = c.args.self.rows in
    let number = c.from in
    c.answered.ensures
    (is_codeword rows number.result number.ensures.answer (subst (Judged rows) c.if-is_codeword.true c.is_codeword.ensures))
