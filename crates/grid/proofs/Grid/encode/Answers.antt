-- `grid::Grid::encode` meets its contract: the rows are those of the codeword, or none. Assumes nothing.
use Rattle.std.specs.Prelude.{Err, Ok}
use mathlib.Core.Path.{◌≡◌, sym, ap, ◌∙◌, subst}
use mathlib.Core.Logic.{◌≢◌}
use Prim.Native.Nat.{ℕ, ◌^◌, ◌<◌}
use native.Mathlib.Omega.{arith}
use borrow.Author.Rules.{rules}
use borrow.Author.Tests.{eq-eqb, ne_eqb}
use Rattle.words.specs.Digits.{digits, joined}
use Rattle.words.proofs.Digits.{joined-digits}
use Rattle.refusals.specs.declared.Refusal.TheVariants.{Erased}
use Rattle.grid_code.specs.Equations.{Codeword}
use Rattle.grid_code.specs.Code.{codeword}
use Rattle.grid_code.specs.Verdict.{erased}
use Rattle.grid_code.proofs.Codeword.{is_codeword}
use Rattle.grid_code.proofs.Promises.{promised}
use Rattle.grid.specs.Calls.{Encoded}
use Rattle.grid.specs.declared.Grid.{Grid}
use Rattle.grid.proofs.Grid.encode.Goals as goal

refused : (d : ℕ) → d ≡ erased → Encoded d (Err Erased)
refused d e = record {
  answer = rw (eq-eqb d erased e);
  grid = λ g off. rw (eq-eqb d erased e) off;
  meets = λ g z. let n : ◌≡◌ {A = ℕ} 0 1 = cc in absurd (omega arith);
}

encoded : (d : ℕ) (grid : Grid) → d < 2 ^ 16 → d ≢ erased → grid.rows ≡ digits 8 8 (codeword d) → Encoded d (Ok grid)
encoded d grid h ne e = record {
  answer = rw (ne_eqb d erased ne) (ap (λ rows. Ok (record { rows = rows })) e);
  grid = λ g is. rw (ne_eqb d erased ne) (ap (λ (g : Grid). g.rows) is ∙ e);
  meets = λ g z.
      let same : grid ≡ g = cc in
      subst (λ (g : Grid). Codeword d (joined 8 g.rows)) same
      (subst (Codeword d) (sym (ap (joined 8) e ∙ joined-digits 8 8 (codeword d) (is_codeword d h).fits)) (is_codeword d h));
}

pub returns-then-value-eq-ERASED : goal.returns-then-value-eq-ERASED
returns-then-value-eq-ERASED c = record {
  encoded = refused c.args.value c.if-value-eq-ERASED.true;
  constants = promised.constants;
}

pub returns : goal.returns
returns c =
    let d : ℕ = c.args.value in
    let l : d < 2 ^ 16 = search rules in
    record {
      encoded = encoded d c.from.result l c.if-value-eq-ERASED.false (c.from.ensures.answer ∙ ap (digits 8 8) c.encoded.ensures.answer);
      constants = promised.constants;
    }
