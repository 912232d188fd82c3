-- `value_read::show` meets its contract: the flips of any verdict are few. Assumes nothing.
use Rattle.std.proofs.Common.{◌≡◌, ap, ℕ, ◌≤◌, arith}
use Rattle.words.specs.Digits.{joined}
use Rattle.codes.proofs.Tally.{few_flips}
use Rattle.grid_code.specs.Code.{code_of_grid}
use Rattle.grid_code.specs.Verdict.{flips_of, grid_verdict}
use Rattle.grid_code.proofs.Promises.{promised}
use Rattle.grid.specs.Answer.{verdict_of}
use Rattle.grid.specs.declared.Verdict.{Verdict}
use Rattle.value_read.proofs.show.Goals as goal

few : (w : ℕ) (v u : Verdict) → v ≡ u → verdict_of v ≡ grid_verdict w → flips_of (verdict_of u) ≤ 7
few w v u e is =
    omega (arith, ap (λ v. flips_of (verdict_of v)) e, ap flips_of is, promised.flips w, few_flips code_of_grid promised.verdicts w)

pub overflow_cast-result : goal.overflow_cast-result
overflow_cast-result c =
    let answer = c.decode in
    omega (arith, few (joined 8 c.args.grid.rows) answer.result.verdict _ c.in-Blank.is answer.ensures.answer)

pub overflow_add-result : goal.overflow_add-result
overflow_add-result c =
    let answer = c.decode in
    omega (arith, few (joined 8 c.args.grid.rows) answer.result.verdict _ c.in-Blank.is answer.ensures.answer)

pub overflow_cast-result-in-Mended : goal.overflow_cast-result-in-Mended
overflow_cast-result-in-Mended c =
    let answer = c.decode in
    omega (arith, few (joined 8 c.args.grid.rows) answer.result.verdict _ c.in-Mended.is answer.ensures.answer)
