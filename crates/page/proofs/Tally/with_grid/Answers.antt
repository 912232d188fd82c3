-- `page::Tally::with_grid` meets its contract: a codeword stays, any other word is put right as its verdict says. Assumes nothing.
use mathlib.Core.Path.{sym, ap, ap₂, ◌∙◌, subst}
use Rattle.codes.specs.Verdict.{pattern_of}
use Rattle.grid_code.specs.Code.{code_of_grid}
use Rattle.grid_code.specs.Verdict.{grid_verdict}
use Rattle.grid.specs.Calls.{Judged}
use Rattle.grid.proofs.Numbers.{decoded_verdict, decoded_pattern, decoded_number}
use Rattle.page.specs.Steps.{counted, Roomy}
use Rattle.page.proofs.Laws.{codeword_kept, all_ones_blank, others_clean, clean_counts, clean_roomy}
use Rattle.page.proofs.Tally.with_grid.Goals as goal

-- all ones

pub counted-requires : goal.counted-requires
counted-requires c =
    let grid = c.from-grid in
    let judged = subst (Judged grid.result.rows) c.if-is_codeword.true c.is_codeword.ensures in
    subst (Roomy c.args.self)
    (all_ones_blank c.args.word grid.result.rows c.ranges.word.fits grid.ensures.answer judged c.if-word-eq-ALL_ONES.true) c.requires

pub returns-then-word-eq-ALL_ONES : goal.returns-then-word-eq-ALL_ONES
returns-then-word-eq-ALL_ONES c =
    let grid = c.from-grid in
    let judged = subst (Judged grid.result.rows) c.if-is_codeword.true c.is_codeword.ensures in
    let is = all_ones_blank c.args.word grid.result.rows c.ranges.word.fits grid.ensures.answer judged c.if-word-eq-ALL_ONES.true in (
      codeword_kept c.args.word grid.result.rows c.ranges.word.fits grid.ensures.answer judged,
      c.counted.ensures ∙ ap (λ v. counted c.args.self v (pattern_of code_of_grid c.args.word)) (sym is),
    )

-- any other codeword

pub counted-requires-then-is_codeword : goal.counted-requires-then-is_codeword
counted-requires-then-is_codeword c =
    let grid = c.from-grid in
    let judged = subst (Judged grid.result.rows) c.if-is_codeword.true c.is_codeword.ensures in
    let (d, is) = others_clean c.args.word grid.result.rows c.ranges.word.fits grid.ensures.answer judged c.if-word-eq-ALL_ONES.false in
    clean_roomy c.args.self (grid_verdict c.args.word) d is c.requires

pub returns-then-is_codeword : goal.returns-then-is_codeword
returns-then-is_codeword c =
    let grid = c.from-grid in
    let judged = subst (Judged grid.result.rows) c.if-is_codeword.true c.is_codeword.ensures in
    let (d, is) = others_clean c.args.word grid.result.rows c.ranges.word.fits grid.ensures.answer judged c.if-word-eq-ALL_ONES.false in (
      codeword_kept c.args.word grid.result.rows c.ranges.word.fits grid.ensures.answer judged,
      c.counted-then-is_codeword.ensures ∙ clean_counts c.args.self (grid_verdict c.args.word) d is (pattern_of code_of_grid c.args.word),
    )

-- no codeword

pub returns : goal.returns
returns c =
    let of_number = c.from-grid in
    let mend = c.mend-answer in (
      decoded_number c.args.word c.from.result of_number.result.rows mend.result c.ranges.word.fits
          of_number.ensures.answer mend.ensures c.from.ensures.answer,
      c.counted-2.ensures
          ∙ ap₂ (counted c.args.self)
          (decoded_verdict c.args.word of_number.result.rows mend.result c.ranges.word.fits of_number.ensures.answer
          mend.ensures)
          (decoded_pattern c.args.word of_number.result.rows mend.result c.ranges.word.fits of_number.ensures.answer
          mend.ensures),
    )
