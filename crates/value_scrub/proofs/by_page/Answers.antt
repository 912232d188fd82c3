-- `value_scrub::by_page` meets its contract. Assumes nothing.
use Rattle.std.proofs.Common.{ℕ, arith, rules, get_or, Fits, w8}
use Rattle.value_scrub.proofs.Scrubs.{page_written, page_kept}
use Rattle.value_scrub.proofs.by_page.Goals as goal

pub returns-then-tally-gt0 : goal.returns-then-tally-gt0
returns-then-tally-gt0 c =
    let small : (i : ℕ) → Fits w8 (get_or c.args.value.now i 0) = λ i. search rules in
    page_written c.args.value.now c.args.page.now c.read.new.words c.scrub.new.page c.requires.0 (λ i. (small i).fits) c.read.ensures c.scrub.ensures
    c.in-Ok.is c.write.ensures

pub returns-else-tally-gt0 : goal.returns-else-tally-gt0
returns-else-tally-gt0 c =
    let small : (i : ℕ) → Fits w8 (get_or c.args.value.now i 0) = λ i. search rules in
    page_kept c.args.value.now c.args.page.now c.read.new.words c.scrub.new.page c.requires.0 (λ i. (small i).fits) c.read.ensures c.scrub.ensures
    c.in-Ok.is (omega arith)
