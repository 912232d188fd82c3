-- `value_scrub::by_words` meets its contract. Assumes nothing.
use Rattle.std.proofs.Common.{ℕ, refl, ap, ◌∙◌, arith, rules, get_or, Fits, w8}
use Rattle.std.specs.Prelude.{Ok}
use Rattle.value_scrub.proofs.Scrubs.{words_written, words_kept}
use Rattle.value_scrub.proofs.by_words.Goals as goal

pub returns-in-Ok-Clean : goal.returns-in-Ok-Clean
returns-in-Ok-Clean c =
    let small : (i : ℕ) → Fits w8 (get_or c.args.value.now i 0) = λ i. search rules in
    let rest = c.default.ensures in
    rw (rest.1.1.0, rest.1.1.1.0, rest.1.1.1.1)
    (words_kept c.args.value.now c.args.words.now c.read.new.words c.scrub.new.words (c.requires, omega arith) (λ i. (small i).fits) c.read.ensures c.scrub.ensures
    (c.in-Ok-Clean.is ∙ ap Ok (rw c.in-Ok-Clean.is at c.in-Ok-Clean.field-0-is)) refl)

pub returns-in-Ok-Mended : goal.returns-in-Ok-Mended
returns-in-Ok-Mended c =
    let small : (i : ℕ) → Fits w8 (get_or c.args.value.now i 0) = λ i. search rules in
    let rest = c.default-in-Ok-Mended.ensures in
    rw (rest.1.0, rest.1.1.1.0)
    (words_written c.args.value.now c.args.words.now c.read.new.words c.scrub.new.words (c.requires, omega arith) (λ i. (small i).fits) c.read.ensures c.scrub.ensures
    (c.in-Ok-Mended.is ∙ ap Ok (rw c.in-Ok-Mended.is at c.in-Ok-Mended.field-0-is)) c.write.ensures)

pub returns-in-Err : goal.returns-in-Err
returns-in-Err c =
    let small : (i : ℕ) → Fits w8 (get_or c.args.value.now i 0) = λ i. search rules in
    let rest = c.default-in-Err.ensures in
    rw (rest.1.0, rest.1.1.0, rest.1.1.1.1)
    (words_kept c.args.value.now c.args.words.now c.read.new.words c.scrub.new.words (c.requires, omega arith) (λ i. (small i).fits) c.read.ensures c.scrub.ensures
    c.in-Err.is refl)
