-- `lines::scrub` meets its contract: too little room, an image that is refused, an image that is scrubbed. Assumes nothing.
use Rattle.std.proofs.Common.{ℕ, ◌≡◌, ◌++◌, ◌∙◌, sym, ap, ap₂, rules, get_or, length, drop, Fits, w8}
use Rattle.words.specs.Bytes.{laid}
use Rattle.lines.specs.Text.{refused_line, lines_of}
use Rattle.lines.specs.Steps.{lines_with}
use Rattle.lines.proofs.Printing.{refused_lines, scrubbed_lines, printed}
use Rattle.lines.proofs.scrub.Goals as goal
use Rattle.lines.proofs.scrub.Goals.{in-Err, in-Ok}

pub card_lines-requires : goal.card_lines-requires
card_lines-requires c =
    let image = c.args.image.now in
    let small : (i : ℕ) → Fits w8 (get_or image i 0) = λ i. search rules in
    let lines = scrubbed_lines image c.scrub.new.image c.title.result.now c.in-Ok.tallies (λ i. (small i).fits) c.in-Ok.ensures c.title.ensures in
    (lines.1, ap length c.new-lines.ensures)

pub returns : goal.returns
unfolding laid
returns c =
    let image = c.args.image.now in
    let exit = c.scrub.new.image in
    let text = c.args.text.now in
    let lines = c.match-scrub.lines in
    let small : (i : ℕ) → Fits w8 (get_or image i 0) = λ i. search rules in
    let is : lines_of image ≡ lines.items =
    elim c.match-scrub.branch [
      | in-Err w ↦
          refused_lines image exit w.in-Err.why w.in-Err.ensures
          ∙ sym (ap (λ l. l.items) w.lines-is ∙ w.refused_line.ensures.after ∙ ap (λ l. l ++ refused_line w.in-Err.why) c.new-lines.ensures)
      | in-Ok w ↦
          let title = w.title.result.now in
          (scrubbed_lines image exit title w.in-Ok.tallies (λ i. (small i).fits) w.in-Ok.ensures w.title.ensures).0
          ∙ sym (ap (λ l. l.items) w.lines-is ∙ w.card_lines.ensures.after ∙ ap (λ l. l ++ lines_with title w.in-Ok.tallies) c.new-lines.ensures)
    ] in
    let over : c.copy_from_slice.new.self ++ drop c.len.result text ≡ laid lines.items text =
    ap₂ (λ l (n : ℕ). l ++ drop n text) (c.copy_from_slice.ensures.after ∙ c.deref.ensures.0) c.len.ensures.value in
    printed image text c.if-text-lt-ROOM.false c.scrub.ensures is c.len-2.ensures.value over
