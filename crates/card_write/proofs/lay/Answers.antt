-- `card_write::lay` meets its contract: one part behind the other. Assumes nothing.
use Rattle.std.proofs.Common.{◌≡◌, refl, ap, ◌∙◌, ◌++◌, map, ◌+◌, ◌-◌, ◌≤◌, arith, length, take, drop}
use lib.ListN.{length-append}
use Rattle.words.specs.Bytes.{laid}
use Rattle.words.proofs.Lists.{length_part}
use Rattle.words.proofs.Bytes.{length-laid, laid_part}
use Rattle.grid_code.specs.Code.{codeword}
use Rattle.values.proofs.Fits.{copy_there}
use Rattle.image.specs.Card.{head, grids, part_bytes}
use Rattle.card_write.proofs.Writes.{written_is}
use Rattle.card_write.proofs.lay.Goals as goal

pub returns : goal.returns
returns c =
    let title = c.args.title.now in
    let ns = c.args.numbers.now in
    let image = c.args.image.now in
    let first = c.head in
    let second = c.copy in
    let third = c.lay_grids in
    let long : length (head 1 (length title) ++ title) ≡ 3 + length title = omega (arith, length-append (head 1 (length title)) title) in
    let room : length title ≤ length (take (length first.new.bytes - 3) (drop 3 first.new.bytes)) =
    omega (
      arith,
      c.requires.room,
      length_part 3 first.new.bytes,
      ap length first.ensures,
      length-laid (head 1 (length title)) image (omega (arith, c.requires.room)),
    ) in
    let two =
    laid_part (head 1 (length title)) image 3 refl first.new.bytes title second.new.to first.ensures
    (copy_there title (take (length first.new.bytes - 3) (drop 3 first.new.bytes)) second.new.to room second.ensures) in
    laid_part (head 1 (length title) ++ title) image (3 + length title) long _ (part_bytes (grids (map codeword ns)) ++ head 127 0)
    third.new.image two third.ensures
    ∙ ap (λ b. laid b image) (written_is title ns)
