-- `card_write::lay_grids` meets its contract: one part behind the other. Assumes nothing.
use Rattle.std.proofs.Common.{◌≡◌, refl, ap, ◌∙◌, List, ℕ, ◌++◌, map, ◌+◌, ◌*◌, arith, length}
use lib.ListN.{length-append, length-map}
use Rattle.words.specs.Bytes.{bytes_of, laid}
use Rattle.words.proofs.Bytes.{length-bytes, laid_part}
use Rattle.grid_code.specs.Code.{codeword}
use Rattle.image.specs.Card.{head, grids, part_bytes}
use Rattle.card_write.proofs.lay_grids.Goals as goal

field : (ns : List ℕ) → head 2 (8 * length ns) ++ bytes_of 8 (map codeword ns) ≡ part_bytes (grids (map codeword ns))
unfolding part_bytes
field ns =
    let e : length ns ≡ length (map codeword ns) = omega (arith, length-map ns codeword) in
    ap (λ (n : ℕ). head 2 (8 * n) ++ bytes_of 8 (map codeword ns)) e

pub returns : goal.returns
returns c =
    let ns = c.args.numbers.now in
    let image = c.args.image.now in
    let first = c.head in
    let second = c.grids in
    let third = c.head-2 in
    let n = 8 * length ns in
    let long : length (head 2 n ++ bytes_of 8 (map codeword ns)) ≡ 3 + n =
    omega (arith, length-append (head 2 n) (bytes_of 8 (map codeword ns)), length-bytes 8 (map codeword ns), length-map ns codeword) in
    let two = laid_part (head 2 n) image 3 refl first.new.bytes (bytes_of 8 (map codeword ns)) second.new.bytes first.ensures second.ensures in
    laid_part (head 2 n ++ bytes_of 8 (map codeword ns)) image (3 + n) long _ (head 127 0) third.new.bytes two third.ensures
    ∙ ap (λ b. laid (b ++ head 127 0) image) (field ns)
