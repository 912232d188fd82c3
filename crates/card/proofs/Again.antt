-- The card that was scrubbed: it can stand in an image, of the same length; it has as many grids and blocks; and a second scrub changes
-- nothing. Assumes nothing.
use mathlib.Core.Path.{◌≡◌, refl, sym, ap, ap₂, ◌∙◌, subst}
use mathlib.Core.List.{List, [], ◌∷◌, ◌++◌, map, map-append}
use Prim.Native.Nat.{ℕ, ◌+◌, ◌*◌, ◌^◌}
use native.Mathlib.Omega.{arith}
use lib.ListN.{length, length-append, length-map}
use Rattle.words.specs.Digits.{digits}
use Rattle.words.specs.Bytes.{bytes_of}
use Rattle.words.proofs.Digits.{length_digits}
use Rattle.words.proofs.Lists.{map_twice}
use Rattle.words.proofs.Bytes.{length-bytes, below_map}
use Rattle.codes.specs.Verdict.{scrubbed}
use Rattle.codes.specs.Tally as codes
use Rattle.codes.specs.Tally.{tally_of, TallyPromises}
use Rattle.codes.proofs.Tally.{scrubbed_lt, tallies}
use Rattle.grid_code.specs.Code.{code_of_grid}
use Rattle.grid_code.proofs.Promises as grid
use Rattle.page.specs.Tally.{grid_tally, Again}
use Rattle.page.proofs.Counts as page
use Rattle.block_code.specs.Code.{code_of_block}
use Rattle.block_code.proofs.Promises as blocks
use Rattle.image.specs.Card.{Part, grids, block, Card, grids_in, blocks_in, head, part_bytes, parts_bytes, front_of, image_of}
use Rattle.image.specs.Promises.{ProperPart, AllProper, Proper}
use Rattle.card_scrub.specs.Calls.{scrubbed_part, scrubbed_card}
use Rattle.card.specs.Promises.{SameFrame}

-- ---- its grids and its blocks

pub block_laws : TallyPromises code_of_block
block_laws = tallies code_of_block (blocks.promised).verdicts

grids_scrubbed : (ps : List Part) → grids_in (map scrubbed_part ps) ≡ map (scrubbed code_of_grid) (grids_in ps)
grids_scrubbed [] = refl
grids_scrubbed (grids ws ∷ ps) =
    ap (λ l. map (scrubbed code_of_grid) ws ++ l) (grids_scrubbed ps) ∙ sym (map-append (scrubbed code_of_grid) ws (grids_in ps))
grids_scrubbed (block w ∷ ps) = grids_scrubbed ps

blocks_scrubbed : (ps : List Part) → blocks_in (map scrubbed_part ps) ≡ map (scrubbed code_of_block) (blocks_in ps)
blocks_scrubbed [] = refl
blocks_scrubbed (grids ws ∷ ps) = blocks_scrubbed ps
blocks_scrubbed (block w ∷ ps) = ap {B = List ℕ} (λ l. scrubbed code_of_block w ∷ l) (blocks_scrubbed ps)

pub same_frame : (c : Card) → SameFrame c (scrubbed_card c)
same_frame c = record {
  title = refl;
  grids_many = ap length (grids_scrubbed c.parts) ∙ length-map (grids_in c.parts) (scrubbed code_of_grid);
  blocks_many = ap length (blocks_scrubbed c.parts) ∙ length-map (blocks_in c.parts) (scrubbed code_of_block);
}

-- what is counted the second time
pub second : (ps : List Part)
    → Again (grid_tally (grids_in ps)) (grid_tally (grids_in (map scrubbed_part ps)))
    × codes.Again (tally_of code_of_block (blocks_in ps)) (tally_of code_of_block (blocks_in (map scrubbed_part ps)))
second ps = (
  subst (λ ws. Again (grid_tally (grids_in ps)) (grid_tally ws)) (sym (grids_scrubbed ps)) ((page.tallies).again (grids_in ps)),
  subst (λ ws. codes.Again (tally_of code_of_block (blocks_in ps)) (tally_of code_of_block ws)) (sym (blocks_scrubbed ps)) (block_laws.again (blocks_in ps)),
)

-- ---- it can stand in an image

proper_part : (p : Part) → ProperPart p → ProperPart (scrubbed_part p)
proper_part (grids ws) (few, b) = (
  omega (arith, few, length-map ws (scrubbed code_of_grid)),
  below_map 64 64 (scrubbed code_of_grid) (scrubbed_lt code_of_grid (grid.promised).verdicts (2 ^ 64) (grid.promised).constants.fits) ws b,
)
proper_part (block w) l = scrubbed_lt code_of_block (blocks.promised).verdicts (2 ^ 608) (blocks.promised).constants.fits w l

all_proper : (ps : List Part) → AllProper ps → AllProper (map scrubbed_part ps)
all_proper [] h = h
all_proper (p ∷ ps) (h, hs) = (proper_part p h, all_proper ps hs)

pub still_proper : (c : Card) → Proper c → Proper (scrubbed_card c)
still_proper c h = record {
  title = h.title;
  few = omega (arith, h.few, length-map c.parts scrubbed_part);
  each = all_proper c.parts h.each;
}

-- ---- it is as long

pub grids_long : (ws : List ℕ) → length (part_bytes (grids ws)) ≡ 3 + 8 * length ws
unfolding part_bytes
grids_long ws = omega (arith, length-bytes 8 ws)

block_long : (w : ℕ) → length (part_bytes (block w)) ≡ 79
unfolding part_bytes
block_long w = value_long (digits 16 38 w) (length_digits 16 38 w)
  where
    value_long : (ws : List ℕ) → length ws ≡ 38 → length (head 3 76 ++ bytes_of 2 ws) ≡ 79
    value_long ws e = omega (arith, e, length-bytes 2 ws)

part_long : (p : Part) → length (part_bytes (scrubbed_part p)) ≡ length (part_bytes p)
part_long (grids ws) =
    let new = map (scrubbed code_of_grid) ws in
    omega (arith, length-map ws (scrubbed code_of_grid), grids_long new, grids_long ws)
part_long (block w) = block_long (scrubbed code_of_block w) ∙ sym (block_long w)

parts_long : (ps : List Part) → length (parts_bytes (map scrubbed_part ps)) ≡ length (parts_bytes ps)
unfolding parts_bytes
parts_long [] = refl
parts_long (p ∷ ps) =
    length-append (part_bytes (scrubbed_part p)) (parts_bytes (map scrubbed_part ps))
    ∙ ap₂ (λ (m n : ℕ). m + n) (part_long p) (parts_long ps)
    ∙ sym (length-append (part_bytes p) (parts_bytes ps))

image_long : (title bytes : List ℕ) → length (head 1 (length title) ++ title ++ bytes ++ head 127 0) ≡ 6 + length title + length bytes
image_long title bytes =
    omega (
      arith,
      length-append (head 1 (length title) ++ title ++ bytes) (head 127 0),
      length-append (head 1 (length title) ++ title) bytes,
      length-append (head 1 (length title)) title,
    )

pub card_long : (c : Card) → length (image_of c) ≡ 6 + length c.title + length (parts_bytes c.parts)
unfolding front_of image_of
card_long c = image_long c.title (parts_bytes c.parts)

pub same_length : (c : Card) → length (image_of (scrubbed_card c)) ≡ length (image_of c)
same_length c =
    card_long (scrubbed_card c) ∙ ap (λ (n : ℕ). 6 + length c.title + n) (parts_long c.parts) ∙ sym (card_long c)

-- ---- a second scrub changes nothing

part_twice : (p : Part) → scrubbed_part (scrubbed_part p) ≡ scrubbed_part p
part_twice (grids ws) = ap grids (map_twice (scrubbed code_of_grid) (tallies code_of_grid (grid.promised).verdicts).unchanged ws)
part_twice (block w) = ap block (block_laws.unchanged w)

pub twice : (c : Card) → scrubbed_card (scrubbed_card c) ≡ scrubbed_card c
twice c = λ i. record { title = c.title; parts = map_twice scrubbed_part part_twice c.parts i }
