-- What the call promises: one record, which determines the answer and every place of every lent slice. One check of the image decides
-- for the answer and for the memory. Assumes nothing.
use Rattle.std.specs.Prelude.{◌≡◌, ℕ, List, map, Err, Ok, Result}
use Rattle.codes.specs.Verdict.{scrubbed}
use Rattle.grid_code.specs.Code.{code_of_grid}
use Rattle.page.specs.Tally.{grid_tally}
use Rattle.block_code.specs.Code.{code_of_block}
use Rattle.image.specs.Card.{Part, grids, block, Card, grids_in, blocks_in, image_of}
use Rattle.image.specs.Calls.{checked_as}
use Rattle.value_scrub.specs.Tally.{block_tally}
use Rattle.card_scrub.specs.declared.Tallies.{Tallies}
use Rattle.refusals.specs.declared.Refusal.{Refusal}

-- the value of a data field put right
abbrev pub scrubbed_part : Part → Part
scrubbed_part (grids ws) = grids (map (scrubbed code_of_grid) ws)
scrubbed_part (block w) = block (scrubbed code_of_block w)

-- all else stays
abbrev pub scrubbed_card : Card → Card
scrubbed_card c = record { title = c.title; parts = map scrubbed_part c.parts }

-- what is counted of data fields: of all their grids, and of all their blocks
abbrev pub tallies_of : List Part → Tallies
tallies_of ps = record { grids = grid_tally (grids_in ps); blocks = block_tally (blocks_in ps) }

-- `card::scrub`: a tally for grids, with the pattern of the last mended one, and a tally for blocks. The value of each data field is put
-- right within the image, where a lost grid or block stays as it was. An image that is too long or broken is refused, and nothing is
-- written.
pub record Scrubbed (image : List ℕ) (r : Result Tallies Refusal) (exit : List ℕ) : Type 0 where
  pub answer : r ≡ checked_as image Err (λ c. Ok (tallies_of c.parts))
  pub after : exit ≡ checked_as image (λ why. image) (λ c. image_of (scrubbed_card c))
