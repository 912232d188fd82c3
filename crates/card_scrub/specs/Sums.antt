-- What is counted in three parts of a card is the same whichever two are added up first. Assumes nothing.
use Rattle.std.specs.Prelude.{◌≡◌}
use Rattle.value_scrub.specs.Sums.{added_again, added_blocks_again}
use Rattle.card_scrub.specs.declared.Tallies.{Tallies}
use Rattle.card_scrub.specs.Steps.{summed}

pub summed_again : (a b c : Tallies) → summed a (summed b c) ≡ summed (summed a b) c
summed_again a b c = λ i. record {
  grids = added_again a.grids b.grids c.grids i;
  blocks = added_blocks_again a.blocks b.blocks c.blocks i;
}
