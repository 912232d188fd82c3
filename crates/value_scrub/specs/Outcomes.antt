-- That no second outcome satisfies the statement of a step (`one_outcome`). Assumes nothing.
use Rattle.std.specs.Prelude.{◌≡◌, ℕ, List}
use Rattle.page.specs.declared.Tally.{Tally}
use Rattle.value_scrub.specs.declared.Blocks.{Blocks}
use Rattle.value_scrub.specs.Steps.{NoBlocks, Added, AnyGrids, AnyBlock}

pub record OneOutcome : Type 0 where
  pub no_blocks : (a b : Blocks) → NoBlocks a → NoBlocks b → a ≡ b
  pub both : (s t a b : Tally) → Added s t a → Added s t b → a ≡ b
  pub grids : (value x y : List ℕ) (a b : Tally) → AnyGrids value a x → AnyGrids value b y → (a ≡ b) × (x ≡ y)
  pub block : (value x y : List ℕ) (a b : Blocks) → AnyBlock value a x → AnyBlock value b y → (a ≡ b) × (x ≡ y)
