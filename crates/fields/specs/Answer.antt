-- What the answer of `fields::front` says: values, or a refusal (docs/FORMAT.md, The refusals). Assumes nothing.
use Rattle.std.specs.Prelude.{ℕ, Option, Some, None}
use Rattle.refusals.specs.declared.Refusal.TheVariants.{Broken}
use Rattle.refusals.specs.Reply.{Reply, gives, refusal}
use Rattle.fields.specs.declared.Field.{Field}
use Rattle.fields.specs.declared.Field.TheVariants.{Title, Grids, Block, End}
use Rattle.fields.specs.Fields.{block_bytes}

-- a tag and a length
pub record Head : Type 0 where
  pub tag : ℕ
  pub size : ℕ

-- The field's tag and length. Where a rule fails the image is broken at the field's own offset, which in the bytes given is 0.
abbrev pub means : Option Field → Reply Head
means (Some (Title n)) = gives (record { tag = 1; size = n })
means (Some (Grids n)) = gives (record { tag = 2; size = n })
means (Some Block) = gives (record { tag = 3; size = block_bytes })
means (Some End) = gives (record { tag = 127; size = 0 })
means None = refusal (Broken 0)
