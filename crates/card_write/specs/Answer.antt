-- What the answer of the writer says: values, or a refusal (docs/FORMAT.md, The refusals). Assumes nothing.
use Rattle.std.specs.Prelude.{ℕ, Result}
use Rattle.refusals.specs.Reply.{Reply, reply}
use Rattle.refusals.specs.declared.Refusal.{Refusal}

-- the bytes written
abbrev pub means : Result ℕ Refusal → Reply ℕ
means r = reply r
