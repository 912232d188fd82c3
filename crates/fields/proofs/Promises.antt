-- What specs/Promises.antt says of the calls on a field holds. Assumes nothing.
use Rattle.std.specs.Prelude.{Option, Some, None}
use mathlib.Core.Path.{◌≡◌, sym, ap, ◌∙◌}
use mathlib.Core.Logic.{◌≢◌}
use mathlib.Core.List.{List}
use Prim.Native.Nat.{ℕ, ◌+◌, ◌≤◌}
use native.Mathlib.Omega.{arith}
use lib.ListN.{length}
use Rattle.refusals.specs.Reply.{Reply, gives}
use Rattle.fields.specs.declared.Field.{Field}
use Rattle.fields.specs.declared.Field.TheVariants.{Title, Grids, Block, End}
use Rattle.fields.specs.Answer.{Head, means}
use Rattle.fields.specs.Fields.{head_bytes, tag, size, field_of}
use Rattle.fields.specs.Promises.{FieldPromises, OneOutcome}
use Rattle.fields.proofs.Fields.{Stands, past_end, known}
use Rattle.fields.proofs.Titles.{bad_byte_is}

module _ (s : List ℕ) where
  abbrev Given : Reply Head → Type 0
  Given x = (x ≡ gives (record { tag = tag s; size = size s })) × (head_bytes + size s ≤ length s)

  so : {t n : ℕ} → Stands s t n → Given (gives (record { tag = t; size = n }))
  so h = ((λ i. gives (record { tag = sym h.tag_is i; size = sym h.size_is i })), omega arith)

  given : (r : Option Field) → field_of s ≡ r → field_of s ≢ None → Given (means r)
  given (Some (Title n)) e f = so (known s e).0
  given (Some (Grids n)) e f = so (known s e).0
  given (Some Block) e f = so (known s e)
  given (Some End) e f = so (known s e)
  given None e f = absurd (f e)

pub promised : FieldPromises
promised = record {
  past_end = λ rest r l k. ap means (k.answer ∙ past_end rest l);
  stands = λ rest r f k. given rest r (sym k.answer) f;
  searched = λ bytes r k. k ∙ bad_byte_is bytes;
}

pub one_outcome : OneOutcome
one_outcome = record {
  tag_byte = λ tag a b p q. p.answer ∙ sym q.answer;
  tag_read = λ k a b p q. p.answer ∙ sym q.answer;
  front = λ s a b p q. p.answer ∙ sym q.answer;
  first_bad_is = λ s a b p q. p ∙ sym q;
  is_title_length = λ n a b p q. p.answer ∙ sym q.answer;
}
