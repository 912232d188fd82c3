-- What is proved of the calls on a field (`promised`, `one_outcome`). Assumes nothing.
use Rattle.std.specs.Prelude.{◌≡◌, ◌≢◌, Bool, List, ℕ, ◌+◌, ◌≤◌, ◌<◌, length, ltb, Option, Some, None, Result}
use Rattle.refusals.specs.Reply.{gives, refuses_at}
use Rattle.fields.specs.declared.Field.{Field}
use Rattle.fields.specs.Answer.{means}
use Rattle.words.specs.Word.{choose}
use Rattle.fields.specs.Fields.{head_bytes, tag, size, first_bad, field_of}
use Rattle.fields.specs.Calls.{Tagged, TagRead, Classified, Searched, Measured}
use Rattle.fields.specs.declared.Tag.{Tag}
use Rattle.fields.specs.declared.UnknownTag.{UnknownTag}

-- What `fields::front` promises, besides the rules of a field that it answers by.
pub record FieldPromises : Type 0 where
  -- Under three bytes left, or a value that goes past the end: 4, at the field's own offset.
  pub past_end : (rest : List ℕ) (r : Option Field) → length rest < head_bytes + size rest → Classified rest r → means r ≡ refuses_at 4 0
  -- Where no rule fails, the tag and the length that stand there are given, and the value is inside.
  pub stands : (rest : List ℕ) (r : Option Field) → field_of rest ≢ None → Classified rest r
      → (means r ≡ gives (record { tag = tag rest; size = size rest })) × (head_bytes + size rest ≤ length rest)
  -- `fields::first_bad` gives the first bad title byte, and none where all are fine.
  pub searched : (bytes : List ℕ) (r : Option ℕ) → Searched bytes r
      → r ≡ choose (ltb (first_bad bytes) (length bytes)) (Some (first_bad bytes)) None

-- No second outcome satisfies the statement of a call.
pub record OneOutcome : Type 0 where
  pub tag_byte : (tag : Tag) (a b : ℕ) → Tagged tag a → Tagged tag b → a ≡ b
  pub tag_read : (k : ℕ) (a b : Result Tag UnknownTag) → TagRead k a → TagRead k b → a ≡ b
  pub front : (s : List ℕ) (a b : Option Field) → Classified s a → Classified s b → a ≡ b
  pub first_bad_is : (s : List ℕ) (a b : Option ℕ) → Searched s a → Searched s b → a ≡ b
  pub is_title_length : (n : ℕ) (a b : Bool) → Measured n a → Measured n b → a ≡ b
