-- What each call of the crate promises: one record a call, which determines the answer. Assumes nothing.
use Rattle.std.specs.Prelude.{◌≡◌, Bool, List, ℕ, Option, Result}
use Rattle.fields.specs.declared.Field.{Field}
use Rattle.fields.specs.declared.Tag.{Tag}
use Rattle.fields.specs.declared.UnknownTag.{UnknownTag}
use Rattle.fields.specs.Tags.{byte_of, tag_of}
use Rattle.fields.specs.Fields.{bad_byte, title_length, field_of}

-- A tag as its byte, ..
pub record Tagged (tag : Tag) (r : ℕ) : Type 0 where
  pub answer : r ≡ byte_of tag

-- .. and the tag of a byte, or that it is none.
pub record TagRead (b : ℕ) (r : Result Tag UnknownTag) : Type 0 where
  pub answer : r ≡ tag_of b

-- `fields::front`: the field at the front of a slice.
pub record Classified (rest : List ℕ) (r : Option Field) : Type 0 where
  pub answer : r ≡ field_of rest

-- `fields::first_bad`: the place of the first bad title byte, where there is one.
abbrev pub Searched : List ℕ → Option ℕ → Type 0
Searched bytes r = r ≡ bad_byte bytes

-- `fields::is_title_length`: whether a title can have this length.
pub record Measured (n : ℕ) (r : Bool) : Type 0 where
  pub answer : r ≡ title_length n
