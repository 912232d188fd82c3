-- What the call promises: one record, which determines the answer and every place of every lent slice. One test of the room decides for the
-- answer and for the memory. Assumes nothing.
use Rattle.std.specs.Prelude.{◌≡◌, List, ℕ, leb, length, Err, Ok, Result}
use Rattle.words.specs.Word.{choose}
use Rattle.words.specs.Bytes.{laid}
use Rattle.refusals.specs.declared.Refusal.TheVariants.{Room}
use Rattle.image.specs.Card.{image_of}
use Rattle.image.specs.Calls.{checked_as}
use Rattle.card_scrub.specs.Calls.{scrubbed_card}
use Rattle.lines.specs.Text.{lines_of}
use Rattle.refusals.specs.declared.Refusal.{Refusal}

-- the bytes that every text fits into
abbrev pub room : ℕ
room = 219

-- a where there is room, b where there is too little
abbrev pub where_room : {A : Type 0} → List ℕ → A → A → A
where_room text a b = choose (leb room (length text)) a b

-- `lines::scrub`: the image is scrubbed as by `card::scrub`, and the lines of its answer are laid over the front of the text. What stands
-- behind them stays untouched. Where the text has too little room, nothing is written.
pub record Printed (image text : List ℕ) (r : Result ℕ Refusal) (image' text' : List ℕ) : Type 0 where
  pub answer : r ≡ where_room text (Ok (length (lines_of image))) (Err Room)
  pub image_after : image' ≡ where_room text (checked_as image (λ why. image) (λ c. image_of (scrubbed_card c))) image
  pub text_after : text' ≡ where_room text (laid (lines_of image) text) text
