-- What the call promises: one record, which determines the answer and every place of every lent slice. The order of the refusals is one
-- definition, for the answer and for the memory. Assumes nothing.
use Rattle.std.specs.Prelude.{◌≡◌, Bool, true, false, ◌&&◌, List, [], ◌∷◌, map, ℕ, ◌+◌, ◌*◌, leb, eqb, length, Err, Ok, Result}
use Rattle.words.specs.Word.{choose}
use Rattle.words.specs.Bytes.{laid}
use Rattle.refusals.specs.declared.Refusal.{Refusal}
use Rattle.refusals.specs.declared.Refusal.TheVariants.{Length, Broken, Room, Erased}
use Rattle.grid_code.specs.Code.{codeword}
use Rattle.grid_code.specs.Verdict.{erased}
use Rattle.page.specs.Calls.{most_grids}
use Rattle.fields.specs.Fields.{head_bytes, title_length, first_bad}
use Rattle.image.specs.Card.{grids, Card, image_of}

-- the card of a title and one grids field, ..
abbrev pub card_on : List ℕ → List ℕ → Card
card_on title words = record { title = title; parts = grids words ∷ [] }

-- .. whose grids are those of numbers
abbrev pub card_with : List ℕ → List ℕ → Card
card_with title numbers = card_on title (map codeword numbers)

-- how many bytes title, one grids field and end have
abbrev pub size_written : List ℕ → List ℕ → ℕ
size_written title numbers = 3 * head_bytes + length title + 8 * length numbers

-- the length of a title, and 0 to 512 numbers
abbrev pub lengths_allowed : List ℕ → List ℕ → Bool
lengths_allowed title numbers = title_length (length title) && leb (length numbers) most_grids

-- none of the numbers is 65,535, which is not stored
unfoldable pub none_erased : List ℕ → Bool
none_erased [] = true
none_erased (n ∷ ns) = choose (eqb n erased) false (none_erased ns)

-- a length that is not allowed, then the first bad title byte, then a number that is not stored, then too little room for the image
abbrev pub written_as : {A : Type 0} → List ℕ → List ℕ → ℕ → (Refusal → A) → A → A
written_as title numbers room refused done =
    choose (lengths_allowed title numbers)
    (choose (eqb (first_bad title) (length title))
    (choose (none_erased numbers) (choose (leb (size_written title numbers) room) done (refused Room)) (refused Erased))
    (refused (Broken (first_bad title))))
    (refused Length)

-- `card::write`: the image of the title and the numbers over the front of the slice, and how many bytes it has. Room behind stays
-- untouched. A refused call writes nothing.
pub record Wrote (title numbers image : List ℕ) (r : Result ℕ Refusal) (exit : List ℕ) : Type 0 where
  pub answer : r ≡ written_as title numbers (length image) Err (Ok (size_written title numbers))
  pub after : exit ≡ written_as title numbers (length image) (λ why. image) (laid (image_of (card_with title numbers)) image)
