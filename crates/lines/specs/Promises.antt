-- What is proved of the call and of what it prints (`promised`, `one_outcome`). Assumes nothing.
use Rattle.std.specs.Prelude.{◌≡◌, List, [], ◌∷◌, ◌++◌, ℕ, suc, ◌+◌, ◌-◌, ◌*◌, ◌≤◌, ◌<◌, eqb, length, get_or, Err, Result}
use Rattle.words.specs.Word.{choose}
use Rattle.words.specs.Bytes.{laid}
use Rattle.refusals.specs.declared.Refusal.{Refusal}
use Rattle.refusals.specs.declared.Refusal.TheVariants.{Broken}
use Rattle.refusals.specs.Reply.{gives, refuses}
use Rattle.image.specs.Card.{Card, sound, card_of}
use Rattle.card_scrub.specs.declared.Tallies.{Tallies}
use Rattle.card_scrub.specs.Answer.{means as scrub_means}
use Rattle.card_scrub.specs.Calls.{Scrubbed}
use Rattle.lines.specs.Text.{decimal, bytes, title_line, grids_line, blocks_line, refused_line, lines_of}
use Rattle.lines.specs.Answer.{means}
use Rattle.lines.specs.Calls.{room, Printed}

-- the number that digits say, the most significant first, where those before them say v
abbrev pub value_from : ℕ → List ℕ → ℕ
value_from v [] = v
value_from v (b ∷ bs) = value_from (v * 10 + (b - 48)) bs

abbrev pub value_of : List ℕ → ℕ
value_of bs = value_from 0 bs

-- each byte is one of `0` to `9`
abbrev pub Digits : List ℕ → Type 0
Digits bs = (i : ℕ) → i < length bs → (48 ≤ get_or bs i 0) × (get_or bs i 0 ≤ 57)

-- how many lines end in a text
unfoldable pub line_ends : List ℕ → ℕ
line_ends [] = 0
line_ends (b ∷ bs) = choose (eqb b 10) (suc (line_ends bs)) (line_ends bs)

pub record LinesPromises : Type 0 where
  -- A text of under 219 bytes: 6, and nothing is written.
  pub short : (image text image' text' : List ℕ) (r : Result ℕ Refusal) → length text < room → Printed image text r image' text'
      → (means r ≡ refuses 6) × (image' ≡ image) × (text' ≡ text)
  -- Any other: the lines stand at the front of it, and the image is as a scrub leaves it.
  pub done : (image text image' text' : List ℕ) (r : Result ℕ Refusal) → room ≤ length text → Printed image text r image' text'
      → (means r ≡ gives (length (lines_of image))) × (text' ≡ laid (lines_of image) text)
      × ((q : Result Tallies Refusal) (exit : List ℕ) → Scrubbed image q exit → image' ≡ exit)
  -- The lines always fit into 219 bytes, so that as many as are given stand in the text.
  pub fits : (image : List ℕ) → length (lines_of image) ≤ room
  pub given : (image text image' text' : List ℕ) (r : Result ℕ Refusal) (n : ℕ) → Printed image text r image' text' → means r ≡ gives n
      → n ≤ length text'
  -- They say what the scrub answers: the title and both tallies, or the refusal.
  pub of_done : (image exit : List ℕ) (q : Result Tallies Refusal) (t : Tallies) → Scrubbed image q exit → scrub_means q ≡ gives t
      → (c : Card) × (card_of image ≡ sound c) × (lines_of image ≡ title_line c.title ++ grids_line t.grids ++ blocks_line t.blocks)
  pub of_refused : (image exit : List ℕ) (why : Refusal) → Scrubbed image (Err why) exit → lines_of image ≡ refused_line why
  -- That is three lines, or one.
  pub three_lines : (image exit : List ℕ) (q : Result Tallies Refusal) (t : Tallies) → Scrubbed image q exit → scrub_means q ≡ gives t
      → line_ends (lines_of image) ≡ 3
  pub one_line : (why : Refusal) → line_ends (refused_line why) ≡ 1
  -- A number is printed in digits that say it, with no zero in front unless it is 0; ..
  pub decimal-value : (n : ℕ) → value_of (decimal n) ≡ n
  pub decimal-digits : (n : ℕ) → Digits (decimal n)
  pub decimal_first : (n : ℕ) → 0 < n → 48 < get_or (decimal n) 0 0
  pub decimal_zero : decimal 0 ≡ bytes "0"
  -- .. and there are no others that say it.
  pub decimal_only : (b : ℕ) (bs : List ℕ) → Digits (b ∷ bs) → 48 < b → decimal (value_of (b ∷ bs)) ≡ b ∷ bs
  -- Four lines, as they are printed.
  pub some_title : title_line (bytes "Mira") ≡ bytes "title Mira\n"
  pub some_grids : grids_line (record { grids = 2; clean = 0; blank = 0; mended = 1; lost = 1; flips = 1; pattern = 1 })
      ≡ bytes "grids 2 clean 0 blank 0 mended 1 lost 1 flips 1\n"
  pub some_blocks : blocks_line (record { blocks = 16; clean = 10; mended = 5; lost = 1; flips = 7 })
      ≡ bytes "blocks 16 clean 10 mended 5 lost 1 flips 7\n"
  pub some_place : refused_line (Broken 32768) ≡ bytes "refused 4 at 32768\n"

-- No second outcome satisfies the statement of the call.
pub record OneOutcome : Type 0 where
  pub scrub : (image text a b s t : List ℕ) (r q : Result ℕ Refusal) → Printed image text r a s → Printed image text q b t
      → (r ≡ q) × (a ≡ b) × (s ≡ t)
