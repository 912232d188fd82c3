-- What the exports answer, as one number each, and what they leave. Assumes nothing.
use Rattle.std.specs.Prelude.{◌≡◌, ◌≢◌, List, [], ◌∷◌, ℕ, ◌+◌, ◌*◌, leb, length, None, Option, Result, Some}
use Rattle.words.specs.Word.{choose}
use Rattle.words.specs.Bytes.{laid}
use Rattle.refusals.specs.Reply.{Number, number_of, place_of, Reply, gives, refused}
use Rattle.image.specs.Answer.{means as check_means}
use Rattle.card_scrub.specs.declared.Tallies.{Tallies}
use Rattle.card_scrub.specs.Answer.{means as scrub_means}
use Rattle.card_scrub.specs.Calls.{Scrubbed}
use Rattle.card_write.specs.Answer.{means as write_means}
use Rattle.card_read.specs.Answer.{means as read_means}
use Rattle.lines.specs.Answer.{means as lines_means}
use Rattle.card_read.specs.declared.Lengths.{Lengths}
use Rattle.image.specs.declared.Counts.{Counts}
use Rattle.refusals.specs.declared.Refusal.{Refusal}

-- a number in 16 bits; one that does not fit is shown as 65,535, which no right answer has
abbrev pub short : ℕ → ℕ
short n = choose (leb n 65535) n 65535

-- the number of a refusal from bit 32 on, and below it two others
abbrev pub packed : ℕ → ℕ → ℕ → ℕ
packed number low high = number * 4294967296 + short high * 65536 + short low

-- a number of the table, and its place, if there is one
abbrev pub place_shown : Option ℕ → ℕ
place_shown (Some at) = at
place_shown None = 0

abbrev pub number_shown : Number → ℕ
number_shown k = packed (number_of k) (place_shown (place_of k)) 0

-- A reply as one number: what is given, as `given` packs it; or the number of a refusal, and its place.
abbrev pub shown : {A : Type 0} → (A → ℕ) → Reply A → ℕ
shown given (gives a) = given a
shown given (refused k) = number_shown k

-- What each gives: the grids and the blocks; ..
abbrev pub check_shown : Result Counts Refusal → ℕ
check_shown a = shown (λ v. packed 0 v.grids v.blocks) (check_means a)

-- .. nothing, since the tallies stand elsewhere; ..
abbrev pub scrub_shown : Result Tallies Refusal → ℕ
scrub_shown a = shown (λ t. packed 0 0 0) (scrub_means a)

-- .. the bytes written; ..
abbrev pub write_shown : Result ℕ Refusal → ℕ
write_shown a = shown (λ k. packed 0 k 0) (write_means a)

-- .. the title's length and the grids; ..
abbrev pub read_shown : Result Lengths Refusal → ℕ
read_shown a = shown (λ v. packed 0 v.title v.grids) (read_means a)

-- .. the bytes of text.
abbrev pub lines_shown : Result ℕ Refusal → ℕ
lines_shown a = shown (λ n. packed 0 n 0) (lines_means a)

-- the six numbers of the grids and the five of the blocks, where tallies are given, ..
abbrev pub tallied : Reply Tallies → List ℕ → List ℕ
tallied (gives t) before =
    let g = t.grids in
    let b = t.blocks in
    laid (g.grids ∷ g.clean ∷ g.blank ∷ g.mended ∷ g.lost ∷ g.flips ∷ b.blocks ∷ b.clean ∷ b.mended ∷ b.lost ∷ b.flips ∷ []) before
tallied (refused k) before = before

-- .. and the pattern
abbrev pub pattern_shown : Reply Tallies → ℕ → ℕ
pattern_shown (gives t) before = t.grids.pattern
pattern_shown (refused k) before = before

-- With eleven places for the numbers: what `card::scrub` gives. Else 255, and nothing is written.
pub data Exported (image tallies : List ℕ) (pattern r : ℕ) (image' tallies' : List ℕ) (pattern' : ℕ) : Type 0 where
  scrubs : length tallies ≡ 11 → (a : Result Tallies Refusal) → Scrubbed image a image' → r ≡ scrub_shown a
      → tallies' ≡ tallied (scrub_means a) tallies → pattern' ≡ pattern_shown (scrub_means a) pattern
      → Exported image tallies pattern r image' tallies' pattern'
  stays : length tallies ≢ 11 → r ≡ packed 255 0 0 → image' ≡ image → tallies' ≡ tallies → pattern' ≡ pattern
      → Exported image tallies pattern r image' tallies' pattern'
