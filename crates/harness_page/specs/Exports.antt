-- What the export answers and leaves. Assumes nothing.
use Rattle.std.specs.Prelude.{◌≡◌, ◌≢◌, List, [], ◌∷◌, ℕ, length, Err, Ok, Result}
use Rattle.words.specs.Bytes.{laid}
use Rattle.refusals.specs.Reply.{number_in}
use Rattle.page.specs.Answer.{means}
use Rattle.page.specs.Calls.{Scrubbed}
use Rattle.page.specs.declared.Tally.{Tally}
use Rattle.refusals.specs.declared.Refusal.{Refusal}

-- the six numbers, where the scrub was done
abbrev pub shown : Result Tally Refusal → List ℕ → List ℕ
shown (Ok t) before = laid (t.grids ∷ t.clean ∷ t.blank ∷ t.mended ∷ t.lost ∷ t.flips ∷ []) before
shown (Err why) before = before

-- .. and its pattern
abbrev pub pattern_shown : Result Tally Refusal → ℕ → ℕ
pattern_shown (Ok t) before = t.pattern
pattern_shown (Err why) before = before

-- With six places for the numbers: what `page::scrub` gives. Else 255, and nothing is written.
pub data Exported (page tally : List ℕ) (pattern r : ℕ) (page' tally' : List ℕ) (pattern' : ℕ) : Type 0 where
  scrubs : length tally ≡ 6 → (a : Result Tally Refusal) → Scrubbed page a page' → r ≡ number_in (means a) → tally' ≡ shown a tally
      → pattern' ≡ pattern_shown a pattern → Exported page tally pattern r page' tally' pattern'
  stays : length tally ≢ 6 → r ≡ 255 → page' ≡ page → tally' ≡ tally → pattern' ≡ pattern
      → Exported page tally pattern r page' tally' pattern'
