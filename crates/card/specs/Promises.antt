-- What is proved of the card's calls, each and together (`scrub_promised`, `write_promised`, `read_promised`, `one_outcome`). `Below k`
-- says that each number has k bits, which is so in every slice of such numbers that is lent. Assumes nothing.
use Rattle.std.specs.Prelude.{◌≡◌, ◌≢◌, true, false, List, ℕ, ◌+◌, ◌*◌, ◌≤◌, ◌<◌, length, get_or, take, drop, replicate, Result}
use Rattle.words.specs.Word.{dist}
use Rattle.words.specs.Digits.{Below}
use Rattle.words.specs.Bytes.{laid}
use Rattle.refusals.specs.Reply.{gives, refuses, refuses_at}
use Rattle.codes.specs.Verdict.{pattern_of}
use Rattle.codes.specs.Tally as codes
use Rattle.grid_code.specs.Code.{codeword, code_of_grid}
use Rattle.grid_code.specs.Verdict.{blank, erased, grid_verdict, is_blank}
use Rattle.page.specs.Tally.{LastMended, AddsUp, Again}
use Rattle.fields.specs.Fields.{head_bytes, first_bad}
use Rattle.image.specs.Card.{Card, sound, broken, most_bytes, grids_in, blocks_in, card_of, image_of}
use Rattle.image.specs.Answer.{means as check_means}
use Rattle.image.specs.Calls.{Checked}
use Rattle.value_scrub.specs.Tally.{tally_in as blocks_tally}
use Rattle.card_scrub.specs.declared.Tallies.{Tallies}
use Rattle.card_scrub.specs.Answer.{means as scrub_means}
use Rattle.card_scrub.specs.Calls.{scrubbed_card, tallies_of, Scrubbed}
use Rattle.card_write.specs.Answer.{means as write_means}
use Rattle.card_write.specs.Calls.{card_on, card_with, size_written, lengths_allowed, Wrote}
use Rattle.value_read.specs.Shown.{data_of_grid, flips_of_grid, data_of_grids, flips_of_grids}
use Rattle.card_read.specs.declared.Lengths.{Lengths}
use Rattle.card_read.specs.Answer.{means as read_means}
use Rattle.card_read.specs.Calls.{room_for, Read}
use Rattle.image.specs.declared.Counts.{Counts}
use Rattle.refusals.specs.declared.Refusal.{Refusal}

-- the same card, as far as a scrub goes: title, numbers of grids and of blocks
pub record SameFrame (c d : Card) : Type 0 where
  pub title : d.title ≡ c.title
  pub grids_many : length (grids_in d.parts) ≡ length (grids_in c.parts)
  pub blocks_many : length (blocks_in d.parts) ≡ length (blocks_in c.parts)

-- What the scrub promises.
pub record ScrubPromises : Type 0 where
  -- Over 32,768 bytes: 3; broken: 4 with the place.
  pub long : (s exit : List ℕ) (r : Result Tallies Refusal) → most_bytes < length s → Scrubbed s r exit → scrub_means r ≡ refuses 3
  pub broken_image : (s exit : List ℕ) (at : ℕ) (r : Result Tallies Refusal) → length s ≤ most_bytes → card_of s ≡ broken at
      → Scrubbed s r exit → scrub_means r ≡ refuses_at 4 at
  -- A call that gives nothing writes nothing.
  pub refused : (s exit : List ℕ) (r : Result Tallies Refusal) → Scrubbed s r exit → ((t : Tallies) → scrub_means r ≢ gives t) → exit ≡ s
  -- A sound image is scrubbed, whatever its grids and blocks are: none of them is a refusal of the call.
  pub done : (s exit : List ℕ) (c : Card) (r : Result Tallies Refusal) → length s ≤ most_bytes → card_of s ≡ sound c → Scrubbed s r exit
      → (scrub_means r ≡ gives (tallies_of c.parts)) × (exit ≡ image_of (scrubbed_card c))
  -- Each number is the sum of its kinds: clean, blank, mended and lost grids, and clean, mended and lost blocks.
  pub sums : (s exit : List ℕ) (r : Result Tallies Refusal) (t : Tallies) → Scrubbed s r exit → scrub_means r ≡ gives t
      → AddsUp t.grids × codes.AddsUp (blocks_tally t.blocks)
  -- The pattern is that of the last mended grid, over all grids fields in order, and zero where none is mended.
  pub last : (s exit : List ℕ) (c : Card) (r : Result Tallies Refusal) (t : Tallies) (i : ℕ) → card_of s ≡ sound c → Scrubbed s r exit
      → scrub_means r ≡ gives t → LastMended (grids_in c.parts) i
      → t.grids.pattern ≡ pattern_of code_of_grid (get_or (grids_in c.parts) i 0)
  pub no_last : (s exit : List ℕ) (r : Result Tallies Refusal) (t : Tallies) → Scrubbed s r exit → scrub_means r ≡ gives t
      → t.grids.mended ≡ 0 → t.grids.pattern ≡ 0
  -- The image stays sound and as long as it was, and holds the scrubbed card: the same title, and as many grids and blocks.
  pub stays : (s exit : List ℕ) (r : Result Tallies Refusal) (t : Tallies) → Below 8 s → Scrubbed s r exit → scrub_means r ≡ gives t
      → (c : Card) × (card_of s ≡ sound c) × (card_of exit ≡ sound (scrubbed_card c)) × SameFrame c (scrubbed_card c)
      × (length exit ≡ length s)
  -- A second scrub changes nothing, finds the same blank and lost, 0 mended, and passes on no pattern.
  pub again : (s once twice : List ℕ) (r q : Result Tallies Refusal) (t : Tallies) → Below 8 s → Scrubbed s r once → scrub_means r ≡ gives t
      → Scrubbed once q twice
      → (u : Tallies) × (scrub_means q ≡ gives u) × Again t.grids u.grids
      × codes.Again (blocks_tally t.blocks) (blocks_tally u.blocks) × (twice ≡ once)

-- ws are the grids of the numbers ns, each with at most seven lamps switched
pub record Switched (ns ws : List ℕ) : Type 0 where
  pub many : length ws ≡ length ns
  pub words : Below 64 ws
  pub few : (i : ℕ) → i < length ns → dist (get_or ws i 0) (codeword (get_or ns i 0)) ≤ code_of_grid.radius

-- none of the numbers is 65,535, which is not stored
abbrev pub AllStored : List ℕ → Type 0
AllStored ns = (i : ℕ) → i < length ns → get_or ns i 0 ≢ erased

-- What the writer promises.
pub record WritePromises : Type 0 where
  -- A title of no bytes or of over 24, or over 512 numbers: 3; else a bad title byte: 4 with its place; else 65,535 among the numbers,
  -- wherever: 7; else too little room: 6; else it is done.
  pub lengths : (title ns image exit : List ℕ) (r : Result ℕ Refusal) → Wrote title ns image r exit → lengths_allowed title ns ≡ false
      → write_means r ≡ refuses 3
  pub bad_byte : (title ns image exit : List ℕ) (r : Result ℕ Refusal) → Wrote title ns image r exit → lengths_allowed title ns ≡ true
      → first_bad title ≢ length title → write_means r ≡ refuses_at 4 (first_bad title)
  pub erased_number : (title ns image exit : List ℕ) (r : Result ℕ Refusal) (i : ℕ) → Wrote title ns image r exit
      → lengths_allowed title ns ≡ true → first_bad title ≡ length title → i < length ns → get_or ns i 0 ≡ erased
      → write_means r ≡ refuses 7
  pub short : (title ns image exit : List ℕ) (r : Result ℕ Refusal) → Wrote title ns image r exit → lengths_allowed title ns ≡ true
      → first_bad title ≡ length title → AllStored ns → length image < size_written title ns → write_means r ≡ refuses 6
  pub accepted : (title ns image exit : List ℕ) (r : Result ℕ Refusal) → Wrote title ns image r exit → lengths_allowed title ns ≡ true
      → first_bad title ≡ length title → AllStored ns → size_written title ns ≤ length image → write_means r ≡ gives (size_written title ns)
  -- A call that gives nothing writes nothing.
  pub refused : (title ns image exit : List ℕ) (r : Result ℕ Refusal) → Wrote title ns image r exit → ((k : ℕ) → write_means r ≢ gives k)
      → exit ≡ image
  -- What is written is an image of 9 + t + 8n bytes; room behind it stays as it was.
  pub written : (title ns image exit : List ℕ) (r : Result ℕ Refusal) (k : ℕ) → Wrote title ns image r exit → write_means r ≡ gives k
      → (k ≡ 3 * head_bytes + length title + 8 * length ns) × (take k exit ≡ image_of (card_with title ns)) × (drop k exit ≡ drop k image)
  -- It is sound, ..
  pub is_sound : (title ns image exit : List ℕ) (r : Result ℕ Refusal) (k : ℕ) → Below 16 ns → Wrote title ns image r exit
      → write_means r ≡ gives k → card_of (take k exit) ≡ sound (card_with title ns)
  -- .. checks as n grids and 0 blocks, ..
  pub checks : (title ns image exit : List ℕ) (r : Result ℕ Refusal) (k : ℕ) (q : Result Counts Refusal) → Below 16 ns
      → Wrote title ns image r exit → write_means r ≡ gives k → Checked (take k exit) q
      → check_means q ≡ gives (record { grids = length ns; blocks = 0 })
  -- .. and reads back as the same title and numbers, with flips 0, given room.
  pub reads_back : (title ns image exit title₀ ns₀ flips₀ title₁ ns₁ flips₁ : List ℕ) (r : Result ℕ Refusal) (k : ℕ)
      (q : Result Lengths Refusal) → Below 16 ns → Wrote title ns image r exit → write_means r ≡ gives k → length title ≤ length title₀
      → length ns ≤ length ns₀ → length ns ≤ length flips₀ → Read (take k exit) title₀ ns₀ flips₀ q title₁ ns₁ flips₁
      → (read_means q ≡ gives (record { title = length title; grids = length ns })) × (title₁ ≡ laid title title₀) × (ns₁ ≡ laid ns ns₀)
      × (flips₁ ≡ laid (replicate (length ns) 0) flips₀)
  -- After at most seven flips in each grid of it, and none elsewhere, a scrub restores the image as written, ..
  pub restored : (title ns image exit ws after : List ℕ) (r : Result ℕ Refusal) (k : ℕ) (q : Result Tallies Refusal) → Below 16 ns
      → Wrote title ns image r exit → write_means r ≡ gives k → Switched ns ws → Scrubbed (image_of (card_on title ws)) q after
      → (scrub_means q ≡ gives (tallies_of (card_on title ws).parts)) × (after ≡ take k exit)
  -- .. and reading back before the scrub already gives the same title and numbers.
  pub read_before : (title ns image exit ws title₀ ns₀ flips₀ title₁ ns₁ flips₁ : List ℕ) (r : Result ℕ Refusal) (k : ℕ)
      (q : Result Lengths Refusal) → Below 16 ns → Wrote title ns image r exit → write_means r ≡ gives k → Switched ns ws
      → length title ≤ length title₀ → length ns ≤ length ns₀ → length ns ≤ length flips₀
      → Read (image_of (card_on title ws)) title₀ ns₀ flips₀ q title₁ ns₁ flips₁
      → (read_means q ≡ gives (record { title = length title; grids = length ns })) × (title₁ ≡ laid title title₀) × (ns₁ ≡ laid ns ns₀)

-- What reading back promises.
pub record ReadPromises : Type 0 where
  -- Over 32,768 bytes: 3; else broken: 4 with the place; else a slice that is too short: 6; else it is done.
  pub long : (image title ns flips title' ns' flips' : List ℕ) (r : Result Lengths Refusal) → most_bytes < length image
      → Read image title ns flips r title' ns' flips' → read_means r ≡ refuses 3
  pub broken_image : (image title ns flips title' ns' flips' : List ℕ) (at : ℕ) (r : Result Lengths Refusal) → length image ≤ most_bytes
      → card_of image ≡ broken at → Read image title ns flips r title' ns' flips' → read_means r ≡ refuses_at 4 at
  pub short : (image title ns flips title' ns' flips' : List ℕ) (c : Card) (r : Result Lengths Refusal) → length image ≤ most_bytes
      → card_of image ≡ sound c → Read image title ns flips r title' ns' flips' → room_for c title ns flips ≡ false
      → read_means r ≡ refuses 6
  pub accepted : (image title ns flips title' ns' flips' : List ℕ) (c : Card) (r : Result Lengths Refusal) → length image ≤ most_bytes
      → card_of image ≡ sound c → Read image title ns flips r title' ns' flips' → room_for c title ns flips ≡ true
      → (read_means r ≡ gives (record { title = length c.title; grids = length (grids_in c.parts) })) × (title' ≡ laid c.title title)
      × (ns' ≡ laid (data_of_grids (grids_in c.parts)) ns)
      × (flips' ≡ laid (flips_of_grids (grids_in c.parts)) flips)
  -- A call that gives nothing writes nothing.
  pub refused : (image title ns flips title' ns' flips' : List ℕ) (r : Result Lengths Refusal)
      → Read image title ns flips r title' ns' flips' → ((v : Lengths) → read_means r ≢ gives v)
      → (title' ≡ title) × (ns' ≡ ns) × (flips' ≡ flips)
  -- A blank grid is shown as 65,535, with 128 more than its flips, and no other grid is.
  pub blank_shown : (w n : ℕ) → grid_verdict w ≡ blank n → (data_of_grid w ≡ erased) × (flips_of_grid w ≡ n + 128)
  pub blank_only : (w : ℕ) → data_of_grid w ≡ erased → is_blank (grid_verdict w) ≡ 1

-- No second outcome satisfies the statement of a call.
pub record OneOutcome : Type 0 where
  pub scrub : (s a b : List ℕ) (r q : Result Tallies Refusal) → Scrubbed s r a → Scrubbed s q b → (r ≡ q) × (a ≡ b)
  pub write : (title ns image a b : List ℕ) (r q : Result ℕ Refusal) → Wrote title ns image r a → Wrote title ns image q b
      → (r ≡ q) × (a ≡ b)
  pub read : (image title ns flips t₁ n₁ f₁ t₂ n₂ f₂ : List ℕ) (r q : Result Lengths Refusal) → Read image title ns flips r t₁ n₁ f₁
      → Read image title ns flips q t₂ n₂ f₂ → (r ≡ q) × (t₁ ≡ t₂) × (n₁ ≡ n₂) × (f₁ ≡ f₂)
