-- The card of a title and of grids with at most seven lamps switched in each: it can stand in an image, reads as what was written, and is
-- put right as it was written. Assumes nothing.
use Rattle.std.specs.Prelude.{Result}
use mathlib.Core.Path.{◌≡◌, sym, ap, ◌∙◌}
use mathlib.Core.Bool.{true, and-eq-true_iff}
use mathlib.Core.List.{List, [], ◌++◌, map, append-nil}
use Prim.Native.Nat.{ℕ, ◌+◌, ◌*◌, ◌≤◌, ◌<◌}
use native.Mathlib.Omega.{arith}
use lib.Dec.{leb}
use lib.ListN.{length, get_or, replicate, length-map, length-replicate, get_or-replicate}
use lib.Seq.{ext_get_or}
use borrow.Author.Tests.{leb-true, eq-eqb}
use Rattle.words.specs.Word.{dist}
use Rattle.words.specs.Digits.{Below}
use Rattle.words.specs.Bytes.{laid}
use Rattle.words.proofs.Bytes.{below_map}
use Rattle.words.proofs.Lists.{map_get_d}
use Rattle.words.proofs.Dist.{dist_self}
use Rattle.codes.specs.Verdict as codes
use Rattle.codes.specs.Verdict.{off, scrubbed}
use Rattle.codes.specs.Promises as promises
use Rattle.refusals.specs.Reply.{gives}
use Rattle.grid_code.specs.Code.{codeword, code_of_grid}
use Rattle.grid_code.specs.Verdict.{Verdict, clean, blank, mended, lost, named, grid_verdict, Hands}
use Rattle.grid_code.proofs.Promises.{promised}
use Rattle.grid_code.proofs.Verdict.{named_clean}
use Rattle.page.specs.Calls.{most_grids}
use Rattle.fields.specs.Fields.{title_most, title_length, first_bad}
use Rattle.fields.proofs.Titles.{title_length_lem}
use Rattle.image.specs.Card.{grids, sound, most_bytes, card_of, part_bytes, parts_bytes, image_of}
use Rattle.image.specs.Promises.{Proper}
use Rattle.image.proofs.Promises as image
use Rattle.card_write.specs.Calls.{card_on, lengths_allowed}
use Rattle.value_read.specs.Shown.{data_shown, flips_shown, data_of_grid, flips_of_grid, data_of_grids, flips_of_grids}
use Rattle.card_read.specs.Answer.{means}
use Rattle.card_read.specs.Calls.{room_for, Read}
use Rattle.card_read.proofs.Readings.{roomy, same, all_read}
use Rattle.card.specs.Promises.{Switched, AllStored}
use Rattle.card.proofs.Again.{grids_long, card_long}
use Rattle.card_read.specs.declared.Lengths.{Lengths}
use Rattle.refusals.specs.declared.Refusal.{Refusal}

-- ---- grid by grid

handed_data : (v : Verdict) (d n : ℕ) → Hands v d n → data_shown v ≡ d
handed_data (clean e) d n h = h.0
handed_data (blank m) d n h = absurd h
handed_data (mended e m) d n h = h.0
handed_data lost d n h = absurd h

handed_word : (w : ℕ) (v : codes.Verdict) (d n : ℕ) → promises.Hands v d n → codes.repaired code_of_grid w v ≡ codeword d
handed_word w (codes.clean e) d n h = ap codeword h.0
handed_word w (codes.mended e m) d n h = ap codeword h.0
handed_word w codes.lost d n h = absurd h

-- a list, by its places
mapped : (f : ℕ → ℕ) (ws ys : List ℕ) → length ws ≡ length ys → ((i : ℕ) → i < length ys → f (get_or ws i 0) ≡ get_or ys i 0) → map f ws ≡ ys
mapped f ws ys e h =
    ext_get_or 0 (map f ws) ys (length-map ws f ∙ e)
    (λ i l. let m : i < length ws = omega (arith, l, length-map ws f) in map_get_d f ws i m ∙ h i (omega (arith, m, e)))

module _ (ns ws : List ℕ) (small : Below 16 ns) (stored : AllStored ns) (s : Switched ns ws) where
  numbers_read : data_of_grids ws ≡ ns
  numbers_read =
      mapped data_of_grid ws ns s.many
      (λ i l.
      handed_data (grid_verdict (get_or ws i 0)) (get_or ns i 0) (off code_of_grid (get_or ws i 0) (get_or ns i 0))
      ((promised.demand3 (get_or ws i 0)).given (get_or ns i 0) (omega (arith, small i, stored i l)) (s.few i l)))

  pub put_right : map (scrubbed code_of_grid) ws ≡ map codeword ns
  put_right =
      mapped (scrubbed code_of_grid) ws (map codeword ns) (s.many ∙ sym (length-map ns codeword))
      (λ i l.
      let m : i < length ns = omega (arith, l, length-map ns codeword) in
      handed_word (get_or ws i 0) (codes.verdict code_of_grid (get_or ws i 0)) (get_or ns i 0) (off code_of_grid (get_or ws i 0) (get_or ns i 0))
      ((promised.verdicts.demand3 (get_or ws i 0)).given (get_or ns i 0) (small i) (s.few i m))
      ∙ sym (map_get_d codeword ns i m))

-- .. none switched
module _ (ns : List ℕ) (small : Below 16 ns) where
  pub none_switched : Switched ns (map codeword ns)
  none_switched = record {
    many = length-map ns codeword;
    words = below_map 16 64 codeword promised.constants.fits ns small;
    few = λ i l.
        let e : dist (get_or (map codeword ns) i 0) (codeword (get_or ns i 0)) ≡ 0 =
        ap (λ (w : ℕ). dist w (codeword (get_or ns i 0))) (map_get_d codeword ns i l) ∙ dist_self (codeword (get_or ns i 0)) in
        omega (arith, e);
  }

  pub no_flips : AllStored ns → flips_of_grids (map codeword ns) ≡ replicate (length ns) 0
  no_flips stored =
      mapped flips_of_grid (map codeword ns) (replicate (length ns) 0)
      (length-map ns codeword ∙ sym (length-replicate (length ns) 0))
      (λ i l.
      let m : i < length ns = omega (arith, l, length-replicate {A = ℕ} (length ns) 0) in
      ap flips_of_grid (map_get_d codeword ns i m)
      ∙ ap flips_shown (ap named (promised.verdicts.unharmed (get_or ns i 0) (small i)) ∙ named_clean (get_or ns i 0) (stored i m))
      ∙ sym (get_or-replicate (length ns) i 0 0 m))

-- ---- the card

pub length_on : (title ws : List ℕ) → length (image_of (card_on title ws)) ≡ 9 + length title + 8 * length ws
unfolding parts_bytes
length_on title ws = omega (arith, card_long (card_on title ws), ap length (append-nil (part_bytes (grids ws))), grids_long ws)

-- what the writer's tests say
module _ (title ns : List ℕ) (allowed : lengths_allowed title ns ≡ true) where
  tests : (title_length (length title) ≡ true) × (leb (length ns) most_grids ≡ true)
  tests = (and-eq-true_iff (title_length (length title)) (leb (length ns) most_grids)).0 allowed

  pub lengths : (length title ≤ title_most) × (length ns ≤ most_grids)
  lengths = ((title_length_lem (length title) tests.0).1, leb-true (length ns) most_grids tests.1)

  module _ (good : first_bad title ≡ length title) (ws : List ℕ) (s : Switched ns ws) where
    pub proper_on : Proper (card_on title ws)
    proper_on = record {
      title = rw (tests.0, eq-eqb (first_bad title) (length title) good);
      few = omega arith;
      each = ((omega (arith, s.many, lengths), s.words), tt);
    }

    pub few : length (image_of (card_on title ws)) ≤ most_bytes
    few = omega (arith, length_on title ws, s.many, lengths)

    pub found_on : card_of (image_of (card_on title ws)) ≡ sound (card_on title ws)
    found_on = (image.promised).there_and_back (card_on title ws) proper_on

    -- reading back, given room
    module _ (title₀ ns₀ flips₀ : List ℕ) (l : length title ≤ length title₀) (m : length ns ≤ length ns₀)
        (k : length ns ≤ length flips₀) where
      many : length (ws ++ []) ≡ length ns
      many = ap length (append-nil ws) ∙ s.many

      room : room_for (card_on title ws) title₀ ns₀ flips₀ ≡ true
      room = roomy title₀ ns₀ flips₀ (card_on title ws) l (omega (arith, m, many)) (omega (arith, k, many))

      pub read_on : (r : Result Lengths Refusal) (title₁ ns₁ flips₁ : List ℕ) → Below 16 ns → AllStored ns
          → Read (image_of (card_on title ws)) title₀ ns₀ flips₀ r title₁ ns₁ flips₁
          → (means r ≡ gives (record { title = length title; grids = length ns })) × (title₁ ≡ laid title title₀) × (ns₁ ≡ laid ns ns₀)
          × (flips₁ ≡ laid (flips_of_grids ws) flips₀)
      read_on r title₁ ns₁ flips₁ small stored d =
          let (a, t, n, f) = same d (all_read (image_of (card_on title ws)) title₀ ns₀ flips₀ (card_on title ws) few found_on room) in (
            ap means a ∙ ap (λ (n : ℕ). gives (record { title = length title; grids = n })) many,
            t,
            n ∙ ap (λ l. laid l ns₀) (ap data_of_grids (append-nil ws) ∙ numbers_read ns ws small stored s),
            f ∙ ap (λ l. laid (flips_of_grids l) flips₀) (append-nil ws),
          )
