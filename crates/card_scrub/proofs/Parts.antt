-- A data field scrubbed, and the fields behind it: what is counted, and what stands there afterwards. Assumes nothing.
use Rattle.std.specs.Prelude.{Some}
use Rattle.std.proofs.Common.{◌≡◌, ℕ, ◌+◌, ◌-◌, ◌*◌, ◌/◌, ◌%◌, ◌^◌, ◌≤◌, List, [], ◌∷◌, ◌++◌, map, length, take, drop, sym, refl, ap, ◌∙◌, ap₂, append_assoc, append-nil, mod-eq_of_lt, arith, lit<, length-append, length-drop, drop_of_length-le, length-take-le, drop-drop, take_at, drop_at}
use lib.ListN.{length-map}
use Rattle.words.specs.Digits.{digits, joined, Below}
use Rattle.words.specs.Bytes.{words_in, bytes_of}
use Rattle.words.proofs.Bytes.{length-words}
use Rattle.codes.specs.Verdict.{scrubbed}
use Rattle.codes.specs.Tally.{sum_by, Tally as Counted, tally_of}
use Rattle.codes.specs.Steps as codes
use Rattle.codes.proofs.Tally as codes-tally
use Rattle.codes.proofs.Tally.{tally-append}
use Rattle.grid_code.specs.Code.{code_of_grid}
use Rattle.page.specs.declared.Tally.{Tally}
use Rattle.page.specs.Tally.{last_from, grid_tally}
use Rattle.page.specs.Calls.{NoGrids}
use Rattle.page.specs.Steps.{later, plus}
use Rattle.page.proofs.Counts.{tally_two, small_sum}
use Rattle.block_code.specs.Code.{code_of_block}
use Rattle.block_code.proofs.Promises.{promised}
use Rattle.fields.specs.declared.Field.TheVariants.{Grids, Block}
use Rattle.fields.specs.Fields.{value, field_of}
use Rattle.fields.proofs.Fields.{Stands, known, length-value, grids_size}
use Rattle.image.specs.Card.{Part, grids, block, Card, sound, grids_in, blocks_in, grids_at, block_at, walk, head, part_bytes, parts_bytes, front_of, image_of}
use Rattle.image.proofs.Shape.{split}
use Rattle.image.specs.Steps.{Walks}
use Rattle.image.proofs.Walks.{less, Front, grids_front, block_front, bounded}
use Rattle.image.proofs.Checking.{Begins}
use Rattle.values.specs.Steps.{grids_of}
use Rattle.value_scrub.specs.declared.Blocks.{Blocks}
use Rattle.value_scrub.specs.Tally.{of_blocks, tally_in as blocks_tally, block_tally}
use Rattle.value_scrub.specs.Steps.{added, NoBlocks, ScrubbedGrids, ScrubbedBlock}
use Rattle.value_scrub.proofs.Scrubs.{whole_grids}
use Rattle.card_scrub.specs.declared.Tallies.{Tallies}
use Rattle.card_scrub.specs.Calls.{scrubbed_part, scrubbed_card, tallies_of}
use Rattle.card_scrub.specs.Steps.{wrapped, summed, ScrubbedFields, Passed}

-- ---- the image from a field on, with the value v in place of its own, and e in place of what is behind it

module _ (n m : ℕ) (s v : List ℕ) (room : 3 + n ≤ length s) (long : length v ≡ n) (is : m ≡ n) where
  abbrev with_value : List ℕ
  with_value = take 3 s ++ (v ++ drop m (drop 3 s))

  front_long : length (take 3 s ++ v) ≡ 3 + n
  front_long = omega (arith, length-append (take 3 s) v, length-take-le 3 s (omega arith), long)

  parted : with_value ≡ take 3 s ++ v ++ drop (3 + n) s
  parted =
      sym (append_assoc (take 3 s) v (drop m (drop 3 s)))
      ∙ ap (λ b. take 3 s ++ v ++ b) (drop-drop m 3 s ∙ ap (λ (k : ℕ). drop (3 + k) s) is)

  dropped : drop (3 + n) with_value ≡ drop (3 + n) s
  dropped = ap (drop (3 + n)) parted ∙ drop_at (take 3 s ++ v) (drop (3 + n) s) (3 + n) front_long

  pub taken : take (3 + n) with_value ≡ take 3 s ++ v
  taken = ap (take (3 + n)) parted ∙ take_at (take 3 s ++ v) (drop (3 + n) s) (3 + n) front_long

  pub same_long : length with_value ≡ length s
  same_long = ap length parted ∙ omega (arith, length-append (take 3 s ++ v) (drop (3 + n) s), front_long, length-drop (3 + n) s)

head_is : (t n : ℕ) (s : List ℕ) → Below 8 s → Stands s t n → take 3 s ≡ head t n
head_is t n s b h = ap (take 3) (split t n s b h)

-- ---- what is counted of a field, and of those behind it

-- of one field, ..
abbrev counted_in : Part → Tallies
counted_in (grids ws) = record { grids = grid_tally ws; blocks = block_tally [] }
counted_in (block w) = record { grids = grid_tally []; blocks = block_tally (w ∷ []) }

-- .. which has few grids
abbrev Few : Part → Type 0
Few (grids ws) = length ws ≤ 4096
Few (block w) = Unit {0}

-- where there is room for each number, nothing wraps
whole_sum : (t : Counted) → codes.Small t → wrapped t ≡ t
whole_sum t room = λ i. record {
  words = mod-eq_of_lt room.words i;
  clean = mod-eq_of_lt room.clean i;
  mended = mod-eq_of_lt room.mended i;
  lost = mod-eq_of_lt room.lost i;
  flips = mod-eq_of_lt room.flips i;
}

sum_of_grids : (ws vs : List ℕ) → length ws ≤ 4096 → length vs ≤ 4096
    → added (grid_tally ws) (grid_tally vs) ≡ grid_tally (ws ++ vs)
sum_of_grids ws vs p q =
    whole_grids (plus (grid_tally ws) (grid_tally vs)) (small_sum 4096 ws vs p q (lit< tt)) ∙ sym (tally_two ws vs)

sum_of_blocks : (ws vs : List ℕ) → length ws ≤ 32768 → length vs ≤ 32768
    → wrapped (codes.plus (tally_of code_of_block ws) (tally_of code_of_block vs)) ≡ tally_of code_of_block (ws ++ vs)
sum_of_blocks ws vs p q =
    whole_sum (codes.plus (tally_of code_of_block ws) (tally_of code_of_block vs))
    (codes-tally.small_sum code_of_block promised.verdicts 32768 ws vs p q (lit< tt) (lit< tt))
    ∙ sym (tally-append code_of_block ws vs)

one_more : (p : Part) (ps : List Part) → Few p → length (grids_in ps) ≤ 4096 → length (blocks_in ps) ≤ 32768
    → summed (counted_in p) (tallies_of ps) ≡ tallies_of (p ∷ ps)
one_more (grids ws) ps few g b = λ i. record {
  grids = sum_of_grids ws (grids_in ps) few g i;
  blocks = of_blocks (sum_of_blocks [] (blocks_in ps) (omega arith) b i);
}
one_more (block w) ps few g b = λ i. record {
  grids = sum_of_grids [] (grids_in ps) (omega arith) g i;
  blocks = of_blocks (sum_of_blocks (w ∷ []) (blocks_in ps) (omega arith) b i);
}

pub none_more : (ps : List Part) → length (grids_in ps) ≤ 4096 → length (blocks_in ps) ≤ 32768 → summed (tallies_of []) (tallies_of ps) ≡ tallies_of ps
none_more ps g b = λ i. record {
  grids = sum_of_grids [] (grids_in ps) (omega arith) g i;
  blocks = of_blocks (sum_of_blocks [] (blocks_in ps) (omega arith) b i);
}

-- ---- a data field p in front, of which v is the value put right

module _ (s v : List ℕ) (n m : ℕ) (p : Part) (r : Tallies) (w : Walks s) (room : 3 + n ≤ length s) (long : length v ≡ n) (is : m ≡ n)
    (few : Few p) (counted : r ≡ counted_in p) (put : take 3 s ++ v ≡ part_bytes (scrubbed_part p))
    (front : (left at : ℕ) (ps : List Part) → walk left at s ≡ sound ps → Front ps p (less left) (at + (3 + n)) (drop (3 + n) s)) where
  abbrev exit : List ℕ
  exit = with_value n m s v room long is

  walks_on : Walks (drop (3 + n) s)
  walks_on =
      let f = front w.left w.at w.parts w.found in
      record {
        few = omega (arith, w.few, length-drop (3 + n) s);
        left = less w.left;
        at = w.at + (3 + n);
        parts = f.behind;
        found = f.found;
      }

  completes : (there : Tallies) (e : List ℕ) → ScrubbedFields (drop (3 + n) s) there e → ScrubbedFields s (summed r there) (take (3 + n) exit ++ e)
  unfolding parts_bytes
  completes there e rest = record {
    answer = λ left at ps found.
        let f = front left at ps found in
        let b = bounded (less left) (at + (3 + n)) (drop (3 + n) s) f.behind f.found in
        let l = length-drop (3 + n) s in
        ap₂ summed counted (rest.answer (less left) (at + (3 + n)) f.behind f.found)
        ∙ one_more p f.behind few (omega (arith, b.0, l, w.few)) (omega (arith, b.1, l, w.few)) ∙ ap tallies_of (sym f.is);
    after = λ left at ps found.
        let f = front left at ps found in
        let there_after = rest.after (less left) (at + (3 + n)) f.behind f.found in
        ap₂ {C = List ℕ} (λ (a b : List ℕ). a ++ b) (taken n m s v room long is ∙ put) there_after
        ∙ sym (append_assoc (part_bytes (scrubbed_part p)) (parts_bytes (map scrubbed_part f.behind)) (head 127 0))
        ∙ ap (λ ps. parts_bytes (map scrubbed_part ps) ++ head 127 0) (sym f.is);
  }

  pub passed : Passed s (3 + n) r exit
  passed = record {
    some = omega arith;
    room = room;
    walks = walks_on;
    long = same_long n m s v room long is;
    behind = dropped n m s v room long is;
    completes = completes;
  }

-- ---- a grids field, and a block

module _ (s v : List ℕ) (n m : ℕ) (r : Tally) (none : Blocks) (w : Walks s) (b : Below 8 s) (f : field_of s ≡ Some (Grids n)) (is : m ≡ n)
    (long : length v ≡ n) (here : ScrubbedGrids (take m (drop 3 s)) r v) (zero-blocks : NoBlocks none) where
  ws : List ℕ
  ws = words_in 8 (n / 8) (value s)

  words_are : grids_of (take m (drop 3 s)) ≡ ws
  unfolding ws
  words_are =
      let st = (known s f).0 in
      let part : take m (drop 3 s) ≡ value s = ap (λ (k : ℕ). take k (drop 3 s)) (is ∙ sym st.size_is) in
      let l : length (take m (drop 3 s)) / 8 ≡ n / 8 =
      omega (arith, ap length part, length-value s (omega (arith, st.size_is, st.room)), st.size_is) in
      ap₂ (λ (k : ℕ) (p : List ℕ). words_in 8 k p) l part

  pub grids-passed : Passed s (3 + n) (record { grids = r; blocks = none }) (take 3 s ++ (v ++ drop m (drop 3 s)))
  unfolding ws part_bytes sum_by last_from
  grids-passed =
      let st = (known s f).0 in
      let sizes = grids_size n (known s f).1 in
      let new = map (scrubbed code_of_grid) ws in
      let k : n ≡ 8 * length new = omega (arith, sizes.1, length-map ws (scrubbed code_of_grid), length-words 8 (n / 8) (value s)) in
      passed s v n m (grids_at n (value s)) (record { grids = r; blocks = none }) w st.room long is
      (omega (arith, sizes.0, length-words 8 (n / 8) (value s)))
      (λ i. record { grids = (here.answer ∙ ap grid_tally words_are) i; blocks = zero-blocks.answer i })
      (ap₂ {C = List ℕ} (λ (a b : List ℕ). a ++ b) (head_is 2 n s b st ∙ ap (head 2) k)
      (here.after ∙ ap (λ l. bytes_of 8 (map (scrubbed code_of_grid) l)) words_are))
      (λ left at ps found. grids_front at s ps left n f found)

module _ (s v : List ℕ) (r : Blocks) (none : Tally) (w : Walks s) (b : Below 8 s) (f : field_of s ≡ Some Block)
    (long : length v ≡ 76) (here : ScrubbedBlock (take 76 (drop 3 s)) r v) (zero-grids : NoGrids none) where
  pub block-passed : Passed s 79 (record { grids = none; blocks = r }) (take 3 s ++ (v ++ drop 76 (drop 3 s)))
  unfolding part_bytes sum_by last_from
  block-passed =
      let st = known s f in
      let part : take 76 (drop 3 s) ≡ value s = ap (λ (k : ℕ). take k (drop 3 s)) (sym st.size_is) in
      passed s v 76 76 (block_at (value s)) (record { grids = none; blocks = r }) w st.room long refl tt
      (λ i. record {
        grids = zero-grids.answer i;
        blocks = (here.answer ∙ ap (λ p. block_tally (joined 16 (words_in 2 38 p) ∷ [])) part) i;
      })
      (ap₂ {C = List ℕ} (λ (a b : List ℕ). a ++ b) (head_is 3 76 s b st)
      (here.after ∙ ap (λ p. bytes_of 2 (digits 16 38 (scrubbed code_of_block (joined 16 (words_in 2 38 p))))) part))
      (λ left at ps found. block_front at s ps left f found)

-- ---- sums of sums

nothing_more : (a b : ℕ) → ((a + b) % 2 ^ 32 + 0) % 2 ^ 32 ≡ (a + b) % 2 ^ 32
nothing_more a b = omega arith

wrapped_once : (a b : Counted) → wrapped (codes.plus (wrapped (codes.plus a b)) (tally_of code_of_block [])) ≡ wrapped (codes.plus a b)
unfolding sum_by
wrapped_once a b = λ i. record {
  words = nothing_more a.words b.words i;
  clean = nothing_more a.clean b.clean i;
  mended = nothing_more a.mended b.mended i;
  lost = nothing_more a.lost b.lost i;
  flips = nothing_more a.flips b.flips i;
}

added_once : (a b : Tally) → added (added a b) (grid_tally []) ≡ added a b
unfolding sum_by last_from
added_once a b = λ i. record {
  grids = nothing_more a.grids b.grids i;
  clean = nothing_more a.clean b.clean i;
  blank = nothing_more a.blank b.blank i;
  mended = nothing_more a.mended b.mended i;
  lost = nothing_more a.lost b.lost i;
  flips = nothing_more a.flips b.flips i;
  pattern = later a.pattern b.pattern;
}

-- nothing is added by no fields
pub summed_none : (a b : Tallies) → summed (summed a b) (tallies_of []) ≡ summed a b
summed_none a b = λ i. record {
  grids = added_once a.grids b.grids i;
  blocks = of_blocks (wrapped_once (blocks_tally a.blocks) (blocks_tally b.blocks) i);
}

-- tallies of zeros, as a derive says it
pub no_fields : (t : Tallies)
    → ((t.grids.grids ≡ 0) × ((t.grids.clean ≡ 0) × ((t.grids.blank ≡ 0) × ((t.grids.mended ≡ 0) × ((t.grids.lost ≡ 0)
    × ((t.grids.flips ≡ 0) × (t.grids.pattern ≡ 0)))))))
    × ((t.blocks.blocks ≡ 0) × ((t.blocks.clean ≡ 0) × ((t.blocks.mended ≡ 0) × ((t.blocks.lost ≡ 0) × (t.blocks.flips ≡ 0)))))
    → t ≡ tallies_of []
unfolding sum_by last_from
no_fields t ((g, (c, (k, (m, (l, (f, p)))))), (n, (d, (r, (o, s))))) = λ i. record {
  grids = record { grids = g i; clean = c i; blank = k i; mended = m i; lost = l i; flips = f i; pattern = p i };
  blocks = record { blocks = n i; clean = d i; mended = r i; lost = o i; flips = s i };
}

pub none_none : summed (tallies_of []) (tallies_of []) ≡ tallies_of []
unfolding sum_by last_from
none_none = refl

-- ---- the whole image

-- with its fields scrubbed, where the title r ends
pub scrubbed_image : (s r e : List ℕ) (c : Card) → Begins s c → r ≡ c.title → Below 8 s → e ≡ parts_bytes (map scrubbed_part c.parts) ++ head 127 0
    → take (3 + length r) s ++ (e ++ drop (length s - (3 + length r)) (drop (3 + length r) s)) ≡ image_of (scrubbed_card c)
unfolding front_of image_of
scrubbed_image s r e c start is b h =
    let k = 3 + length r in
    let n = length c.title in
    let few : length (drop k s) ≤ length s - k = omega (arith, length-drop k s) in
    let whole : s ≡ head 1 n ++ c.title ++ drop (3 + n) s =
    split 1 n s b (known s start.titled_so).0 ∙ ap (λ v. head 1 n ++ v ++ drop (3 + n) s) (sym start.title_value) in
    let front : take k s ≡ head 1 n ++ c.title =
    ap (take k) whole ∙ take_at (head 1 n ++ c.title) (drop (3 + n) s) k (omega (arith, ap length is, length-append (head 1 n) c.title)) in
    ap₂ {C = List ℕ} (λ (a b : List ℕ). a ++ b) front (ap (λ b. e ++ b) (drop_of_length-le (drop k s) few) ∙ append-nil e ∙ h)
    ∙ sym (append_assoc (head 1 n ++ c.title) (parts_bytes (map scrubbed_part c.parts)) (head 127 0))
