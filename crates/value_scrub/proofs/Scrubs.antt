-- What a scrub makes of the grids and of the block in a value. Assumes nothing.
use Rattle.std.specs.Prelude.{Err, Ok, Result}
use Rattle.std.proofs.Common.{◌≡◌, ℕ, ◌+◌, ◌*◌, ◌/◌, ◌%◌, ◌≤◌, Bool, true, false, List, [], ◌∷◌, ◌++◌, map, length, take, drop, sym, refl, ap, ◌∙◌, subst, ap₂, append_assoc, mod-eq_of_lt, arith, lit<, length-append, length-drop, length-take-le, drop-drop, take_at, take-add, drop_at, eq-eqb, ne_eqb}
use Rattle.std.specs.Prelude.{min}
use Rattle.std.proofs.lemmas.List.{take_min, drop_min}
use mathlib.Core.List.{map-append}
use lib.ListN.{length-map}
use Rattle.words.specs.Word.{choose}
use Rattle.words.specs.Digits.{digits, joined, Below}
use Rattle.words.specs.Bytes.{words_in, bytes_of}
use Rattle.words.proofs.Digits.{length_digits, digits-joined}
use Rattle.words.proofs.Bytes.{length-words, words_two, bytes-append, bytes-words, words_below}
use Rattle.refusals.specs.declared.Refusal.TheVariants.{Length}
use Rattle.codes.specs.Verdict.{Verdict, clean, mended, lost, verdict, scrubbed}
use Rattle.codes.specs.Tally.{sum_by, tally_of_one}
use Rattle.codes.proofs.Tally.{unflipped, tallies}
use Rattle.grid_code.specs.Code.{code_of_grid}
use Rattle.grid_code.specs.Verdict.{flips_of}
use Rattle.page.specs.declared.Tally.{Tally}
use Rattle.page.specs.Tally.{sum_grids, last_from, grid_tally}
use Rattle.page.specs.Calls.{NoGrids, Scrubbed}
use Rattle.page.specs.Steps.{Small, plus}
use Rattle.page.proofs.Counts.{kept, tally_two, small_sum}
use Rattle.page.proofs.Promises.{was_done}
use Rattle.block_code.specs.Code.{code_of_block}
use Rattle.block_code.proofs.Promises as blocks
use Rattle.block.specs.Answer.{answer_of}
use Rattle.block.specs.Calls as block
use Rattle.block.specs.declared.BlockVerdict.TheVariants.{Clean, Mended}
use Rattle.block.specs.declared.Scrub.{Scrub}
use Rattle.fields.specs.Fields.{is_grids}
use Rattle.values.specs.Steps.{grids_of, Taken, Put}
use Rattle.values.proofs.Fits.{taken_there, put_there}
use Rattle.value_scrub.specs.declared.Blocks.{Blocks}
use Rattle.value_scrub.specs.Tally.{of_blocks, block_tally}
use Rattle.value_scrub.specs.Steps.{NoBlocks, wrapped_grids, Added, ScrubbedGrids, ScrubbedBlock, AnyGrids, AnyBlock}
use Rattle.block.specs.declared.BlockVerdict.{BlockVerdict}
use Rattle.refusals.specs.declared.Refusal.{Refusal}

-- ---- by way of a page

module _ (value before page after : List ℕ) {r : Result Tally Refusal} {t : Tally} (fits : length value ≡ 8 * length before) (bytes : Below 8 value)
    (read : Taken 8 value before page) (scrub : Scrubbed page r after) (is : r ≡ Ok t) where
  abbrev n : ℕ
  n = length before

  taken : page ≡ words_in 8 n value
  taken = taken_there 8 value before page fits read

  done : Scrubbed page (Ok t) after
  done = subst (λ r. Scrubbed page r after) is scrub

  size : length value / 8 ≡ n
  size = omega (arith, fits)

  words : page ≡ grids_of value
  words = taken ∙ ap (λ (n : ℕ). words_in 8 n value) (sym size)

  tally : t ≡ grid_tally (grids_of value)
  tally = (was_done page after t done).1 ∙ ap grid_tally words

  still : length value ≡ 8 * length after
  still = fits ∙ ap (λ n. 8 * n) (sym (ap length ((was_done page after t done).2 ∙ ap (map (scrubbed code_of_grid)) taken)
      ∙ length-map (words_in 8 n value) (scrubbed code_of_grid) ∙ length-words 8 n value))

  pub page_written : {exit : List ℕ} → Put 8 after value exit → ScrubbedGrids value t exit
  page_written {exit} e = record {
    answer = tally;
    after = put_there 8 value after exit still e ∙ ap (bytes_of 8) ((was_done page after t done).2 ∙ ap (map (scrubbed code_of_grid)) words);
  }

  pub page_kept : t.flips ≡ 0 → ScrubbedGrids value t value
  page_kept z =
      let ws = grids_of value in
      let none : sum_grids flips_of ws ≡ 0 = sym (ap (λ t. t.flips) tally) ∙ z in
      record {
        answer = tally;
        after = sym (ap (bytes_of 8) (kept ws none) ∙ bytes-words 8 (length value / 8) value (omega (arith, fits)) bytes);
      }

-- ---- two parts of a value

-- both scrubbed, each by itself
pub grids_two : (a b a' b' : List ℕ) (r s : Tally) → length a % 8 ≡ 0 → length b % 8 ≡ 0
    → ScrubbedGrids a r a' → ScrubbedGrids b s b' → ScrubbedGrids (a ++ b) (plus r s) (a' ++ b')
grids_two a b a' b' r s p q x y =
    let m : ℕ = length a / 8 in
    let n : ℕ = length b / 8 in
    let e : length (a ++ b) / 8 ≡ m + n = omega (arith, length-append a b) in
    let ws : grids_of (a ++ b) ≡ words_in 8 m a ++ words_in 8 n b =
    ap (λ (j : ℕ). words_in 8 j (a ++ b)) e ∙ words_two 8 m n a b (omega (arith, p)) in
    record {
      answer = ap₂ plus x.answer y.answer ∙ sym (ap grid_tally ws ∙ tally_two (words_in 8 m a) (words_in 8 n b));
      after =
          ap₂ {C = List ℕ} (λ (c d : List ℕ). c ++ d) x.after y.after
          ∙ sym (bytes-append 8 (map (scrubbed code_of_grid) (words_in 8 m a)) (map (scrubbed code_of_grid) (words_in 8 n b)))
          ∙ ap (bytes_of 8) (sym (map-append (scrubbed code_of_grid) (words_in 8 m a) (words_in 8 n b)) ∙ ap (map (scrubbed code_of_grid)) (sym ws));
    }

-- the numbers of a tally are small
pub grids_roomy : (a b a' b' : List ℕ) (r s : Tally) → length a ≤ 32768 → length b ≤ 32768 → ScrubbedGrids a r a' → ScrubbedGrids b s b'
    → Small (plus r s)
grids_roomy a b a' b' r s l m x y =
    let few = small_sum 4096 (grids_of a) (grids_of b) (omega (arith, length-words 8 (length a / 8) a)) (omega (arith, length-words 8 (length b / 8) b))
    (lit< tt) in
    subst (λ r. Small (plus r s)) (sym x.answer) (subst (λ s. Small (plus (grid_tally (grids_of a)) s)) (sym y.answer) few)

-- of no grids
pub no_grids : (r : Tally) → NoGrids r → ScrubbedGrids [] r []
unfolding sum_by last_from words_in bytes_of
no_grids r h = record { answer = h.answer; after = refl }

-- where there is room for each number, nothing wraps
pub whole_grids : (t : Tally) → Small t → wrapped_grids t ≡ t
whole_grids t room = λ i. record {
  grids = mod-eq_of_lt room.grids i;
  clean = mod-eq_of_lt room.clean i;
  blank = mod-eq_of_lt room.blank i;
  mended = mod-eq_of_lt room.mended i;
  lost = mod-eq_of_lt room.lost i;
  flips = mod-eq_of_lt room.flips i;
  pattern = t.pattern;
}

-- One page more. Of the value as it was, the bytes before `at` are scrubbed, and those from there on are as they were.
module _ (value now : List ℕ) (at n m : ℕ) (t r u : Tally) (page : List ℕ) (few : length value ≤ 4096) (inside : at + 8 * n ≤ length value)
    (whole : at % 8 ≡ 0) (same : length now ≡ length value) (front : ScrubbedGrids (take at value) t (take at now))
    (behind : drop at now ≡ drop at value) (is : m ≡ 8 * n) (long : length page ≡ 8 * n) (here : ScrubbedGrids (take m (drop at now)) r page)
    (sum : Added t r u) where
  abbrev next : List ℕ
  next = take at now ++ (page ++ drop m (drop at now))

  front_long : length (take at now ++ page) ≡ at + 8 * n
  front_long = omega (arith, length-append (take at now) page, length-take-le at now (omega (arith, same, inside)), long)

  parted : next ≡ take at now ++ page ++ drop (at + 8 * n) now
  parted =
      sym (append_assoc (take at now) page (drop m (drop at now)))
      ∙ ap (λ b. take at now ++ page ++ b) (drop-drop m at now ∙ ap (λ (k : ℕ). drop (at + k) now) is)

  next_long : length next ≡ length value
  next_long =
      omega (arith, ap length parted, length-append (take at now ++ page) (drop (at + 8 * n) now), front_long, length-drop (at + 8 * n) now, same, inside)

  next_front : ScrubbedGrids (take (at + 8 * n) value) u (take (at + 8 * n) next)
  next_front =
      let there : ScrubbedGrids (take (8 * n) (drop at value)) r page =
      subst (λ l. ScrubbedGrids (take (8 * n) l) r page) behind (subst (λ (k : ℕ). ScrubbedGrids (take k (drop at now)) r page) is here) in
      let l = length-take-le at value (omega (arith, inside)) in
      let m = length-take-le (8 * n) (drop at value) (omega (arith, inside, length-drop at value)) in
      let room =
      grids_roomy (take at value) (take (8 * n) (drop at value)) (take at now) page t r (omega (arith, l, few, inside)) (omega (arith, m, few, inside)) front there in
      let two =
      grids_two (take at value) (take (8 * n) (drop at value)) (take at now) page t r (omega (arith, l, whole)) (omega (arith, m)) front there in
      subst (λ w. ScrubbedGrids w u (take (at + 8 * n) next)) (sym (take-add at (8 * n) value))
      (record {
        answer = sum.answer ∙ whole_grids (plus t r) room ∙ two.answer;
        after = ap (take (at + 8 * n)) parted ∙ take_at (take at now ++ page) (drop (at + 8 * n) now) (at + 8 * n) front_long ∙ two.after;
      })

  next_behind : drop (at + 8 * n) next ≡ drop (at + 8 * n) value
  next_behind =
      ap (drop (at + 8 * n)) parted ∙ drop_at (take at now ++ page) (drop (at + 8 * n) now) (at + 8 * n) front_long
      ∙ sym (drop-drop (8 * n) at now) ∙ ap (drop (8 * n)) behind ∙ drop-drop (8 * n) at value

  pub page_more : (length next ≡ length value) × ScrubbedGrids (take (at + 8 * n) value) u (take (at + 8 * n) next) × (drop (at + 8 * n) next ≡ drop (at + 8 * n) value)
  page_more = (next_long, next_front, next_behind)

-- as far as the end of the page, or of the value
pub to_page_end : (value next : List ℕ) (u : Tally) (n end : ℕ) → end ≡ min n (length value)
    → (length next ≡ length value) × ScrubbedGrids (take end value) u (take end next) × (drop end next ≡ drop end value)
    → ScrubbedGrids (take n value) u (take n next) × (drop n next ≡ drop n value)
to_page_end value next u n end is (long, front, behind) =
    let there : end ≡ min n (length next) = is ∙ ap (min n) (sym long) in
    let t : take end value ≡ take n value = ap (λ (k : ℕ). take k value) is ∙ take_min n value in
    let t' : take end next ≡ take n next = ap (λ (k : ℕ). take k next) there ∙ take_min n next in
    let d : drop end value ≡ drop n value = ap (λ (k : ℕ). drop k value) is ∙ drop_min n value in
    let d' : drop end next ≡ drop n next = ap (λ (k : ℕ). drop k next) there ∙ drop_min n next in
    (subst (λ b. ScrubbedGrids b u (take n next)) t (subst (λ b. ScrubbedGrids (take end value) u b) t' front), sym d' ∙ behind ∙ d)

-- ---- any value

module _ (value exit : List ℕ) (r : Tally) where
  pub fitting_grids : is_grids (length value) ≡ true → AnyGrids value r exit → ScrubbedGrids value r exit
  fitting_grids h x = record { answer = x.answer ∙ (rw h); after = x.after ∙ (rw h) }

pub other_grids : (value : List ℕ) (r : Tally) → is_grids (length value) ≡ false → NoGrids r → AnyGrids value r value
unfolding sum_by last_from
other_grids value r h none = record { answer = rw h none.answer; after = rw h }

module _ (value exit : List ℕ) (r : Blocks) (h : length value ≡ 76) where
  pub fitting_block : AnyBlock value r exit → ScrubbedBlock value r exit
  fitting_block x = let e = eq-eqb (length value) 76 h in record { answer = x.answer ∙ (rw e); after = x.after ∙ (rw e) }

pub other_block : (value : List ℕ) (r : Blocks) → (length value ≡ 76 → ⊥) → NoBlocks r → AnyBlock value r value
unfolding sum_by
other_block value r h none = let e = ne_eqb (length value) 76 h in record { answer = rw e none.answer; after = rw e }

-- ---- a block

-- what a block's answer counts, ..
abbrev pub of_answer : Result BlockVerdict Refusal → Blocks
of_answer (Ok Clean) = record { blocks = 1; clean = 1; mended = 0; lost = 0; flips = 0 }
of_answer (Ok (Mended n)) = record { blocks = 1; clean = 0; mended = 1; lost = 0; flips = n }
of_answer (Err why) = record { blocks = 1; clean = 0; mended = 0; lost = 1; flips = 0 }

-- .. and its verdict does
answered : (v : Verdict) → of_answer (answer_of v) ≡ of_blocks (tally_of_one v)
answered (clean d) = refl
answered (mended d n) = refl
answered lost = refl

module _ (value before words after : List ℕ) {r : Scrub} {a : Result BlockVerdict Refusal} (fits : (length value ≡ 76) × (length before ≡ 38))
    (bytes : Below 8 value) (read : Taken 2 value before words) (done : block.Scrubbed words r after) (is : r.answer ≡ a) where
  w : ℕ
  w = joined 16 (words_in 2 38 value)

  as_words : words ≡ words_in 2 38 value
  as_words = taken_there 2 value before words (omega (arith, fits)) read ∙ ap (λ (n : ℕ). words_in 2 n value) fits.1

  thirty_eight : length words ≡ 38
  thirty_eight = ap length as_words ∙ length-words 2 38 value

  told : r.answer ≡ answer_of (verdict code_of_block w)
  unfolding w
  told =
      done.answer ∙ ap (λ (b : Bool). choose b (answer_of (verdict code_of_block (joined 16 words))) (Err Length)) (eq-eqb (length words) 38 thirty_eight)
      ∙ ap (λ l. answer_of (verdict code_of_block (joined 16 l))) as_words

  answer : of_answer r.answer ≡ block_tally (w ∷ [])
  answer = ap of_answer told ∙ answered (verdict code_of_block w) ∙ sym (ap of_blocks ((tallies code_of_block (blocks.promised).verdicts).one w))

  is_after : after ≡ digits 16 38 (scrubbed code_of_block w)
  unfolding w
  is_after =
      done.after
      ∙ ap {B = List ℕ} (λ (b : Bool). choose b (digits 16 38 (scrubbed code_of_block (joined 16 words))) words) (eq-eqb (length words) 38 thirty_eight)
      ∙ ap (λ l. digits 16 38 (scrubbed code_of_block (joined 16 l))) as_words

  pub words_written : {exit : List ℕ} → Put 2 after value exit → ScrubbedBlock value (of_answer a) exit
  unfolding w
  words_written {exit} e = record {
    answer = ap of_answer (sym is) ∙ answer;
    after =
        put_there 2 value after exit (omega (arith, fits.0, ap length is_after, length_digits 16 38 (scrubbed code_of_block w))) e
        ∙ ap (bytes_of 2) is_after;
  }

  pub words_kept : (of_answer a).flips ≡ 0 → ScrubbedBlock value (of_answer a) value
  unfolding w
  words_kept z = record {
    answer = ap of_answer (sym is) ∙ answer;
    after =
        sym (ap (λ (x : ℕ). bytes_of 2 (digits 16 38 x)) (unflipped code_of_block (blocks.promised).verdicts w (sym (ap (λ t. t.flips) (ap of_answer (sym is ∙ told) ∙ answered (verdict code_of_block w))) ∙ z))
        ∙ ap (bytes_of 2) (digits-joined 16 38 (words_in 2 38 value) (length-words 2 38 value) (words_below 2 38 value (omega (arith, fits.0)) bytes))
        ∙ bytes-words 2 38 value fits.0 bytes);
  }
