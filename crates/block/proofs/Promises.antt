-- What specs/Promises.antt says of the block's calls holds. Assumes nothing.
use Rattle.std.specs.Prelude.{Err, Ok, Result, ⊤}
use mathlib.Core.Path.{◌≡◌, refl, sym, ap, ◌∙◌, subst}
use mathlib.Core.Logic.{◌≢◌, ◌⊎◌, inl, inr}
use mathlib.Core.Bool.{Bool, true, false}
use mathlib.Core.List.{List}
use Prim.Native.Nat.{ℕ, ◌^◌, ◌≤◌, ◌<◌}
use native.Mathlib.Decide.{ℕ_discrete}
use native.Mathlib.Omega.{arith}
use lib.Bits.{bit_xor, xor_lt, xor_self}
use lib.Count.{ones}
use lib.Dec.{eqb, lit<}
use lib.ListN.{length, take, replicate}
use borrow.Author.Tests.{eq-eqb, ne_eqb}
use Rattle.words.specs.Word.{choose, dist}
use Rattle.words.specs.Digits.{digits, joined, Below}
use Rattle.words.proofs.Digits.{length_digits, digits_below, take-digits, joined-digits, joined_lt, digits-joined}
use Rattle.refusals.specs.declared.Refusal.TheVariants.{LostBlock, Length}
use Rattle.refusals.specs.Reply.{gives, refuses}
use Rattle.refusals.proofs.Promises.{nothing_given}
use Rattle.codes.specs.Verdict.{Verdict, clean, mended, lost, answered, replied, flips_of, verdict, repaired, scrubbed, pattern_of}
use Rattle.codes.specs.Tally.{tally_of_one, Again}
use Rattle.codes.proofs.Promises.{found, none_near, answered_given, answered-repaired}
use Rattle.codes.proofs.Tally.{given_or_lost, given_is, as_it_was, scrubbed_lt, tallies, in_range, again_one, codeword_now}
use Rattle.block_code.specs.Equations.{Codeword}
use Rattle.block_code.specs.Code.{codeword, code_of_block, allowed}
use Rattle.block_code.proofs.Distance.{distance}
use Rattle.block_code.proofs.Promises.{promised}
use Rattle.block_code.proofs.Syndromes.{codeword_lt, data-words}
use Rattle.block.specs.Answer.{answer_of, data_in, means, encode_means}
use Rattle.block.specs.Calls.{Encoded, Scrubbed}
use Rattle.block.specs.Promises.{EncodePromises, ScrubPromises, OneOutcome}
use Rattle.block.specs.declared.Scrub.{Scrub}
use Rattle.block.proofs.Outcomes.{block_lt, back, is_allowed, not_allowed}
use Rattle.refusals.specs.declared.Refusal.{Refusal}

-- ---- the encoder

-- the words of a codeword: the data in front
front : (d : ℕ) → d < 2 ^ 512 → take 32 (digits 16 38 (codeword d)) ≡ digits 16 32 d
front d h =
    take-digits 16 32 38 (codeword d) (omega arith) ∙ data-words d h

whole : (d : ℕ) → d < 2 ^ 512 → joined 16 (digits 16 38 (codeword d)) ≡ codeword d
whole d h = joined-digits 16 38 (codeword d) (codeword_lt d h)

data_back : (d : ℕ) → d < 2 ^ 512 → data_in (digits 16 38 (codeword d)) ≡ d
data_back d h = ap (joined 16) (front d h) ∙ joined-digits 16 32 d h

module _ (values before exit : List ℕ) (r : Result ⊤ Refusal) (h : Encoded values before r exit) where
  by_test : (t : Bool) → allowed values before ≡ t
      → (r ≡ choose t (Ok tt) (Err Length)) × (exit ≡ choose t (digits 16 38 (codeword (joined 16 values))) before)
  by_test t e = (
    h.answer ∙ ap (λ (t : Bool). choose t (Ok tt) (Err Length)) e,
    h.after ∙ ap {B = List ℕ} (λ (t : Bool). choose t (digits 16 38 (codeword (joined 16 values))) before) e,
  )

  accepted : length values ≡ 32 → length before ≡ 38 → (r ≡ Ok tt) × (exit ≡ digits 16 38 (codeword (joined 16 values)))
  accepted n m = by_test true (is_allowed values before n m)

  not_written : (length values ≢ 32) ⊎ (length before ≢ 38) → (encode_means r exit ≡ refuses 3) × (exit ≡ before)
  not_written other = let (a, x) = by_test false (not_allowed values before other) in (ap (λ a. encode_means a exit) a, x)

  -- what is given is the block of the data
  abbrev Done : List ℕ → Type 0
  Done ws = (length values ≡ 32) × (r ≡ Ok tt) × (ws ≡ exit) × (exit ≡ digits 16 38 (codeword (joined 16 values)))

  done : (ws : List ℕ) → encode_means r exit ≡ gives ws → Done ws
  done ws e = go (ℕ_discrete (length values) 32) (ℕ_discrete (length before) 38)
    where
      none : (length values ≢ 32) ⊎ (length before ≢ 38) → Done ws
      none other = nothing_given Length (sym (not_written other).0 ∙ e)

      go : Dec (length values ≡ 32) → Dec (length before ≡ 38) → Done ws
      go (yes n) (yes m) = let (a, x) = accepted n m in let same = sym e ∙ ap (λ a. encode_means a exit) a in (n, a, cc, x)
      go (yes n) (no m) = none (inr m)
      go (no n) m = none (inl n)

pub encode_promised : EncodePromises
encode_promised = record {
  accepted = λ values before exit r n m h.
      let (a, x) = accepted values before exit r h n m in ap (λ a. encode_means a exit) a ∙ ap gives x;
  refused = λ values before exit r other h. not_written values before exit r h other;
  meets = λ values before exit ws r h e.
      let (n, a, same, x) = done values before exit r h ws e in
      subst (λ ws. Codeword (joined 16 values) (joined 16 ws)) (sym same) (h.meets a);
  data_kept = λ values before exit ws r small h e.
      let (n, a, same, x) = done values before exit r h ws e in
      ap (take 32) (same ∙ x) ∙ front (joined 16 values) (joined_lt 16 32 values n small) ∙ digits-joined 16 32 values n small;
}

-- ---- the scrub

-- the answer for a verdict, with the words put right, means that verdict
means-verdict : (w : ℕ) (v : Verdict) → verdict code_of_block w ≡ v → means (answer_of v) (digits 16 38 (repaired code_of_block w v)) ≡ replied LostBlock v
means-verdict w (clean d) e =
    ap (λ (x : ℕ). gives (clean x)) (data_back d (in_range code_of_block promised.verdicts w (clean d) e d 0 (refl, refl)).0)
means-verdict w (mended d n) e =
    ap (λ (x : ℕ). gives (mended x n)) (data_back d (in_range code_of_block promised.verdicts w (mended d n) e d n (refl, refl)).0)
means-verdict w lost e = refl

module _ (ws exit : List ℕ) (r : Scrub) (h : Scrubbed ws r exit) where
  abbrev word : ℕ
  word = joined 16 ws

  other_length : length ws ≢ 38 → (means r.answer exit ≡ refuses 3) × (exit ≡ ws)
  other_length ne = let no = ne_eqb (length ws) 38 ne in (ap (λ a. means a exit) (rw no at h.answer), rw no at h.after)

  -- a block that is known with its verdict
  of_word : length ws ≡ 38 → (w : ℕ) (v : Verdict) → word ≡ w → verdict code_of_block w ≡ v
      → (means r.answer exit ≡ replied LostBlock v) × (exit ≡ digits 16 38 (repaired code_of_block w v))
  of_word n w v e p =
      let yes = eq-eqb (length ws) 38 n in
      let q : verdict code_of_block word ≡ v = ap (verdict code_of_block) e ∙ p in
      let y : exit ≡ digits 16 38 (repaired code_of_block w v) =
      rw yes at h.after ∙ ap (λ (w : ℕ). digits 16 38 (scrubbed code_of_block w)) e ∙ ap (λ v. digits 16 38 (repaired code_of_block w v)) p in
      (ap (λ a. means a exit) (rw yes at h.answer ∙ ap answer_of q) ∙ ap (means (answer_of v)) y ∙ means-verdict w v p, y)

  its_verdict : length ws ≡ 38
      → (means r.answer exit ≡ replied LostBlock (verdict code_of_block word)) × (exit ≡ digits 16 38 (scrubbed code_of_block word))
  its_verdict n = of_word n word (verdict code_of_block word) refl refl

  -- where a verdict is given, the length is right
  long_enough : (v : Verdict) → means r.answer exit ≡ gives v → length ws ≡ 38
  long_enough v e = go (ℕ_discrete (length ws) 38)
    where
      go : Dec (length ws ≡ 38) → length ws ≡ 38
      go (yes n) = n
      go (no n) = nothing_given Length (sym (other_length n).0 ∙ e)

  numbers : length ws ≡ 38 → ((v : Verdict) × (means r.answer exit ≡ gives v)) ⊎ (means r.answer exit ≡ refuses 2)
  numbers n = go (given_or_lost LostBlock (verdict code_of_block word))
    where
      go : (replied LostBlock (verdict code_of_block word) ≡ gives (verdict code_of_block word)) ⊎ (verdict code_of_block word ≡ lost)
          → ((v : Verdict) × (means r.answer exit ≡ gives v)) ⊎ (means r.answer exit ≡ refuses 2)
      go (inl e) = inl (verdict code_of_block word, (its_verdict n).0 ∙ e)
      go (inr e) = inr ((its_verdict n).0 ∙ ap (replied LostBlock) e)

  some_codeword : (v : Verdict) → means r.answer exit ≡ gives v → (d : ℕ) × (d < 2 ^ 512) × (exit ≡ digits 16 38 (codeword d))
  some_codeword v e =
      let (a, x) = its_verdict (long_enough v e) in
      let (d, l, c) = codeword_now code_of_block promised.verdicts LostBlock word v (sym a ∙ e) in
      (d, l, x ∙ ap (digits 16 38) c)

  is_codeword : (v : Verdict) → means r.answer exit ≡ gives v → Codeword (data_in exit) (joined 16 exit)
  is_codeword v e =
      let (d, l, x) = some_codeword v e in
      subst (λ (y : ℕ). Codeword y (joined 16 exit)) (sym (ap data_in x ∙ data_back d l))
      (subst (Codeword d) (sym (ap (joined 16) x ∙ whole d l)) (promised.meets d l))

  -- where no verdict is given, the word put right is the word
  unchanged : ((v : Verdict) → means r.answer exit ≢ gives v) → length ws ≡ 38 → scrubbed code_of_block word ≡ word
  unchanged ne n = as_it_was code_of_block LostBlock word (verdict code_of_block word) (λ v z. ne v ((its_verdict n).0 ∙ z))

  as_read : Below 16 ws → ((v : Verdict) → means r.answer exit ≢ gives v) → exit ≡ ws
  as_read small ne = go (ℕ_discrete (length ws) 38)
    where
      go : Dec (length ws ≡ 38) → exit ≡ ws
      go (yes n) = (its_verdict n).1 ∙ ap (digits 16 38) (unchanged ne n) ∙ back ws (n, small)
      go (no n) = (other_length n).1

  -- the words that were scrubbed, as a number
  scrubbed_small : length ws ≡ 38 → Below 16 ws → scrubbed code_of_block word < 2 ^ 608
  scrubbed_small n small = scrubbed_lt code_of_block promised.verdicts (2 ^ 608) codeword_lt word (block_lt ws (n, small))

  scrubbed_number : length ws ≡ 38 → Below 16 ws → joined 16 exit ≡ scrubbed code_of_block word
  scrubbed_number n small =
      ap (joined 16) (its_verdict n).1 ∙ joined-digits 16 38 (scrubbed code_of_block word) (scrubbed_small n small)

  given_verdict : (v : Verdict) → means r.answer exit ≡ gives v → v ≡ verdict code_of_block word
  given_verdict v e = given_is LostBlock (verdict code_of_block word) (sym (its_verdict (long_enough v e)).0 ∙ e)

  changed : (v : Verdict) → Below 16 ws → means r.answer exit ≡ gives v → flips_of v ≡ dist word (joined 16 exit)
  changed v small e =
      ap flips_of (given_verdict v e) ∙ promised.verdicts.changed word ∙ ap (dist word) (sym (scrubbed_number (long_enough v e) small))

  -- the pattern, and as a number
  its_pattern : length ws ≡ 38 → r.pattern ≡ digits 16 38 (pattern_of code_of_block word)
  its_pattern n = rw (eq-eqb (length ws) 38 n) at h.pattern

  pattern_number : length ws ≡ 38 → Below 16 ws → joined 16 r.pattern ≡ pattern_of code_of_block word
  pattern_number n small =
      ap (joined 16) (its_pattern n)
      ∙ joined-digits 16 38 (pattern_of code_of_block word)
      (xor_lt 608 word (scrubbed code_of_block word) (block_lt ws (n, small)) (scrubbed_small n small))

  pattern_fits : (length r.pattern ≡ 38) × Below 16 r.pattern
  pattern_fits =
      let p : ℕ = choose (eqb (length ws) 38) (pattern_of code_of_block word) 0 in
      rw h.pattern (length_digits 16 38 p, digits_below 16 38 p)

  pattern_gives : length ws ≡ 38 → Below 16 ws → bit_xor word (joined 16 r.pattern) ≡ joined 16 exit
  pattern_gives n small =
      ap (bit_xor word) (pattern_number n small) ∙ promised.verdicts.pattern.gives word ∙ sym (scrubbed_number n small)

  pattern_flips : (v : Verdict) → Below 16 ws → means r.answer exit ≡ gives v → flips_of v ≡ ones (joined 16 r.pattern)
  pattern_flips v small e =
      ap flips_of (given_verdict v e) ∙ promised.verdicts.pattern.flips word ∙ ap ones (sym (pattern_number (long_enough v e) small))

  pattern_clean : (d : ℕ) → means r.answer exit ≡ gives (clean d) → r.pattern ≡ replicate 38 0
  pattern_clean d e =
      its_pattern (long_enough (clean d) e)
      ∙ ap (digits 16 38) (promised.verdicts.pattern.none_clean word d (sym (given_verdict (clean d) e)))

  pattern_refused : ((v : Verdict) → means r.answer exit ≢ gives v) → r.pattern ≡ replicate 38 0
  pattern_refused ne = go (ℕ_discrete (length ws) 38)
    where
      go : Dec (length ws ≡ 38) → r.pattern ≡ replicate 38 0
      go (yes n) = its_pattern n ∙ ap (digits 16 38) (ap (bit_xor word) (unchanged ne n) ∙ xor_self word)
      go (no n) = rw (ne_eqb (length ws) 38 n) at h.pattern

  -- a verdict that hands data out
  answers : length ws ≡ 38 → (w d n : ℕ) → word ≡ w → verdict code_of_block w ≡ answered d n
      → (means r.answer exit ≡ gives (answered d n)) × (exit ≡ digits 16 38 (codeword d))
  answers m w d n e p =
      let (a, x) = of_word m w (answered d n) e p in
      (a ∙ answered_given LostBlock d n, x ∙ ap (digits 16 38) (answered-repaired code_of_block w d n))

-- a codeword is clean
clean_codeword : (d : ℕ) (ws exit : List ℕ) (r : Scrub) → d < 2 ^ 512 → ws ≡ digits 16 38 (codeword d) → Scrubbed ws r exit
    → (means r.answer exit ≡ gives (clean d)) × (exit ≡ ws)
clean_codeword d ws exit r l e h =
    let (a, x) =
    of_word ws exit r h (ap length e ∙ length_digits 16 38 (codeword d)) (codeword d) (clean d) (ap (joined 16) e ∙ whole d l) (promised.verdicts.unharmed d l) in
    (a, x ∙ sym e)

undone : (d p : ℕ) (exit : List ℕ) (r : Scrub) → d < 2 ^ 512 → p < 2 ^ 608 → ones p ≤ 2
    → Scrubbed (digits 16 38 (bit_xor (codeword d) p)) r exit
    → (means r.answer exit ≡ gives (answered d (ones p))) × (r.pattern ≡ digits 16 38 p) × (exit ≡ digits 16 38 (codeword d))
undone d p exit r l h few s =
    let w : ℕ = bit_xor (codeword d) p in
    let ws : List ℕ = digits 16 38 w in
    let n : length ws ≡ 38 = length_digits 16 38 w in
    let is : joined 16 ws ≡ w = joined-digits 16 38 w (xor_lt 608 (codeword d) p (codeword_lt d l) h) in
    let (a, x) = answers ws exit r s n w d (ones p) is (promised.verdicts.undone d p l few) in
    let q = its_pattern ws exit r s n ∙ ap (λ (w : ℕ). digits 16 38 (pattern_of code_of_block w)) is in
    (a, q ∙ ap (digits 16 38) (promised.verdicts.pattern.undone d p l few), x)

again : (ws once twice : List ℕ) (r s : Scrub) → length ws ≡ 38 → Below 16 ws → Scrubbed ws r once → Scrubbed once s twice
    → (v : Verdict) × (u : Verdict) × (means r.answer once ≡ replied LostBlock v) × (means s.answer twice ≡ replied LostBlock u)
    × Again (tally_of_one v) (tally_of_one u) × (twice ≡ once)
again ws once twice r s n small h k =
    let w : ℕ = joined 16 ws in
    let (a, x) = its_verdict ws once r h n in
    let (b, y) =
    of_word once twice s k (ap length x ∙ length_digits 16 38 (scrubbed code_of_block w)) (scrubbed code_of_block w) (verdict code_of_block (scrubbed code_of_block w))
    (scrubbed_number ws once r h n small) refl in (
      verdict code_of_block w,
      verdict code_of_block (scrubbed code_of_block w),
      a,
      b,
      again_one code_of_block promised.verdicts w,
      y ∙ ap (digits 16 38) ((tallies code_of_block promised.verdicts).unchanged w) ∙ sym x,
    )

pub scrub_promised : ScrubPromises
scrub_promised = record {
  refused = λ ws exit r ne h. other_length ws exit r h ne;
  no_tie = λ ws. promised.verdicts.no_tie (joined 16 ws);
  numbers = λ ws exit r n h. numbers ws exit r h n;
  is_verdict = λ ws exit r v n h p. of_word ws exit r h n (joined 16 ws) v refl (sym ((promised.verdicts.settled (joined 16 ws)).one v p));
  has_verdict = λ ws. (verdict code_of_block (joined 16 ws), (promised.verdicts.settled (joined 16 ws)).has);
  demand3 = λ ws exit r n h.
      (verdict code_of_block (joined 16 ws), (its_verdict ws exit r h n).0, promised.verdicts.demand3 (joined 16 ws));
  within = λ ws exit r d n h l few.
      answers ws exit r h n (joined 16 ws) d (dist (joined 16 ws) (codeword d)) refl (found code_of_block 5 distance (lit< tt) (joined 16 ws) d l few);
  beyond = λ ws exit r n h far. (of_word ws exit r h n (joined 16 ws) lost refl (none_near code_of_block (joined 16 ws) far)).0;
  codeword_now = λ ws exit r v h. is_codeword ws exit r h v;
  as_read = λ ws exit r small h. as_read ws exit r h small;
  changed = λ ws exit r v small h. changed ws exit r h v small;
  pattern_fits = pattern_fits;
  pattern_gives = λ ws exit r n small h. pattern_gives ws exit r h n small;
  pattern_flips = λ ws exit r v small h. pattern_flips ws exit r h v small;
  pattern_clean = λ ws exit r d h. pattern_clean ws exit r h d;
  pattern_refused = pattern_refused;
  encoded = λ values before ws exit given a r small e g h.
      let (n, w, same, x) = done values before ws a e given g in
      clean_codeword (joined 16 values) ws exit r (joined_lt 16 32 values n small) x h;
  undone = undone;
  again = again;
}

pub one_outcome : OneOutcome
one_outcome = record {
  encode = λ values before a b r s p q. (p.answer ∙ sym q.answer, p.after ∙ sym q.after);
  scrub = λ ws a b r s p q. (
    λ i. record { answer = (p.answer ∙ sym q.answer) i; pattern = (p.pattern ∙ sym q.pattern) i },
    p.after ∙ sym q.after,
  );
}
