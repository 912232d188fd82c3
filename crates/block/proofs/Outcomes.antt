-- What the calls leave and answer, over plain values: a block written, and a block found clean, mended or lost. Assumes nothing.
use Rattle.std.specs.Prelude.{Option, Some, None, Result, Ok, Err}
use mathlib.Core.Path.{◌≡◌, refl, sym, ap, ap₂, ◌∙◌, subst}
use mathlib.Core.Logic.{◌≢◌, ◌⊎◌, inl, inr}
use mathlib.Core.Bool.{Bool, true, false, ◌&&◌, and-false}
use mathlib.Core.List.{List}
use Prim.Native.Nat.{ℕ, suc, ◌/◌, ◌%◌, ◌^◌, ◌≤◌, ◌<◌}
use native.Mathlib.Nat.{mod-lt, lt_trans}
use native.Mathlib.Decide.{dec_lt, ℕ_discrete}
use native.Mathlib.Omega.{arith}
use lib.Bits.{bit_xor, xor_lt, xor_self}
use lib.Count.{ones}
use lib.Dec.{eqb, lit<}
use lib.ListN.{length, get_or, set, replicate, length-set}
use lib.Pow.{pow_pos, pow-lt}
use lib.Seq.{get_or-set_same, get_or-set_other}
use borrow.Author.Tests.{eq-eqb, ne_eqb}
use Rattle.words.specs.Word.{choose, dist}
use Rattle.words.specs.Digits.{digits, joined, Below}
use Rattle.words.proofs.Dist.{dist_self, dist_sym, dist_flips, dist-ones}
use Rattle.words.proofs.Digits.{length_digits, digits_below, digits-joined, joined-digits, joined_lt}
use Rattle.words.proofs.Ones.{ones-pow, ones_two, AtMostTwo, at_most_two}
use Rattle.words.proofs.Xor.{xor_assoc, xor_cancel_l}
use Rattle.refusals.specs.declared.Refusal.TheVariants.{LostBlock, Length}
use Rattle.codes.specs.Verdict.{Verdict, clean, mended, lost, answered, off, verdict, repaired}
use Rattle.codes.proofs.Promises.{found, none_near}
use Rattle.block_code.specs.Code.{codeword, code_of_block, allowed}
use Rattle.block_code.specs.Equations.{Codeword}
use Rattle.block_code.specs.Checks.{no_checks, mixed, syndrome_of}
use Rattle.block_code.specs.declared.Checks.{Checks}
use Rattle.block_code.proofs.Distance.{distance}
use Rattle.block_code.proofs.Equations.{meets}
use Rattle.block_code.proofs.Mixing.{mixed_self, mixed_none}
use Rattle.block_code.proofs.Syndromes.{syndrome_sum, syndrome_zero, syndrome_codeword, codeword_of, codeword_lt}
use Rattle.block_flips.specs.Steps.{Explains, Unexplained, Nearest}
use Rattle.block_flips.specs.declared.Flips.{Flips}
use Rattle.block_flips.specs.declared.Flips.TheVariants.{One, Two}
use Rattle.block_words.specs.Steps.{flipped, BlockWritten}
use Rattle.block_words.proofs.Flips.{joined-flipped}
use Rattle.block.specs.Answer.{answer_of}
use Rattle.block.specs.Calls.{Encoded, Scrubbed}
use Rattle.block.specs.Steps.{flipped_each, answer_for}
use Rattle.block.specs.declared.BlockVerdict.TheVariants.{Clean, Mended}
use Rattle.block.specs.declared.BlockVerdict.{BlockVerdict}
use Rattle.refusals.specs.declared.Refusal.{Refusal}

-- ---- a codeword within two places

near : (w v n : ℕ) → v < 2 ^ 608 → syndrome_of v ≡ no_checks → dist w v ≡ n → n ≤ 2 → verdict code_of_block w ≡ answered (v % 2 ^ 512) n
near w v n h is e l =
    let o : off code_of_block w (v % 2 ^ 512) ≡ n = sym (ap (dist w) (codeword_of v h is)) ∙ e in
    found code_of_block 5 distance (lit< tt) w (v % 2 ^ 512) (mod-lt v (pow_pos 512)) (subst (λ (n : ℕ). n ≤ 2) (sym o) l)
    ∙ ap (answered (v % 2 ^ 512)) o

-- ---- words before and after

abbrev pub IsBlock : List ℕ → Type 0
IsBlock ws = (length ws ≡ 38) × Below 16 ws

pub block_lt : (ws : List ℕ) → IsBlock ws → joined 16 ws < 2 ^ 608
block_lt ws (n, h) = joined_lt 16 38 ws n h

pub back : (ws : List ℕ) → IsBlock ws → digits 16 38 (joined 16 ws) ≡ ws
back ws (n, h) = digits-joined 16 38 ws n h

-- a place of a block flipped: a block again, ..
flip_block : (ws : List ℕ) (p : ℕ) → IsBlock ws → p < 608 → IsBlock (flipped ws p)
flip_block ws p (n, h) l = (simp length-set n, λ i. go i (ℕ_discrete i (p / 16)))
  where
    x : ℕ
    x = bit_xor (get_or ws (p / 16) 0) (2 ^ (p % 16))

    go : (i : ℕ) → Dec (i ≡ p / 16) → get_or (set ws (p / 16) x) i 0 < 2 ^ 16
    go i (yes e) =
        let bit : p % 16 < 16 = omega arith in
        rw (e, get_or-set_same ws (p / 16) x 0 (omega arith)) (xor_lt 16 (get_or ws (p / 16) 0) (2 ^ (p % 16)) (h (p / 16)) (pow-lt bit))
    go i (no ne) = rw (get_or-set_other ws (p / 16) i x 0 ne) (h i)

-- .. with that place flipped in the number
flip_number : (ws : List ℕ) (p : ℕ) → IsBlock ws → p < 608 → joined 16 (flipped ws p) ≡ bit_xor (joined 16 ws) (2 ^ p)
flip_number ws p (n, h) l = joined-flipped ws p (omega arith) h

-- one place of a block flipped, or two
flip_one : (ws : List ℕ) (p : ℕ) → IsBlock ws → p < 608 → flipped ws p ≡ digits 16 38 (bit_xor (joined 16 ws) (2 ^ p))
flip_one ws p b l = sym (back (flipped ws p) (flip_block ws p b l)) ∙ ap (digits 16 38) (flip_number ws p b l)

flip_two : (ws : List ℕ) (p q : ℕ) → IsBlock ws → p < 608 → q < 608
    → flipped (flipped ws p) q ≡ digits 16 38 (bit_xor (joined 16 ws) (bit_xor (2 ^ p) (2 ^ q)))
flip_two ws p q b l m =
    flip_one (flipped ws p) q (flip_block ws p b l) m
    ∙ ap (digits 16 38) (ap (λ (x : ℕ). bit_xor x (2 ^ q)) (flip_number ws p b l) ∙ xor_assoc (joined 16 ws) (2 ^ p) (2 ^ q))

no_words : IsBlock (replicate 38 0)
no_words = (length_digits 16 38 0, digits_below 16 38 0)

module _ (ws : List ℕ) (b : IsBlock ws) where
  abbrev w : ℕ
  w = joined 16 ws

  right_length : eqb (length ws) 38 ≡ true
  right_length = eq-eqb (length ws) 38 b.0

  -- the statement, from a verdict and the word put right
  scrubs : (v : Verdict) {y : ℕ} {pattern exit : List ℕ} → verdict code_of_block w ≡ v → y ≡ repaired code_of_block w v
      → pattern ≡ digits 16 38 (bit_xor w y) → exit ≡ digits 16 38 y → Scrubbed ws (record { answer = answer_of v; pattern = pattern }) exit
  scrubs v e i q x = record { answer = rw (right_length, e); pattern = rw (right_length, e, ← i) q; after = rw (right_length, e, ← i) x }

  pub is_clean_lem : syndrome_of w ≡ no_checks → Scrubbed ws (record { answer = Ok Clean; pattern = replicate 38 0 }) ws
  is_clean_lem s =
      let hw : w < 2 ^ 608 = block_lt ws b in
      scrubs (clean (w % 2 ^ 512)) (near w w 0 hw s (dist_self w) (omega arith)) (codeword_of w hw s) (ap (digits 16 38) (sym (xor_self w)))
      (sym (back ws b))

  -- what is left after flips f, as many as f has ones
  mends : (f n : ℕ) {pattern exit : List ℕ} → f < 2 ^ 608 → syndrome_of f ≡ syndrome_of w → ones f ≡ suc n → suc n ≤ 2
      → pattern ≡ digits 16 38 f → exit ≡ digits 16 38 (bit_xor w f)
      → Scrubbed ws (record { answer = Ok (Mended (suc n)); pattern = pattern }) exit
  mends f n hf s o l q x =
      let hw : w < 2 ^ 608 = block_lt ws b in
      let v : ℕ = bit_xor w f in
      let hv : v < 2 ^ 608 = xor_lt 608 w f hw hf in
      let z : syndrome_of v ≡ no_checks = syndrome_sum w f ∙ ap (mixed (syndrome_of w)) s ∙ mixed_self (syndrome_of w) in
      scrubs (mended (v % 2 ^ 512) (suc n)) (near w v (suc n) hv z (dist_sym w v ∙ dist_flips w f ∙ o) l) (codeword_of v hv z)
      (q ∙ ap (digits 16 38) (sym (xor_cancel_l w f))) x

  -- a codeword within two places would explain the syndrome
  near_explains : (d : ℕ) → d < 2 ^ 512 → syndrome_of w ≢ no_checks → Unexplained (syndrome_of w) → AtMostTwo 608 (bit_xor w (codeword d)) → ⊥
  near_explains d l some un few = go few
    where
      f : ℕ
      f = bit_xor w (codeword d)

      same : syndrome_of w ≡ syndrome_of f
      same = sym (syndrome_sum w (codeword d) ∙ ap (mixed (syndrome_of w)) (syndrome_codeword d l) ∙ mixed_none (syndrome_of w))

      go : AtMostTwo 608 f → ⊥
      go (inl z) = some (same ∙ ap syndrome_of z ∙ syndrome_zero)
      go (inr (inl (p, h, e))) = un.alone p h (sym (same ∙ ap syndrome_of e))
      go (inr (inr t)) =
          un.paired t.first t.second t.below.0 t.below.1 t.apart
          (sym (same ∙ ap syndrome_of t.is ∙ syndrome_sum (2 ^ t.first) (2 ^ t.second)))

  is_lost_lem : {pattern exit : List ℕ} → syndrome_of w ≢ no_checks → Unexplained (syndrome_of w) → pattern ≡ replicate 38 0 → exit ≡ ws
      → Scrubbed ws (record { answer = Err LostBlock; pattern = pattern }) exit
  is_lost_lem some un q x =
      scrubs lost (none_near code_of_block w (λ d l. far d l (dec_lt 2 (off code_of_block w d)))) refl (q ∙ ap (digits 16 38) (sym (xor_self w)))
      (x ∙ sym (back ws b))
    where
      far : (d : ℕ) → d < 2 ^ 512 → Dec (2 < off code_of_block w d) → 2 < off code_of_block w d
      far d l (yes h) = h
      far d l (no h) =
          absurd (near_explains d l some un
          (at_most_two 608 (bit_xor w (codeword d)) (xor_lt 608 w (codeword d) (block_lt ws b) (codeword_lt d l)) (few d (omega arith))))
        where
          few : (d : ℕ) → dist w (codeword d) ≤ 2 → ones (bit_xor w (codeword d)) ≤ 2
          few d h = subst (λ (n : ℕ). n ≤ 2) (dist-ones w (codeword d)) h

  -- the flips that were found undone, where there are at most two
  pub undoes : {k : Checks} {f : Option Flips} {r : Result BlockVerdict Refusal} {pattern exit : List ℕ} → k ≡ syndrome_of w → k ≢ no_checks → Nearest k f
      → r ≡ answer_for f → pattern ≡ flipped_each (replicate 38 0) f → exit ≡ flipped_each ws f
      → Scrubbed ws (record { answer = r; pattern = pattern }) exit
  undoes {k} {f} {r} {pattern} {exit} s some near a q x =
      subst (λ r. Scrubbed ws (record { answer = r; pattern = pattern }) exit) (sym a)
      (go f (subst (λ k. Explains k (Unexplained k) f) s near.answer) q x)
    where
      go : (f : Option Flips) → Explains (syndrome_of w) (Unexplained (syndrome_of w)) f → pattern ≡ flipped_each (replicate 38 0) f
          → exit ≡ flipped_each ws f → Scrubbed ws (record { answer = answer_for f; pattern = pattern }) exit
      go (Some (One p)) (l, e) q x =
          mends (2 ^ p) 0 (pow-lt l) e (ones-pow p) (lit< tt) (q ∙ flip_one (replicate 38 0) p no_words l) (x ∙ flip_one ws p b l)
      go (Some (Two p r)) (l, m, e) q x =
          let low : p < 608 = lt_trans l m in
          mends (bit_xor (2 ^ p) (2 ^ r)) 1 (xor_lt 608 (2 ^ p) (2 ^ r) (pow-lt low) (pow-lt m)) (syndrome_sum (2 ^ p) (2 ^ r) ∙ e)
          (ones_two p r (λ e. absurd (omega arith))) (lit< tt) (q ∙ flip_two (replicate 38 0) p r no_words low m)
          (x ∙ flip_two ws p r b low m)
      go None un q x = is_lost_lem (λ e. some (s ∙ e)) un q x

-- ---- whether the lengths are right

pub is_allowed : (values before : List ℕ) → length values ≡ 32 → length before ≡ 38 → allowed values before ≡ true
is_allowed values before n m = ap₂ ◌&&◌ (eq-eqb (length values) 32 n) (eq-eqb (length before) 38 m)

pub not_allowed : (values before : List ℕ) → (length values ≢ 32) ⊎ (length before ≢ 38) → allowed values before ≡ false
not_allowed values before (inl ne) = ap (λ (t : Bool). t && eqb (length before) 38) (ne_eqb (length values) 32 ne)
not_allowed values before (inr ne) = ap (λ (t : Bool). eqb (length values) 32 && t) (ne_eqb (length before) 38 ne) ∙ and-false (eqb (length values) 32)

pub encoded : (values before exit : List ℕ) → length values ≡ 32 → length before ≡ 38 → Below 16 values → BlockWritten values before exit
    → Encoded values before (Ok tt) exit
encoded values before exit n m h w =
    let d : ℕ = joined 16 values in
    let l : d < 2 ^ 512 = joined_lt 16 32 values n h in
    let yes : allowed values before ≡ true = is_allowed values before n m in
    let block : exit ≡ digits 16 38 (codeword d) =
    w.after ∙ ap {B = List ℕ} (λ (t : Bool). choose t (digits 16 38 (codeword d)) before) yes in
    record {
      answer = sym (ap (λ (t : Bool). choose t (Ok tt) (Err Length)) yes);
      after = w.after;
      meets = λ done. subst (Codeword d) (sym (ap (joined 16) block ∙ joined-digits 16 38 (codeword d) (codeword_lt d l))) (meets d l);
    }
