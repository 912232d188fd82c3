-- The ways in which the decoder answers, over plain values: a codeword was read, one was found, none was. Assumes nothing.
use Rattle.std.specs.Prelude.{None, Option, Some}
use mathlib.Core.Path.{◌≡◌, refl, sym, ap, ap₂, ◌∙◌, subst}
use mathlib.Core.Logic.{◌≢◌}
use mathlib.Core.Bool.{true}
use mathlib.Core.List.{List}
use Prim.Native.Nat.{ℕ, zero, suc, ◌^◌, ◌<◌}
use native.Mathlib.Omega.{arith}
use lib.Bits.{bit_xor, xor_self}
use lib.Dec.{eqb, lit<}
use lib.ListN.{length}
use borrow.Author.Tests.{eq-eqb, ne_eqb, eqb-true}
use Rattle.words.specs.Digits.{digits, joined, Below}
use Rattle.codes.specs.Verdict.{Verdict, clean, mended, lost, IsVerdict, answered, verdict, repaired}
use Rattle.codes.specs.Tally.{is_clean}
use Rattle.codes.specs.Trials.{Trials}
use Rattle.codes.proofs.Promises.{has_verdict, clean_word, answered-repaired}
use Rattle.codes.proofs.Tally.{clean_of}
use Rattle.grid_code.specs.Equations.{data_of}
use Rattle.grid_code.specs.Code.{codeword, code_of_grid}
use Rattle.grid_code.specs.Sides.{sides}
use Rattle.grid_code.specs.Verdict.{erased, all_set, named}
use Rattle.grid_code.specs.Steps.{Completed, Masked, Gathered}
use Rattle.grid_code.proofs.Places.{data_masked, completes, data_back, data_lt}
use Rattle.grid_code.proofs.Promises.{promised}
use Rattle.grid_rows.specs.Repair.{fixed}
use Rattle.grid_trials.specs.Steps.{found, near_of, Nearby}
use Rattle.grid_trials.specs.declared.Near.{Near}
use Rattle.grid_trials.proofs.Decoder.{decide, any_report}
use Rattle.grid.specs.Answer.{verdict_of}
use Rattle.grid.specs.Calls.{Judged, Decoded}
use Rattle.grid.specs.declared.Verdict as enum
use Rattle.grid.specs.declared.Verdict.TheVariants.{Lost}

pub some_flips : (d n : ℕ) → n ≢ 0 → answered d n ≡ mended d n
some_flips d zero h = absurd (h refl)
some_flips d (suc n) h = refl

-- the data that is taken from the grid of d
pub taken_data : (w places e d : ℕ) → Masked w places → Gathered places e → d < 2 ^ 16 → w ≡ codeword d → e ≡ d
taken_data w places e d p q l s = q.answer ∙ ap data_of p.answer ∙ data_masked w ∙ ap data_of s ∙ data_back d l

-- all ones is the grid of the erased value, ..
pub all_ones_is : (d : ℕ) → d < 2 ^ 16 → codeword d ≡ all_set → d ≡ erased
all_ones_is d l e = sym (data_back d l) ∙ ap data_of (e ∙ sym promised.all_ones) ∙ data_back erased (lit< tt)

-- .. and any other is that of a number
pub other_is : (d w : ℕ) → w ≡ codeword d → w ≢ all_set → d ≢ erased
other_is d w s ne e = ne (s ∙ ap codeword e ∙ promised.all_ones)

pub judged_clean : (rows : List ℕ) → Judged rows true → (d : ℕ) × (verdict code_of_grid (joined 8 rows) ≡ clean d)
judged_clean rows j =
    clean_of (verdict code_of_grid (joined 8 rows)) (eqb-true (is_clean (verdict code_of_grid (joined 8 rows))) 1 (sym j.answer))

-- the statement, from a verdict of the code and the trials
decoded : (rows out : List ℕ) (p k : ℕ) (v : enum.Verdict) (u : Verdict) → verdict code_of_grid (joined 8 rows) ≡ u → verdict_of v ≡ named u
    → out ≡ digits 8 8 (repaired code_of_grid (joined 8 rows) u) → p ≡ bit_xor (joined 8 rows) (repaired code_of_grid (joined 8 rows) u)
    → Trials sides code_of_grid fixed (joined 8 rows) k
    → Decoded rows (record { verdict = v; grid = record { rows = out }; pattern = p; trials = k })
decoded rows out p k v u e a o q reported = record {
  answer = a ∙ sym (ap named e);
  repaired = o ∙ sym (ap (λ u. digits 8 8 (repaired code_of_grid (joined 8 rows) u)) e);
  pattern = q ∙ sym (ap (λ u. bit_xor (joined 8 rows) (repaired code_of_grid (joined 8 rows) u)) e);
  trials = λ fix R. any_report fix (joined 8 rows) k R reported;
}

-- ---- a codeword was read

module _ (rows : List ℕ) (word : ℕ) (is : word ≡ joined 8 rows) where
  pub is_judged : (places number : ℕ) → Masked word places → Completed places number → Judged rows (eqb number word)
  is_judged places number taken completed = record { answer = go (verdict code_of_grid (joined 8 rows)) refl }
    where
      made : number ≡ codeword (data_of word)
      made = completes word taken.answer completed

      -- a word that is the grid of its data is clean
      none : {v : Verdict} → verdict code_of_grid (joined 8 rows) ≡ v → is_clean v ≡ 0 → number ≡ word → ⊥
      none e z s =
          let w : joined 8 rows ≡ codeword (data_of word) = sym is ∙ sym s ∙ made in
          omega (arith, z, ap is_clean (sym e ∙ ap (verdict code_of_grid) w ∙ promised.verdicts.unharmed (data_of word) (data_lt word)))

      go : (v : Verdict) → verdict code_of_grid (joined 8 rows) ≡ v → eqb number word ≡ eqb (is_clean v) 1
      go (clean d) e =
          let (l, s) = clean_word code_of_grid promised.verdicts (joined 8 rows) d e in
          eq-eqb number word (made ∙ ap codeword (ap data_of (is ∙ s) ∙ data_back d l) ∙ sym (is ∙ s))
      go (mended d n) e = ne_eqb number word (none e refl)
      go lost e = ne_eqb number word (none e refl)

  -- a codeword is its own nearest
  pub is_codeword : Judged rows true → Nearby rows (found word 0 1)
  is_codeword j =
      let (d, p) = judged_clean rows j in
      let (l, s) = clean_word code_of_grid promised.verdicts (joined 8 rows) d p in
      record {
        is = record {
          trials = 1;
          answer = ap (λ (w : ℕ). found w 0 1) (is ∙ s) ∙ sym (ap (near_of 1) p);
          reported = decide.clean_one (joined 8 rows) d p;
        };
      }

-- ---- by the trials

same_near : {a b : Near} → Some a ≡ Some b → a ≡ b
same_near e = cc

-- a verdict that has a codeword within the radius
within_is : (w number flips k n : ℕ) (v : Verdict) → IsVerdict code_of_grid w v → found number flips k ≡ near_of n v
    → (d : ℕ) × (d < 2 ^ 16) × (number ≡ codeword d) × (v ≡ answered d flips) × (n ≡ k)
within_is w number flips k n (clean d) p e =
    let same = same_near e in
    (d, p.below, ap (λ x. x.number) same, sym (ap (λ x. answered d x.flips) same), sym (ap (λ x. x.trials) same))
within_is w number flips k n (mended d m) (p, l, r) e =
    let same = same_near e in (
      d,
      p.below,
      ap (λ x. x.number) same,
      sym (ap (λ x. answered d x.flips) same ∙ some_flips d m (λ z. absurd (omega arith))),
      sym (ap (λ x. x.trials) same),
    )
within_is w number flips k n lost p e = let z : ◌≡◌ {A = ℕ} 0 1 = cc in absurd (omega arith)

-- .. and one that has none
beyond_is : (n : ℕ) (v : Verdict) → None ≡ near_of n v → v ≡ lost
beyond_is n (clean d) e = let z : ◌≡◌ {A = ℕ} 0 1 = cc in absurd (omega arith)
beyond_is n (mended d m) e = let z : ◌≡◌ {A = ℕ} 0 1 = cc in absurd (omega arith)
beyond_is n lost e = refl

module _ (rows : List ℕ) where
  -- whatever it is called, what is written is the codeword
  module _ (number flips k word p : ℕ) (out : List ℕ) (o : out ≡ digits 8 8 number) (w : word ≡ joined 8 rows) (q : p ≡ bit_xor word number)
      (by : Nearby rows (found number flips k)) where
    pub answers : (v : enum.Verdict) → ((d : ℕ) → d < 2 ^ 16 → number ≡ codeword d → verdict_of v ≡ named (answered d flips))
        → Decoded rows (record { verdict = v; grid = record { rows = out }; pattern = p; trials = k })
    answers v a =
        let (d, l, s, u, t) =
        within_is (joined 8 rows) number flips k by.is.trials (verdict code_of_grid (joined 8 rows))
        (has_verdict code_of_grid promised.verdicts (joined 8 rows) refl) by.is.answer in
        let c : number ≡ repaired code_of_grid (joined 8 rows) (answered d flips) = s ∙ sym (answered-repaired code_of_grid (joined 8 rows) d flips) in
        decoded rows out p k v (answered d flips) u (a d l s) (o ∙ ap (digits 8 8) c) (q ∙ ap₂ bit_xor w c)
        (subst (Trials sides code_of_grid fixed (joined 8 rows)) t by.is.reported)

  pub is_lost_lem : (r : Option Near) → Nearby rows r → r ≡ None → length rows ≡ 8 → Below 8 rows
      → Decoded rows (record { verdict = Lost; grid = record { rows = rows }; pattern = 0; trials = 2 })
  is_lost_lem r by is eight small =
      let v : verdict code_of_grid (joined 8 rows) ≡ lost = beyond_is by.is.trials (verdict code_of_grid (joined 8 rows)) (sym is ∙ by.is.answer) in
      decoded rows rows 0 2 Lost lost v refl (sym (promised.back_and_there rows eight small)) (sym (xor_self (joined 8 rows)))
      (decide.lost_two (joined 8 rows) v)
