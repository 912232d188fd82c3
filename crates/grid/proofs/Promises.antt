-- What specs/Promises.antt says of the grid's calls holds. Assumes nothing.
use Rattle.std.specs.Prelude.{Err, Ok, Result}
use mathlib.Core.Path.{◌≡◌, refl, sym, ap, ◌∙◌, subst}
use mathlib.Core.Logic.{◌≢◌, ◌⊎◌, inl, inr, ⊎_elim}
use mathlib.Core.Bool.{Bool}
use mathlib.Core.List.{List}
use Prim.Native.Nat.{ℕ, zero, suc, ◌^◌, ◌≤◌, ◌<◌}
use native.Mathlib.Omega.{arith}
use lib.Bits.{bit_xor, xor_lt}
use lib.Count.{ones}
use lib.Dec.{eqb, lit<}
use lib.ListN.{length, get_or}
use borrow.Author.Tests.{eq-eqb, ne_eqb}
use Rattle.words.specs.Word.{choose, dist}
use Rattle.words.specs.Digits.{digits, joined}
use Rattle.words.proofs.Digits.{joined_lt, joined-digits, digits-joined}
use Rattle.words.proofs.Dist.{zero_of_ones}
use Rattle.refusals.specs.declared.Refusal.TheVariants.{LostGrid, Erased}
use Rattle.refusals.specs.Reply.{gives}
use Rattle.refusals.proofs.Promises.{nothing_given}
use Rattle.codes.specs.Verdict as codes
use Rattle.codes.specs.Verdict.{verdict, repaired, scrubbed, pattern_of}
use Rattle.codes.specs.Tally.{is_clean}
use Rattle.codes.specs.Trials.{Trials, Gives, one, two}
use Rattle.codes.proofs.Promises.{answered-repaired, has_verdict, clean_word}
use Rattle.grid_code.specs.Code.{codeword, code_of_grid}
use Rattle.grid_code.specs.Sides.{sides}
use Rattle.grid_code.specs.Verdict.{Verdict, clean, blank, mended, lost, erased, all_set, named, grid_verdict, IsGridVerdict, answered, flips_of, GridDemand3}
use Rattle.grid_code.proofs.Promises.{promised}
use Rattle.grid_code.proofs.Verdict.{named_blank, named_clean, named-answered, blank_repaired}
use Rattle.grid_code.proofs.Distance.{codeword_lt}
use Rattle.grid_rows.specs.Repair.{fixed}
use Rattle.grid_rows.proofs.Repair.{repair}
use Rattle.grid_trials.proofs.Decoder.{decide, decide_with, any_candidate}
use Rattle.grid.specs.Answer.{verdict_of, replied, means, encode_means}
use Rattle.grid.specs.Calls.{Encoded, Decoded}
use Rattle.grid.specs.Promises.{EncodePromises, DecodePromises, TrialsPromises, CodewordPromises, OneOutcome}
use Rattle.grid.specs.declared.Answer.{Answer}
use Rattle.grid.specs.declared.Verdict as enum
use Rattle.grid.specs.declared.Verdict.TheVariants.{Clean, Blank, Mended, Lost}
use Rattle.grid.proofs.Numbers.{scrubbed_number}
use Rattle.grid.proofs.Verdicts.{judged_clean}
use Rattle.grid.specs.declared.Grid.{Grid}
use Rattle.refusals.specs.declared.Refusal.{Refusal}

-- ---- the reply

-- the verdict is given, or lost is refused, ..
given_or_lost : (v : Verdict) → (replied v ≡ gives v) ⊎ (v ≡ lost)
given_or_lost (clean d) = inl refl
given_or_lost (blank n) = inl refl
given_or_lost (mended d n) = inl refl
given_or_lost lost = inr refl

given_is : (v : Verdict) {u : Verdict} → replied v ≡ gives u → u ≡ v
given_is (clean d) e = cc
given_is (blank n) e = cc
given_is (mended d n) e = cc
given_is lost e = nothing_given LostGrid e

-- .. which is so where nothing is given
refused_lost : (v : Verdict) → ((u : Verdict) → replied v ≢ gives u) → v ≡ lost
refused_lost v ne = ⊎_elim (λ e. absurd (ne v e)) (λ e. e) (given_or_lost v)

answered_given : (d n : ℕ) → replied (answered d n) ≡ gives (answered d n)
answered_given d zero = refl
answered_given d (suc n) = refl

-- ---- the encoder

-- the grid of d
grid_of : ℕ → Grid
grid_of d = record { rows = digits 8 8 (codeword d) }

module _ (d : ℕ) (r : Result Grid Refusal) (h : Encoded d r) where
  accepted : d ≢ erased → r ≡ Ok (grid_of d)
  unfolding grid_of
  accepted ne = h.answer ∙ ap (λ (b : Bool). choose b (Err Erased) (Ok (grid_of d))) (ne_eqb d erased ne)

  refused : d ≡ erased → r ≡ Err Erased
  unfolding grid_of
  refused e = h.answer ∙ ap (λ (b : Bool). choose b (Err Erased) (Ok (grid_of d))) (eq-eqb d erased e)

  -- what is given is the codeword of a number
  not_erased : (rows : List ℕ) → encode_means r ≡ gives rows → d ≢ erased
  not_erased rows e z = nothing_given Erased (sym (ap encode_means (refused z)) ∙ e)

-- the rows that are given are those of the grid
written : (r : Result Grid Refusal) (rows : List ℕ) → encode_means r ≡ gives rows → r ≡ Ok (record { rows = rows })
written (Ok g) rows e = let same : g.rows ≡ rows = cc in ap (λ (rows : List ℕ). Ok (record { rows = rows })) same
written (Err why) rows e = nothing_given why e

given_rows : (d : ℕ) (r : Result Grid Refusal) → Encoded d r → (rows : List ℕ) → encode_means r ≡ gives rows → d ≢ erased
    → rows ≡ digits 8 8 (codeword d)
unfolding grid_of
given_rows d r h rows e ne = let same : gives rows ≡ gives (digits 8 8 (codeword d)) = sym e ∙ ap encode_means (accepted d r h ne) in cc

pub encode_promised : EncodePromises
unfolding grid_of
encode_promised = record {
  accepted = λ d r l h. ap encode_means (accepted d r h (λ z. absurd (omega (arith, z))));
  refused = λ r h. ap encode_means (refused erased r h refl);
  meets = λ d r rows h e. h.meets (record { rows = rows }) (written r rows e);
}

-- ---- the decoder

module _ (rows : List ℕ) (r : Answer) (h : Decoded rows r) where
  -- the verdict of the code, where the grid is refused
  code_lost : ((v : Verdict) → means r.verdict ≢ gives v) → verdict code_of_grid (joined 8 rows) ≡ codes.lost
  code_lost ne = promised.lost_alike (joined 8 rows) (sym h.answer ∙ refused_lost (verdict_of r.verdict) ne)

  as_read : length rows ≡ 8 → ((i : ℕ) → get_or rows i 0 < 2 ^ 8) → ((v : Verdict) → means r.verdict ≢ gives v) → r.grid.rows ≡ rows
  as_read n small ne =
      h.repaired ∙ ap (λ v. digits 8 8 (repaired code_of_grid (joined 8 rows) v)) (code_lost ne) ∙ digits-joined 8 8 rows n small

  changed : length rows ≡ 8 → ((i : ℕ) → get_or rows i 0 < 2 ^ 8)
      → flips_of (verdict_of r.verdict) ≡ dist (joined 8 rows) (joined 8 r.grid.rows)
  changed n small =
      let l : joined 8 rows < 2 ^ 64 = joined_lt 8 8 rows n small in
      ap flips_of h.answer ∙ promised.flips (joined 8 rows) ∙ promised.verdicts.changed (joined 8 rows)
      ∙ ap (dist (joined 8 rows))
      (sym (ap (joined 8) h.repaired
      ∙ scrubbed_number (joined 8 rows) l))

  pattern_gives : length rows ≡ 8 → ((i : ℕ) → get_or rows i 0 < 2 ^ 8) → bit_xor (joined 8 rows) r.pattern ≡ joined 8 r.grid.rows
  pattern_gives n small =
      ap (bit_xor (joined 8 rows)) h.pattern ∙ promised.verdicts.pattern.gives (joined 8 rows)
      ∙ sym (ap (joined 8) h.repaired ∙ scrubbed_number (joined 8 rows) (joined_lt 8 8 rows n small))

  pattern_flips : flips_of (verdict_of r.verdict) ≡ ones r.pattern
  pattern_flips =
      ap flips_of h.answer ∙ promised.flips (joined 8 rows) ∙ promised.verdicts.pattern.flips (joined 8 rows) ∙ sym (ap ones h.pattern)

  pattern_clean : (d : ℕ) → means r.verdict ≡ gives (clean d) → r.pattern ≡ 0
  pattern_clean d e = zero_of_ones r.pattern (sym pattern_flips ∙ ap flips_of (sym (given_is (verdict_of r.verdict) e)))

  pattern_refused : ((v : Verdict) → means r.verdict ≢ gives v) → r.pattern ≡ 0
  pattern_refused ne = h.pattern ∙ promised.verdicts.pattern.none_lost (joined 8 rows) (code_lost ne)

  -- the rows are those of a word whose verdict by the code is known
  of_word : (w : ℕ) (v : codes.Verdict) → joined 8 rows ≡ w → verdict code_of_grid w ≡ v
      → (means r.verdict ≡ replied (named v)) × (r.grid.rows ≡ digits 8 8 (repaired code_of_grid w v))
  of_word w v e p = (
    ap replied (h.answer ∙ ap grid_verdict e ∙ ap named p),
    h.repaired ∙ ap (λ (x : ℕ). digits 8 8 (scrubbed code_of_grid x)) e ∙ ap (λ x. digits 8 8 (repaired code_of_grid w x)) p,
  )

  blank_all_ones : (n : ℕ) → means r.verdict ≡ gives (blank n) → r.grid.rows ≡ digits 8 8 all_set
  blank_all_ones n e =
      let v : grid_verdict (joined 8 rows) ≡ blank n = sym h.answer ∙ sym (given_is (verdict_of r.verdict) e) in
      h.repaired ∙ ap (digits 8 8) (blank_repaired (joined 8 rows) (verdict code_of_grid (joined 8 rows)) n v ∙ promised.all_ones)

-- a pattern of flips on a written grid
flipped : (d p : ℕ) → d < 2 ^ 16 → p < 2 ^ 64 → joined 8 (digits 8 8 (bit_xor (codeword d) p)) ≡ bit_xor (codeword d) p
flipped d p l h = joined-digits 8 8 (bit_xor (codeword d) p) (xor_lt 64 (codeword d) p (codeword_lt d l) h)

-- whichever value it is
undone : (d p : ℕ) (r : Answer) → d < 2 ^ 16 → p < 2 ^ 64 → ones p ≤ code_of_grid.radius → Decoded (digits 8 8 (bit_xor (codeword d) p)) r
    → (means r.verdict ≡ replied (named (codes.answered d (ones p)))) × (r.grid.rows ≡ digits 8 8 (codeword d)) × (r.pattern ≡ p)
undone d p r l k few h =
    let (v, g) =
    of_word (digits 8 8 (bit_xor (codeword d) p)) r h (bit_xor (codeword d) p) (codes.answered d (ones p)) (flipped d p l k)
    (promised.verdicts.undone d p l few) in (
      v,
      g ∙ ap (digits 8 8) (answered-repaired code_of_grid (bit_xor (codeword d) p) d (ones p)),
      h.pattern ∙ ap (pattern_of code_of_grid) (flipped d p l k) ∙ promised.verdicts.pattern.undone d p l few,
    )

number_undone : (d p : ℕ) (r : Answer) → d < erased → p < 2 ^ 64 → ones p ≤ code_of_grid.radius → Decoded (digits 8 8 (bit_xor (codeword d) p)) r
    → (means r.verdict ≡ gives (answered d (ones p))) × (r.grid.rows ≡ digits 8 8 (codeword d)) × (r.pattern ≡ p)
number_undone d p r l k few h =
    let (v, g, q) = undone d p r (omega arith) k few h in
    (v ∙ ap replied (named-answered d (ones p) (λ z. absurd (omega (arith, z)))) ∙ answered_given d (ones p), g, q)

erased_undone : (p : ℕ) (r : Answer) → p < 2 ^ 64 → ones p ≤ code_of_grid.radius → Decoded (digits 8 8 (bit_xor all_set p)) r
    → (means r.verdict ≡ gives (blank (ones p))) × (r.grid.rows ≡ digits 8 8 all_set) × (r.pattern ≡ p)
erased_undone p r k few h =
    let is = promised.all_ones in
    let (v, g, q) = undone erased p r (lit< tt) k few (subst (λ (g : ℕ). Decoded (digits 8 8 (bit_xor g p)) r) (sym is) h) in
    (v ∙ ap replied (named_blank erased (ones p) refl), g ∙ ap (digits 8 8) is, q)

-- ---- no second outcome

-- a verdict tells its case of the enum
told : Verdict → enum.Verdict
told (clean d) = Clean d
told (blank n) = Blank n
told (mended d n) = Mended d n
told lost = Lost

told_verdict : (v : enum.Verdict) → told (verdict_of v) ≡ v
unfolding told
told_verdict (Clean d) = refl
told_verdict (Blank n) = refl
told_verdict (Mended d n) = refl
told_verdict Lost = refl

same_answer : (rows : List ℕ) (a b : Answer) → Decoded rows a → Decoded rows b → a ≡ b
same_answer rows a b p q = λ i. record {
  verdict = (sym (told_verdict a.verdict) ∙ ap told (p.answer ∙ sym q.answer) ∙ told_verdict b.verdict) i;
  grid = record { rows = (p.repaired ∙ sym q.repaired) i };
  pattern = (p.pattern ∙ sym q.pattern) i;
  trials = decide.reported (joined 8 rows) a.trials b.trials (p.trials fixed repair) (q.trials fixed repair) i;
}

pub decode_promised : DecodePromises
decode_promised = record {
  is_verdict = λ rows r h. subst (IsGridVerdict (joined 8 rows)) (sym h.answer) (promised.settled (joined 8 rows));
  only = λ rows r v h p. promised.one_verdict (joined 8 rows) v p ∙ sym h.answer;
  demand3 = λ rows r h. subst (GridDemand3 (joined 8 rows)) (sym h.answer) (promised.demand3 (joined 8 rows));
  no_tie = λ rows. promised.verdicts.no_tie (joined 8 rows);
  numbers = λ rows r h. ⊎_elim inl (λ e. inr (ap replied e)) (given_or_lost (verdict_of r.verdict));
  changed = λ rows r n small h. changed rows r h n small;
  pattern_gives = λ rows r n small h. pattern_gives rows r h n small;
  pattern_flips = pattern_flips;
  pattern_clean = λ rows d r h. pattern_clean rows r h d;
  pattern_refused = λ rows r h. pattern_refused rows r h;
  as_read = λ rows r n small h ne. as_read rows r h n small ne;
  blank_all_ones = λ rows n r h. blank_all_ones rows r h n;
  encoded = λ d rows e r l p z h.
      let ne : d ≢ erased = not_erased d e p rows z in
      let is : rows ≡ digits 8 8 (codeword d) = given_rows d e p rows z ne in
      let (v, o) =
      of_word rows r h (codeword d) (codes.clean d) (ap (joined 8) is ∙ joined-digits 8 8 (codeword d) (codeword_lt d l))
      (promised.verdicts.unharmed d l) in
      (v ∙ ap replied (named_clean d ne), o ∙ sym is);
  undone = number_undone;
  erased_undone = erased_undone;
  eight = λ d p r l k e h.
      let (v, g) =
      of_word (digits 8 8 (bit_xor (codeword d) p)) r h (bit_xor (codeword d) p) codes.lost (flipped d p l k) (promised.eight_are_lost d p l e) in
      (v, g);
}

-- ---- the trials

one_or_two : (w n : ℕ) → Trials sides code_of_grid fixed w n → (n ≡ 1) ⊎ (n ≡ 2)
one_or_two w n (one d m g) = inl refl
one_or_two w n (two h) = inr refl

one_is_first : (fix : ℕ → ℕ) (w n : ℕ) → Trials sides code_of_grid fix w n → n ≡ 1 → (d : ℕ) × (m : ℕ) × Gives sides code_of_grid fix 2 w d m
one_is_first fix w n (one d m g) e = (d, m, g)
one_is_first fix w n (two h) e = absurd (omega (arith, e))

-- a verdict without flips: by the code it is clean
clean_of_flips : (v : codes.Verdict) (w : ℕ) → codes.IsVerdict code_of_grid w v → codes.flips_of v ≡ 0 → named v ≢ lost → (d : ℕ) × (v ≡ codes.clean d)
clean_of_flips (codes.clean d) w p e ne = (d, refl)
clean_of_flips (codes.mended d n) w (p, l, r) e ne = absurd (omega (arith, e))
clean_of_flips codes.lost w p e ne = absurd (ne refl)

pub trials_promised : TrialsPromises
trials_promised = record {
  some_repair = (fixed, repair);
  any_repair = any_candidate;
  decide = decide_with;
  first_is_one = λ fix rows r d n R h g. (decide_with fix R).reported (joined 8 rows) r.trials 1 (h.trials fix R) (one d n g);
  one_is_first = λ fix rows r R h e. one_is_first fix (joined 8 rows) r.trials (h.trials fix R) e;
  one_or_two = λ rows r h. one_or_two (joined 8 rows) r.trials (h.trials fixed repair);
  unharmed_one = λ rows r v h e z.
      let is : v ≡ grid_verdict (joined 8 rows) = given_is (verdict_of r.verdict) e ∙ h.answer in
      let (d, c) =
      clean_of_flips (verdict code_of_grid (joined 8 rows)) (joined 8 rows) (has_verdict code_of_grid promised.verdicts (joined 8 rows) refl)
      (sym (promised.flips (joined 8 rows)) ∙ sym (ap flips_of is) ∙ z)
      (λ lost-one. nothing_given LostGrid (sym (ap replied (h.answer ∙ lost-one)) ∙ e)) in
      decide.reported (joined 8 rows) r.trials 1 (h.trials fixed repair) (decide.clean_one (joined 8 rows) d c);
  lost_two = λ rows r h ne.
      decide.reported (joined 8 rows) r.trials 2 (h.trials fixed repair) (decide.lost_two (joined 8 rows) (code_lost rows r h ne));
}

pub codeword_promised : CodewordPromises
codeword_promised = record {
  codewords = λ rows d r l e j. j.answer ∙ ap (λ v. eqb (is_clean v) 1) (ap (verdict code_of_grid) e ∙ promised.verdicts.unharmed d l);
  nothing_else = λ rows j.
      let (d, v) = judged_clean rows j in
      let (l, e) = clean_word code_of_grid promised.verdicts (joined 8 rows) d v in
      (d, l, e);
}

pub one_outcome : OneOutcome
one_outcome = record {
  encode = λ d a b p q. p.answer ∙ sym q.answer;
  number = λ rows a b p q. p.answer ∙ sym q.answer;
  of_number = λ w a b p q. p.answer ∙ sym q.answer;
  is_codeword = λ rows a b p q. p.answer ∙ sym q.answer;
  decode_and_mend = same_answer;
}
