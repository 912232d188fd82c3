-- One turn of the scrub over fields: what was passed stays, and with what is left scrubbed, all is. Assumes nothing.
use Rattle.std.proofs.Common.{◌≡◌, ℕ, ◌+◌, ◌-◌, ◌≤◌, List, [], ◌++◌, length, take, drop, sym, ap, ◌∙◌, subst, append_assoc, arith, length-append, length-drop, length-take-le}
use Rattle.words.proofs.Lists.{part_behind, part_back, take_past, drop_past}
use Rattle.image.specs.Steps.{Walks}
use Rattle.image.proofs.Walks.{bounded}
use Rattle.card_scrub.specs.declared.Tallies.{Tallies}
use Rattle.card_scrub.specs.Calls.{tallies_of}
use Rattle.card_scrub.specs.Steps.{summed, ScrubbedFields, Passed}
use Rattle.card_scrub.specs.Sums.{summed_again}
use Rattle.card_scrub.proofs.Parts.{none_more}

-- what is left, scrubbed, makes the whole
abbrev pub Completes : List ℕ → Tallies → ℕ → List ℕ → Type 0
Completes whole t at rest = (there : Tallies) (e : List ℕ) → ScrubbedFields (drop at rest) there e → ScrubbedFields whole (summed t there) (take at rest ++ e)

-- before the first field
pub begun : (s : List ℕ) → Walks s → Completes s (tallies_of []) 0 s
begun s w there e x = record {
  answer = λ left at ps found.
      let b = bounded left at s ps found in
      ap (summed (tallies_of [])) (x.answer left at ps found) ∙ none_more ps (omega (arith, b.0, w.few)) (omega (arith, b.1, w.few));
  after = x.after;
}

-- a data field more, in the rest as it is lent from `at` on and given back as `exit`
module _ (rest exit whole : List ℕ) (at size : ℕ) (t here : Tallies) (inside : at ≤ length rest)
    (step : Passed (take (length rest - at) (drop at rest)) size here exit) (inv : Completes whole t at rest) where
  abbrev pub next : List ℕ
  next = take at rest ++ (exit ++ drop (length rest - at) (drop at rest))

  lent : Passed (drop at rest) size here exit
  lent = subst (λ l. Passed l size here exit) (part_behind at rest) step

  front : length (take at rest) ≡ at
  front = length-take-le at rest inside

  left : drop (at + size) next ≡ drop size (drop at rest)
  left = ap (drop (at + size)) (part_back at rest exit) ∙ drop_past (take at rest) exit at size front ∙ lent.behind

  next_long : length next ≡ length rest
  next_long = omega (arith, ap length (part_back at rest exit), length-append (take at rest) exit, front, lent.long, length-drop at rest, inside)

  next_inside : at + size ≤ length rest
  next_inside = omega (arith, lent.room, length-drop at rest, inside)

  next_walks : Walks (drop (at + size) next)
  next_walks = subst Walks (sym left) lent.walks

  next_completes : Completes whole (summed t here) (at + size) next
  next_completes there e x =
      let behind = subst (λ l. ScrubbedFields l there e) left x in
      let all = inv (summed here there) (take size exit ++ e) (lent.completes there e behind) in
      let is : take at rest ++ (take size exit ++ e) ≡ take (at + size) next ++ e =
      sym (ap (λ l. take (at + size) l ++ e) (part_back at rest exit) ∙ ap (λ l. l ++ e) (take_past (take at rest) exit at size front)
      ∙ append_assoc (take at rest) (take size exit) e) in
      subst (λ (u : Tallies). ScrubbedFields whole u (take (at + size) next ++ e)) (summed_again t here there)
      (subst (λ l. ScrubbedFields whole (summed t (summed here there)) l) is all)

  pub turned : (at + size ≤ length rest) × (length next ≡ length rest) × Walks (drop (at + size) next) × Completes whole (summed t here) (at + size) next
  turned = (next_inside, next_long, next_walks, next_completes)
