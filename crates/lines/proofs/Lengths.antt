-- How long the lines are, and how many. Assumes nothing.
use Rattle.std.specs.Prelude.{None, Option, Some}
use mathlib.Core.Path.{◌≡◌, refl, sym, ap, ◌∙◌, subst}
use mathlib.Core.Bool.{Bool, true, false, and-eq-true_iff}
use mathlib.Core.List.{List, [], ◌∷◌, ◌++◌}
use Prim.Native.Nat.{ℕ, suc, ◌+◌, ◌/◌, ◌%◌, ◌^◌, ◌≤◌, ◌<◌}
use Prim.Native.String.{String}
use native.Mathlib.Decide.{dec_le}
use native.Mathlib.Omega.{arith}
use lib.Dec.{eqb, leb}
use lib.ListN.{length, length-append, length-drop, drop}
use borrow.Author.Tests.{ne_eqb, eqb-true, leb-true}
use Rattle.words.specs.Word.{choose}
use Rattle.refusals.specs.declared.Refusal.{Refusal}
use Rattle.refusals.specs.declared.Refusal.TheVariants.{Length, Broken}
use Rattle.refusals.specs.Reply.{numbered, number_of, place_of}
use Rattle.refusals.proofs.Promises.{few_numbers}
use Rattle.page.specs.Tally.{grid_tally}
use Rattle.page.proofs.Counts.{tallies}
use Rattle.fields.specs.Fields.{head_bytes, title_byte, first_bad, title_length, is_title}
use Rattle.fields.proofs.Fields.{known}
use Rattle.value_scrub.specs.Tally.{block_tally}
use Rattle.image.specs.Card.{Card, Found, sound, broken, most_bytes, data_fields, grids_in, blocks_in, card_of}
use Rattle.image.proofs.Checking.{checked_long, checked_found, begins}
use Rattle.image.proofs.Walks.{bounded}
use Rattle.card.proofs.Again.{block_laws}
use Rattle.lines.specs.Text.{bytes, digit, decimal, labelled, place_text, lines_of}
use Rattle.lines.specs.Text.{title_line, grids_line, blocks_line, refused_line, card_lines}
use Rattle.lines.specs.Calls.{room}
use Rattle.lines.specs.Promises.{line_ends}
use Rattle.lines.proofs.Digits.{one_digit, more_digits, by_digits, digits_32}
use Rattle.lines.proofs.Printing.{title_few}
use Rattle.lines.proofs.Places.{place_inside}

-- ---- how many lines

ends_append : (xs ys : List ℕ) → line_ends (xs ++ ys) ≡ line_ends xs + line_ends ys
unfolding line_ends
ends_append [] ys = omega arith
ends_append (x ∷ xs) ys = go (eqb x 10) (ends_append xs ys)
  where
    go : (b : Bool) → line_ends (xs ++ ys) ≡ line_ends xs + line_ends ys
        → choose b (suc (line_ends (xs ++ ys))) (line_ends (xs ++ ys)) ≡ choose b (suc (line_ends xs)) (line_ends xs) + line_ends ys
    go true p = omega (arith, p)
    go false p = p

digit_ends : (d : ℕ) → line_ends (digit d ∷ []) ≡ 0
unfolding line_ends
digit_ends d = rw (ne_eqb (digit d) 10 (λ e. omega (arith, e)))

decimal_ends : (n : ℕ) → line_ends (decimal n) ≡ 0
decimal_ends =
    by_digits (λ n. line_ends (decimal n) ≡ 0) (λ n h. ap line_ends (one_digit n h) ∙ digit_ends n)
    (λ n h p. ap line_ends (more_digits n h) ∙ omega (arith, ends_append (decimal (n / 10)) (digit (n % 10) ∷ []), p, digit_ends (n % 10)))

title_ends : (title : List ℕ) → first_bad title ≡ length title → line_ends title ≡ 0
unfolding line_ends first_bad
title_ends [] e = refl
title_ends (b ∷ title) e = go (title_byte b) refl e (title_ends title)
  where
    go : (t : Bool) → title_byte b ≡ t → choose t (suc (first_bad title)) 0 ≡ suc (length title)
        → (first_bad title ≡ length title → line_ends title ≡ 0) → line_ends (b ∷ title) ≡ 0
    go true t e behind =
        let least = leb-true 32 b ((and-eq-true_iff (leb 32 b) (leb b 126)).0 t).0 in
        rw (ne_eqb b 10 (λ z. omega (arith, z, least))) (behind (omega (arith, e)))
    go false t e behind = absurd (omega (arith, e))

-- ---- part by part: at most so many bytes, and so many lines that end there

record Part (xs : List ℕ) (most ends : ℕ) : Type 0 where
  pub few : length xs ≤ most
  pub ending : line_ends xs ≡ ends

then : {xs ys : List ℕ} {m n e f : ℕ} → Part xs m e → Part ys n f → Part (xs ++ ys) (m + n) (e + f)
then {xs} {ys} a b = record {
  few = omega (arith, length-append xs ys, a.few, b.few);
  ending = omega (arith, ends_append xs ys, a.ending, b.ending);
}

whole : (xs : List ℕ) → Part xs (length xs) (line_ends xs)
whole xs = record { few = omega arith; ending = refl }

number : (word : String) (n : ℕ) → n < 2 ^ 32 → Part (labelled word n) (length (bytes word) + 10) (line_ends (bytes word))
unfolding labelled
number word n h = record {
  few = omega (arith, length-append (bytes word) (decimal n), digits_32 n h);
  ending = omega (arith, ends_append (bytes word) (decimal n), decimal_ends n);
}

title_line_lem : (title : List ℕ) → is_title title ≡ true → Part (title_line title) 31 1
unfolding title_line line_ends
title_line_lem title e =
    let none =
    title_ends title
    (eqb-true (first_bad title) (length title)
    ((and-eq-true_iff (title_length (length title)) (eqb (first_bad title) (length title))).0 e).1) in
    let inner : Part title 24 0 = record { few = title_few title e; ending = none } in
    then (then (whole (bytes "title ")) inner) (whole (bytes "\n"))

grids_line_lem : (ws : List ℕ) → length ws ≤ most_bytes → Part (grids_line (grid_tally ws)) 102 1
unfolding grids_line line_ends
grids_line_lem ws h =
    let t = grid_tally ws in
    let all = tallies.all ws in
    let flips = tallies.flips ws in
    then (then (then (then (then (then (number "grids " t.grids (omega arith)) (number " clean " t.clean (omega (arith, all))))
    (number " blank " t.blank (omega (arith, all)))) (number " mended " t.mended (omega (arith, all))))
    (number " lost " t.lost (omega (arith, all)))) (number " flips " t.flips (omega (arith, flips)))) (whole (bytes "\n"))

blocks_line_lem : (ws : List ℕ) → length ws ≤ most_bytes → Part (blocks_line (block_tally ws)) 86 1
unfolding blocks_line line_ends
blocks_line_lem ws h =
    let t = block_tally ws in
    let all = block_laws.all ws in
    let flips = block_laws.flips ws in
    then (then (then (then (then (number "blocks " t.blocks (omega arith)) (number " clean " t.clean (omega (arith, all))))
    (number " mended " t.mended (omega (arith, all)))) (number " lost " t.lost (omega (arith, all))))
    (number " flips " t.flips (omega (arith, flips)))) (whole (bytes "\n"))

card_lines_lem : (s : List ℕ) (c : Card) → length s ≤ most_bytes → card_of s ≡ sound c → Part (card_lines c) room 3
card_lines_lem s c l e =
    let b = begins s c e in
    let start = head_bytes + length c.title in
    let (grids, blocks) = bounded data_fields start (drop start s) c.parts b.found in
    let less = length-drop start s in
    let right = subst (λ t. is_title t ≡ true) (sym b.title_value) (known s b.titled_so).1 in
    then (then (title_line_lem c.title right) (grids_line_lem (grids_in c.parts) (omega (arith, grids, less, l))))
    (blocks_line_lem (blocks_in c.parts) (omega (arith, blocks, less, l)))

-- ---- a refusal

place_text_lem : (p : Option ℕ) → Part (place_text p) (length (place_text p)) 0
unfolding line_ends labelled
place_text_lem (Some n) = record { few = omega arith; ending = omega (arith, ends_append (bytes " at ") (decimal n), decimal_ends n) }
place_text_lem None = whole []

refused_line_lem : (why : Refusal) → Part (refused_line why) (18 + length (place_text (place_of (numbered why))) + 1) 1
unfolding refused_line line_ends
refused_line_lem why =
    then (then (number "refused " (number_of (numbered why)) (omega (arith, few_numbers why))) (place_text_lem (place_of (numbered why))))
    (whole (bytes "\n"))

pub one_line : (why : Refusal) → line_ends (refused_line why) ≡ 1
one_line why = (refused_line_lem why).ending

pub three_lines : (s : List ℕ) (c : Card) → length s ≤ most_bytes → card_of s ≡ sound c → line_ends (lines_of s) ≡ 3
three_lines s c l e = ap line_ends (checked_found s refused_line card_lines l e) ∙ (card_lines_lem s c l e).ending

pub fits : (s : List ℕ) → length (lines_of s) ≤ room
fits s = go (dec_le (length s) most_bytes) (card_of s) refl
  where
    go : Dec (length s ≤ most_bytes) → (x : Found Card) → card_of s ≡ x → length (lines_of s) ≤ room
    go (yes l) (sound c) e = omega (arith, ap length (checked_found s refused_line card_lines l e), (card_lines_lem s c l e).few)
    go (yes l) (broken at) e =
        let short = number " at " at (omega (arith, place_inside s at e)) in
        omega (arith, ap length (checked_found s refused_line card_lines l e), (refused_line_lem (Broken at)).few, short.few)
    go (no l) x e = omega (arith, ap length (checked_long s refused_line card_lines (omega arith)), (refused_line_lem Length).few)
