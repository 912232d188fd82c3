-- What stands in an image: the field that is found where a tag, a length and a value are written one behind the other; and the data fields
-- and the title that are written where they are found. Assumes nothing.
use Rattle.std.specs.Prelude.{None, Option, Some}
use mathlib.Core.Path.{◌≡◌, refl, sym, ap, ap₂, ◌∙◌}
use mathlib.Core.Logic.{◌⊎◌, ⊎_elim}
use mathlib.Core.Bool.{Bool, true, ◌&&◌}
use mathlib.Core.List.{List, [], ◌∷◌, ◌++◌, append_assoc}
use Prim.Native.Nat.{ℕ, zero, suc, ◌+◌, ◌-◌, ◌*◌, ◌/◌, ◌%◌, ◌≤◌, suc-le-suc}
use native.Mathlib.Omega.{arith}
use lib.Dec.{eqb}
use lib.ListN.{length, drop, length-append, take-append-drop}
use lib.Seq.{take_at, drop_at, drop-drop}
use borrow.Author.Tests.{le-leb, eq-eqb}
use Rattle.words.specs.Digits.{digits, joined, Below}
use Rattle.words.specs.Bytes.{words_in, bytes_of}
use Rattle.words.proofs.Digits.{length_digits, digits_below, joined-digits, digits-joined, joined_lt}
use Rattle.words.proofs.Bytes.{length-words, length-bytes, below_take, below_drop, bytes-words, words-bytes, words_below}
use Rattle.fields.specs.declared.Field.{Field}
use Rattle.fields.specs.declared.Field.TheVariants.{Title, Grids, Block, End}
use Rattle.fields.specs.Fields.{grids_most, size, value, is_title, is_grids, field_of}
use Rattle.fields.proofs.Fields.{Stands, known, length-value, grids_size, found_title, found_grids, found_block}
use Rattle.image.specs.Card.{Part, grids, block, Card, Found, grids_at, block_at, before, walk, under_title, card_of, head, part_bytes, parts_bytes, front_of}
use Rattle.image.specs.Promises.{ProperPart, AllProper, Proper}
use Rattle.image.proofs.Walking.{walk_grids, walk_block, card_titled}

-- ---- what is written is found

module _ (t n : ℕ) (v rest : List ℕ) (e : length v ≡ n) where
  pub stands_front : Stands (head t n ++ v ++ rest) t n
  stands_front = record { tag_is = refl; size_is = omega arith; room = omega (arith, length-append v rest) }

  value_front : value (head t n ++ v ++ rest) ≡ v
  value_front = take_at v rest (n / 256 * 256 + n % 256) (omega arith)

  drop_front : drop (3 + n) (head t n ++ v ++ rest) ≡ rest
  drop_front = sym (drop-drop n 3 (head t n ++ v ++ rest)) ∙ drop_at v rest n e

-- one data field
module _ (left at : ℕ) (rest : List ℕ) where
  grids_step : (ws : List ℕ) → 8 * length ws ≤ grids_most → Below 64 ws
      → walk (suc left) at (part_bytes (grids ws) ++ rest) ≡ before (grids ws) (walk left (at + length (part_bytes (grids ws))) rest)
  unfolding part_bytes
  grids_step ws few below =
      let n : ℕ = 8 * length ws in
      let v : List ℕ = bytes_of 8 ws in
      let s : List ℕ = head 2 n ++ v ++ rest in
      let l : length v ≡ n = length-bytes 8 ws in
      let eight : n % 8 ≡ 0 = omega arith in
      let test : is_grids n ≡ true = ap (λ (b : Bool). b && eqb (n % 8) 0) (le-leb n grids_most few) ∙ eq-eqb (n % 8) 0 eight in
      let count : n / 8 ≡ length ws = omega arith in
      let next : at + (3 + n) ≡ at + length (head 2 n ++ v) = omega arith in
      walk_grids at s left n (found_grids s n (stands_front 2 n v rest l) test)
      ∙ ap₂ (λ (k : ℕ) (bytes : List ℕ). before (grids (words_in 8 k bytes)) (walk left (at + (3 + n)) (drop (3 + n) s)))
      count (value_front 2 n v rest l)
      ∙ ap (λ (l : List ℕ). before (grids l) (walk left (at + (3 + n)) (drop (3 + n) s))) (words-bytes 8 ws below)
      ∙ ap₂ (λ (k : ℕ) (l : List ℕ). before (grids ws) (walk left k l)) next (drop_front 2 n v rest l)

  block_step : (w : ℕ) → ProperPart (block w)
      → walk (suc left) at (part_bytes (block w) ++ rest) ≡ before (block w) (walk left (at + length (part_bytes (block w))) rest)
  unfolding part_bytes
  block_step w h =
      let ws : List ℕ = digits 16 38 w in
      let v : List ℕ = bytes_of 2 ws in
      let s : List ℕ = head 3 76 ++ v ++ rest in
      let count : length ws ≡ 38 = length_digits 16 38 w in
      let l : length v ≡ 76 = omega (arith, length-bytes 2 ws) in
      let next : at + 79 ≡ at + length (head 3 76 ++ v) = omega arith in
      let words : words_in 2 38 v ≡ ws = ap (λ (k : ℕ). words_in 2 k v) (sym count) ∙ words-bytes 2 ws (digits_below 16 38 w) in
      walk_block at s left (found_block s (stands_front 3 76 v rest l))
      ∙ ap (λ (l : List ℕ). before (block (joined 16 (words_in 2 38 l))) (walk left (at + 79) (drop 79 s))) (value_front 3 76 v rest l)
      ∙ ap (λ (k : ℕ). before (block k) (walk left (at + 79) (drop 79 s))) (ap (joined 16) words ∙ joined-digits 16 38 w h)
      ∙ ap₂ (λ (k : ℕ) (l : List ℕ). before (block w) (walk left k l)) next (drop_front 3 76 v rest l)

  part_step : (p : Part) → ProperPart p
      → walk (suc left) at (part_bytes p ++ rest) ≡ before p (walk left (at + length (part_bytes p)) rest)
  part_step (grids ws) (few, below) = grids_step ws few below
  part_step (block w) h = block_step w h

-- all data fields, with what is found behind them
abbrev pub before_all : List Part → Found (List Part) → Found (List Part)
before_all [] x = x
before_all (p ∷ ps) x = before p (before_all ps x)

walk_over : (ps : List Part) → AllProper ps → (all left at : ℕ) (rest : List ℕ) → length ps + left ≡ all
    → walk all at (parts_bytes ps ++ rest) ≡ before_all ps (walk left (at + length (parts_bytes ps)) rest)
unfolding parts_bytes
walk_over [] h all left at rest e =
    let same : all ≡ left = omega arith in
    let here : at ≡ at + 0 = omega arith in
    ap₂ (λ (k m : ℕ). walk k m rest) same here
walk_over (p ∷ ps) h zero left at rest e = absurd (omega arith)
walk_over (p ∷ ps) h (suc all) left at rest e =
    let next : at + length (part_bytes p) + length (parts_bytes ps) ≡ at + length (part_bytes p ++ parts_bytes ps) =
    omega (arith, length-append (part_bytes p) (parts_bytes ps)) in
    ap (walk (suc all) at) (append_assoc (part_bytes p) (parts_bytes ps) rest)
    ∙ part_step all at (parts_bytes ps ++ rest) p h.0
    ∙ ap (before p) (walk_over ps h.1 all left (at + length (part_bytes p)) rest (omega arith))
    ∙ ap (λ (k : ℕ). before p (before_all ps (walk left k rest))) next

-- the whole front of a card: what is found hangs on what stands behind it
pub card_over : (c : Card) → Proper c → (rest : List ℕ)
    → card_of (front_of c ++ rest) ≡ under_title c.title (before_all c.parts (walk (16 - length c.parts) (length (front_of c)) rest))
unfolding front_of
card_over c h rest =
    let v : List ℕ = c.title in
    let n : ℕ = length v in
    let ps : List Part = c.parts in
    let r : List ℕ = parts_bytes ps ++ rest in
    let s : List ℕ = head 1 n ++ v ++ r in
    let left : length ps + (16 - length ps) ≡ 16 = omega arith in
    let next : 3 + n + length (parts_bytes ps) ≡ length (head 1 n ++ v ++ parts_bytes ps) = omega (arith, length-append v (parts_bytes ps)) in
    ap (λ (l : List ℕ). card_of (head 1 n ++ l)) (append_assoc v (parts_bytes ps) rest)
    ∙ card_titled s n (found_title s n (stands_front 1 n v r refl) (ap is_title (value_front 1 n v r refl) ∙ h.title))
    ∙ ap₂ (λ (v r : List ℕ). under_title v (walk 16 (3 + n) r)) (value_front 1 n v r refl) (drop_front 1 n v r refl)
    ∙ ap (under_title v) (walk_over ps h.each 16 (16 - length ps) (3 + n) rest left)
    ∙ ap (λ (k : ℕ). under_title v (before_all ps (walk (16 - length ps) k rest))) next

-- ---- what is found is written

-- a byte is below 256, so a length has one pair of bytes
pub split : (t n : ℕ) (s : List ℕ) → Below 8 s → Stands s t n → s ≡ head t n ++ value s ++ drop (3 + n) s
split t n [] h st = absurd (omega arith)
split t n (a ∷ []) h st = absurd (omega arith)
split t n (a ∷ b ∷ []) h st = absurd (omega arith)
split t n (a ∷ b ∷ c ∷ xs) h st =
    let high : b ≡ n / 256 = omega (arith, h 2) in
    let low : c ≡ n % 256 = omega (arith, h 2) in
    cc (take-append-drop n xs, drop-drop n 3 (a ∷ b ∷ c ∷ xs))

module _ (s : List ℕ) (h : Below 8 s) where
  below_value : Below 8 (value s)
  below_value = below_take 8 (size s) (drop 3 s) (below_drop 8 3 s h)

  grids_back : (n : ℕ) → field_of s ≡ Some (Grids n)
      → ProperPart (grids_at n (value s)) × (s ≡ part_bytes (grids_at n (value s)) ++ drop (3 + n) s)
  unfolding part_bytes
  grids_back n e =
      let (st, test) = known s e in
      let (few, eight) = grids_size n test in
      let v : List ℕ = value s in
      let ws : List ℕ = words_in 8 (n / 8) v in
      let l : length v ≡ size s = length-value s (omega arith) in
      let count : length ws ≡ n / 8 = length-words 8 (n / 8) v in
      let whole : n ≡ 8 * length ws = omega arith in
      let bytes : bytes_of 8 ws ≡ v = bytes-words 8 (n / 8) v (omega arith) below_value in (
        (omega arith, words_below 8 (n / 8) v (omega arith) below_value),
        split 2 n s h st ∙ ap₂ {C = List ℕ} (λ (k : ℕ) (l : List ℕ). head 2 k ++ l ++ drop (3 + n) s) whole (sym bytes),
      )

  block_back : field_of s ≡ Some Block → ProperPart (block_at (value s)) × (s ≡ part_bytes (block_at (value s)) ++ drop 79 s)
  unfolding part_bytes
  block_back e =
      let st = known s e in
      let v : List ℕ = value s in
      let ws : List ℕ = words_in 2 38 v in
      let l : length v ≡ size s = length-value s (omega arith) in
      let count : length ws ≡ 38 = length-words 2 38 v in
      let below : Below 16 ws = words_below 2 38 v (omega arith) below_value in
      let bytes : bytes_of 2 (digits 16 38 (joined 16 ws)) ≡ v =
      ap (bytes_of 2) (digits-joined 16 38 ws count below) ∙ bytes-words 2 38 v (omega arith) below_value in
      (joined_lt 16 38 ws count below, split 3 76 s h st ∙ ap (λ (l : List ℕ). head 3 76 ++ l ++ drop 79 s) (sym bytes))

-- the field at the front holds data
abbrev pub DataAt : List ℕ → Type 0
DataAt rest = ((n : ℕ) × (field_of rest ≡ Some (Grids n))) ⊎ (field_of rest ≡ Some Block)

-- the data fields at the front, up to `left`: if one more comes, there were that many
record Parsed (left : ℕ) (s : List ℕ) : Type 0 where
  parts : List Part
  rest : List ℕ
  few : length parts ≤ left
  each : AllProper parts
  is : s ≡ parts_bytes parts ++ rest
  full : DataAt rest → length parts ≡ left

none : (left : ℕ) (s : List ℕ) → (DataAt s → 0 ≡ left) → Parsed left s
unfolding parts_bytes
none left s full = record { parts = []; rest = s; few = omega arith; each = tt; is = refl; full = full }

more : {left : ℕ} {s t : List ℕ} (p : Part) → ProperPart p × (s ≡ part_bytes p ++ t) → Parsed left t → Parsed (suc left) s
unfolding parts_bytes
more {left} {s} {t} p (proper, e) r = record {
  parts = p ∷ r.parts;
  rest = r.rest;
  few = suc-le-suc r.few;
  each = (proper, r.each);
  is = e ∙ ap (λ (l : List ℕ). part_bytes p ++ l) r.is ∙ sym (append_assoc (part_bytes p) (parts_bytes r.parts) r.rest);
  full = λ d. ap suc (r.full d);
}

parse : (left : ℕ) (s : List ℕ) → Below 8 s → Parsed left s
parse zero s h = none 0 s (λ d. refl)
parse (suc left) s h = go (field_of s) refl (λ n. parse left (drop n s) (below_drop 8 n s h))
  where
    go : (f : Option Field) → field_of s ≡ f → ((n : ℕ) → Parsed left (drop n s)) → Parsed (suc left) s
    go (Some (Grids n)) e r = more (grids_at n (value s)) (grids_back s h n e) (r (3 + n))
    go (Some Block) e r = more (block_at (value s)) (block_back s h e) (r 79)
    go (Some (Title n)) e r = none (suc left) s (⊎_elim (λ d. let (m, p) = d in cc) (λ p. cc))
    go (Some End) e r = none (suc left) s (⊎_elim (λ d. let (m, p) = d in cc) (λ p. cc))
    go None e r = none (suc left) s (⊎_elim (λ d. let (m, p) = d in cc) (λ p. cc))

-- the front of a card, and what is left behind it
pub record Fronted (s : List ℕ) : Type 0 where
  pub card : Card
  pub rest : List ℕ
  pub proper : Proper card
  pub is : s ≡ front_of card ++ rest
  pub full : DataAt rest → length card.parts ≡ 16

pub title_back : (s : List ℕ) → Below 8 s → (n : ℕ) → field_of s ≡ Some (Title n) → Fronted s
unfolding front_of
title_back s h n e =
    let (st, test) = known s e in
    let v : List ℕ = value s in
    let r = parse 16 (drop (3 + n) s) (below_drop 8 (3 + n) s h) in
    let l : n ≡ length v = omega (arith, length-value s (omega arith)) in
    record {
      card = record { title = v; parts = r.parts };
      rest = r.rest;
      proper = record { title = test; few = r.few; each = r.each };
      is =
          split 1 n s h st ∙ ap₂ {C = List ℕ} (λ (k : ℕ) (l : List ℕ). head 1 k ++ v ++ l) l r.is
          ∙ sym (append_assoc (head 1 (length v) ++ v) (parts_bytes r.parts) r.rest);
      full = r.full;
    }
