-- Which field stands at the front of the bytes that are left, from the tests that tell it. Assumes nothing.
use Rattle.std.specs.Prelude.{Option, Some, None, Ok, Err}
use Rattle.std.specs.Result.{result_ok}
use mathlib.Core.Path.{◌≡◌, refl, sym, ap, ap₂, ◌∙◌, subst}
use mathlib.Core.Bool.{Bool, true, false, and-eq-true_iff}
use mathlib.Core.List.{List}
use Prim.Native.Nat.{ℕ, ◌+◌, ◌-◌, ◌%◌, ◌≤◌, ◌<◌}
use native.Mathlib.Omega.{arith}
use lib.Dec.{leb, eqb}
use lib.ListN.{length, take, drop, length-drop}
use lib.Seq.{length-take-le}
use borrow.Author.Tests.{leb-true, eqb-true, le-leb, lt-leb}
use Rattle.words.specs.Word.{choose}
use Rattle.fields.specs.declared.Field.{Field}
use Rattle.fields.specs.declared.Field.TheVariants.{Title, Grids, Block, End}
use Rattle.fields.specs.declared.Tag.{Tag}
use Rattle.fields.specs.declared.UnknownTag.{UnknownTag}
use Rattle.fields.specs.Tags.{byte_of, tag_of}
use Rattle.fields.specs.Fields.{tag, size, value, is_title, is_grids, other_field, of_tag, field_of}

pub length-value : (s : List ℕ) → 3 + size s ≤ length s → length (value s) ≡ size s
length-value s l = length-take-le (size s) (drop 3 s) (omega (arith, length-drop 3 s))

-- .. as it is lent
pub value_is : (s : List ℕ) (n : ℕ) → size s ≡ n → take (3 + n - 3) (drop 3 s) ≡ value s
value_is s n e = let k : 3 + n - 3 ≡ size s = omega (arith, e) in ap (λ (m : ℕ). take m (drop 3 s)) k

pub value_long : (s : List ℕ) (n : ℕ) → 3 + n ≤ length s → length (take (3 + n - 3) (drop 3 s)) ≡ n
value_long s n l = length-take-le (3 + n - 3) (drop 3 s) (omega (arith, length-drop 3 s)) ∙ omega arith

pub past_end : (s : List ℕ) → length s < 3 + size s → field_of s ≡ None
unfolding field_of
past_end s l = ap (λ (b : Bool). choose b (of_tag (tag s) (value s)) None) (lt-leb (3 + size s) (length s) l)

module _ (s : List ℕ) (l : 3 + size s ≤ length s) where
  pub whole : field_of s ≡ of_tag (tag s) (value s)
  unfolding field_of
  whole = ap (λ (b : Bool). choose b (of_tag (tag s) (value s)) None) (le-leb (3 + size s) (length s) l)

  -- .. of the value as it is lent
  pub front_is : (t : ℕ) → tag s ≡ t → (n : ℕ) → n ≡ size s → field_of s ≡ of_tag t (take (3 + n - 3) (drop 3 s))
  front_is t e n h = whole ∙ ap₂ of_tag e (sym (value_is s n (sym h)))

-- a byte that is no tag begins no field, ..
pub unknown : (b : ℕ) (v : List ℕ) → None ≡ result_ok (tag_of b) → of_tag b v ≡ None
unknown b v = go (eqb b 1) (eqb b 2) (eqb b 3) (eqb b 127)
  where
    other : (p q r : Bool) → Option Field
    other p q r =
        choose p (choose (is_grids (length v)) (Some (Grids (length v))) None)
        (choose q (choose (eqb (length v) 76) (Some Block) None) (choose r (choose (eqb (length v) 0) (Some End) None) None))

    go : (t p q r : Bool)
        → None ≡ result_ok {T = Tag} {E = UnknownTag} (choose t (Ok Tag.Title) (choose p (Ok Tag.Grids) (choose q (Ok Tag.Block) (choose r (Ok Tag.End) (Err (record { 0 = b }))))))
        → choose t (choose (is_title v) (Some (Title (length v))) None) (other p q r) ≡ None
    go true p q r e = cc
    go false true q r e = cc
    go false false true r e = cc
    go false false false true e = cc
    go false false false false e = refl

-- .. and any other has its tag's
pub decoded : (b : ℕ) (tag : Tag) → Some tag ≡ result_ok (tag_of b) → b ≡ byte_of tag
decoded b tag = go (eqb b 1) refl (eqb b 2) refl (eqb b 3) refl (eqb b 127) refl
  where
    go : (t : Bool) → eqb b 1 ≡ t → (p : Bool) → eqb b 2 ≡ p → (q : Bool) → eqb b 3 ≡ q → (r : Bool) → eqb b 127 ≡ r
        → Some tag ≡ result_ok {T = Tag} {E = UnknownTag} (choose t (Ok Tag.Title) (choose p (Ok Tag.Grids) (choose q (Ok Tag.Block) (choose r (Ok Tag.End) (Err (record { 0 = b }))))))
        → b ≡ byte_of tag
    go true h p i q j r k e = let same : tag ≡ Tag.Title = cc in eqb-true b 1 h ∙ ap byte_of (sym same)
    go false h true i q j r k e = let same : tag ≡ Tag.Grids = cc in eqb-true b 2 i ∙ ap byte_of (sym same)
    go false h false i true j r k e = let same : tag ≡ Tag.Block = cc in eqb-true b 3 j ∙ ap byte_of (sym same)
    go false h false i false j true k e = let same : tag ≡ Tag.End = cc in eqb-true b 127 k ∙ ap byte_of (sym same)
    go false h false i false j false k e = cc

-- ---- what a field that was found says

-- a tag and a length at the front, and the whole value behind them
pub record Stands (s : List ℕ) (t n : ℕ) : Type 0 where
  pub tag_is : tag s ≡ t
  pub size_is : size s ≡ n
  pub room : 3 + n ≤ length s

abbrev pub Known : List ℕ → Option Field → Type 0
Known s (Some (Title n)) = Stands s 1 n × (is_title (value s) ≡ true)
Known s (Some (Grids n)) = Stands s 2 n × (is_grids n ≡ true)
Known s (Some Block) = Stands s 3 76
Known s (Some End) = Stands s 127 0
Known s None = Unit {0}

module _ (s : List ℕ) (l : 3 + size s ≤ length s) where
  abbrev n : ℕ
  n = length (value s)

  stands : {t : ℕ} → tag s ≡ t → Stands s t n
  stands e = let v : n ≡ size s = length-value s l in record { tag_is = e; size_is = sym v; room = omega (arith, v) }

  -- one tag's turn: the rule of its length, or the tags that are left
  by_tag : (t : ℕ) (b : Bool) (f : Option Field) (other : Option Field) → (tag s ≡ t → b ≡ true → Known s f) → Known s other
      → Known s (choose (eqb (tag s) t) (choose b f None) other)
  by_tag t b f other h k = go (eqb (tag s) t) b refl refl
    where
      go : (p q : Bool) → eqb (tag s) t ≡ p → b ≡ q → Known s (choose p (choose q f None) other)
      go true true p q = h (eqb-true (tag s) t p) q
      go true false p q = tt
      go false q p e = k

  sized : {t m : ℕ} → n ≡ m → tag s ≡ t → Stands s t m
  sized {t} e p = subst (Stands s t) e (stands p)

  known_whole : Known s (of_tag (tag s) (value s))
  known_whole =
      by_tag 1 (is_title (value s)) (Some (Title n)) (other_field (tag s) n) (λ p q. (stands p, q))
      (by_tag 2 (is_grids n) (Some (Grids n)) _ (λ p q. (stands p, q))
      (by_tag 3 (eqb n 76) (Some Block) _ (λ p q. sized (eqb-true n 76 q) p) (by_tag 127 (eqb n 0) (Some End) None (λ p q. sized (eqb-true n 0 q) p) tt)))

known_field : (s : List ℕ) → Known s (field_of s)
unfolding field_of
known_field s = go (leb (3 + size s) (length s)) refl
  where
    go : (b : Bool) → leb (3 + size s) (length s) ≡ b → Known s (choose b (of_tag (tag s) (value s)) None)
    go true e = known_whole s (leb-true (3 + size s) (length s) e)
    go false e = tt

pub known : (s : List ℕ) {f : Option Field} → field_of s ≡ f → Known s f
known s e = subst (Known s) e (known_field s)

pub grids_size : (n : ℕ) → is_grids n ≡ true → (n ≤ 4096) × (n % 8 ≡ 0)
grids_size n e = let (l, m) = (and-eq-true_iff (leb n 4096) (eqb (n % 8) 0)).0 e in (leb-true n 4096 l, eqb-true (n % 8) 0 m)

-- ---- .. and the field that is found where it stands

module _ (s : List ℕ) (n : ℕ) where
  found : {t : ℕ} → Stands s t n → field_of s ≡ of_tag t (value s)
  found h = whole s (omega (arith, h.size_is, h.room)) ∙ ap (λ (t : ℕ). of_tag t (value s)) h.tag_is

  long : {t : ℕ} → Stands s t n → length (value s) ≡ n
  long h = length-value s (omega (arith, h.size_is, h.room)) ∙ h.size_is

  pub found_title : Stands s 1 n → is_title (value s) ≡ true → field_of s ≡ Some (Title n)
  found_title h e =
      found h ∙ ap (λ (b : Bool). choose b (Some (Title (length (value s)))) None) e ∙ ap (λ (m : ℕ). Some (Title m)) (long h)

  pub found_grids : Stands s 2 n → is_grids n ≡ true → field_of s ≡ Some (Grids n)
  found_grids h e =
      found h ∙ ap (λ (m : ℕ). choose (is_grids m) (Some (Grids m)) None) (long h) ∙ ap (λ (b : Bool). choose b (Some (Grids n)) None) e

pub found_block : (s : List ℕ) → Stands s 3 76 → field_of s ≡ Some Block
found_block s h = found s 76 h ∙ ap (λ (m : ℕ). choose (eqb m 76) (Some Block) None) (long s 76 h)

pub found_end : (s : List ℕ) → Stands s 127 0 → field_of s ≡ Some End
found_end s h = found s 0 h ∙ ap (λ (m : ℕ). choose (eqb m 0) (Some End) None) (long s 0 h)
