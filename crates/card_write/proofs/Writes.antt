-- The image that is written, and the order of the writer's refusals. Assumes nothing.
use Rattle.std.specs.Prelude.{Err, Ok, Result}
use mathlib.Core.Path.{◌≡◌, refl, sym, ap, ◌∙◌}
use mathlib.Core.Logic.{◌≢◌}
use Rattle.std.specs.List.{list_any}
use mathlib.Core.Bool.{Bool, true, false, ◌&&◌, ◌||◌, not, false≢true}
use mathlib.Core.List.{List, [], ◌∷◌, ◌++◌, map, append_assoc, append-nil}
use Prim.Native.Nat.{ℕ, zero, suc, ◌≤◌, ◌<◌}
use native.Mathlib.Decide.{ℕ_discrete, dec_le}
use native.Mathlib.Omega.{arith}
use lib.Dec.{leb, eqb}
use lib.ListN.{length, get_or}
use borrow.Author.Tests.{le-leb, lt-leb, eq-eqb, ne_eqb}
use Rattle.words.specs.Word.{choose}
use Rattle.words.specs.Bytes.{laid}
use Rattle.refusals.specs.declared.Refusal.{Refusal}
use Rattle.refusals.specs.declared.Refusal.TheVariants.{Length, Broken, Room, Erased}
use Rattle.grid_code.specs.Code.{codeword}
use Rattle.grid_code.specs.Verdict.{erased}
use Rattle.page.specs.Calls.{most_grids}
use Rattle.fields.specs.Fields.{title_length, first_bad}
use Rattle.image.specs.Card.{grids, head, part_bytes, parts_bytes, front_of, image_of}
use Rattle.card_write.specs.Calls.{card_with, size_written, lengths_allowed, none_erased, written_as, Wrote}

-- the parts, one behind the other
pub written_is : (title ns : List ℕ)
    → head 1 (length title) ++ title ++ (part_bytes (grids (map codeword ns)) ++ head 127 0) ≡ image_of (card_with title ns)
unfolding parts_bytes front_of image_of
written_is title ns =
    let field = part_bytes (grids (map codeword ns)) in
    sym (append_assoc (head 1 (length title) ++ title) field (head 127 0))
    ∙ ap (λ l. head 1 (length title) ++ title ++ l ++ head 127 0) (sym (append-nil field))

-- ---- the order of the refusals

-- no second outcome
pub same : {title ns image a b : List ℕ} {r q : Result ℕ Refusal} → Wrote title ns image r a → Wrote title ns image q b → (r ≡ q) × (a ≡ b)
same x y = (x.answer ∙ sym y.answer, x.after ∙ sym y.after)

module _ (title ns : List ℕ) where
  pub no_title : title_length (length title) ≡ false → lengths_allowed title ns ≡ false
  no_title e = ap (λ (b : Bool). b && leb (length ns) most_grids) e

  pub allowed : title_length (length title) ≡ true → length ns ≤ most_grids → lengths_allowed title ns ≡ true
  allowed e h = ap (λ (b : Bool). b && leb (length ns) most_grids) e ∙ le-leb (length ns) most_grids h

-- what comes first decides, for the answer and for the memory
module _ {A : Type 0} (title ns : List ℕ) (room : ℕ) (refused : Refusal → A) (done : A) where
  pub not_allowed : lengths_allowed title ns ≡ false → refused Length ≡ written_as title ns room refused done
  not_allowed e = rw e

  module _ (e : lengths_allowed title ns ≡ true) where
    pub bad_byte : first_bad title ≢ length title → refused (Broken (first_bad title)) ≡ written_as title ns room refused done
    bad_byte h = rw (e, ne_eqb (first_bad title) (length title) h)

    module _ (h : first_bad title ≡ length title) where
      pub one_erased : none_erased ns ≡ false → refused Erased ≡ written_as title ns room refused done
      one_erased n = rw (e, eq-eqb (first_bad title) (length title) h, n)

      pub no_room : none_erased ns ≡ true → room < size_written title ns → refused Room ≡ written_as title ns room refused done
      no_room n l = rw (e, eq-eqb (first_bad title) (length title) h, n, lt-leb (size_written title ns) room l)

      pub all_well : none_erased ns ≡ true → size_written title ns ≤ room → done ≡ written_as title ns room refused done
      all_well n l = rw (e, eq-eqb (first_bad title) (length title) h, n, le-leb (size_written title ns) room l)

-- it is refused for one reason, or written
pub data Decided (title ns image : List ℕ) : Type 0 where
  no_image : (why : Refusal) → Wrote title ns image (Err why) image → Decided title ns image
  image_written : lengths_allowed title ns ≡ true → first_bad title ≡ length title → none_erased ns ≡ true → size_written title ns ≤ length image
      → Wrote title ns image (Ok (size_written title ns)) (laid (image_of (card_with title ns)) image) → Decided title ns image

pub decided : (title ns image : List ℕ) → Decided title ns image
decided title ns image =
    go (lengths_allowed title ns) refl (ℕ_discrete (first_bad title) (length title)) (none_erased ns) refl (dec_le size (length image))
  where
    size : ℕ
    size = size_written title ns

    new : List ℕ
    new = laid (image_of (card_with title ns)) image

    go : (b : Bool) → lengths_allowed title ns ≡ b → Dec (first_bad title ≡ length title) → (k : Bool) → none_erased ns ≡ k
        → Dec (size ≤ length image) → Decided title ns image
    go false e x k n y =
        no_image Length
        (record { answer = not_allowed title ns (length image) Err (Ok size) e; after = not_allowed title ns (length image) (λ why. image) new e })
    go true e (no h) k n y =
        no_image (Broken (first_bad title))
        (record { answer = bad_byte title ns (length image) Err (Ok size) e h; after = bad_byte title ns (length image) (λ why. image) new e h })
    go true e (yes h) false n y =
        no_image Erased
        (record { answer = one_erased title ns (length image) Err (Ok size) e h n; after = one_erased title ns (length image) (λ why. image) new e h n })
    go true e (yes h) true n (no l) =
        no_image Room
        (record {
          answer = no_room title ns (length image) Err (Ok size) e h n (omega arith);
          after = no_room title ns (length image) (λ why. image) new e h n (omega arith);
        })
    go true e (yes h) true n (yes l) =
        image_written e h n l
        (record {
          answer = all_well title ns (length image) Err (Ok size) e h n l;
          after = all_well title ns (length image) (λ why. image) new e h n l;
        })

-- ---- the numbers

-- as a look through them finds
pub not_found : (ns : List ℕ) → not (list_any (λ n. eqb n erased) ns) ≡ none_erased ns
unfolding none_erased
not_found [] = refl
not_found (n ∷ ns) = go (eqb n erased) (not_found ns)
  where
    go : (b : Bool) → not (list_any (λ n. eqb n erased) ns) ≡ none_erased ns
        → not (b || list_any (λ n. eqb n erased) ns) ≡ choose b false (none_erased ns)
    go true e = refl
    go false e = e

-- none of them is erased, one by one
pub each_stored : (ns : List ℕ) → none_erased ns ≡ true → (i : ℕ) → i < length ns → get_or ns i 0 ≢ erased
unfolding none_erased
each_stored [] e i l = absurd (omega arith)
each_stored (n ∷ ns) e i l = go (ℕ_discrete n erased) i l (each_stored ns)
  where
    go : Dec (n ≡ erased) → (i : ℕ) → i < suc (length ns) → (none_erased ns ≡ true → (i : ℕ) → i < length ns → get_or ns i 0 ≢ erased)
        → get_or (n ∷ ns) i 0 ≢ erased
    go (yes q) i l rest = absurd (false≢true (sym (rw (eq-eqb n erased q)) ∙ e))
    go (no ne) zero l rest = ne
    go (no ne) (suc i) l rest = rest (sym (rw (ne_eqb n erased ne)) ∙ e) i (omega arith)

pub all_stored : (ns : List ℕ) → ((i : ℕ) → i < length ns → get_or ns i 0 ≢ erased) → none_erased ns ≡ true
unfolding none_erased
all_stored [] h = refl
all_stored (n ∷ ns) h = rw (ne_eqb n erased (h 0 (omega arith))) (all_stored ns (λ i l. h (suc i) (omega arith)))

-- or one is, wherever
pub erased_there : (ns : List ℕ) (i : ℕ) → i < length ns → get_or ns i 0 ≡ erased → none_erased ns ≡ false
erased_there ns i l e = go (none_erased ns) refl
  where
    go : (b : Bool) → none_erased ns ≡ b → none_erased ns ≡ false
    go true z = absurd (each_stored ns z i l e)
    go false z = z
