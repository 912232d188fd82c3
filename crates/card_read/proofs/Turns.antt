-- Reading back field after field: a grids field, a block, and one turn of the loop. With what is left read, all is. Assumes nothing.
use Rattle.std.specs.Prelude.{Some}
use mathlib.Core.Path.{◌≡◌, sym, ap, ◌∙◌, subst}
use mathlib.Core.List.{List, ◌++◌, append_assoc}
use Prim.Native.Nat.{ℕ, ◌+◌, ◌-◌, ◌/◌, ◌≤◌}
use native.Mathlib.Omega.{arith}
use lib.ListN.{length, take, drop, length-append, length-drop}
use lib.Seq.{drop-drop, length-take-le}
use Rattle.words.specs.Bytes.{laid}
use Rattle.words.proofs.Lists.{part_behind, part_back, take_past, drop_past}
use Rattle.fields.specs.declared.Field.TheVariants.{Grids, Block}
use Rattle.fields.specs.Fields.{value, field_of}
use Rattle.fields.proofs.Fields.{known, length-value}
use Rattle.image.specs.Card.{grids_in}
use Rattle.image.proofs.Walks.{less, grids_front, block_front, walks_on, block_walks_on}
use Rattle.value_read.specs.Shown.{data_of_grid, flips_of_grid, data_of_grids, flips_of_grids}
use Rattle.value_read.specs.Steps.{ReadValue}
use Rattle.value_read.proofs.Room.{read_there}
use Rattle.card_read.specs.Steps.{ReadsGrids, ReadsFields, Passed}
use Rattle.card_read.proofs.Readings.{grids_many, read_on}

-- ---- a grids field, and a block

module _ (s part numbers flips numbers' flips' : List ℕ) (n : ℕ) (r : ReadsFields s numbers flips) (f : field_of s ≡ Some (Grids n)) (is : part ≡ value s)
    (read : ReadValue part numbers flips numbers' flips') where
  room : (n / 8 ≤ length numbers) × (n / 8 ≤ length flips)
  room =
      let w = r.walks in
      let front = grids_front w.at s w.parts w.left n f w.found in
      let all = grids_many s w.parts n (less w.left) (w.at + (3 + n)) f front in
      (omega (arith, all, r.numbers_room), omega (arith, all, r.flips_room))

  reads_on : (ns fs : List ℕ) → length ns ≡ length numbers - n / 8 → length fs ≡ length flips - n / 8 → ReadsFields (drop (3 + n) s) ns fs
  reads_on ns fs p q =
      let w = r.walks in
      let front = grids_front w.at s w.parts w.left n f w.found in
      let all = grids_many s w.parts n (less w.left) (w.at + (3 + n)) f front in
      let here : length (grids_in front.behind) ≤ length ns = omega (arith, all, r.numbers_room, p) in
      let there : length (grids_in front.behind) ≤ length fs = omega (arith, all, r.flips_room, q) in
      record { walks = walks_on s n w f; numbers_room = here; flips_room = there }

  pub grids-passed : Passed s numbers flips (3 + n) (n / 8) numbers' flips'
  grids-passed =
      let st = (known s f).0 in
      let long : length part ≡ n = omega (arith, ap length is, length-value s (omega (arith, st.size_is, st.room)), st.size_is) in
      let both = read_there part numbers flips (omega (arith, long, room)) (omega (arith, long, room)) numbers' flips' read in
      record {
        few = omega arith;
        room = st.room;
        grids-room = room;
        reads = reads_on;
        completes = λ ns fs x. record {
          numbers_after = λ left at ps w.
              let front = grids_front at s ps left n f w in
              read_on s ps n (less left) (at + (3 + n)) f front data_of_grid part numbers numbers' ns is both.0
              (x.numbers_after (less left) (at + (3 + n)) front.behind front.found);
          flips_after = λ left at ps w.
              let front = grids_front at s ps left n f w in
              read_on s ps n (less left) (at + (3 + n)) f front flips_of_grid part flips flips' fs is both.1
              (x.flips_after (less left) (at + (3 + n)) front.behind front.found);
        };
      }

pub block-passed : (s numbers flips : List ℕ) → ReadsFields s numbers flips → field_of s ≡ Some Block → Passed s numbers flips 79 0 numbers flips
block-passed s numbers flips r f = record {
  few = omega arith;
  room = (known s f).room;
  grids-room = (omega arith, omega arith);
  reads = λ ns fs p q.
      let w = r.walks in
      let front = block_front w.at s w.parts w.left f w.found in
      let all : length (grids_in w.parts) ≡ length (grids_in front.behind) = ap (λ ps. length (grids_in ps)) front.is in
      let here : length (grids_in front.behind) ≤ length ns = omega (arith, all, r.numbers_room, p) in
      let there : length (grids_in front.behind) ≤ length fs = omega (arith, all, r.flips_room, q) in
      record { walks = block_walks_on s w f; numbers_room = here; flips_room = there };
  completes = λ ns fs x. record {
    numbers_after = λ left at ps w.
        let front = block_front at s ps left f w in
        x.numbers_after (less left) (at + 79) front.behind front.found ∙ ap (λ ps. laid (data_of_grids (grids_in ps)) numbers) (sym front.is);
    flips_after = λ left at ps w.
        let front = block_front at s ps left f w in
        x.flips_after (less left) (at + 79) front.behind front.found ∙ ap (λ ps. laid (flips_of_grids (grids_in ps)) flips) (sym front.is);
  };
}

-- ---- one turn

-- what is left, read behind the first k grids, makes the whole
abbrev pub Completes : List ℕ → List ℕ → List ℕ → ℕ → ℕ → List ℕ → List ℕ → Type 0
Completes rest numbers₀ flips₀ at k numbers flips =
    (ns fs : List ℕ) → ReadsGrids (drop at rest) (drop k numbers) (drop k flips) ns fs
    → ReadsGrids rest numbers₀ flips₀ (take k numbers ++ ns) (take k flips ++ fs)

-- what holds of the parts that are lent holds of what stands behind
pub as_lent : (P : List ℕ → List ℕ → List ℕ → Type 0) (rest numbers flips : List ℕ) (at k : ℕ)
    → P (take (length rest - at) (drop at rest)) (take (length numbers - k) (drop k numbers)) (take (length flips - k) (drop k flips))
    → P (drop at rest) (drop k numbers) (drop k flips)
as_lent P rest numbers flips at k x =
    subst (λ l. P (drop at rest) (drop k numbers) l) (part_behind k flips)
    (subst (λ l. P (drop at rest) l (take (length flips - k) (drop k flips))) (part_behind k numbers)
    (subst (λ l. P l (take (length numbers - k) (drop k numbers)) (take (length flips - k) (drop k flips))) (part_behind at rest) x))

pub lent_as : (P : List ℕ → List ℕ → List ℕ → Type 0) (rest numbers flips : List ℕ) (at k : ℕ) → P (drop at rest) (drop k numbers) (drop k flips)
    → P (take (length rest - at) (drop at rest)) (take (length numbers - k) (drop k numbers)) (take (length flips - k) (drop k flips))
lent_as P rest numbers flips at k x = rw (part_behind at rest, part_behind k numbers, part_behind k flips) x

-- a slice that is lent from k on, and given back with g places more
module _ (slice back : List ℕ) (k g : ℕ) (inside : k ≤ length slice) where
  abbrev pub returned : List ℕ
  returned = take k slice ++ (back ++ drop (length slice - k) (drop k slice))

  more_taken : take (k + g) returned ≡ take k slice ++ take g back
  more_taken = ap (take (k + g)) (part_back k slice back) ∙ take_past (take k slice) back k g (length-take-le k slice inside)

  more_dropped : drop (k + g) returned ≡ drop g back
  more_dropped = ap (drop (k + g)) (part_back k slice back) ∙ drop_past (take k slice) back k g (length-take-le k slice inside)

  pub returned_long : length back ≡ length slice - k → length returned ≡ length slice
  returned_long h =
      omega (arith, ap length (part_back k slice back), length-append (take k slice) back, length-take-le k slice inside, h, inside)

module _ (rest numbers₀ flips₀ numbers flips ns fs : List ℕ) (at k size g : ℕ) (n_inside : k ≤ length numbers) (f-inside : k ≤ length flips)
    (n_long : length ns ≡ length numbers - k) (f_long : length fs ≡ length flips - k)
    (step : Passed (drop at rest) (drop k numbers) (drop k flips) size g ns fs) (inv : Completes rest numbers₀ flips₀ at k numbers flips) where
  abbrev numbers' : List ℕ
  numbers' = returned numbers ns k g n_inside

  abbrev flips' : List ℕ
  flips' = returned flips fs k g f-inside

  pub turn_reads : ReadsFields (drop (at + size) rest) (drop (k + g) numbers') (drop (k + g) flips')
  turn_reads =
      let n = more_dropped numbers ns k g n_inside in
      let f = more_dropped flips fs k g f-inside in
      subst (λ l. ReadsFields l (drop (k + g) numbers') (drop (k + g) flips')) (drop-drop size at rest)
      (step.reads (drop (k + g) numbers') (drop (k + g) flips')
      (ap length n ∙ omega (arith, length-drop g ns, n_long, length-drop k numbers))
      (ap length f ∙ omega (arith, length-drop g fs, f_long, length-drop k flips)))

  pub turned : Completes rest numbers₀ flips₀ (at + size) (k + g) numbers' flips'
  turned ms es x =
      let n = more_dropped numbers ns k g n_inside in
      let f = more_dropped flips fs k g f-inside in
      let there : ReadsGrids (drop size (drop at rest)) (drop g ns) (drop g fs) ms es =
      subst (λ l. ReadsGrids l (drop g ns) (drop g fs) ms es) (sym (drop-drop size at rest))
      (subst (λ l. ReadsGrids (drop (at + size) rest) (drop g ns) l ms es) f
      (subst (λ l. ReadsGrids (drop (at + size) rest) l (drop (k + g) flips') ms es) n x)) in
      let all = inv (take g ns ++ ms) (take g fs ++ es) (step.completes ms es there) in
      let first : take k numbers ++ (take g ns ++ ms) ≡ take (k + g) numbers' ++ ms =
      sym (ap (λ l. l ++ ms) (more_taken numbers ns k g n_inside) ∙ append_assoc (take k numbers) (take g ns) ms) in
      let second : take k flips ++ (take g fs ++ es) ≡ take (k + g) flips' ++ es =
      sym (ap (λ l. l ++ es) (more_taken flips fs k g f-inside) ∙ append_assoc (take k flips) (take g fs) es) in
      subst (λ l. ReadsGrids rest numbers₀ flips₀ l (take (k + g) flips' ++ es)) first
      (subst (λ l. ReadsGrids rest numbers₀ flips₀ (take k numbers ++ (take g ns ++ ms)) l) second all)
