-- One step of the walk that checks an image: from a field to the next, with what is counted. Assumes nothing.
use Rattle.std.specs.Prelude.{Err, Ok, None, Some, Result}
use mathlib.Core.Path.{◌≡◌, sym, ap, ◌∙◌}
use mathlib.Core.List.{List, []}
use Prim.Native.Nat.{ℕ, zero, suc, ◌+◌, ◌-◌, ◌/◌, ◌≤◌, ◌<◌}
use native.Mathlib.Decide.{ℕ_discrete}
use native.Mathlib.Nat.{add-zero}
use native.Mathlib.Omega.{arith}
use lib.ListN.{length, take, drop, length-drop}
use lib.Seq.{drop-drop}
use borrow.Author.Tests.{eq-eqb, ne_eqb}
use Rattle.words.proofs.Lists.{part_behind}
use Rattle.refusals.specs.declared.Refusal.{Refusal}
use Rattle.refusals.specs.declared.Refusal.TheVariants.{Broken}
use Rattle.std.specs.declared.ops.ControlFlow.TheVariants.{Continue}
use Rattle.fields.specs.declared.Field.TheVariants.{Title, Grids, Block, End}
use Rattle.fields.specs.Fields.{field_of}
use Rattle.fields.proofs.Fields.{known}
use Rattle.image.specs.declared.Progress.{Progress}
use Rattle.image.specs.Card.{sound, broken, walk}
use Rattle.image.specs.Steps.{found_after, Inside, behind_data, Roomy, Stepped}
use Rattle.image.proofs.Walking.{full_grids, full_block, walk_end, walk-behind, walk_title, walk_fails, after_grids_step, after_block_step}

-- a step that goes on, or is refused
abbrev pub Onwards : List ℕ → Progress → Result Progress Refusal → Type 0
Onwards image p (Ok next) = Stepped image p (Ok (Continue next))
Onwards image p (Err why) = Stepped image p (Err why)

module _ (image : List ℕ) (p : Progress) (i : Inside image p) where
  abbrev rest : List ℕ
  rest = drop p.at image

  -- behind a data field, where one may still come and where none may
  passed : (size g b : ℕ) → 0 < size → size ≤ length rest → g ≤ size → b ≤ size
      → ((left : ℕ) → found_after p.grids p.blocks (walk (suc left) p.at rest)
      ≡ found_after (p.grids + g) (p.blocks + b) (walk left (p.at + size) (drop size rest)))
      → walk zero p.at rest ≡ broken p.at → Onwards image p (behind_data p size g b)
  passed size g b some room few fewer on full = go (ℕ_discrete p.left 0)
    where
      go : Dec (p.left ≡ 0) → Onwards image p (behind_data p size g b)
      go (yes z) =
          rw (eq-eqb p.left 0 z)
          (sym (ap (λ (k : ℕ). found_after p.grids p.blocks (walk k p.at rest)) z ∙ ap (found_after p.grids p.blocks) full))
      go (no h) =
          let one : p.left ≡ suc (p.left - 1) = omega (arith, h) in
          rw (ne_eqb p.left 0 h) (
            record {
              few = i.few;
              within = omega (arith, i.within, length-drop p.at image);
              grids = omega (arith, i.grids);
              blocks = omega (arith, i.blocks);
            },
            omega arith,
            sym (ap (λ (k : ℕ). found_after p.grids p.blocks (walk k p.at rest)) one ∙ on (p.left - 1)
                ∙ ap (λ l. found_after (p.grids + g) (p.blocks + b) (walk (p.left - 1) (p.at + size) l)) (drop-drop size p.at image)),
          )

  pub behind_grids : (n : ℕ) → field_of rest ≡ Some (Grids n) → Onwards image p (behind_data p (3 + n) (n / 8) 0)
  behind_grids n f =
      passed (3 + n) (n / 8) 0 (omega arith) (known rest f).0.room (omega arith) (omega arith)
      (λ left. after_grids_step p.at rest p.grids p.blocks left n f
      ∙ ap (λ (b : ℕ). found_after (p.grids + n / 8) b (walk left (p.at + (3 + n)) (drop (3 + n) rest))) (sym (add-zero p.blocks)))
      (full_grids p.at rest n f)

  pub behind_block : field_of rest ≡ Some Block → Onwards image p (behind_data p 79 0 1)
  behind_block f =
      passed 79 0 1 (omega arith) (known rest f).room (omega arith) (omega arith)
      (λ left. after_block_step p.at rest p.grids p.blocks left f
      ∙ ap (λ (g : ℕ). found_after g (p.blocks + 1) (walk left (p.at + 79) (drop 79 rest))) (sym (add-zero p.grids)))
      (full_block p.at rest f)

  -- there is room for the sums
  roomy : (size g b : ℕ) → size ≤ length rest → g ≤ size → b ≤ size → Roomy p size g b
  roomy size g b room few fewer =
      let l = length-drop p.at image in
      record {
        at = omega (arith, l, i.few, i.within);
        grids = omega (arith, l, i.few, i.within, i.grids);
        blocks = omega (arith, l, i.few, i.within, i.blocks);
      }

  pub room_grids : (n : ℕ) → field_of rest ≡ Some (Grids n) → Roomy p (3 + n) (n / 8) 0
  room_grids n f = roomy (3 + n) (n / 8) 0 (known rest f).0.room (omega arith) (omega arith)

  pub room_block : field_of rest ≡ Some Block → Roomy p 79 0 1
  room_block f = roomy 79 0 1 (known rest f).room (omega arith) (omega arith)

  -- the other fields at which the walk is over
  pub more_behind : field_of rest ≡ Some End → (length rest ≡ 3 → ⊥) → Stepped image p (Err (Broken (p.at + 3)))
  more_behind f l = sym (ap (found_after p.grids p.blocks) (walk-behind p.at rest p.left f l))

  pub second_title : (n : ℕ) → field_of rest ≡ Some (Title n) → Stepped image p (Err (Broken p.at))
  second_title n f = sym (ap (found_after p.grids p.blocks) (walk_title p.at rest p.left n f))

  pub rule_fails : field_of rest ≡ None → Stepped image p (Err (Broken p.at))
  rule_fails f = sym (ap (found_after p.grids p.blocks) (walk_fails p.at rest p.left f))

-- the end, as it is found in the bytes that are lent from the offset on, with nothing behind it
pub end_found : (s : List ℕ) (at left g b : ℕ) → field_of (take (length s - at) (drop at s)) ≡ Some End → length s - at ≡ 3
    → found_after g b (walk left at (drop at s)) ≡ Ok (record { grids = g; blocks = b })
end_found s at left g b f l =
    let e : found_after g b (sound []) ≡ Ok (record { grids = g; blocks = b }) = simp add-zero in
    let here : field_of (drop at s) ≡ Some End = sym (ap field_of (part_behind at s)) ∙ f in
    ap (found_after g b) (walk_end at (drop at s) left here (omega (arith, length-drop at s))) ∙ e
