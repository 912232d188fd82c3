-- What specs/Promises.antt says of a page's scrub holds: by the laws of the tally. Assumes nothing.
use Rattle.std.specs.Prelude.{Err, Ok, Result}
use mathlib.Core.Path.{◌≡◌, sym, ap, ◌∙◌, subst}
use mathlib.Core.Bool.{Bool, true, false}
use mathlib.Core.List.{List, [], map}
use Prim.Native.Nat.{ℕ, ◌≤◌, ◌<◌}
use native.Mathlib.Decide.{dec_le}
use native.Mathlib.Omega.{arith}
use lib.Dec.{leb, lit≤}
use lib.ListN.{length, get_or, length-map}
use borrow.Author.Tests.{le-leb, lt-leb}
use Rattle.words.specs.Word.{choose}
use Rattle.words.proofs.Lists.{map_get_d, map_twice}
use Rattle.refusals.specs.declared.Refusal.TheVariants.{Length}
use Rattle.refusals.specs.Reply.{gives}
use Rattle.refusals.proofs.Promises.{nothing_given}
use Rattle.codes.specs.Verdict.{verdict, repaired, scrubbed}
use Rattle.codes.specs.Tally.{sum_by}
use Rattle.codes.proofs.Tally as codes
use Rattle.codes.proofs.Tally.{unflipped}
use Rattle.grid_code.specs.Code.{code_of_grid}
use Rattle.grid_code.specs.Verdict.{clean, grid_verdict, flips_of}
use Rattle.grid_code.proofs.Promises as grid
use Rattle.grid_code.proofs.Verdict.{mended_alike, blank_repaired}
use Rattle.page.specs.declared.Tally.{Tally}
use Rattle.page.specs.Answer.{means}
use Rattle.page.specs.Tally.{last_from, grid_tally, AddsUp, Again}
use Rattle.page.specs.Calls.{Scrubbed}
use Rattle.page.specs.Promises.{PagePromises, OneOutcome}
use Rattle.page.proofs.Counts.{tallies}
use Rattle.refusals.specs.declared.Refusal.{Refusal}

-- ---- both sides of the limit

done : {page exit : List ℕ} {r : Result Tally Refusal} → length page ≤ 512 → Scrubbed page r exit → (r ≡ Ok (grid_tally page)) × (exit ≡ map (scrubbed code_of_grid) page)
done {page} few s =
    let e : leb (length page) 512 ≡ true = le-leb (length page) 512 few in (
      s.answer ∙ ap (λ (b : Bool). choose b (Ok (grid_tally page)) (Err Length)) e,
      s.after ∙ ap {B = List ℕ} (λ (b : Bool). choose b (map (scrubbed code_of_grid) page) page) e,
    )

refused : {page exit : List ℕ} {r : Result Tally Refusal} → 512 < length page → Scrubbed page r exit → (r ≡ Err Length) × (exit ≡ page)
refused {page} more s =
    let e : leb (length page) 512 ≡ false = lt-leb (length page) 512 more in (
      s.answer ∙ ap (λ (b : Bool). choose b (Ok (grid_tally page)) (Err Length)) e,
      s.after ∙ ap {B = List ℕ} (λ (b : Bool). choose b (map (scrubbed code_of_grid) page) page) e,
    )

-- what was done, ..
pub was_done : (page exit : List ℕ) (t : Tally) → Scrubbed page (Ok t) exit
    → (length page ≤ 512) × (t ≡ grid_tally page) × (exit ≡ map (scrubbed code_of_grid) page)
was_done page exit t s = go (dec_le (length page) 512)
  where
    go : Dec (length page ≤ 512) → (length page ≤ 512) × (t ≡ grid_tally page) × (exit ≡ map (scrubbed code_of_grid) page)
    go (yes few) = let (e, x) = done few s in (few, cc, x)
    go (no many) = let (e, x) = refused (omega arith) s in let z : ◌≡◌ {A = ℕ} 0 1 = cc in absurd (omega arith)

-- .. and is given
given : (page exit : List ℕ) (r : Result Tally Refusal) (t : Tally) → Scrubbed page r exit → means r ≡ gives t
    → (length page ≤ 512) × (t ≡ grid_tally page) × (exit ≡ map (scrubbed code_of_grid) page)
given page exit (Ok u) t s e =
    let (few, is, x) = was_done page exit u s in
    let same : u ≡ t = cc in
    (few, sym same ∙ is, x)
given page exit (Err why) t s e = nothing_given why e

-- ---- a clean grid stays as it is

clean_kept : (w d : ℕ) → grid_verdict w ≡ clean d → scrubbed code_of_grid w ≡ w
clean_kept w d e = unflipped code_of_grid (grid.promised).verdicts w (sym ((grid.promised).flips w) ∙ ap flips_of e)

length_kept : (page exit : List ℕ) (r : Result Tally Refusal) → Scrubbed page r exit → length exit ≡ length page
length_kept page exit r s = go (dec_le (length page) 512)
  where
    go : Dec (length page ≤ 512) → length exit ≡ length page
    go (yes few) = ap length (done few s).1 ∙ length-map page (scrubbed code_of_grid)
    go (no many) = ap length (refused (omega arith) s).1

-- ---- the second scrub

again : (page once twice : List ℕ) (r s : Result Tally Refusal) (t : Tally) → Scrubbed page r once → means r ≡ gives t → Scrubbed once s twice
    → (u : Tally) × (means s ≡ gives u) × Again t u × (twice ≡ once)
again page once twice r s t p e q =
    let (few, is, a) = given page once r t p e in
    let (v, b) = done (subst (λ (n : ℕ). n ≤ 512) (sym (length_kept page once r p)) few) q in
    let second : Again t (grid_tally once) =
    subst (λ ws. Again t (grid_tally ws)) (sym a)
    (subst (λ t. Again t (grid_tally (map (scrubbed code_of_grid) page))) (sym is) (tallies.again page)) in
    let unchanged = (codes.tallies code_of_grid (grid.promised).verdicts).unchanged in
    (grid_tally once, ap means v, second, b ∙ ap (map (scrubbed code_of_grid)) a ∙ map_twice (scrubbed code_of_grid) unchanged page ∙ sym a)

empty : (exit : List ℕ) (r : Result Tally Refusal) → Scrubbed [] r exit
    → (means r ≡ gives (record { grids = 0; clean = 0; blank = 0; mended = 0; lost = 0; flips = 0; pattern = 0 })) × (exit ≡ [])
unfolding sum_by last_from
empty exit r s = (ap means (done (lit≤ tt) s).0, (done (lit≤ tt) s).1)

pub promised : PagePromises
promised = record {
  accepted = λ page exit r few s. ap means (done few s).0;
  refused = λ page exit r more s. (ap means (refused more s).0, (refused more s).1);
  length_kept = length_kept;
  each = λ page exit r few s i h. ap (λ (l : List ℕ). get_or l i 0) (done few s).1 ∙ map_get_d (scrubbed code_of_grid) page i h;
  mended_replaced = λ w d n e. ap (repaired code_of_grid w) (mended_alike (verdict code_of_grid w) d n e);
  blank_rewritten = λ w n e. blank_repaired w (verdict code_of_grid w) n e ∙ (grid.promised).all_ones;
  clean_kept = clean_kept;
  lost_kept = λ w e. ap (repaired code_of_grid w) ((grid.promised).lost_alike w e);
  sum = λ page exit r t s e. subst AddsUp (sym (given page exit r t s e).1) (tallies.all page);
  last = λ page exit r t i s e h. ap (λ t. t.pattern) (given page exit r t s e).1 ∙ tallies.last page i h;
  no_last = λ page exit r t s e z.
      let is = (given page exit r t s e).1 in
      ap (λ t. t.pattern) is ∙ tallies.no_last page (sym (ap (λ t. t.mended) is) ∙ z);
  again = again;
  empty = empty;
}

pub one_outcome : OneOutcome
one_outcome = record {
  none = λ a b p q. p.answer ∙ sym q.answer;
  scrub = λ page a b r s p q. (p.answer ∙ sym q.answer, p.after ∙ sym q.after);
}
