-- `grid_trials::trials` meets its contract: two trials are enough. Assumes nothing.
use mathlib.Core.Path.{◌≡◌, refl, sym, ◌∙◌}
use mathlib.Core.Logic.{◌≢◌, ◌⊎◌, inl, inr}
use Prim.Native.Nat.{ℕ}
use native.Mathlib.Omega.{arith}
use Rattle.grid_trials.proofs.Aside.{marked_any, marked_two}
use Rattle.grid_trials.proofs.Decoder.{begun, stage_gives, stage_ends, stage_next}
use Rattle.grid_trials.proofs.trials.Goals as goal
use Rattle.grid_trials.proofs.trials.Goals.{then-is_some-via-then-is_some, then-is_some-via-else-is_some+then-aside-marks}

pub loop-marks-init : goal.loop-marks-init
loop-marks-init c =
    let m = c.needing-marks in
    (inl refl, λ put. begun c.args.word m.result.any m.result.two (marked_two c.args.word c.args.rows m.result.any m.result.two put m.ensures))

pub returns-then-is_some : goal.returns-then-is_some
returns-then-is_some c put =
    let word : ℕ = c.args.word in
    let m = c.needing-marks in
    let l = c.loop-marks in
    let near = c.trial-near in
    let ones = marked_any word c.args.rows m.result.any m.result.two put m.ensures in
    elim c.then-is_some.branch [
      | then-is_some-via-then-is_some w ↦
          stage_gives word m.result.any c.ranges.word.fits ones l.made l.aside near.result (l.invariant.1 put) (λ t marked. near.ensures t put marked)
          (sym c.is_some.ensures ∙ w.if-is_some.true)
      | then-is_some-via-else-is_some+then-aside-marks w ↦
          stage_ends word m.result.any c.ranges.word.fits ones l.made l.aside near.result (l.invariant.1 put) (λ t marked. near.ensures t put marked)
          w.if-aside-marks.true
    ]

-- only after the first is there another one
only_first : (made aside any : ℕ) → (made ≡ 1) ⊎ ((made ≡ 2) × (aside ≡ any)) → aside ≢ any → made ≡ 1
only_first made aside any (inl e) ne = e
only_first made aside any (inr (e, same)) ne = absurd (ne same)

pub overflow_add-made : goal.overflow_add-made
overflow_add-made c =
    let l = c.loop-marks in
    record { fits = omega (arith, only_first l.made l.aside c.needing-marks.result.any l.invariant.0 c.if-aside-marks.false) }

pub loop-marks-smaller : goal.loop-marks-smaller
loop-marks-smaller c =
    let l = c.loop-marks in
    omega (arith, only_first l.made l.aside c.needing-marks.result.any l.invariant.0 c.if-aside-marks.false)

pub loop-marks-preserved : goal.loop-marks-preserved
loop-marks-preserved c =
    let m = c.needing-marks in
    let l = c.loop-marks in
    let near = c.trial-near in
    let is : l.made ≡ 1 = only_first l.made l.aside m.result.any l.invariant.0 c.if-aside-marks.false in (
      inr (omega (arith, is), refl),
      λ put.
          stage_next c.args.word m.result.any c.ranges.word.fits
          (marked_any c.args.word c.args.rows m.result.any m.result.two put m.ensures) l.made l.aside near.result (l.invariant.1 put)
          (λ t marked. near.ensures t put marked) (sym c.is_some.ensures ∙ c.if-is_some.false) c.if-aside-marks.false,
    )
