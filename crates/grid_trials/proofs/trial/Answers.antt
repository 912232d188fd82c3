-- `grid_trials::trial` meets its contract: what the columns give is the candidate, and its places are counted. Assumes nothing.
use mathlib.Core.Path.{sym, subst}
use Rattle.words.specs.Word.{dist}
use Rattle.grid_trials.specs.Steps.{Tried}
use Rattle.grid_trials.proofs.Decoder.{tried_none, tried_far, tried_near}
use Rattle.grid_trials.proofs.trial.Goals as goal

pub returns-in_err-number : goal.returns-in_err-number
returns-in_err-number c t put marked =
    let a = c.args in
    subst (Tried t a.word a.trials) (sym c.from_residual.ensures)
    (tried_none t a.word a.rows a.marks c.ranges.marks.fits put marked a.trials (c.in_err-number.ensures).is)

pub returns-then-flips-gt-RADIUS : goal.returns-then-flips-gt-RADIUS
unfolding dist
returns-then-flips-gt-RADIUS c t put marked =
    let a = c.args in
    tried_far t a.word a.rows a.marks c.ranges.marks.fits put marked c.in_ok-number.number (c.in_ok-number.ensures).is a.trials
    c.if-flips-gt-RADIUS.true

pub returns : goal.returns
unfolding dist
returns c t put marked =
    let a = c.args in
    tried_near t a.word a.rows a.marks c.ranges.marks.fits put marked c.in_ok-number.number (c.in_ok-number.ensures).is a.trials
    c.if-flips-gt-RADIUS.false
