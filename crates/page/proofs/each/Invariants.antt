-- Grid after grid, by the laws of a turn.
use Rattle.std.proofs.Common.{◌≡◌, take}
use Rattle.words.proofs.Lists.{partly}
use Rattle.codes.specs.Verdict.{scrubbed}
use Rattle.grid_code.specs.Code.{code_of_grid}
use Rattle.page.specs.Tally.{grid_tally}
use Rattle.page.proofs.each.Given as goal

abbrev pub invariant-loop-word : goal.invariant-loop-word
invariant-loop-word l =
    (l.word-items ≡ partly (scrubbed code_of_grid) l.word-index l.initial.word-items)
    × (l.tally ≡ grid_tally (take l.word-index l.initial.word-items))
