-- The loop writes word after word.
use Rattle.std.proofs.Common.{◌≡◌, ◌-◌, ◌≤◌, length, map, take}
use Rattle.words.specs.Bytes.{laid}
use Rattle.codes.specs.Verdict.{scrubbed, pattern_of}
use Rattle.grid_code.specs.Code.{code_of_grid}
use Rattle.harness.specs.Exports.{shown}
use Rattle.harness.proofs.grid_decode.Given as goal

abbrev pub invariant-loop-i : goal.invariant-loop-i
invariant-loop-i l = record {
  inside : l.i ≤ l.n;
  verdicts_is : l.verdicts ≡ laid (take l.i (map shown l.words)) l.initial.verdicts;
  verdicts_long : length l.verdicts ≡ length l.initial.verdicts;
  repaired_is : l.repaired ≡ laid (take l.i (map (scrubbed code_of_grid) l.words)) l.initial.repaired;
  repaired_long : length l.repaired ≡ length l.initial.repaired;
  patterns_is : l.patterns ≡ laid (take l.i (map (pattern_of code_of_grid) l.words)) l.initial.patterns;
  patterns_long : length l.patterns ≡ length l.initial.patterns;
}

abbrev pub decreases-loop-i : goal.decreases-loop-i
decreases-loop-i l = l.n - l.i
