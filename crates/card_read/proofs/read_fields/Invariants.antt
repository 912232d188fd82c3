-- The loop reads field after field. With what is left read, all is.
use Rattle.std.proofs.Common.{◌≡◌, ◌-◌, ◌≤◌, length, drop}
use Rattle.card_read.specs.Steps.{ReadsFields}
use Rattle.card_read.proofs.Turns.{Completes}
use Rattle.card_read.proofs.read_fields.Given as goal

abbrev pub invariant-loop-first : goal.invariant-loop-first
invariant-loop-first l = record {
  inside : l.at ≤ length l.rest;
  few : l.k ≤ l.at;
  numbers_inside : l.k ≤ length l.numbers;
  flips_inside : l.k ≤ length l.flips;
  numbers_long : length l.numbers ≡ length l.initial.numbers;
  flips_long : length l.flips ≡ length l.initial.flips;
  reads : ReadsFields (drop l.at l.rest) (drop l.k l.numbers) (drop l.k l.flips);
  completes : Completes l.rest l.initial.numbers l.initial.flips l.at l.k l.numbers l.flips;
}

abbrev pub decreases-loop-first : goal.decreases-loop-first
decreases-loop-first l = length l.rest - l.at
