-- `harness::grid_decode` meets its contract: word after word. Assumes nothing.
use Rattle.std.proofs.Common.{◌≡◌, ℕ, ◌^◌, ◌<◌, refl, sym, ap, ap₂, ◌∙◌, arith, length, map, get_or, set}
use lib.ListN.{length-set, length-map}
use lib.Seq.{take_all}
use Rattle.words.specs.Bytes.{laid}
use Rattle.words.proofs.Bytes.{laid_none, laid_all}
use Rattle.words.proofs.Turns.{map_turn}
use Rattle.codes.specs.Verdict.{scrubbed, pattern_of}
use Rattle.grid_code.specs.Code.{code_of_grid}
use Rattle.grid.proofs.Numbers.{decoded_verdict, decoded_pattern, decoded_trials, decoded_number}
use Rattle.harness.specs.Exports.{packed, shown, decodes}
use Rattle.harness.proofs.grid_decode.Goals as goal

abbrev put_right : ℕ → ℕ
put_right w = scrubbed code_of_grid w

abbrev flipped : ℕ → ℕ
flipped w = pattern_of code_of_grid w

pub loop-i-init : goal.loop-i-init
loop-i-init c = record {
  inside = omega arith;
  verdicts_is = laid_none _;
  verdicts_long = refl;
  repaired_is = laid_none _;
  repaired_long = refl;
  patterns_is = laid_none _;
  patterns_long = refl;
}

pub loop-i-preserved : goal.loop-i-preserved
loop-i-preserved c =
    let l = c.loop-i in
    let a = c.args in
    let ws = a.words.now in
    let w = get_or ws l.i 0 in
    let rows = c.from.result.rows in
    let of_number = c.from.ensures.answer in
    let answer = c.decode-answer.result in
    let decode = c.decode-answer.ensures in
    let number = c.from-in-loop-i.result in
    let packs = c.packed in
    let more : l.i < length ws = omega arith in
    let in_verdicts : l.i < length a.verdicts.now = omega arith in
    let in_repaired : l.i < length a.repaired.now = omega arith in
    let in_patterns : l.i < length a.patterns.now = omega arith in
    let fits : w < 2 ^ 64 = omega (arith, c.type_inv.words l.i) in
    let v = decoded_verdict w rows answer fits of_number decode in
    let k = decoded_trials w rows answer fits of_number decode in
    let n = decoded_number w number rows answer fits of_number decode c.from-in-loop-i.ensures.answer in
    let p = decoded_pattern w rows answer fits of_number decode in
    let here = map_turn shown ws a.verdicts.now l.i packs.result more in_verdicts (packs.ensures ∙ ap₂ packed v k) in
    let there = map_turn put_right ws a.repaired.now l.i number more in_repaired n in
    let beside = map_turn flipped ws a.patterns.now l.i answer.pattern more in_patterns p in
    record {
      inside = omega arith;
      verdicts_is = ap (λ t. set t l.i packs.result) l.invariant.verdicts_is ∙ here;
      verdicts_long = length-set l.verdicts l.i packs.result ∙ l.invariant.verdicts_long;
      repaired_is = ap (λ t. set t l.i number) l.invariant.repaired_is ∙ there;
      repaired_long = length-set l.repaired l.i number ∙ l.invariant.repaired_long;
      patterns_is = ap (λ t. set t l.i answer.pattern) l.invariant.patterns_is ∙ beside;
      patterns_long = length-set l.patterns l.i answer.pattern ∙ l.invariant.patterns_long;
    }

pub returns : goal.returns
returns c =
    let l = c.loop-i in
    let a = c.args in
    let ws = a.words.now in
    let vs : length a.verdicts.now ≡ length ws = omega arith in
    let rs : length a.repaired.now ≡ length ws = omega arith in
    let ps : length a.patterns.now ≡ length ws = omega arith in
    decodes (vs, rs, ps)
    (l.invariant.verdicts_is ∙ ap (λ b. laid b a.verdicts.now) (take_all l.i (map shown ws) (omega (arith, length-map ws shown)))
    ∙ laid_all (map shown ws) a.verdicts.now (length-map ws shown ∙ sym vs))
    (l.invariant.repaired_is ∙ ap (λ b. laid b a.repaired.now) (take_all l.i (map put_right ws) (omega (arith, length-map ws put_right)))
    ∙ laid_all (map put_right ws) a.repaired.now (length-map ws put_right ∙ sym rs))
    (l.invariant.patterns_is ∙ ap (λ b. laid b a.patterns.now) (take_all l.i (map flipped ws) (omega (arith, length-map ws flipped)))
    ∙ laid_all (map flipped ws) a.patterns.now (length-map ws flipped ∙ sym ps))
