-- `lines::decimal` meets its contract. Assumes nothing.
use Rattle.std.proofs.Common.{ℕ, List, [], ◌∷◌, ◌≡◌, ◌<◌, ◌++◌, ◌/◌, ◌%◌, ◌∙◌, sym, subst, ap, arith, length, length-append, take, drop, reverse}
use Rattle.std.specs.List.{refill}
use Rattle.std.proofs.Math.Seq.{take-append_seam}
use Rattle.std.proofs.lemmas.List.{length-reverse}
use Rattle.lines.specs.Text.{digit, decimal}
use Rattle.lines.specs.Steps.{Added}
use Rattle.lines.proofs.Digits.{some_digits, digits_64, first_turn, next_turn}
use Rattle.lines.proofs.decimal.Goals as goal

pub push-requires : goal.push-requires
push-requires c =
    let l = c.loop-rest in
    let ds = l.digits.items in (
      omega arith,
      omega (arith, some_digits l.rest, digits_64 c.args.n c.ranges.n.fits, ap length l.invariant, length-append (decimal l.rest) (reverse ds), length-reverse ds),
    )

pub loop-rest-preserved : goal.loop-rest-preserved
loop-rest-preserved c =
    let l = c.loop-rest in
    ap (λ ds. decimal (l.rest / 10) ++ reverse ds) c.push.ensures.items ∙ next_turn c.args.n l.rest l.digits.items l.invariant c.if-rest-lt10.false

-- the digits ds with the first one behind them are xs, and ws those turned around, as they stand in the vector
all_of : (n rest : ℕ) (ds : List ℕ) {xs ws bs : List ℕ} → decimal rest ++ reverse ds ≡ decimal n → rest < 10
    → xs ≡ ds ++ (digit (rest % 10) ∷ []) → ws ≡ reverse xs → bs ≡ refill (length xs) xs ws → bs ≡ decimal n
all_of n rest ds {xs} {ws} is h e t r =
    r ∙ ap (λ k. take k (ws ++ drop (length ws) xs)) (sym (ap length t ∙ length-reverse xs)) ∙ take-append_seam ws (drop (length ws) xs) ∙ t
    ∙ ap reverse e ∙ first_turn n rest ds is h

pub put-requires : goal.put-requires
put-requires c =
    let l = c.loop-rest in
    let turned = c.reverse.ensures.after ∙ ap reverse c.deref_mut.ensures.value in
    let all = all_of c.args.n l.rest l.digits.items l.invariant c.if-rest-lt10.true c.push.ensures.items turned c.deref.ensures.0 in
    omega (arith, c.requires, ap length all)

pub returns : goal.returns
returns c =
    let l = c.loop-rest in
    let turned = c.reverse.ensures.after ∙ ap reverse c.deref_mut.ensures.value in
    let all = all_of c.args.n l.rest l.digits.items l.invariant c.if-rest-lt10.true c.push.ensures.items turned c.deref.ensures.0 in
    subst (λ ds. Added ds (length ds) c.args.text.now c.put.new.text) all c.put.ensures
