-- `fields::front` meets its contract. Assumes nothing.
use Rattle.std.proofs.Common.{◌≡◌, ◌+◌, ◌-◌, ◌≤◌, ℕ, List, length, take, drop, arith, refl, sym, ◌∙◌, ap}
use Rattle.std.specs.Result.{result_ok}
use Rattle.fields.specs.Fields.{tag, size}
use Rattle.fields.proofs.Fields.{front_is, unknown, decoded}
use Rattle.fields.proofs.front.Goals as goal

pub returns-in_err-ok : goal.returns-in_err-ok
returns-in_err-ok c =
    let s : List ℕ = c.args.rest.now in
    let n : c.size-end.result ≡ size s = c.size-end.ensures.0 in
    let whole : 3 + size s ≤ length s = omega arith in
    record { answer = c.from_residual.ensures ∙ sym (front_is s whole (tag s) refl c.size-end.result n ∙ unknown (tag s) (take (3 + c.size-end.result - 3) (drop 3 s)) (c.in_err-ok.ensures.value ∙ ap result_ok c.try_from.ensures.answer)) }

pub returns : goal.returns
returns c =
    let s : List ℕ = c.args.rest.now in
    let n : c.size-end.result ≡ size s = c.size-end.ensures.0 in
    let whole : 3 + size s ≤ length s = omega arith in
    record { answer = c.of_tag.ensures ∙ sym (front_is s whole _ (decoded (tag s) c.in_ok-ok.field-0 (c.in_ok-ok.ensures.value ∙ ap result_ok c.try_from.ensures.answer)) c.size-end.result n) }
