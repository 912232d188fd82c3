-- `card_write::head` meets its contract: three stores. Assumes nothing.
use Rattle.std.proofs.Common.{◌≡◌, [], ◌∷◌, ℕ, List, ◌/◌, ◌%◌, ap, ap₂, ◌∙◌, arith}
use lib.ListN.{get_or}
use lib.Seq.{sets}
use Rattle.words.proofs.Turns.{stored}
use Rattle.fields.specs.Tags.{byte_of}
use Rattle.image.specs.Card.{head}
use Rattle.card_write.proofs.head.Goals as goal

pub returns : goal.returns
returns c =
    let a = c.args in
    let e : a.n / 256 % 256 ≡ a.n / 256 = omega (arith, c.requires.1) in
    ap₂ (λ t (two : List ℕ). sets a.bytes.now 0 (t ∷ get_or two 0 0 ∷ get_or two 1 0 ∷ []))
    c.from.ensures.answer
    (c.to_be_bytes.ensures ∙ ap (λ k. k ∷ a.n % 256 ∷ []) e)
    ∙ stored (head (byte_of a.tag) a.n) a.bytes.now c.requires.0
