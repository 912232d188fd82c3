-- `block_flips::chosen` meets its contract: what it chooses, and why that and the lowest check suffice. Assumes nothing.
use Rattle.std.proofs.Common.{refl, ◌∙◌, arith}
use Rattle.block_flips.proofs.Guessing.{guessed, taken, left, placed}
use Rattle.block_flips.proofs.chosen.Goals as goal

pub returns-then-s-eq0 : goal.returns-then-s-eq0
returns-then-s-eq0 c =
    guessed _ _ _ (λ h. refl)
    (taken c.if-s-eq0.true (λ l r d hr hd x y. placed c.place_at.ensures r d hr hd (c.saturating_sub.ensures ∙ x) y))

pub returns-then-s-eq0-2 : goal.returns-then-s-eq0-2
returns-then-s-eq0-2 c =
    guessed _ _ _ (λ h. refl)
    (left c.if-s-eq0.false
    (taken c.if-s-eq0-2.true
    (λ l r d hr hd x y. placed c.place_at-then-s-eq0-2.ensures r d hr hd x (c.saturating_sub-then-s-eq0-2.ensures ∙ y))))

pub returns-then-t-r : goal.returns-then-t-r
returns-then-t-r c =
    guessed _ _ _ (λ h. refl)
    (left c.if-s-eq0.false (left c.if-s-eq0-2.false (taken c.if-t-r.true (placed c.place_at-then-t-r.ensures))))

pub returns-then-other-lt16 : goal.returns-then-other-lt16
returns-then-other-lt16 c =
    guessed _ _ _ c.second-other.ensures
    (left c.if-s-eq0.false
    (left c.if-s-eq0-2.false
    (left c.if-t-r.false (taken (omega arith) (placed c.place_at-then-other-lt16.ensures)))))

pub returns : goal.returns
returns c =
    guessed _ _ _ c.second-other.ensures
    (left c.if-s-eq0.false
    (left c.if-s-eq0-2.false
    (left c.if-t-r.false
    (left (λ h. absurd (omega arith))
    (λ l r d hr hd x y. placed c.place_at-2.ensures r d hr hd (c.saturating_sub-2.ensures ∙ x) y)))))
