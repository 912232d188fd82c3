-- Bytes one behind the other. Assumes nothing.
use mathlib.Core.Path.{ap, ◌∙◌}
use mathlib.Core.List.{List, ◌++◌, append_assoc}
use Prim.Native.Nat.{ℕ, ◌+◌}
use native.Mathlib.Omega.{arith}
use Rattle.arrayvec.specs.ArrayVec.{ArrayVec}
use Rattle.lines.specs.Steps.{Added}

pub then : {a b c : ArrayVec ℕ} {xs ys : List ℕ} {m n : ℕ} → Added xs m a b → Added ys n b c → Added (xs ++ ys) (m + n) a c
then {a} {b} {c} {xs} {ys} p q = record {
  after = q.after ∙ ap (λ l. l ++ ys) p.after ∙ append_assoc a.items xs ys;
  few = omega (arith, p.few, q.few);
}
