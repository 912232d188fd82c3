-- `grid_columns::solved` meets its contract, by how many rows are set aside. Assumes nothing.
use mathlib.Core.Path.{◌≡◌, subst}
use Prim.Native.Nat.{ℕ, ◌^◌, ◌<◌}
use lib.Bits.{bit_and}
use borrow.Author.Rules.{rules}
use Rattle.std.specs.Prelude.{None, Option}
use Rattle.grid_columns.specs.Columns.{Solves, Solved}
use Rattle.grid_columns.proofs.Deciding.{decided, aside_none, aside_one, aside_two, aside_three, aside_more}
use Rattle.grid_columns.proofs.solved.Goals as goal

-- from the rows set aside to the marks
solved : {rows marks aside : ℕ} (r : Option ℕ) → aside ≡ bit_and marks 0x0101_0101_0101_0101 → Solves rows aside r → Solved rows marks r
solved {rows} r e s = record { is = subst (λ (x : ℕ). Solves rows x r) e s }

pub returns-in_default : goal.returns-in_default
returns-in_default c =
    let l : c.one.result < 2 ^ 64 = search rules in
    solved c.tested.result c.new-aside.ensures
    (decided c.tested.result l (aside_none c.in_default.ensures.none c.one.ensures) c.tested.ensures)

pub returns-in_default-pop_first : goal.returns-in_default-pop_first
returns-in_default-pop_first c =
    let made = c.tested-in_default-pop_first in
    let l : c.beside.result < 2 ^ 64 = search rules in
    solved made.result c.new-aside.ensures
    (decided made.result l (aside_one c.in-Some.ensures.some c.in_default-pop_first.ensures.none c.beside.ensures) made.ensures)

pub returns-in_default-pop_first-2 : goal.returns-in_default-pop_first-2
returns-in_default-pop_first-2 c =
    let made = c.tested-in_default-pop_first-2 in
    let l : c.two.result < 2 ^ 64 = search rules in
    solved made.result c.new-aside.ensures
    (decided made.result l
    (aside_two c.in-Some.ensures.some c.in-Some-pop_first.ensures.some c.in_default-pop_first-2.ensures.none c.two.ensures) made.ensures)

pub returns-in-None : goal.returns-in-None
returns-in-None c =
    let made = c.tested-in-None in
    let l : c.three.result < 2 ^ 64 = search rules in
    solved made.result c.new-aside.ensures
    (decided made.result l
    (aside_three c.in-Some.ensures.some c.in-Some-pop_first.ensures.some c.in-Some-pop_first-2.ensures.some c.in-None.ensures.none c.three.ensures)
    made.ensures)

pub returns-in-Some-pop_first-3 : goal.returns-in-Some-pop_first-3
returns-in-Some-pop_first-3 c =
    solved None c.new-aside.ensures
    (aside_more c.in-Some.ensures.some c.in-Some-pop_first.ensures.some c.in-Some-pop_first-2.ensures.some c.in-Some-pop_first-3.ensures.some)
