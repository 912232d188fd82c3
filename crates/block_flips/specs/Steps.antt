-- What the steps of the search for flips compute, so that their contracts can say it. No promise to a caller cites this file. Assumes
-- nothing.
use Rattle.std.specs.Prelude.{◌≡◌, ◌≢◌, ◌⊎◌, Bool, true, false, ℕ, ◌+◌, ◌<◌, eqb, ltb, Option, Some, None}
use Rattle.std.specs.Int.Count.{count_trailing_zeros}
use Rattle.words.specs.Word.{choose}
use Rattle.block_code.specs.Checks.{mixed, of_place}
use Rattle.block_code.specs.declared.Checks.{Checks}
use Rattle.block_flips.specs.declared.Flips.{Flips}
use Rattle.block_flips.specs.declared.Flips.TheVariants.{One, Two}

-- the lowest check that is set, as a place
abbrev pub lowest_of : Checks → ℕ
lowest_of s =
    choose (eqb s.rows 0) (choose (eqb s.columns 0) (560 + count_trailing_zeros 64 s.diagonals) (544 + count_trailing_zeros 16 s.columns))
    (512 + count_trailing_zeros 32 s.rows)

-- whether the place p alone explains s
pub record Explained (p : ℕ) (s : Checks) (r : Bool) : Type 0 where
  pub yes : r ≡ true → (p < 608) × (of_place p ≡ s)
  pub no : r ≡ false → p < 608 → of_place p ≢ s

-- r is the place that alone explains s, where there is one
pub record OnlyPlace (s : Checks) (r : Option ℕ) : Type 0 where
  pub sound : (p : ℕ) → r ≡ Some p → (p < 608) × (of_place p ≡ s)
  pub all : (p : ℕ) → r ≡ None → p < 608 → of_place p ≢ s

-- flips that explain s, the lower place first; where there are more, N holds
abbrev pub Explains : Checks → Type 0 → Option Flips → Type 0
Explains s N (Some (One p)) = (p < 608) × (of_place p ≡ s)
Explains s N (Some (Two p q)) = (p < q) × (q < 608) × (mixed (of_place p) (of_place q) ≡ s)
Explains s N None = N

-- two places as flips, the lower first; the same place twice is no flip
abbrev pub in_order : ℕ → ℕ → Option Flips
in_order p q = choose (ltb p q) (Some (Two p q)) (choose (ltb q p) (Some (Two q p)) None)

-- p is not the one flip, nor one of two, that explain s
pub record RuledOut (s : Checks) (p : ℕ) : Type 0 where
  pub alone : p < 608 → of_place p ≢ s
  pub paired : (q : ℕ) → p < 608 → q < 608 → p ≢ q → mixed (of_place p) (of_place q) ≢ s

abbrev pub Attempted : Checks → ℕ → Option Flips → Type 0
Attempted s p f = Explains s (RuledOut s p) f

-- q is the guessed place, if there is one, or the lowest check
abbrev pub Among : Checks → Option ℕ → ℕ → Type 0
Among s p q = (p ≡ Some q) ⊎ (lowest_of s ≡ q)

-- wherever at most two flips explain s, one of them is the guessed place or the lowest check
pub record Guessed (s : Checks) (p : Option ℕ) : Type 0 where
  pub alone : (q : ℕ) → q < 608 → of_place q ≡ s → Among s p q
  pub paired : (q r : ℕ) → q < 608 → r < 608 → q ≢ r → mixed (of_place q) (of_place r) ≡ s → Among s p q ⊎ Among s p r

-- no one flip and no two explain s
pub record Unexplained (s : Checks) : Type 0 where
  pub alone : (p : ℕ) → p < 608 → of_place p ≢ s
  pub paired : (p q : ℕ) → p < 608 → q < 608 → p ≢ q → mixed (of_place p) (of_place q) ≢ s

-- `block_flips::nearest`: the one flip or the two that explain s, or that no one flip and no two do.
pub record Nearest (s : Checks) (r : Option Flips) : Type 0 where
  pub answer : Explains s (Unexplained s) r
