-- The table of refusals (docs/FORMAT.md, The refusals), and what a call says in its terms. Assumes nothing.
use Rattle.std.specs.Prelude.{ℕ, None, Option, Some, Result, Ok, Err}
use Rattle.refusals.specs.declared.Refusal.{Refusal}
use Rattle.refusals.specs.declared.Refusal.TheVariants.{LostGrid, LostBlock, Length, Broken, Room, Erased}

-- a number of the table, alone or with a place
pub data Number : Type 0 where
  bare : ℕ → Number
  placed : ℕ → ℕ → Number

-- The table: the number of each refusal, and its place where the table names one.
abbrev pub numbered : Refusal → Number
numbered LostGrid = bare 1
numbered LostBlock = bare 2
numbered Length = bare 3
numbered (Broken at) = placed 4 at
numbered Room = bare 6
numbered Erased = bare 7

abbrev pub number_of : Number → ℕ
number_of (bare n) = n
number_of (placed n at) = n

abbrev pub place_of : Number → Option ℕ
place_of (bare n) = None
place_of (placed n at) = Some at

-- What a call says, in the terms of the table: it gives values, or it refuses.
pub data Reply (A : Type 0) : Type 0 where
  gives : A → Reply A
  refused : Number → Reply A

-- with a number, or with a number and a place
abbrev pub refuses : {A : Type 0} → ℕ → Reply A
refuses n = refused (bare n)

abbrev pub refuses_at : {A : Type 0} → ℕ → ℕ → Reply A
refuses_at n at = refused (placed n at)

-- by the table
abbrev pub refusal : {A : Type 0} → Refusal → Reply A
refusal why = refused (numbered why)

-- what is said by an answer that is a value or a refusal, ..
abbrev pub reply : {A : Type 0} → Result A Refusal → Reply A
reply (Ok a) = gives a
reply (Err why) = refusal why

-- .. and the number of a reply, 0 where nothing is refused
abbrev pub number_in : {A : Type 0} → Reply A → ℕ
number_in (gives a) = 0
number_in (refused k) = number_of k
