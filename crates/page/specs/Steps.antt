-- What the private steps of a scrub compute, and what is asked of tallies, so that their contracts can say it. No promise to a caller cites
-- this file. Assumes nothing.
use Rattle.std.specs.Prelude.{ℕ, ◌+◌, ◌^◌, ◌<◌, eqb}
use Rattle.words.specs.Word.{choose}
use Rattle.grid_code.specs.Verdict.{Verdict, flips_of, is_clean, is_blank, is_mended, is_lost}
use Rattle.page.specs.declared.Tally.{Tally}
use Rattle.page.specs.Tally.{passed_on}

-- each number has 32 bits
pub record Small (t : Tally) : Type 0 where
  pub grids : t.grids < 2 ^ 32
  pub clean : t.clean < 2 ^ 32
  pub blank : t.blank < 2 ^ 32
  pub mended : t.mended < 2 ^ 32
  pub lost : t.lost < 2 ^ 32
  pub flips : t.flips < 2 ^ 32

-- one verdict more, with its pattern, ..
abbrev pub counted : Tally → Verdict → ℕ → Tally
counted t v p = record {
  grids = t.grids + 1;
  clean = t.clean + is_clean v;
  blank = t.blank + is_blank v;
  mended = t.mended + is_mended v;
  lost = t.lost + is_lost v;
  flips = t.flips + flips_of v;
  pattern = passed_on v p t.pattern;
}

-- .. and there is room for it
abbrev pub Roomy : Tally → Verdict → Type 0
Roomy t v = Small (counted t v 0)

-- which of two parts' patterns is passed on: b, of the part behind, unless nothing was mended there. A mended grid's is never zero.
abbrev pub later : ℕ → ℕ → ℕ
later a b = choose (eqb b 0) a b

-- of two parts, one behind the other
abbrev pub plus : Tally → Tally → Tally
plus a b = record {
  grids = a.grids + b.grids;
  clean = a.clean + b.clean;
  blank = a.blank + b.blank;
  mended = a.mended + b.mended;
  lost = a.lost + b.lost;
  flips = a.flips + b.flips;
  pattern = later a.pattern b.pattern;
}
