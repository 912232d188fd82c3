-- What the steps of a scrub ask of tallies, so that their contracts can say it. No promise to a caller cites this file.
-- Assumes nothing.
use Rattle.std.specs.Prelude.{◌+◌, ◌^◌, ◌<◌}
use Rattle.codes.specs.Tally.{Tally}

-- of two parts
abbrev pub plus : Tally → Tally → Tally
plus a b = record {
  words = a.words + b.words;
  clean = a.clean + b.clean;
  mended = a.mended + b.mended;
  lost = a.lost + b.lost;
  flips = a.flips + b.flips;
}

-- each number has 32 bits
pub record Small (t : Tally) : Type 0 where
  pub words : t.words < 2 ^ 32
  pub clean : t.clean < 2 ^ 32
  pub mended : t.mended < 2 ^ 32
  pub lost : t.lost < 2 ^ 32
  pub flips : t.flips < 2 ^ 32
