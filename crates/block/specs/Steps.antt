-- What the private steps compute, so that their contracts can say it. No promise to a caller cites this file. Assumes nothing.
use Rattle.std.specs.Prelude.{List, ℕ, Option, Some, None, Result, Ok, Err}
use Rattle.refusals.specs.declared.Refusal.TheVariants.{LostBlock}
use Rattle.block_flips.specs.declared.Flips.{Flips}
use Rattle.block_flips.specs.declared.Flips.TheVariants.{One, Two}
use Rattle.block_words.specs.Steps.{flipped}
use Rattle.block.specs.declared.BlockVerdict.TheVariants.{Mended}
use Rattle.block.specs.declared.BlockVerdict.{BlockVerdict}
use Rattle.refusals.specs.declared.Refusal.{Refusal}

-- the words with each of these places flipped
abbrev pub flipped_each : List ℕ → Option Flips → List ℕ
flipped_each ws (Some (One p)) = flipped ws p
flipped_each ws (Some (Two p q)) = flipped (flipped ws p) q
flipped_each ws None = ws

-- what is answered where these flips are undone
abbrev pub answer_for : Option Flips → Result BlockVerdict Refusal
answer_for (Some (One p)) = Ok (Mended 1)
answer_for (Some (Two p q)) = Ok (Mended 2)
answer_for None = Err LostBlock
