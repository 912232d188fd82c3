-- What the answers of the block's calls say: values, or a refusal (docs/FORMAT.md, The refusals). Assumes nothing.
use Rattle.std.specs.Prelude.{List, ℕ, take, Err, Ok, Result, ⊤}
use Rattle.words.specs.Digits.{joined}
use Rattle.refusals.specs.declared.Refusal.TheVariants.{LostBlock}
use Rattle.refusals.specs.Reply.{Reply, gives, refusal}
use Rattle.codes.specs.Verdict.{Verdict, clean, mended, lost}
use Rattle.block.specs.declared.BlockVerdict.TheVariants.{Clean, Mended}
use Rattle.block.specs.declared.BlockVerdict.{BlockVerdict}
use Rattle.refusals.specs.declared.Refusal.{Refusal}

-- the answer for a verdict: the data is in the words
abbrev pub answer_of : Verdict → Result BlockVerdict Refusal
answer_of (clean d) = Ok Clean
answer_of (mended d n) = Ok (Mended n)
answer_of lost = Err LostBlock

-- words 0 to 31 are the data
abbrev pub data_in : List ℕ → ℕ
data_in words = joined 16 (take 32 words)

-- What a scrub says, by its answer and the words that it leaves: the verdict, with the data that stands there.
abbrev pub means : Result BlockVerdict Refusal → List ℕ → Reply Verdict
means (Ok Clean) exit = gives (clean (data_in exit))
means (Ok (Mended n)) exit = gives (mended (data_in exit) n)
means (Err why) exit = refusal why

-- What the encoder says, by its answer and the words that it leaves: these are what it gives.
abbrev pub encode_means : Result ⊤ Refusal → List ℕ → Reply (List ℕ)
encode_means (Ok u) exit = gives exit
encode_means (Err why) exit = refusal why
