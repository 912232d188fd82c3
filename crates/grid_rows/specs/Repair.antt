-- The repair of rows that the decoder takes: one of those that `Repair` of `codes` allows. Assumes nothing.
use Rattle.std.specs.Prelude.{List, [], ◌∷◌, ℕ, get_or}
use Rattle.std.specs.Int.Bits.{bit_xor}
use Rattle.words.specs.Word.{bit, combined}
use Rattle.grid_code.specs.Sides.{row_entries}

-- the flips that a row needs whose entries combine to 0, to 1, .. to 15: an odd number is a place's entry, an even one takes place 7 besides.
-- Of a row that needs two flips any other two that repair it would do (codes, `TrialPromises.any_repair`).
abbrev pub flips_at : List ℕ
flips_at =
    0x00 ∷ 0x80 ∷ 0x90 ∷ 0x10 ∷ 0xA0 ∷ 0x20 ∷ 0x81 ∷ 0x01
    ∷ 0xC0 ∷ 0x40 ∷ 0x82 ∷ 0x02 ∷ 0x88 ∷ 0x08 ∷ 0x84 ∷ 0x04 ∷ []

-- the row x repaired
unfoldable pub fixed : ℕ → ℕ
fixed x = bit_xor x (get_or flips_at (combined row_entries (bit x)) 0)
