-- `block_words::write` meets its contract: the data, and what it says behind it, is the codeword. Assumes nothing.
use Rattle.std.proofs.Common.{◌≡◌, ℕ, ◌+◌, ◌*◌, ◌/◌, ◌%◌, ◌^◌, ◌<◌, List, ◌++◌, length, take, sym, ap, ◌∙◌, arith}
use mathlib.Core.Path.{ap₂, subst}
use lib.ListN.{length-append}
use lib.Pow.{split}
use lib.Seq.{take_all}
use borrow.Author.Tests.{eq-eqb}
use Rattle.words.specs.Digits.{digits, joined, Below}
use Rattle.words.proofs.Digits.{digits-joined, joined-digits, joined_lt, joined-append}
use Rattle.block_code.specs.Code.{codeword}
use Rattle.block_code.specs.Checks.{said_by, check_words}
use Rattle.block_code.specs.declared.Checks.{Checks}
use Rattle.block_code.proofs.Syndromes.{diagonals_lt}
use Rattle.block_sums.proofs.Outcomes.{said_all}
use Rattle.block_words.proofs.write.Goals as goal

-- the words that hold checks, as a number
joined_checks : (k : Checks) → joined 16 (check_words k) ≡ (k.diagonals * 2 ^ 16 + k.columns) * 2 ^ 32 + k.rows
joined_checks k =
    all k.rows k.columns k.diagonals (k.diagonals / 2 ^ 16) (split k.rows 16) (split k.diagonals 16)
    (split (k.diagonals / 2 ^ 16) 16)
  where
    all : (r c d e : ℕ) → r / 2 ^ 16 * 2 ^ 16 + r % 2 ^ 16 ≡ r → e * 2 ^ 16 + d % 2 ^ 16 ≡ d → e / 2 ^ 16 * 2 ^ 16 + e % 2 ^ 16 ≡ e
        → (((((0 + d / 2 ^ 32) * 2 ^ 16 + e % 2 ^ 16) * 2 ^ 16 + d % 2 ^ 16) * 2 ^ 16 + c) * 2 ^ 16 + r / 2 ^ 16) * 2 ^ 16 + r % 2 ^ 16
        ≡ (d * 2 ^ 16 + c) * 2 ^ 32 + r
    all r c d e x y z = omega arith

-- the words of the data d
abbrev front : ℕ → List ℕ
front d = digits 16 32 d

-- with what it says behind it, they are its codeword
codeword-words : (d : ℕ) → d < 2 ^ 512 → joined 16 (front d ++ check_words (said_by (front d))) ≡ codeword d
unfolding codeword
codeword-words d h =
    joined-append 16 (front d) (check_words (said_by (front d)))
    ∙ ap₂ (λ (x y : ℕ). x * 2 ^ 512 + y) (joined_checks (said_by (front d))) (joined-digits 16 32 d h)

-- what the code summed is what the data says
module _ (values : List ℕ) (n : length values ≡ 32) (h : Below 16 values) (k : Checks) (e : k ≡ said_by (take 32 values)) where
  abbrev d : ℕ
  d = joined 16 values

  data-words : values ≡ front d
  data-words = sym (digits-joined 16 32 values n h)

  said_is : k ≡ said_by (front d)
  said_is = e ∙ ap said_by (take_all 32 values (omega (arith, n)) ∙ data-words)

  fits : k.diagonals < 2 ^ 48
  fits = subst (λ (k : Checks). k.diagonals < 2 ^ 48) (sym said_is) (diagonals_lt d)

  written : (exit : List ℕ) → Below 16 exit → exit ≡ values ++ check_words k → exit ≡ digits 16 38 (codeword d)
  written exit b x =
      sym (digits-joined 16 38 exit (ap length x ∙ length-append values (check_words k) ∙ ap (λ (m : ℕ). m + 6) n) b)
      ∙ ap (λ (ws : List ℕ). digits 16 38 (joined 16 ws))
      (x ∙ ap₂ {C = List ℕ} (λ (ws : List ℕ) (k : Checks). ws ++ check_words k) data-words said_is)
      ∙ ap (digits 16 38) (codeword-words d (joined_lt 16 32 values n h))

pub stored-requires : goal.stored-requires
stored-requires c =
    let values : List ℕ = c.args.values.now in
    fits values (omega arith) (λ i. omega (arith, c.type_inv.values i)) c.said.result (said_all c.said.ensures (omega arith))

pub returns : goal.returns
returns c =
    let values : List ℕ = c.args.values.now in
    let n : length values ≡ 32 = omega arith in
    record {
      after =
          rw (eq-eqb (length values) 32 n, eq-eqb (length c.args.words.now) 38 (omega arith))
          (written values n (λ i. omega (arith, c.type_inv.values i)) c.said.result (said_all c.said.ensures (omega arith)) _
          (λ i. omega (arith, c.type_inv.words i))
          (ap₂ {C = List ℕ} ◌++◌ c.copy_from_slice.ensures.after (c.copy_from_slice-2.ensures.after ∙ c.stored.ensures)));
    }
