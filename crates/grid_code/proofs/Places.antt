-- The data that stands in a grid's data places: behind the mask, from the grid of a data value, and as the code gathers it. Assumes
-- nothing.
use mathlib.Core.Path.{◌≡◌, sym, ap, ◌∙◌, subst}
use Prim.Native.Nat.{ℕ, ◌+◌, ◌*◌, ◌/◌, ◌%◌, ◌^◌, ◌<◌, min}
use native.Mathlib.Nat.{lt_of_le_of_lt}
use lib.Bits.{bit_xor, and_le_r, mask_lt}
use lib.Dec.{eqb, lit<}
use Rattle.words.specs.Word.{bit}
use Rattle.words.proofs.Bit.{bit_lt, bit-and, min_one}
use Rattle.words.proofs.Linear.{Linear, same, ◌⊕◌, shr, low, mask, agree}
use Rattle.words.proofs.Sum.{sum_eq, sum_bits}
use Rattle.words.proofs.Test.{all_below, at_below, same_below}
use Rattle.grid_code.specs.Equations.{data_bit, data_of, Codeword}
use Rattle.grid_code.specs.Code.{codeword}
use Rattle.grid_code.specs.Steps.{data_places, Completed}
use Rattle.grid_code.proofs.Codeword.{is_codeword}

-- words with the same data places have the same data
pub same_data : (g h : ℕ) → ((k : ℕ) → k < 16 → data_bit g k ≡ data_bit h k) → data_of g ≡ data_of h
unfolding data_of
same_data g h e = sum_eq 16 (λ k. data_bit g k * 2 ^ k) (λ k. data_bit h k * 2 ^ k) (λ k l. ap (λ (x : ℕ). x * 2 ^ k) (e k l))

-- the other places do not count
place_masked : (g k : ℕ) → k < 16 → data_bit (data_places g) k ≡ data_bit g k
place_masked g k l = bit-and g 0x0F0F_0F0F (at k) ∙ ap (min (bit g (at k))) (kept k l) ∙ min_one (bit g (at k)) (bit_lt g (at k))
  where
    at : ℕ → ℕ
    at k = 8 * (k / 4) + k % 4

    kept : (k : ℕ) → k < 16 → bit 0x0F0F_0F0F (at k) ≡ 1
    kept = same_below 16 (λ k. bit 0x0F0F_0F0F (at k)) (λ k. 1) tt

pub data_masked : (g : ℕ) → data_of (data_places g) ≡ data_of g
data_masked g = same_data (data_places g) g (place_masked g)

-- so the grid of the data places is that of the data
pub completes : {places number : ℕ} (g : ℕ) → places ≡ data_places g → Completed places number → number ≡ codeword (data_of g)
completes g e made = made.answer ∙ ap codeword (ap data_of e ∙ data_masked g)

-- the data of a value's bits, which stand in the data places
bits_are : (d g : ℕ) → d < 2 ^ 16 → ((k : ℕ) → k < 16 → data_bit g k ≡ bit d k) → data_of g ≡ d
unfolding data_of
bits_are d g h e =
    sum_eq 16 (λ k. data_bit g k * 2 ^ k) (λ k. bit d k * 2 ^ k) (λ k l. ap (λ (x : ℕ). x * 2 ^ k) (e k l)) ∙ sum_bits 16 d h

pub data_is : (d g : ℕ) → d < 2 ^ 16 → Codeword d g → data_of g ≡ d
data_is d g h p = bits_are d g h p.data_places

pub data_back : (d : ℕ) → d < 2 ^ 16 → data_of (codeword d) ≡ d
data_back d h = data_is d (codeword d) h (is_codeword d h)

-- ---- as `data_of` gathers it

abbrev pairs : Linear
pairs = mask (mask same 0x0F0F_0F0F ⊕ shr (mask same 0x0F0F_0F0F) 4) 0x00FF_00FF

abbrev pub gather : Linear
gather = mask (pairs ⊕ shr pairs 8) 0xFFFF

pub gather_lt : (x : ℕ) → gather.at x < 2 ^ 16
gather_lt x = mask_lt (bit_xor (pairs.at x) (pairs.at x / 2 ^ 8)) 16

-- data bit k, in its data place and gathered
gathered_bit : (x : ℕ) → x < 2 ^ 32 → (k : ℕ) → k < 16 → data_bit x k ≡ bit (gather.at x) k
gathered_bit x h k l =
    agree (from k) (to k) 32 (at_below 16 (λ k. all_below 32 (λ i. eqb ((from k).at (2 ^ i)) ((to k).at (2 ^ i)))) tt k l) x h
  where
    from : ℕ → Linear
    from k = low (shr same (8 * (k / 4) + k % 4)) 1

    to : ℕ → Linear
    to k = low (shr gather k) 1

pub gathered : (x : ℕ) → x < 2 ^ 32 → data_of x ≡ gather.at x
gathered x h = bits_are (gather.at x) x (gather_lt x) (gathered_bit x h)

-- the data has sixteen bits, whatever the word has
pub data_lt : (g : ℕ) → data_of g < 2 ^ 16
data_lt g =
    subst (λ (x : ℕ). x < 2 ^ 16) (sym (gathered (data_places g) (lt_of_le_of_lt (and_le_r g 0x0F0F_0F0F) (lit< tt))) ∙ data_masked g)
    (gather_lt (data_places g))

-- what stands in a data place is that bit of the data
pub data-bit : (g k : ℕ) → k < 16 → data_bit g k ≡ bit (data_of g) k
data-bit g k l =
    sym (place_masked g k l) ∙ gathered_bit (data_places g) small k l ∙ ap (λ (x : ℕ). bit x k) (sym (gathered (data_places g) small) ∙ data_masked g)
  where
    small : data_places g < 2 ^ 32
    small = lt_of_le_of_lt (and_le_r g 0x0F0F_0F0F) (lit< tt)
