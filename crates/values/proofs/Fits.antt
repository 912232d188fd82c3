-- What each step does where the lengths fit. Assumes nothing.
use mathlib.Core.Path.{◌≡◌, refl, sym, ap, ◌∙◌}
use mathlib.Core.List.{List, [], ◌++◌, map}
use Prim.Native.Nat.{ℕ, zero, suc, ◌+◌, ◌-◌, ◌*◌, ◌/◌, ◌≤◌, ◌<◌}
use native.Mathlib.Nat.{mul-div-le, mul-le-mul_left, mul-suc, not-suc-le-zero, le_of_suc-le-suc}
use Rattle.std.proofs.lemmas.List.{map-set, length-map, length-take-le, length-drop}
use Rattle.words.specs.Digits.{digits, joined}
use native.Mathlib.Numerals.{add-one}
use native.Mathlib.Omega.{arith}
use lib.ListN.{length, get_or, set, take, drop}
use lib.Seq.{take_all}
use Rattle.std.specs.Simd.{first_chunks}
use borrow.Author.Tests.{le-leb}
use Rattle.words.specs.Bytes.{words_in, bytes_of, laid}
use Rattle.words.proofs.Bytes.{length-words, length-bytes, laid_all}
use Rattle.words.proofs.Lists.{part_behind, part_back}
use Rattle.words.proofs.Digits.{length_digits}
use Rattle.words.proofs.Turns.{place_turn, word_turn}
use Rattle.values.specs.Steps.{FirstRows, Copied, Taken, Put}

-- the front given back as a list of its length
pub over_front : {front xs : List ℕ} {n : ℕ} (s : List ℕ) → front ≡ xs → length xs ≡ n → front ++ drop n s ≡ laid xs s
unfolding laid
over_front {front} {xs} {n} s e f = ap (λ l. l ++ drop n s) e ∙ ap (λ (m : ℕ). xs ++ drop m s) (sym f)

-- where n words of k bytes fit
pub room : {k n m : ℕ} → 0 < k → n ≤ m / k → k * n ≤ m
room {k} {n} {m} h l = omega (arith, mul-div-le m k, mul-le-mul_left k l)

-- word i of the chunks
chunk_at : (k n m : ℕ) (bytes : List ℕ) (i : ℕ) (d : List ℕ) → i < n → i < m → joined 8 (get_or (first_chunks k n bytes) i d) ≡ get_or (words_in k m bytes) i 0
unfolding words_in
chunk_at k zero m bytes i d l r = absurd (not-suc-le-zero l)
chunk_at k (suc n) zero bytes i d l r = absurd (not-suc-le-zero r)
chunk_at k (suc n) (suc m) bytes zero d l r = refl
chunk_at k (suc n) (suc m) bytes (suc i) d l r = chunk_at k n m (drop k bytes) i d (le_of_suc-le-suc l) (le_of_suc-le-suc r)

pub chunk_there : (k n m : ℕ) (bytes : List ℕ) (chunks : List (List ℕ)) (i : ℕ) (d : List ℕ) → chunks ≡ first_chunks k n bytes → i < n → i < m
    → joined 8 (get_or chunks i d) ≡ get_or (words_in k m bytes) i 0
chunk_there k n m bytes chunks i d e l r = ap (λ (cs : List (List ℕ)). joined 8 (get_or cs i d)) e ∙ chunk_at k n m bytes i d l r

-- how long a chunk is, where there are bytes for all
chunk_length : (k n : ℕ) (bytes : List ℕ) (i : ℕ) (d : List ℕ) → n * k ≤ length bytes → i < n → length (get_or (first_chunks k n bytes) i d) ≡ k
chunk_length k zero bytes i d fits l = absurd (not-suc-le-zero l)
chunk_length k (suc n) bytes zero d fits l = length-take-le k bytes (omega arith)
chunk_length k (suc n) bytes (suc i) d fits l =
    chunk_length k n (drop k bytes) i d (omega (arith, length-drop k bytes)) (le_of_suc-le-suc l)

-- the rows of a grid, where there are bytes for them, ..
pub rows_there : (bytes rows : List ℕ) → 8 ≤ length bytes → FirstRows bytes rows → rows ≡ take 8 bytes
rows_there bytes rows h x = x.answer ∙ (rw (le-leb 8 (length bytes) h))

-- .. and where these are a chunk
pub rows_in_chunk : (n : ℕ) (bytes rows : List ℕ) (chunks : List (List ℕ)) (i : ℕ) → n * 8 ≤ length bytes → chunks ≡ first_chunks 8 n bytes → i < n
    → FirstRows (get_or chunks i []) rows → rows ≡ get_or chunks i []
rows_in_chunk n bytes rows chunks i fits e l x =
    let chunk = get_or chunks i [] in
    let long : length chunk ≡ 8 = ap (λ (cs : List (List ℕ)). length (get_or cs i [])) e ∙ chunk_length 8 n bytes i [] fits l in
    rows_there chunk rows (omega arith) x ∙ take_all 8 chunk (omega arith)

-- the next word put in its place
pub next_put : (k : ℕ) (ws s t : List ℕ) (i : ℕ) (ys : List ℕ) → i < length ws → k * length ws ≤ length s
    → t ≡ laid (bytes_of k (take i ws)) s → ys ≡ digits 8 k (get_or ws i 0)
    → take (k * i) t ++ (ys ++ drop (k * (i + 1) - k * i) (drop (k * i) t)) ≡ laid (bytes_of k (take (i + 1) ws)) s
next_put k ws s t i ys more room e f =
    let next = digits 8 k (get_or ws i 0) in
    let long : length next ≡ k * (i + 1) - k * i = length_digits 8 k (get_or ws i 0) ∙ omega (arith, mul-suc k i, ap (λ (m : ℕ). k * m) (add-one i)) in
    let behind = drop (k * i) t in
    ap (λ b. take (k * i) t ++ b) (over_front behind f long)
    ∙ sym (part_back (k * i) t (laid next behind))
    ∙ word_turn k ws s t i (laid next behind) more room e (ap (laid next) (sym (part_behind (k * i) t)))

module _ (bytes to : List ℕ) where
  pub copied : length bytes ≤ length to → {exit : List ℕ} → exit ≡ laid bytes to → Copied bytes to exit
  copied h e = record { after = rw (le-leb (length bytes) (length to) h) e }

  pub copy_there : (exit : List ℕ) → length bytes ≤ length to → Copied bytes to exit → exit ≡ laid bytes to
  copy_there exit h x = x.after ∙ (rw (le-leb (length bytes) (length to) h))

  -- where there is room and no more
  pub copy_all : (exit : List ℕ) → length bytes ≡ length to → Copied bytes to exit → exit ≡ bytes
  copy_all exit h x = copy_there exit (omega arith) x ∙ laid_all bytes to h

module _ (k : ℕ) (bytes words : List ℕ) where
  pub taken : k * length words ≤ length bytes → {exit : List ℕ} → exit ≡ words_in k (length words) bytes → Taken k bytes words exit
  taken h e = record { after = rw (le-leb (k * length words) (length bytes) h) e }

  -- where there are bytes for the words and no more
  module _ (exit : List ℕ) (h : length bytes ≡ k * length words) where
    fits : k * length words ≤ length bytes
    fits = omega arith

    pub taken_there : Taken k bytes words exit → exit ≡ words_in k (length words) bytes
    taken_there x = x.after ∙ (rw (le-leb (k * length words) (length bytes) fits))

    pub put_there : Put k words bytes exit → exit ≡ bytes_of k words
    put_there x =
        x.after ∙ (rw (le-leb (k * length words) (length bytes) fits)) ∙ laid_all (bytes_of k words) bytes (length-bytes k words ∙ sym h)

-- the words of bytes, taken one by one
module _ {A : Type 0} (number : A → ℕ) (k : ℕ) (bytes : List ℕ) (words now : List A) (i : ℕ) where
  abbrev there : List ℕ
  there = words_in k (length words) bytes

  pub next_taken : (x : A) → i < length words → map number now ≡ laid (take i there) (map number words) → number x ≡ get_or there i 0
      → map number (set now i x) ≡ laid (take (i + 1) there) (map number words)
  next_taken x more e f =
      map-set number now i x ∙ ap (λ t. set t i (number x)) e
      ∙ place_turn there (map number words) i (number x) (omega (arith, length-words k (length words) bytes)) (omega (arith, length-map words number)) f

  pub all_taken : 0 < k → length words ≤ length bytes / k → length words ≤ i → map number now ≡ laid (take i there) (map number words)
      → Taken k bytes (map number words) (map number now)
  all_taken some fits all e =
      let m : length (map number words) ≡ length words = length-map words number in
      let long = length-words k (length words) bytes in
      taken k bytes (map number words) (rw m (room some fits))
      (e ∙ ap (λ b. laid b (map number words)) (take_all i there (omega (arith, long))) ∙ laid_all there (map number words) (long ∙ sym m)
      ∙ ap (λ n. words_in k n bytes) (sym m))
