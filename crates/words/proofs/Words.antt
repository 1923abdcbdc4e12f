-- The words of a list of bytes, by their number: word i is made of the four bytes from 4·i on.
use Prim.Native.Nat.{ℕ, zero, suc, ◌+◌, ◌*◌, ◌/◌, ◌%◌, ◌^◌, ◌<◌}
use mathlib.Core.Path.{◌≡◌, refl, ◌∙◌}
use mathlib.Core.Bool.{Bool, true, false, cond}
use mathlib.Core.List.{List, [], ◌∷◌}
use native.Mathlib.Omega.{arith}
use lib.Dec.{eqb}
use lib.ListN.{length, get_or}
use borrow.Author.Tests.{eq-eqb, ne_eqb}
use Rattle.rules.specs.Table.{whole_words, words}
use Rattle.words.specs.Laws.{whole_count}

-- a word's four bytes
abbrev pub word_from : (bytes : List ℕ) (i : ℕ) → ℕ
word_from bytes i = get_or bytes i 0 + get_or bytes (i + 1) 0 * 2 ^ 8 + get_or bytes (i + 2) 0 * 2 ^ 16 + get_or bytes (i + 3) 0 * 2 ^ 24

-- the bytes after a word, by how far they lie from its own
past : (b0 b1 b2 b3 : ℕ) (bytes : List ℕ) (i j : ℕ) → i ≡ suc (suc (suc (suc j))) → get_or (b0 ∷ b1 ∷ b2 ∷ b3 ∷ bytes) i 0 ≡ get_or bytes j 0
past b0 b1 b2 b3 bytes i j e = rw e

whole_at : (bytes : List ℕ) (i : ℕ) → i < length (whole_words bytes) → get_or (whole_words bytes) i 0 ≡ word_from bytes (4 * i)
unfolding whole_words
whole_at (b0 ∷ b1 ∷ b2 ∷ b3 ∷ bytes) zero h = refl
whole_at (b0 ∷ b1 ∷ b2 ∷ b3 ∷ bytes) (suc i) h =
    let on : (k : ℕ) → get_or (b0 ∷ b1 ∷ b2 ∷ b3 ∷ bytes) (4 * suc i + k) 0 ≡ get_or bytes (4 * i + k) 0
    = λ k. past b0 b1 b2 b3 bytes (4 * suc i + k) (4 * i + k) (omega arith)
    in whole_at bytes i (omega arith) ∙ rw (on 1, on 2, on 3, past b0 b1 b2 b3 bytes (4 * suc i) (4 * i) (omega arith))
whole_at [] i h = absurd (omega arith)
whole_at (b0 ∷ []) i h = absurd (omega arith)
whole_at (b0 ∷ b1 ∷ []) i h = absurd (omega arith)
whole_at (b0 ∷ b1 ∷ b2 ∷ []) i h = absurd (omega arith)

-- the bytes are whole words, so many of them; or they are none
pub count_whole : (bytes : List ℕ) → length bytes % 4 ≡ 0 → length (words bytes) ≡ length bytes / 4
unfolding words
count_whole bytes whole = rw (eq-eqb _ _ whole) (whole_count bytes)

pub count_none : (bytes : List ℕ) → (length bytes % 4 ≡ 0 → ⊥) → length (words bytes) ≡ 0
unfolding words
count_none bytes broken = rw (ne_eqb _ _ broken)

-- where there is a word, the bytes are whole words
some_whole : (bytes : List ℕ) (i : ℕ) (b : Bool) → i < length (cond b (whole_words bytes) []) → cond b (whole_words bytes) [] ≡ whole_words bytes
some_whole bytes i true h = refl
some_whole bytes i false h = absurd (omega arith)

module _ (bytes : List ℕ) (i : ℕ) (h : i < length (words bytes)) where
  all_whole : words bytes ≡ whole_words bytes
  unfolding words
  all_whole = some_whole bytes i (eqb (length bytes % 4) 0) h

  -- a word's bytes are there
  pub reaches : 4 * i + 3 < length bytes
  reaches = omega (arith, whole_count bytes, rw all_whole at h)

  pub word_is : get_or (words bytes) i 0 ≡ word_from bytes (4 * i)
  word_is = rw all_whole (whole_at bytes i (rw all_whole at h))
