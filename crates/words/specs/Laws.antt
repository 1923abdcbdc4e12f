-- Words take one cell each, or four bytes each: how many there are, and that one list's stand before the next one's.
use Prim.Native.Nat.{ℕ, ◌*◌, ◌/◌, ◌%◌, ◌≤◌}
use mathlib.Core.Path.{◌≡◌, refl}
use mathlib.Core.Bool.{Bool, true, false, cond}
use mathlib.Core.List.{List, [], ◌∷◌, ◌++◌}
use native.Mathlib.Omega.{arith}
use lib.Dec.{eqb}
use lib.ListN.{length}
use Rattle.rules.specs.Table.{whole_words, words, bytes_of}

-- one cell to a word, or four
pub one_some : 1 ≤ 1
one_some = omega arith

pub one_few : 1 ≤ 4
one_few = omega arith

pub four_some : 1 ≤ 4
four_some = omega arith

pub four_few : 4 ≤ 4
four_few = omega arith

-- words that are cells themselves
pub as_many : (list : List ℕ) → length list ≤ length list
as_many list = omega arith

pub one_each : (list : List ℕ) → length list ≡ 1 * length list
one_each list = omega arith

-- words in bytes: there is one for every four
pub whole_count : (bytes : List ℕ) → length (whole_words bytes) ≡ length bytes / 4
unfolding whole_words
whole_count [] = refl
whole_count (b0 ∷ []) = refl
whole_count (b0 ∷ b1 ∷ []) = refl
whole_count (b0 ∷ b1 ∷ b2 ∷ []) = refl
whole_count (b0 ∷ b1 ∷ b2 ∷ b3 ∷ bytes) = omega (arith, whole_count bytes)

pub fewer : (bytes : List ℕ) → length (words bytes) ≤ length bytes
unfolding words
fewer bytes = go (eqb (length bytes % 4) 0)
  where
    go : (whole : Bool) → length (cond whole (whole_words bytes) []) ≤ length bytes
    go true = omega (arith, whole_count bytes)
    go false = omega arith

pub four_each : (list : List ℕ) → length (bytes_of list) ≡ 4 * length list
unfolding bytes_of
four_each [] = refl
four_each (word ∷ list) = omega (arith, four_each list)

pub bytes_none : bytes_of [] ≡ []
unfolding bytes_of
bytes_none = refl

pub bytes_append : (one other : List ℕ) → bytes_of (one ++ other) ≡ bytes_of one ++ bytes_of other
unfolding bytes_of
bytes_append [] other = refl
bytes_append (word ∷ one) other = rw (bytes_append one other)
