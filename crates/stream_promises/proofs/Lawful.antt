-- What has to be known of a reading, for all that is promised of its streams.
use Prim.Native.Nat.{ℕ}
use mathlib.Core.Path.{◌≡◌}
use mathlib.Core.Bool.{true}
use mathlib.Core.List.{List, [], ◌∷◌, ◌++◌}
use mathlib.Core.Logic.{◌⊎◌}
use lib.ListN.{length}
use lib.Pow.{are_bytes}
use Rattle.rules.specs.Calls.{all_word_sized}
use Rattle.stream_format.specs.Chunks.{Reading}
use Rattle.stream_promises.specs.Noted.{Noted, Read, Over, all_by, some_high}

-- these counts are what their words mean
abbrev pub Meant : {C : Type 0} → Reading C → C → Type 0
Meant r counts = r.counts_of (r.counts_words counts) ≡ counts

-- The counts have so many words, and `counted` is what they come to over noted records whose calls were given these answers.
pub record Lawful {C : Type 0} (r : Reading C) (many : ℕ) (counted : C → List Noted → (answers : List ℕ) → C) : Type 0 where
  -- a record ends the stream with 12, or not at all
  pub ends : (bytes : List ℕ) → (r.ends_with bytes ≡ 0) ⊎ (r.ends_with bytes ≡ 12)
  -- the calls of a record are the party's,
  pub own : (bytes : List ℕ) → all_by r.party (r.calls bytes) ≡ true
  -- and those of one that is of bytes have prefixes of 32 bits
  pub sized : (bytes : List ℕ) → are_bytes bytes ≡ true → all_word_sized (r.calls bytes) ≡ true
  -- the counts that a chunk is given, and those with a record more, are what their words mean
  pub of_meant : (words : List ℕ) → Meant r (r.counts_of words)
  pub more_meant : (counts : C) (bytes answers : List ℕ) → Meant r (r.counts_more counts bytes answers)
  pub over_meant : (counts : C) → Meant r (r.counts_over counts)
  -- they are too high exactly if one of the words is
  pub high : (words : List ℕ) → r.counts_high (r.counts_of words) ≡ some_high many words
  -- over no record the counts stay, and a record more counts as the reading counts it
  pub counted_none : (words : List ℕ) → counted (r.counts_of words) [] [] ≡ r.counts_of words
  pub counted_read : (counts : C) (records : List Noted) (answers bytes more : List ℕ) → length more ≡ length (r.calls bytes)
      → counted counts (records ++ Read bytes ∷ []) (answers ++ more) ≡ r.counts_more (counted counts records answers) bytes more
  pub counted_over : (counts : C) (records : List Noted) (answers : List ℕ)
      → counted counts (records ++ Over ∷ []) answers ≡ r.counts_over (counted counts records answers)
