-- The laws of an import: its counts and the words of them, and that a record is one call at most, so that no count grows by more
-- than one with each byte of a chunk.
use Prim.Native.Nat.{ℕ, ◌+◌, ◌≤◌}
use mathlib.Core.Path.{◌≡◌, refl}
use mathlib.Core.Bool.{Bool, true, false, cond, or-false}
use mathlib.Core.List.{List, [], ◌∷◌}
use native.Mathlib.Omega.{arith}
use lib.Dec.{ltb, eqb}
use lib.ListN.{length}
use borrow.Table.Steps.{cases}
use Rattle.rules.specs.declared.Settings.{Settings}
use Rattle.rules.specs.Tools.{any}
use Rattle.rules.specs.Calls.{run}
use Rattle.rules.proofs.Calls.{answers_length, counted_all}
use Rattle.stream_format.specs.Chunks.{Work}
use Rattle.stream_format.proofs.Taking.{record_counts, record_ends}
use Rattle.stream_chunks.specs.Grows.{Grows}
use Rattle.stream_chunks.proofs.Counts.{low_at}
use Rattle.import_format.specs.declared.ImportCounts.{ImportCounts}
use Rattle.import_format.specs.Routes.{record_good, record_calls}
use Rattle.import_format.specs.Importing.{counts_more, counts_high, counts_of, counts_words, importing}
use Rattle.import_format.proofs.Counting.{calls_few}
use Rattle.import_calls.specs.Counts.{Low}

module _ (party : ℕ) (hops : List ℕ) where
  -- ---- Words

  pub names_party : (importing party hops).party ≡ party
  unfolding importing
  names_party = refl

  pub taken_up : (words : List ℕ) (counts : ImportCounts) → counts ≡ counts_of words → counts ≡ (importing party hops).counts_of words
  unfolding importing
  taken_up words counts is = is

  pub written : (words : List ℕ) (counts : ImportCounts) → words ≡ counts_words counts → words ≡ (importing party hops).counts_words counts
  unfolding importing
  written words counts is = is

  -- a count is high where one of three words is
  pub any_high : (words : List ℕ) → length words ≡ 3 → (importing party hops).counts_high ((importing party hops).counts_of words) ≡ any (ltb 4000000000) words
  unfolding importing counts_high counts_of any
  any_high [] long = absurd (omega arith)
  any_high (a ∷ []) long = absurd (omega arith)
  any_high (a ∷ b ∷ []) long = absurd (omega arith)
  any_high (a ∷ b ∷ c ∷ []) long = rw or-false
  any_high (a ∷ b ∷ c ∷ d ∷ words) long = absurd (omega arith)

  -- where no word is high, each count is low
  pub counts_low : (words : List ℕ) → any (ltb 4000000000) words ≡ false → Low ((importing party hops).counts_of words) 0
  unfolding importing counts_of
  counts_low words none = record { accepted_low = low_at words none 0; refused_low = low_at words none 1; hopless_low = low_at words none 2 }

-- ---- How far the counts may be

module _ {counts : ImportCounts} {more : ℕ} (low : Low counts more) where
  -- there may be more
  low_within : {most : ℕ} → more ≤ most → Low counts most
  low_within less = record {
    accepted_low = omega (arith, low.accepted_low);
    refused_low = omega (arith, low.refused_low);
    hopless_low = omega (arith, low.hopless_low);
  }

  -- the answers of one record
  counted_low : (answers : List ℕ) → length answers ≤ 1 → Low (counts_more counts answers) (more + 1)
  unfolding counts_more
  counted_low answers few = record {
    accepted_low = omega (arith, low.accepted_low, counted_all answers);
    refused_low = omega (arith, low.refused_low, counted_all answers);
    hopless_low = go (eqb (length answers) 0);
  }
    where
      go : (b : Bool) → counts.hopless + cond b 1 0 ≤ 4000000000 + (more + 1)
      go true = omega (arith, low.hopless_low)
      go false = omega (arith, low.hopless_low)

-- A record is one call at most, so no count grows by more than one.
pub counts_grow : (t : Settings) (party : ℕ) (hops : List ℕ) → Grows t (importing party hops) Low
unfolding importing run
counts_grow t party hops = record {
  within = λ low less. low_within low less;
  reads = λ w bytes low. cases (record_good bytes)
      (λ good. rw (record_counts t (importing party hops) w bytes (rw good)) (counted_low low _ (few w bytes)))
      (λ bad. rw (record_ends t (importing party hops) w bytes (rw bad (omega arith))) (low_within low (omega arith)));
  steps_over = λ low. low_within low (omega arith);
}
  where
    few : (w : Work ImportCounts) (bytes : List ℕ) → length (run t w.memory (record_calls party bytes hops)).answers ≤ 1
    few w bytes = rw answers_length (calls_few party bytes hops)
