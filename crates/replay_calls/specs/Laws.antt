-- The laws of a replay: its tally and the words of it, and that a record is 4,096 calls at most, so that no figure grows by more
-- than that with each byte of a chunk.
use Prim.Native.Nat.{ℕ, zero, suc, ◌+◌, ◌*◌, ◌≤◌}
use mathlib.Core.Path.{◌≡◌, refl, ap}
use mathlib.Core.Bool.{Bool, true, false, cond}
use mathlib.Core.List.{List, [], ◌∷◌, map}
use native.Mathlib.Omega.{arith}
use lib.Dec.{ltb}
use lib.ListN.{length, get_or}
use Rattle.rules.specs.declared.Settings.{Settings}
use Rattle.rules.specs.Tools.{any}
use Rattle.rules.specs.Calls.{run}
use Rattle.rules.proofs.Calls.{answers_length, counted_all}
use Rattle.rules.proofs.Members.{count_few}
use Rattle.stream_format.specs.Chunks.{Work, record_done}
use Rattle.stream_format.proofs.Taking.{record_counts, record_ends}
use Rattle.stream_chunks.specs.Grows.{Grows}
use Rattle.stream_chunks.proofs.Counts.{low_at}
use Rattle.replay_format.specs.declared.Tally.{Tally}
use Rattle.replay_format.specs.Messages.{record_bad, is_applied, record_calls}
use Rattle.replay_format.specs.Replaying.{numbers, refused_under, tally_more, tally_of, tally_words, tally_high, replaying}
use Rattle.replay_format.proofs.Counting.{record_calls_few}
use Rattle.replay_format.proofs.Tallies.{words_again}
use Rattle.replay_tally.proofs.Adding.{low_within}
use Rattle.replay_calls.specs.Days.{LowAfter}

-- each of these figures is low, so that each place has a low one
all_low : (figure : ℕ → ℕ) (most : ℕ) → ((number : ℕ) → figure number ≤ most) → (places : List ℕ) (place : ℕ) → get_or (map figure places) place 0 ≤ most
all_low figure most low [] place = omega arith
all_low figure most low (number ∷ places) zero = low number
all_low figure most low (number ∷ places) (suc place) = all_low figure most low places place

module _ (party : ℕ) (hops : List ℕ) where
  -- ---- Words

  pub names_party : (replaying party hops).party ≡ party
  unfolding replaying
  names_party = refl

  pub taken_up : (words : List ℕ) (tally : Tally) → tally ≡ tally_of words → tally ≡ (replaying party hops).counts_of words
  unfolding replaying
  taken_up words tally is = is

  pub written : (words : List ℕ) (tally : Tally) → words ≡ tally_words tally → words ≡ (replaying party hops).counts_words tally
  unfolding replaying
  written words tally is = is

  -- a figure is high where one of 23 words is
  pub any_high : (words : List ℕ) → length words ≡ 23 → (replaying party hops).counts_high ((replaying party hops).counts_of words) ≡ any (ltb 4000000000) words
  unfolding replaying tally_high
  any_high words long = ap (any (ltb 4000000000)) (words_again words long)

  -- where no word is high, each figure is low
  pub tally_low : (words : List ℕ) → any (ltb 4000000000) words ≡ false → LowAfter ((replaying party hops).counts_of words) 0
  unfolding replaying tally_of
  tally_low words none = record {
    low = record {
      seen_low = low_at words none 0;
      applied_low = low_at words none 1;
      accepted_low = low_at words none 2;
      refused_low = all_low _ _ (λ number. low_at words none (3 + number)) numbers;
    };
  }

-- ---- How far the figures may be

-- there may be more
after_within : {tally : Tally} {bytes most : ℕ} → LowAfter tally bytes → bytes ≤ most → LowAfter tally most
after_within after less = record { low = low_within after.low (omega arith) }

-- no more are refused under a number than there are answers
refused_few : (number : ℕ) (answers : List ℕ) → refused_under number answers ≤ length answers
unfolding refused_under
refused_few zero answers = omega arith
refused_few (suc number) answers = count_few (suc number) answers

more_low : {tally : Tally} {bytes : ℕ} → LowAfter tally bytes → (applied : Bool) (answers : List ℕ) → length answers ≤ 4096
    → LowAfter (tally_more tally applied answers) (bytes + 1)
unfolding tally_more
more_low {tally} {bytes} after applied answers few =
    let low = after.low in
    record {
      low = record {
        seen_low = omega (arith, low.seen_low);
        applied_low = go applied;
        accepted_low = omega (arith, low.accepted_low, counted_all answers);
        refused_low = all_low _ _ refused numbers;
      };
    }
  where
    go : (applied : Bool) → tally.applied + cond applied 1 0 ≤ 4000000000 + 4096 * (bytes + 1)
    go true = omega (arith, after.low.applied_low)
    go false = omega (arith, after.low.applied_low)

    refused : (number : ℕ) → get_or tally.refused number 0 + refused_under number answers ≤ 4000000000 + 4096 * (bytes + 1)
    refused number = omega (arith, after.low.refused_low number, refused_few number answers)

module _ (t : Settings) (party : ℕ) (hops : List ℕ) where
  reads : (w : Work Tally) (bytes : List ℕ) {taken : ℕ} → LowAfter w.counts taken → LowAfter (record_done t (replaying party hops) w bytes).leaves.counts (taken + 1)
  unfolding replaying run
  reads w bytes {taken} low = go (record_bad bytes) refl
    where
      few : length (run t w.memory (record_calls party bytes hops)).answers ≤ 4096
      few = rw answers_length (record_calls_few party bytes hops)

      go : (bad : Bool) → record_bad bytes ≡ bad → LowAfter (record_done t (replaying party hops) w bytes).leaves.counts (taken + 1)
      go true e = rw (record_ends t (replaying party hops) w bytes (rw e (λ same. omega arith))) (after_within low (omega arith))
      go false e = rw (record_counts t (replaying party hops) w bytes (rw e)) (more_low low (is_applied bytes hops) _ few)

  pub tally_grows : Grows t (replaying party hops) LowAfter
  unfolding replaying
  tally_grows = record {
    within = after_within;
    reads = reads;
    steps_over = λ low. more_low low false [] (omega arith);
  }
