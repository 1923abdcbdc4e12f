-- The records of a day keep the laws that crates/stream_promises asks for: what is tallied of them adds up.
use Prim.Native.Nat.{ℕ, zero, suc, ◌+◌}
use mathlib.Core.Path.{◌≡◌, refl}
use mathlib.Core.Bool.{true, false, cond, or_assoc, or-false}
use mathlib.Core.List.{List, [], ◌∷◌, ◌++◌}
use mathlib.Core.Logic.{inl, inr}
use native.Mathlib.Nat.{add_assoc, add-zero}
use native.Mathlib.Omega.{arith}
use lib.ListN.{length-append}
use Rattle.rules.specs.Tools.{any, count, those}
use Rattle.rules.specs.Calls.{accepted_of}
use Rattle.rules.proofs.Calls.{accepted_append}
use Rattle.replay_format.specs.Messages.{message_of, record_bad, is_applied, record_calls}
use Rattle.replay_format.specs.Replaying.{refused_under, tally_more, tally_of, tally_words, tally_high, replaying}
use Rattle.replay_format.proofs.Tallies.{words_meant, more_meant}
use Rattle.replay_format.proofs.Words.{record_words}
use Rattle.promises.specs.Demands.{some_below}
use Rattle.promises.proofs.Sums.{by_cases}
use Rattle.stream_promises.specs.Noted.{Noted, Read, Over, all_by, some_high}
use Rattle.stream_promises.proofs.Lawful.{Lawful}
use Rattle.stream_promises.proofs.Own.{message_own}
use Rattle.replay_promises.specs.Days.{applied_of, replay_tally}

count_append : (n : ℕ) (answers more : List ℕ) → count n (answers ++ more) ≡ count n answers + count n more
unfolding count
count_append n [] more = omega arith
count_append n (answer ∷ answers) more = omega (arith, count_append n answers more)

refused_append : (number : ℕ) (answers more : List ℕ) → refused_under number (answers ++ more) ≡ refused_under number answers + refused_under number more
unfolding refused_under
refused_append zero answers more = refl
refused_append (suc number) answers more = count_append (suc number) answers more

module _ (hops : List ℕ) where
  applied_read : (records : List Noted) (bytes : List ℕ) → applied_of hops (records ++ Read bytes ∷ []) ≡ applied_of hops records + cond (is_applied bytes hops) 1 0
  unfolding applied_of
  applied_read [] bytes = omega arith
  applied_read (Read first ∷ records) bytes = omega (arith, applied_read records bytes)
  applied_read (Over ∷ records) bytes = applied_read records bytes

  applied_over : (records : List Noted) → applied_of hops (records ++ Over ∷ []) ≡ applied_of hops records
  unfolding applied_of
  applied_over [] = refl
  applied_over (Read first ∷ records) = rw (applied_over records)
  applied_over (Over ∷ records) = applied_over records

module _ (party : ℕ) (hops : List ℕ) where
  record_own : (bytes : List ℕ) → all_by party (record_calls party bytes hops) ≡ true
  unfolding record_calls all_by
  record_own bytes = by_cases (is_applied bytes hops) (λ applied. rw applied (message_own party (message_of bytes) hops)) (λ other. rw other)

  -- Replays are lawful: 23 figures, and what they come to.
  pub lawful : Lawful (replaying party hops) 23 (replay_tally hops)
  unfolding replaying tally_more tally_of tally_words tally_high any some_high some_below replay_tally applied_of accepted_of refused_under those count
  lawful = record {
    ends = λ bytes. by_cases (record_bad bytes) (λ bad. rw bad (inr refl)) (λ good. rw good (inl refl));
    own = record_own;
    sized = λ bytes small. record_words party bytes hops small;
    of_meant = words_meant;
    more_meant = λ tally bytes answers. more_meant tally (is_applied bytes hops) answers;
    over_meant = λ tally. more_meant tally false [];
    high = λ words. simp (or_assoc, or-false);
    counted_none = λ words. simp add-zero;
    counted_read = λ tally records answers bytes more sized. rw (applied_read hops records bytes) (simp (length-append, accepted_append, refused_append, add_assoc));
    counted_over = λ tally records answers. rw (applied_over hops records) (simp (length-append, add_assoc, add-zero));
  }
