-- What a record did, by what it holds and by what its UPDATE is refused for.
use Prim.Native.Nat.{ℕ, ◌-◌, ◌≤◌}
use mathlib.Core.Path.{◌≡◌, sym, ◌∙◌}
use mathlib.Core.Bool.{true, false}
use mathlib.Core.List.{List}
use native.Mathlib.Omega.{arith}
use lib.ListN.{length, take, drop, length-drop}
use lib.Seq.{take-length}
use Rattle.rules.specs.declared.Settings.{Settings}
use Rattle.std.specs.Prelude.{None, Some, Ok, Err}
use Rattle.rules.specs.declared.Refusal.{Refusal}
use Rattle.rules.specs.declared.Refusal.TheVariants.{Hopless}
use Rattle.rules.specs.Numbers.{refusal_number}
use Rattle.rules.specs.Table.{lent, memory_refusal, refuse}
use Rattle.rules.proofs.Numbers.{refusal_nonzero, same_refusal}
use Rattle.rules.specs.Calls.{each, run}
use Rattle.rules.proofs.Calls.{answers_length}
use Rattle.message_format.specs.Reading.{message_calls}
use Rattle.message_format.proofs.Counting.{calls_few}
use Rattle.message_format.proofs.Given.{message_answers}
use Rattle.message_calls.specs.declared.Counts.{Counts}
use Rattle.message_calls.specs.Walks.{update_done, applied_to}
use Rattle.message_calls.proofs.Tallies.{few_low}
use Rattle.stream_format.proofs.Taking.{record_counts, record_ends}
use Rattle.stream_chunks.specs.Work.{work}
use Rattle.replay_format.specs.Messages.{message_of, record_bad, is_applied, record_calls}
use Rattle.replay_format.specs.Replaying.{replaying}
use Rattle.replay_readers.specs.Held.{record_held}
use Rattle.replay_readers.proofs.Records.{UpdateTold, held_told, held_refused}
use Rattle.replay_tally.specs.Steps.{record_added}
use Rattle.replay_tally.proofs.Adding.{added_more}
use Rattle.replay_calls.specs.Days.{only_seen, replayed_to, RecordReplayed}
use Rattle.replay_calls.proofs.Updates.{formed, ill_formed, other_than_hopless, good_told, refused_told}

-- the bytes from the place of an UPDATE on are its message
pub its_message : (bytes : List ℕ) {at : ℕ} → record_held bytes ≡ Ok (Some at) → take (length bytes - at) (drop at bytes) ≡ message_of bytes
unfolding message_of
its_message bytes {at} is = rw (← length-drop at bytes, take-length, (held_told bytes is).place)

-- ---- By whether it ends the replay, and is applied

module _ (t : Settings) (party : ℕ) (hops bytes counters slots : List ℕ) {counters' slots' : List ℕ} where
  -- it is only seen
  seen : record_bad bytes ≡ false → is_applied bytes hops ≡ false → lent counters slots ≡ lent counters' slots'
      → RecordReplayed t party hops bytes counters slots only_seen counters' slots'
  unfolding replaying replayed_to record_calls record_added run each
  seen sound unapplied same = record {
    done = λ earlier. record_counts t (replaying party hops) (work earlier counters slots) bytes (rw sound) ∙ rw (unapplied, same);
    few = tt;
  }

  -- it ends the replay with 12
  ends : record_bad bytes ≡ true → {e : Refusal} → refusal_number e ≡ 12 → lent counters slots ≡ lent counters' slots'
      → RecordReplayed t party hops bytes counters slots (Err e) counters' slots'
  unfolding replaying replayed_to
  ends bad number same = record {
    done = λ earlier. record_ends t (replaying party hops) (work earlier counters slots) bytes (rw bad (λ e. omega arith)) ∙ rw (bad, same, number);
    few = tt;
  }

  -- ---- By what it holds

  -- something else than an UPDATE of IPv4
  pub other_done : record_held bytes ≡ Ok None → lent counters slots ≡ lent counters' slots' → RecordReplayed t party hops bytes counters slots only_seen counters' slots'
  unfolding record_bad is_applied
  other_done is same =
      let told = held_told bytes is in
      seen (rw (told.0, told.1)) (rw told.1) same

  -- less than it should
  pub short_done : {e : Refusal} → record_held bytes ≡ Err e → lent counters slots ≡ lent counters' slots' → RecordReplayed t party hops bytes counters slots (Err e) counters' slots'
  unfolding record_bad refuse
  short_done is same =
      let told = held_told bytes is in
      ends (rw told) (rw (is, told) at (held_refused bytes)) same

  module _ {at : ℕ} (is : record_held bytes ≡ Ok (Some at)) where
    -- an UPDATE that is applied
    pub update_applied : memory_refusal t (lent counters slots) 0 ≡ 0 → party ≤ 1 → {counts : Counts}
        → update_done t (lent counters slots) party (message_of bytes) hops ≡ applied_to (Ok counts) counters' slots' → RecordReplayed t party hops bytes counters slots (Ok (Some counts)) counters' slots'
    unfolding record_bad is_applied record_calls replaying replayed_to record_added run
    update_applied fits known done =
        let told : UpdateTold bytes at = held_told bytes is in
        let good = good_told t (lent counters slots) party (message_of bytes) hops done in
        let applied : is_applied bytes hops ≡ true = rw (told.update, good.passed) in
        record {
          done = λ earlier. record_counts t (replaying party hops) (work earlier counters slots) bytes
              (rw (told.long, told.update, formed (message_of bytes) hops (λ e. omega (arith, good.passed))))
              ∙ rw (applied, good.last, added_more earlier true _ _ good.counted (message_answers t (lent counters slots) party (message_of bytes) hops fits known good.passed));
          few = few_low (record { answers = (run t (lent counters slots) (message_calls party (message_of bytes) hops)).answers; tally = good.counted; few = rw answers_length (calls_few party (message_of bytes) hops good.passed) });
        }

    -- one that announces without a hop
    pub update_hopless : update_done t (lent counters slots) party (message_of bytes) hops ≡ applied_to (Err Hopless) counters' slots' → RecordReplayed t party hops bytes counters slots only_seen counters' slots'
    unfolding record_bad is_applied
    update_hopless done =
        let told : UpdateTold bytes at = held_told bytes is in
        let hopless = refused_told t (lent counters slots) party (message_of bytes) hops Hopless done in
        seen (rw (told.long, told.update, formed (message_of bytes) hops (λ e. omega (arith, hopless.refused)))) (rw (told.update, hopless.refused)) hopless.same

    -- one that is not well-formed
    pub update_fault : {e : Refusal} → (e ≡ Hopless → ⊥) → update_done t (lent counters slots) party (message_of bytes) hops ≡ applied_to (Err e) counters' slots'
        → RecordReplayed t party hops bytes counters slots (Err e) counters' slots'
    unfolding record_bad
    update_fault {e} other done =
        let told : UpdateTold bytes at = held_told bytes is in
        let fault = refused_told t (lent counters slots) party (message_of bytes) hops e done in
        let twelve = other_than_hopless (message_of bytes) hops (rw fault.refused (refusal_nonzero e)) (λ is. other (same_refusal e Hopless (sym fault.refused ∙ is))) in
        ends (rw (told.long, told.update, ill_formed (message_of bytes) hops twelve)) (sym fault.refused ∙ twelve) fault.same
