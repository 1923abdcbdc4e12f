-- A replay leaves the table that the message call leaves when it is handed the day's UPDATEs one by one: a record is no call where
-- the message call refuses its UPDATE, and every call leaves settings and sizes as good as they were.
use Prim.Native.Nat.{ℕ}
use mathlib.Core.Path.{◌≡◌, refl, ap, ◌∙◌}
use mathlib.Core.Bool.{cond}
use mathlib.Core.List.{List, [], ◌∷◌}
use mathlib.Core.Logic.{◌⊎◌, inl, inr}
use lib.Dec.{ltb, eqb}
use Rattle.rules.specs.declared.Settings.{Settings}
use Rattle.rules.specs.Table.{Memory, refuse, party_refusal}
use Rattle.rules.specs.Calls.{each, run}
use Rattle.rules.proofs.Given.{run_sizes}
use Rattle.rules.proofs.Calls.{run_append}
use Rattle.rules.proofs.Refusals.{party_passing}
use Rattle.message_format.specs.Reading.{update_refusal, message_refusal, counts, refused_message, apply_message}
use Rattle.stream_format.specs.Chunks.{Chunked}
use Rattle.replay_format.specs.Messages.{message_of, holds_update, is_applied, record_calls}
use Rattle.replay_format.specs.Replaying.{replaying, replay_chunk}
use Rattle.promises.proofs.Sums.{by_cases}
use Rattle.stream_promises.specs.Noted.{Noted, Read, Over, calls_of, taken_calls}
use Rattle.stream_promises.proofs.Singles.{records_fit, chunk_leaves}
use Rattle.stream_promises.proofs.Whole.{all_records_fit, stream_leaves}
use Rattle.replay_promises.specs.Days.{replayed_records, Replays, day_records, updates_of, messages_applied}
use Rattle.replay_promises.proofs.Laws.{lawful}

module _ (t : Settings) (party : ℕ) (hops : List ℕ) where
  -- the table that a record's calls leave is the one that the message call leaves of its UPDATE, or the table as it was
  record_message : (m : Memory) → party_refusal t m party 0 ≡ 0 → (bytes : List ℕ)
      → (run t m (record_calls party bytes hops)).last ≡ cond (holds_update bytes) (apply_message t m party (message_of bytes) hops).memory m
  unfolding record_calls is_applied apply_message message_refusal counts refused_message run each
  record_message m fit bytes = by_cases (holds_update bytes)
      (λ holds. rw (holds, (party_passing t m party).accepts fit (update_refusal (message_of bytes) hops))
      (by_cases (eqb (update_refusal (message_of bytes) hops) 0) (λ good. rw good) (λ bad. rw bad)))
      (λ other. rw other)

  -- so it is with records one after the other
  records_messages : (m : Memory) → party_refusal t m party 0 ≡ 0 → (records : List Noted)
      → (run t m (calls_of (replaying party hops) records)).last ≡ messages_applied t party hops m (updates_of records)
  unfolding calls_of replaying updates_of messages_applied party_refusal run each
  records_messages m fit [] = refl
  records_messages m fit (Read bytes ∷ records) =
      let left = (run t m (record_calls party bytes hops)).last in
      ap (λ made. made.last) (run_append t m (record_calls party bytes hops) (calls_of (replaying party hops) records))
      ∙ records_messages left (run_sizes t m (record_calls party bytes hops) (refuse (ltb 1 party) 15 0) ∙ fit) records
      ∙ ap (λ memory. messages_applied t party hops memory (updates_of records)) (record_message m fit bytes)
      ∙ by_cases (holds_update bytes) (λ holds. rw holds) (λ other. rw other)
  records_messages m fit (Over ∷ records) = records_messages m fit records

  done_messages : (m : Memory) (records : List Noted) → (records ≡ []) ⊎ (party_refusal t m party 0 ≡ 0)
      → (run t m (calls_of (replaying party hops) records)).last ≡ messages_applied t party hops m (updates_of records)
  unfolding calls_of updates_of messages_applied run each
  done_messages m records (inl none) = rw none
  done_messages m records (inr fit) = records_messages m fit records

  -- A chunk leaves the table that the message call leaves, handed the UPDATEs of its records one by one: on whatever it finds.
  pub replay_messages : (m : Memory) (tally words room chunk : List ℕ)
      → (let its = replay_chunk t m party hops tally words room chunk in its.memory ≡ messages_applied t party hops m (updates_of (replayed_records party hops words room chunk its.number)))
  unfolding replay_chunk replaying taken_calls
  replay_messages m tally words room chunk =
      chunk_leaves (lawful party hops) t m tally words room chunk ∙ done_messages m _ (records_fit (lawful party hops) t m tally words room chunk)

  -- So does a day, in chunks one after the other, with all the UPDATEs that its bytes hold.
  pub day_messages : {start last : Chunked} {chunks : List (List ℕ)} → Replays t party hops start chunks last
      → last.memory ≡ messages_applied t party hops start.memory (updates_of (day_records party hops start chunks))
  unfolding replaying
  day_messages {start} replays = stream_leaves (lawful party hops) replays ∙ done_messages start.memory _ (all_records_fit (lawful party hops) replays)
