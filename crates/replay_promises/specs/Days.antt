-- What a replay stands for: its records and their single calls, as those of any stream (stream_promises/specs/Noted.antt), the tally
-- that they come to, and the UPDATEs that they hold.
use Rattle.std.specs.Prelude.{ℕ, ◌+◌, ◌≤◌, ◌≡◌, cond, List, [], ◌∷◌, map, length, get_or}
use Rattle.rules.specs.declared.Settings.{Settings}
use Rattle.rules.specs.Tools.{count, input_of}
use Rattle.rules.specs.Table.{Memory}
use Rattle.rules.specs.Calls.{Call, accepted_of}
use Rattle.message_format.specs.Reading.{apply_message}
use Rattle.stream_format.specs.Chunks.{Chunked}
use Rattle.replay_format.specs.declared.Tally.{Tally}
use Rattle.replay_format.specs.Messages.{message_of, holds_update, is_applied}
use Rattle.replay_format.specs.Replaying.{numbers, refused_under, replaying}
use Rattle.stream_promises.specs.Noted.{Noted, Read, Over, chunk_records, calls_of, taken_records, taken_calls, Streamed}

-- ---- Records and calls

-- the records that a chunk does, by the number that it is given: those that it completes, up to the first one that ends the replay;
-- none where it is not taken
abbrev pub replayed_records : (party : ℕ) (hops words room chunk : List ℕ) (number : ℕ) → List Noted
replayed_records party hops words room chunk number = taken_records (replaying party hops) words room chunk number

-- the calls that a history has of a chunk: those of the UPDATEs that are applied
abbrev pub replayed_calls : (party : ℕ) (hops words room chunk : List ℕ) (number : ℕ) → List Call
replayed_calls party hops words room chunk number = taken_calls (replaying party hops) words room chunk number

-- These chunks were replayed one after the other for one party, under the same settings and with the same list of next hops, and
-- none was given 19, 1, 2 or 15. Nothing else touched the table, the tally, the words or the room.
abbrev pub Replays : Settings → (party : ℕ) (hops : List ℕ) → Chunked → (chunks : List (List ℕ)) → Chunked → Type 0
Replays t party hops = Streamed t (replaying party hops)

-- all the records that the bytes of these chunks complete, up to the first one that ends the replay, and their calls
abbrev pub day_records : (party : ℕ) (hops : List ℕ) → Chunked → (chunks : List (List ℕ)) → List Noted
day_records party hops start chunks = chunk_records (replaying party hops) start.words start.room (input_of chunks)

abbrev pub day_calls : (party : ℕ) (hops : List ℕ) → Chunked → (chunks : List (List ℕ)) → List Call
day_calls party hops start chunks = calls_of (replaying party hops) (day_records party hops start chunks)

-- ---- The tally

-- how many of these records hold an UPDATE that is applied
unfoldable pub applied_of : (hops : List ℕ) (records : List Noted) → ℕ
applied_of hops [] = 0
applied_of hops (Read bytes ∷ records) = cond (is_applied bytes hops) 1 0 + applied_of hops records
applied_of hops (Over ∷ records) = applied_of hops records

-- the tally, over records whose calls were given these answers: every record is seen, those that are stepped over too
unfoldable pub replay_tally : (hops : List ℕ) → Tally → (records : List Noted) (answers : List ℕ) → Tally
replay_tally hops earlier records answers =
    record {
      seen = earlier.seen + length records;
      applied = earlier.applied + applied_of hops records;
      accepted = earlier.accepted + accepted_of answers;
      refused = map (λ number. get_or earlier.refused number 0 + refused_under number answers) numbers;
    }

-- From one tally's words to another's: every figure goes up by what is counted over these records and answers. Place 0 stays, as
-- nothing is refused under 0.
pub record Tallied (hops before after : List ℕ) (records : List Noted) (answers : List ℕ) : Type 0 where
  pub seen : get_or after 0 0 ≡ get_or before 0 0 + length records
  pub applied : get_or after 1 0 ≡ get_or before 1 0 + applied_of hops records
  pub accepted : get_or after 2 0 ≡ get_or before 2 0 + accepted_of answers
  pub refused : (number : ℕ) → 1 ≤ number → number ≤ 19 → get_or after (3 + number) 0 ≡ get_or before (3 + number) 0 + count number answers
  pub under_0 : get_or after 3 0 ≡ get_or before 3 0

-- ---- The UPDATEs

-- the messages of those of these records that hold an UPDATE, in their order
unfoldable pub updates_of : (records : List Noted) → List (List ℕ)
updates_of [] = []
updates_of (Read bytes ∷ records) = cond (holds_update bytes) (message_of bytes ∷ updates_of records) (updates_of records)
updates_of (Over ∷ records) = updates_of records

-- the table that these messages leave when they are handed to the message call one by one, each on what the one before it has left
unfoldable pub messages_applied : Settings → (party : ℕ) (hops : List ℕ) → Memory → (messages : List (List ℕ)) → Memory
messages_applied t party hops m [] = m
messages_applied t party hops m (message ∷ messages) = messages_applied t party hops (apply_message t m party message hops).memory messages
