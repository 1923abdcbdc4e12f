-- What a stream stands for: the records that its chunks complete, the single calls that they are, what a chunk is refused for, and
-- chunks taken one after the other.
use Rattle.std.specs.Prelude.{ℕ, ◌≡◌, Bool, true, false, cond, ◌&&◌, ◌||◌, List, [], ◌∷◌, ◌++◌, length, get_or, ltb, eqb}
use Rattle.rules.specs.declared.Settings.{Settings}
use Rattle.rules.specs.Table.{Memory}
use Rattle.rules.specs.Calls.{Call}
use Rattle.stream_format.specs.Streams.{Done, Doing, stream, chunk_taken}
use Rattle.stream_format.specs.Kept.{stage_of, end_stream}
use Rattle.stream_format.specs.Chunks.{Reading, Chunked, take_chunk}
use Rattle.promises.specs.Parties.{is_call_of}
use Rattle.promises.specs.Demands.{Condition, ◌when◌, some_below, party_conditions}

-- ---- The records of a chunk

-- a record that is complete: one that is read, with its bytes, or one that is stepped over
pub data Noted : Type 0 where
  Read : (bytes : List ℕ) → Noted
  Over : Noted

-- it is noted instead of done; one that ends the stream is not noted
unfoldable pub record_noted : {C : Type 0} → Reading C → (records : List Noted) (bytes : List ℕ) → Done (List Noted)
record_noted r records bytes =
    cond (eqb (r.ends_with bytes) 0)
    (record { number = 0; leaves = records ++ Read bytes ∷ [] })
    (record { number = r.ends_with bytes; leaves = records })

unfoldable pub noting : {C : Type 0} → Reading C → Doing (List Noted)
noting r = record { reads = record_noted r; steps_over = λ records. record { number = 0; leaves = records ++ Over ∷ [] } }

-- the records that a chunk completes, up to the first one that ends the stream, in their order
unfoldable pub chunk_records : {C : Type 0} → Reading C → (words room chunk : List ℕ) → List Noted
chunk_records r words room chunk =
    (chunk_taken r.kind (noting r) (stream (stage_of r.kind words room) room []) chunk).done

-- ---- The single calls of a chunk

-- the calls of these records; one that is stepped over is none
unfoldable pub calls_of : {C : Type 0} → Reading C → (records : List Noted) → List Call
calls_of r [] = []
calls_of r (Read bytes ∷ records) = r.calls bytes ++ calls_of r records
calls_of r (Over ∷ records) = calls_of r records

-- each of these calls is the party's
unfoldable pub all_by : (party : ℕ) → List Call → Bool
all_by party [] = true
all_by party (call ∷ calls) = is_call_of party call && all_by party calls

-- a chunk that is given 19, 1, 2 or 15 is not taken
unfoldable pub untaken : (number : ℕ) → Bool
untaken number = eqb number 19 || (eqb number 1 || (eqb number 2 || eqb number 15))

-- the records that a chunk does, by the number that it is given: none where it is not taken
unfoldable pub taken_records : {C : Type 0} → Reading C → (words room chunk : List ℕ) (number : ℕ) → List Noted
taken_records r words room chunk number = cond (untaken number) [] (chunk_records r words room chunk)

-- the calls that a history has of a chunk
unfoldable pub taken_calls : {C : Type 0} → Reading C → (words room chunk : List ℕ) (number : ℕ) → List Call
taken_calls r words room chunk number = calls_of r (taken_records r words room chunk number)

-- ---- Numbers given back

-- one of so many counts is above 4,000,000,000
unfoldable pub some_high : (many : ℕ) (counts : List ℕ) → Bool
some_high many counts = some_below (λ i. ltb 4000000000 (get_or counts i 0)) many

-- a chunk is too long, or one of the counts is too high
unfoldable pub over_limit : (many : ℕ) (counts chunk : List ℕ) → Bool
over_limit many counts chunk = ltb 65536 (length chunk) || some_high many counts

-- what a chunk looks at while the stream goes on: that, then settings, sizes and party as every update
unfoldable pub chunk_conditions : Settings → Memory → (party many : ℕ) (counts chunk : List ℕ) → List Condition
chunk_conditions t m party many counts chunk = (19 when over_limit many counts chunk) ∷ party_conditions t m party

-- ---- Chunks one after the other

-- one chunk, on what the one before it has left
unfoldable pub next_chunk : {C : Type 0} → Settings → Reading C → Chunked → (chunk : List ℕ) → Chunked
next_chunk t r s chunk = take_chunk t r s.memory s.counts s.words s.room chunk

-- These chunks were taken one after the other, under the same settings and the same reading, so for one party, and none was
-- given 19, 1, 2 or 15. Nothing else touched the table, the counts, the words or the room.
pub data Streamed {C : Type 0} (t : Settings) (r : Reading C) : Chunked → (chunks : List (List ℕ)) → Chunked → Type 0 where
  NoMore : {s : Chunked} → Streamed t r s [] s
  Chunk : {s last : Chunked} {chunk : List ℕ} {chunks : List (List ℕ)}
      → untaken (next_chunk t r s chunk).number ≡ false → Streamed t r (next_chunk t r s chunk) chunks last
      → Streamed t r s (chunk ∷ chunks) last

-- Two streams have come to the same: table, counts, room, and the number that the end gives.
pub record SameStream {C : Type 0} (r : Reading C) (one other : Chunked) : Type 0 where
  pub memory : one.memory ≡ other.memory
  pub counts : r.counts_of one.counts ≡ r.counts_of other.counts
  pub room : one.room ≡ other.room
  pub end : (end_stream one.words).number ≡ (end_stream other.words).number

-- Two chunks were given the same number, and left the same counts, words and room.
pub record SameGiven (one other : Chunked) : Type 0 where
  pub number : one.number ≡ other.number
  pub counts : one.counts ≡ other.counts
  pub words : one.words ≡ other.words
  pub room : one.room ≡ other.room
