-- A stream that is taken in chunks by a call with a table: what its records do to the table and to the counts that are lent, and
-- what a chunk gives back. Which records are read, and what they say, is a reading.
use Rattle.std.specs.Prelude.{ℕ, Bool, cond, ◌||◌, List, length, ltb, eqb}
use Rattle.rules.specs.declared.Settings.{Settings}
use Rattle.rules.specs.Table.{Memory, lent, refuse, party_refusal}
use Rattle.rules.specs.Calls.{Call, run}
use Rattle.stream_format.specs.declared.Kind.{Kind}
use Rattle.stream_format.specs.declared.Stage.{Stage}
use Rattle.stream_format.specs.declared.Stage.TheVariants.{Header, Body, Over, Ended}
use Rattle.stream_format.specs.Streams.{Done, Doing, Stream, stream, chunk_taken}
use Rattle.stream_format.specs.Kept.{is_ended, ended_number, stage_of, words_of}

-- ---- What a call makes of records

-- what the records of one kind say, and what is counted of them
pub record Reading (C : Type 0) : Type 0 where
  -- the party that the call names: its calls are this party's
  pub party : ℕ
  pub kind : Kind
  -- the number that a record ends the stream with; 0 where the stream goes on
  pub ends_with : (bytes : List ℕ) → ℕ
  -- its single calls
  pub calls : (bytes : List ℕ) → List Call
  -- the counts with a record more, whose calls were given these answers
  pub counts_more : C → (bytes answers : List ℕ) → C
  -- the counts with a record more that is stepped over
  pub counts_over : C → C
  -- the counts that lent words hold, these words, and whether a count is too high to go on from
  pub counts_of : (words : List ℕ) → C
  pub counts_words : C → List ℕ
  pub counts_high : C → Bool

-- the counts and the table
pub record Work (C : Type 0) : Type 0 where
  pub counts : C
  pub memory : Memory

-- a record's calls are made and counted; one that ends the stream does nothing
unfoldable pub record_done : {C : Type 0} → Settings → Reading C → Work C → (bytes : List ℕ) → Done (Work C)
record_done t r w bytes =
    let made = run t w.memory (r.calls bytes) in
    cond (eqb (r.ends_with bytes) 0)
    (record { number = 0; leaves = record { counts = r.counts_more w.counts bytes made.answers; memory = made.last } })
    (record { number = r.ends_with bytes; leaves = w })

-- a record that is stepped over makes no call, and may be counted
unfoldable pub record_over : {C : Type 0} → Reading C → Work C → Done (Work C)
record_over r w = record { number = 0; leaves = record { counts = r.counts_over w.counts; memory = w.memory } }

-- what is done with records
unfoldable pub doing : {C : Type 0} → Settings → Reading C → Doing (Work C)
doing t r = record { reads = record_done t r; steps_over = record_over r }

-- ---- One chunk

-- 19 for a chunk above 65,536 bytes or for a count that is too high at its start; then 1, 2 and 15, as every call that names
-- its party
unfoldable pub chunk_refusal : Settings → Memory → (party : ℕ) (high : Bool) (chunk : List ℕ) → ℕ
chunk_refusal t m party high chunk = refuse (ltb 65536 (length chunk) || high) 19 (party_refusal t m party 0)

-- what a chunk gives back and leaves: number, the words of the counts and of the stream, the room, and the table
pub record Chunked : Type 0 where
  pub number : ℕ
  pub counts : List ℕ
  pub words : List ℕ
  pub room : List ℕ
  pub memory : Memory

abbrev pub chunked : (number : ℕ) (counts words room counters slots : List ℕ) → Chunked
chunked number counts words room counters slots =
    record { number = number; counts = counts; words = words; room = room; memory = lent counters slots }

-- the number that ended a stream; 0 while it goes on
unfoldable pub stage_number : Stage → ℕ
stage_number (Header read) = 0
stage_number (Body read left) = 0
stage_number (Over left) = 0
stage_number (Ended number) = number

-- a stream as it is lent back
unfoldable pub lent_back : {C : Type 0} → Reading C → Stream (Work C) → Chunked
lent_back r s =
    record {
      number = stage_number s.stage;
      counts = r.counts_words s.done.counts;
      words = words_of s.stage;
      room = s.room;
      memory = s.done.memory;
    }

-- the stream that the words and the room mean, with the counts and the table
unfoldable pub taken_up : {C : Type 0} → Reading C → Memory → (counts words room : List ℕ) → Stream (Work C)
taken_up r m counts words room =
    stream (stage_of r.kind words room) room (record { counts = r.counts_of counts; memory = m })

-- a number is given back, and all is left as it was
abbrev pub as_it_was : (number : ℕ) → Memory → (counts words room : List ℕ) → Chunked
as_it_was number m counts words room = record { number = number; counts = counts; words = words; room = room; memory = m }

-- A chunk, as it is given back and as it leaves what is lent. After the end it gives the number that ended the stream,
-- whatever else it is.
unfoldable pub take_chunk : {C : Type 0} → Settings → Reading C → Memory → (counts words room chunk : List ℕ) → Chunked
take_chunk t r m counts words room chunk =
    let refusal = chunk_refusal t m r.party (r.counts_high (r.counts_of counts)) chunk in
    cond (is_ended words) (as_it_was (ended_number words) m counts words room)
    (cond (eqb refusal 0)
    (lent_back r (chunk_taken r.kind (doing t r) (taken_up r m counts words room) chunk))
    (as_it_was refusal m counts words room))
