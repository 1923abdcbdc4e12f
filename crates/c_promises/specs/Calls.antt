-- The calls that a C program made, as it sees them: the arguments that it gave, the number that came back, and counters and
-- slots afterwards, or the bytes and words that were written. A number of type uint32_t is below 2^32, and a byte below 256.
use Rattle.std.specs.Prelude.{ℕ, ◌*◌, ◌%◌, ◌^◌, ◌<◌, ◌≡◌, true, not, ◌||◌, List, [], ◌∷◌, ◌++◌, ltb, eqb, length}
use Rattle.std.proofs.Math.Pow.{are_bytes}
use Rattle.rules.specs.declared.Settings.{Settings}
use Rattle.rules.specs.Table.{Memory, lent, words, c_lookup, c_match_vector, bytes_of, c_lookup_list}
use Rattle.rules.specs.Calls.{Call, word_sized, act, run}
use Rattle.difference_rules.specs.Comparing.{between, c_difference}
use Rattle.message_format.specs.Reading.{apply_message}
use Rattle.message_format.specs.Writing.{write_withdrawal}
use Rattle.stream_format.specs.Kept.{end_stream}
use Rattle.stream_format.specs.Chunks.{Reading, Chunked, take_chunk}
use Rattle.import_format.specs.Importing.{importing}
use Rattle.replay_format.specs.Replaying.{replaying}
use Rattle.gateway.specs.Crossing.{Crossed, ListCrossed, ComparisonCrossed, MessageCrossed, ChunkCrossed, EndCrossed}
use Rattle.promises.specs.Demands.{Condition, ◌when◌, memory_conditions, party_conditions}
use Rattle.message_promises.specs.Heard.{heard_calls}
use Rattle.import_promises.specs.Dumps.{imported_calls}
use Rattle.replay_promises.specs.Days.{replayed_calls}
use Rattle.c_promises.specs.Numbers.{gateway_refusal}

-- ---- Single calls of include/gateway.h

-- an update: m is the memory at entry and m' that at exit, and what crossed back is what the contract ensures
pub record Updated (t : Settings) (call : Call) (m : Memory) (answer : ℕ) (m' : Memory) : Type 0 where
  pub word : word_sized call ≡ true
  pub crossed : Crossed (act t call m) answer m'.counters m'.slots

-- a party's lookup over the memory of an update, the slots lent as the bytes that x86-64 has of them
pub record LookedUp (t : Settings) (m : Memory) (party address answer : ℕ) : Type 0 where
  pub word : address < 2 ^ 32
  pub crossed : answer ≡ c_lookup t m.counters (bytes_of m.slots) party address

-- a match vector
pub record Matched (t : Settings) (m : Memory) (address answer : ℕ) : Type 0 where
  pub word : address < 2 ^ 32
  pub crossed : answer ≡ c_match_vector t m.counters (bytes_of m.slots) address

-- a list of addresses: addresses and results are bytes too, and results' are those at exit
pub record ListedUp (t : Settings) (m : Memory) (party : ℕ) (addresses results : List ℕ) (answer : ℕ) (results' : List ℕ) : Type 0 where
  pub bytes : are_bytes addresses ≡ true
  pub crossed : ListCrossed (c_lookup_list t m.counters (bytes_of m.slots) party addresses results) answer results'

-- a comparison for a party, of two tables over the memory of updates: the slots of both are lent as bytes, and so is the list,
-- which is list' at exit
pub record TablesCompared (t : Settings) (m : Memory) (u : Settings) (n : Memory) (party : ℕ) (list : List ℕ) (answer : ℕ) (list' : List ℕ) : Type 0 where
  pub crossed : ComparisonCrossed (c_difference t m.counters (bytes_of m.slots) u n.counters (bytes_of n.slots) party list) answer list'

-- a message
pub record Sent (t : Settings) (m : Memory) (party : ℕ) (message hops : List ℕ) (answer : ℕ) (m' : Memory) : Type 0 where
  pub bytes : are_bytes message ≡ true
  pub crossed : MessageCrossed (apply_message t m party message hops) answer m'.counters m'.slots

-- a withdrawal written into room, which is room' at exit
abbrev pub Wrote : (p L : ℕ) (room : List ℕ) (answer : ℕ) (room' : List ℕ) → Type 0
Wrote p L room answer room' = ListCrossed (write_withdrawal p L room) answer room'

-- a chunk: s is what is lent at entry, counts, words, room and table, and s' what is left of it, with the number that the header
-- reads
pub record ChunkTaken {C : Type 0} (t : Settings) (r : Reading C) (s : Chunked) (chunk : List ℕ) (answer : ℕ) (s' : Chunked) : Type 0 where
  pub room_bytes : are_bytes s.room ≡ true
  pub bytes : are_bytes chunk ≡ true
  pub number : s'.number ≡ gateway_refusal answer
  pub crossed : ChunkCrossed (take_chunk t r s.memory s.counts s.words s.room chunk) answer s'.counts s'.words s'.room s'.memory.counters s'.memory.slots

-- one of a dump, and one of a day
abbrev pub ChunkImported : Settings → (party : ℕ) (hops : List ℕ) → Chunked → (chunk : List ℕ) (answer : ℕ) → Chunked → Type 0
ChunkImported t party hops = ChunkTaken t (importing party hops)

abbrev pub ChunkReplayed : Settings → (party : ℕ) (hops : List ℕ) → Chunked → (chunk : List ℕ) (answer : ℕ) → Chunked → Type 0
ChunkReplayed t party hops = ChunkTaken t (replaying party hops)

-- the end of a stream, of which the words are words' at exit
abbrev pub StreamEnded : (words : List ℕ) (answer : ℕ) (words' : List ℕ) → Type 0
StreamEnded words answer words' = EndCrossed (end_stream words) answer words'

-- what a list of addresses looks at, over any bytes: settings, sizes and party as a lookup, and then that there are four bytes of
-- results to each byte of the addresses, and these are whole words
unfoldable pub list_conditions : Settings → (counters slots : List ℕ) (party : ℕ) (addresses results : List ℕ) → List Condition
list_conditions t counters slots party addresses results =
    party_conditions t (lent counters (words slots)) party
    ++ (18 when not (eqb (length results) (4 * length addresses)) || not (eqb (length addresses % 4) 0))
    ∷ []

-- what a comparison looks at, over any bytes: settings and sizes of the first table, those of the second, the party, and then
-- that the list has sixteen bytes for each difference
unfoldable pub comparison_conditions : Settings → (counters slots : List ℕ) → Settings → (other_counters others : List ℕ) (party : ℕ) (list : List ℕ) → List Condition
comparison_conditions t counters slots u other_counters others party list =
    memory_conditions t (lent counters (words slots))
    ++ party_conditions u (lent other_counters (words others)) party
    ++ (18 when ltb (length list) (16 * length (between t (words slots) u (words others) party)))
    ∷ []

-- ---- What a C program did

-- One thing that a C program can do with a table under settings t: an update, which is a single call with the refusal that
-- the header reads; a list of addresses, which is none and changes nothing; a message, which is its single calls, or none
-- where it was refused; or a chunk of a dump or of a day, which is the calls of the records that are complete with it, by the
-- number that the header reads.
pub data Did (t : Settings) : Memory → List Call → List ℕ → Memory → Type 0 where
  Single : {call : Call} {m m' : Memory} {answer : ℕ} → Updated t call m answer m' → Did t m (call ∷ []) (gateway_refusal answer ∷ []) m'
  Addresses : {m : Memory} {party : ℕ} {addresses results results' : List ℕ} {answer : ℕ} → ListedUp t m party addresses results answer results' → Did t m [] [] m
  Heard : {m m' : Memory} {party : ℕ} {message hops : List ℕ} {answer : ℕ} → Sent t m party message hops answer m'
      → Did t m (heard_calls party message hops (gateway_refusal answer)) (run t m (heard_calls party message hops (gateway_refusal answer))).answers m'
  Imported : (party : ℕ) (hops : List ℕ) {chunk : List ℕ} {s s' : Chunked} {answer : ℕ} → ChunkImported t party hops s chunk answer s'
      → Did t s.memory (imported_calls party hops s.words s.room chunk (gateway_refusal answer)) (run t s.memory (imported_calls party hops s.words s.room chunk (gateway_refusal answer))).answers s'.memory
  Replayed : (party : ℕ) (hops : List ℕ) {chunk : List ℕ} {s s' : Chunked} {answer : ℕ} → ChunkReplayed t party hops s chunk answer s'
      → Did t s.memory (replayed_calls party hops s.words s.room chunk (gateway_refusal answer)) (run t s.memory (replayed_calls party hops s.words s.room chunk (gateway_refusal answer))).answers s'.memory
