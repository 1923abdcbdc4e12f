-- What is promised of an import after any history. A chunk is its single calls (proofs/Singles.antt), so it only makes the
-- history longer, and all that crates/promises says of lookups and updates holds after it as before. What is said here is what
-- the chunk itself is given, by its party, its bytes, what was kept of those before it, the list of next hops and the stored
-- routes. crates/stream_promises has it of any stream.
use Prim.Native.Nat.{ℕ, ◌+◌, ◌≤◌, ◌<◌}
use mathlib.Core.Path.{◌≡◌, ap}
use mathlib.Core.Bool.{true, false}
use mathlib.Core.List.{List, ◌++◌}
use mathlib.Core.Logic.{◌↔◌}
use lib.Pow.{are_bytes}
use Rattle.rules.specs.declared.Settings.{Settings}
use Rattle.rules.specs.Table.{Memory}
use Rattle.rules.specs.Calls.{Call, run, accepted_of, refused_of}
use Rattle.stream_format.specs.Kept.{is_ended}
use Rattle.stream_format.specs.Chunks.{Chunked}
use Rattle.import_format.specs.Importing.{counts_of, importing, import_chunk}
use Rattle.promises.specs.History.{Route, stored_by, SingleCalls, History}
use Rattle.promises.specs.Demands.{Reordered, paper, adds}
use Rattle.stream_promises.specs.Noted.{Noted, untaken, over_limit, SameGiven}
use Rattle.stream_promises.proofs.Promises.{refused_over, refused_unknown, taken_within, chunk_history, chunk_numbers, chunk_counts, chunk_stores, both_taken, same_chunks}
use Rattle.import_promises.specs.Dumps.{imported_records, imported_calls, hopless_of, import_counts}
use Rattle.import_promises.proofs.Laws.{lawful}

-- ---- One chunk more

module _ {t : Settings} {calls : List Call} {answers : List ℕ} {m : Memory} (history : History t calls answers m) (party : ℕ) (hops counts words room chunk : List ℕ) where
  -- what it is given back and leaves,
  abbrev its : Chunked
  its = import_chunk t m party hops counts words room chunk

  -- the records that it does,
  abbrev records : List Noted
  records = imported_records party hops words room chunk its.number

  -- its single calls, none where it is not taken,
  abbrev done : List Call
  done = imported_calls party hops words room chunk its.number

  -- and the routes stored before it
  abbrev routes : List Route
  routes = stored_by calls answers

  module _ (on : is_ended words ≡ false) where
    -- Where the stream goes on, it is given 19 exactly if the chunk is too long or a count too high,
    pub import_refused : (its.number ≡ 19) ↔ (over_limit 3 counts chunk ≡ true)
    unfolding import_chunk
    import_refused = refused_over (lawful party hops) history counts words room chunk on

    -- 15 exactly if neither is so and the party is above 1,
    pub import_unknown : (its.number ≡ 15) ↔ ((over_limit 3 counts chunk ≡ false) × (1 < party))
    unfolding import_chunk importing
    import_unknown = refused_unknown (lawful party hops) history counts words room chunk on

    -- and is taken if neither is so and the party is 0 or 1, as 1 and 2 are never given.
    pub import_taken : (untaken its.number ≡ false) ↔ ((over_limit 3 counts chunk ≡ false) × (party ≤ 1))
    unfolding import_chunk importing
    import_taken = taken_within (lawful party hops) history counts words room chunk on

  module _ (room_bytes : are_bytes room ≡ true) (chunk_bytes_lem : are_bytes chunk ≡ true) where
    -- The history goes on with its single calls.
    pub import_history : History t (calls ++ done) (answers ++ (run t m done).answers) its.memory
    unfolding import_chunk
    import_history = chunk_history (lawful party hops) history counts words room chunk room_bytes chunk_bytes_lem

    -- Each of its routes is given the number of the first listed condition that is so of the routes stored by then,
    pub import_numbers : (run t m done).answers ≡ (paper t routes done).answers
    unfolding import_chunk
    import_numbers = chunk_numbers (lawful party hops) history counts words room chunk room_bytes chunk_bytes_lem

    sums : counts_of its.counts ≡ import_counts hops (counts_of counts) records (paper t routes done).answers
    unfolding import_chunk importing
    sums = chunk_counts (lawful party hops) history counts words room chunk room_bytes chunk_bytes_lem

    -- and the counts go up by how many of these numbers are 0, how many are not, and how many of its records have no hop.
    pub import_accepts : (counts_of its.counts).accepted ≡ (counts_of counts).accepted + accepted_of (paper t routes done).answers
    unfolding import_counts
    import_accepts = ap (λ c. c.accepted) sums

    pub import_refuses : (counts_of its.counts).refused ≡ (counts_of counts).refused + refused_of (paper t routes done).answers
    unfolding import_counts
    import_refuses = ap (λ c. c.refused) sums

    pub import_hopless : (counts_of its.counts).hopless ≡ (counts_of counts).hopless + hopless_of hops records
    unfolding import_counts
    import_hopless = ap (λ c. c.hopless) sums

    -- What is stored after it follows from what was stored before it.
    pub import_stores : stored_by (calls ++ done) (answers ++ (run t m done).answers) ≡ (paper t routes done).last
    unfolding import_chunk
    import_stores = chunk_stores (lawful party hops) history counts words room chunk room_bytes chunk_bytes_lem

-- ---- Demand 3, of a table newly cleared under these settings, to which the stored routes are added, in any order

-- Both were given some more calls since, those of other chunks among them, and now a chunk, for the same party and with the same
-- counts, words, room and list of next hops.
module _ {t : Settings} {calls : List Call} {answers : List ℕ} {m : Memory} (history : History t calls answers m)
    {order : List Route} (same : Reordered (stored_by calls answers) order) {new_answers : List ℕ} {new_m : Memory} (anew : History t (adds order) new_answers new_m)
    {more : List Call} {more_answers more_new_answers : List ℕ} {last new_last : Memory}
    (made : SingleCalls t m more more_answers last) (made_anew : SingleCalls t new_m more more_new_answers new_last)
    (party : ℕ) (hops counts words room chunk : List ℕ) (room_bytes : are_bytes room ≡ true) (chunk_bytes_lem : are_bytes chunk ≡ true) where
  -- its single calls
  abbrev done_by_both : List Call
  done_by_both = imported_calls party hops words room chunk (import_chunk t last party hops counts words room chunk).number

  -- They are the same on both, so that the chunk is then among what both were given, and all this holds of the next one.
  pub both_imported : SingleCalls t m (more ++ done_by_both) (more_answers ++ (run t last done_by_both).answers) (import_chunk t last party hops counts words room chunk).memory
      × SingleCalls t new_m (more ++ done_by_both) (more_new_answers ++ (run t new_last done_by_both).answers) (import_chunk t new_last party hops counts words room chunk).memory
  unfolding import_chunk
  both_imported = both_taken (lawful party hops) history same anew made made_anew counts words room chunk room_bytes chunk_bytes_lem

  -- Both give it the same number, counts, words and room.
  pub same_imports : SameGiven (import_chunk t new_last party hops counts words room chunk) (import_chunk t last party hops counts words room chunk)
  unfolding import_chunk
  same_imports = same_chunks (lawful party hops) history same anew made made_anew counts words room chunk room_bytes chunk_bytes_lem
