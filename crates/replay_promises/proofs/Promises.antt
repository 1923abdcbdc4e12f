-- What is promised of a replay after any history. A chunk is its single calls (proofs/Singles.antt), so it only makes the history
-- longer, and all that crates/promises says of lookups and updates holds after it as before. What is said here is what the chunk
-- itself is given, by its party, its bytes, what was kept of those before it, the list of next hops and the stored routes.
-- crates/stream_promises has it of any stream.
use Prim.Native.Nat.{ℕ, ◌≤◌, ◌<◌}
use mathlib.Core.Path.{◌≡◌}
use mathlib.Core.Bool.{true, false}
use mathlib.Core.List.{List, ◌++◌}
use mathlib.Core.Logic.{◌↔◌}
use lib.Pow.{are_bytes}
use Rattle.rules.specs.declared.Settings.{Settings}
use Rattle.rules.specs.Tools.{input_of}
use Rattle.rules.specs.Table.{Memory}
use Rattle.rules.specs.Calls.{Call, run}
use Rattle.stream_format.specs.Kept.{is_ended}
use Rattle.stream_format.specs.Chunks.{Chunked}
use Rattle.replay_format.specs.Replaying.{replaying, replay_chunk}
use Rattle.promises.specs.History.{Route, stored_by, SingleCalls, History}
use Rattle.promises.specs.Demands.{Reordered, paper, adds}
use Rattle.promises.proofs.Histories.{history_more, more_answers_on_paper, more_routes_on_paper}
use Rattle.stream_promises.specs.Noted.{Noted, untaken, over_limit, SameGiven}
use Rattle.stream_promises.proofs.Promises.{refused_over, refused_unknown, taken_within, chunk_history, chunk_numbers, chunk_counts, chunk_stores, both_taken, same_chunks}
use Rattle.replay_promises.specs.Days.{replayed_records, replayed_calls, Replays, day_records, day_calls, Tallied}
use Rattle.replay_promises.proofs.Laws.{lawful}
use Rattle.replay_promises.proofs.Singles.{figures, day_single, day_counted}

-- ---- One chunk more

module _ {t : Settings} {calls : List Call} {answers : List ℕ} {m : Memory} (history : History t calls answers m) (party : ℕ) (hops tally words room chunk : List ℕ) where
  -- what it is given back and leaves,
  abbrev its : Chunked
  its = replay_chunk t m party hops tally words room chunk

  -- the records that it does,
  abbrev records : List Noted
  records = replayed_records party hops words room chunk its.number

  -- its single calls, none where it is not taken,
  abbrev done : List Call
  done = replayed_calls party hops words room chunk its.number

  -- and the routes stored before it
  abbrev routes : List Route
  routes = stored_by calls answers

  module _ (on : is_ended words ≡ false) where
    -- Where the stream goes on, it is given 19 exactly if the chunk is too long or a figure too high,
    pub replay_refused : (its.number ≡ 19) ↔ (over_limit 23 tally chunk ≡ true)
    unfolding replay_chunk
    replay_refused = refused_over (lawful party hops) history tally words room chunk on

    -- 15 exactly if neither is so and the party is above 1,
    pub replay_unknown : (its.number ≡ 15) ↔ ((over_limit 23 tally chunk ≡ false) × (1 < party))
    unfolding replay_chunk replaying
    replay_unknown = refused_unknown (lawful party hops) history tally words room chunk on

    -- and is taken if neither is so and the party is 0 or 1, as 1 and 2 are never given.
    pub replay_taken : (untaken its.number ≡ false) ↔ ((over_limit 23 tally chunk ≡ false) × (party ≤ 1))
    unfolding replay_chunk replaying
    replay_taken = taken_within (lawful party hops) history tally words room chunk on

  module _ (room_bytes : are_bytes room ≡ true) (chunk_bytes_lem : are_bytes chunk ≡ true) where
    -- The history goes on with its single calls.
    pub replay_history : History t (calls ++ done) (answers ++ (run t m done).answers) its.memory
    unfolding replay_chunk
    replay_history = chunk_history (lawful party hops) history tally words room chunk room_bytes chunk_bytes_lem

    -- Each of its routes is given the number of the first listed condition that is so of the routes stored by then,
    pub replay_numbers : (run t m done).answers ≡ (paper t routes done).answers
    unfolding replay_chunk
    replay_numbers = chunk_numbers (lawful party hops) history tally words room chunk room_bytes chunk_bytes_lem

    -- the figures go up by what is counted over its records and these numbers,
    pub replay_counts : Tallied hops tally its.counts records (paper t routes done).answers
    unfolding replay_chunk replaying
    replay_counts = figures hops tally its.counts records _ (chunk_counts (lawful party hops) history tally words room chunk room_bytes chunk_bytes_lem)

    -- and what is stored after it follows from what was stored before it.
    pub replay_stores : stored_by (calls ++ done) (answers ++ (run t m done).answers) ≡ (paper t routes done).last
    unfolding replay_chunk
    replay_stores = chunk_stores (lawful party hops) history tally words room chunk room_bytes chunk_bytes_lem

-- ---- A day more, in chunks one after the other

module _ {t : Settings} (party : ℕ) (hops : List ℕ) {start last : Chunked} {chunks : List (List ℕ)} (replays : Replays t party hops start chunks last)
    {calls : List Call} {answers : List ℕ} (history : History t calls answers start.memory)
    (room_bytes : are_bytes start.room ≡ true) (input_bytes : are_bytes (input_of chunks) ≡ true) where
  -- its calls
  abbrev all_calls : List Call
  all_calls = day_calls party hops start chunks

  -- The history goes on with these calls,
  pub day_history : History t (calls ++ all_calls) (answers ++ (run t start.memory all_calls).answers) last.memory
  day_history = history_more history (day_single party hops replays room_bytes input_bytes)

  -- whose numbers follow from the routes stored before it,
  pub day_numbers : (run t start.memory all_calls).answers ≡ (paper t (stored_by calls answers) all_calls).answers
  day_numbers = more_answers_on_paper history (day_single party hops replays room_bytes input_bytes)

  -- and so do the figures at its end, and what is stored after it.
  pub day_counts : Tallied hops start.counts last.counts (day_records party hops start chunks) (paper t (stored_by calls answers) all_calls).answers
  day_counts = rw day_numbers at (day_counted party hops replays)

  pub day_stores : stored_by (calls ++ all_calls) (answers ++ (run t start.memory all_calls).answers) ≡ (paper t (stored_by calls answers) all_calls).last
  day_stores = more_routes_on_paper history (day_single party hops replays room_bytes input_bytes)

-- ---- Demand 3, of a table newly cleared under these settings, to which the stored routes are added, in any order

-- Both were given some more calls since, those of other chunks among them, and now a chunk, for the same party and with the same
-- tally, words, room and list of next hops.
module _ {t : Settings} {calls : List Call} {answers : List ℕ} {m : Memory} (history : History t calls answers m)
    {order : List Route} (same : Reordered (stored_by calls answers) order) {new_answers : List ℕ} {new_m : Memory} (anew : History t (adds order) new_answers new_m)
    {more : List Call} {more_answers more_new_answers : List ℕ} {last new_last : Memory}
    (made : SingleCalls t m more more_answers last) (made_anew : SingleCalls t new_m more more_new_answers new_last)
    (party : ℕ) (hops tally words room chunk : List ℕ) (room_bytes : are_bytes room ≡ true) (chunk_bytes_lem : are_bytes chunk ≡ true) where
  -- its single calls
  abbrev done_by_both : List Call
  done_by_both = replayed_calls party hops words room chunk (replay_chunk t last party hops tally words room chunk).number

  -- They are the same on both, so that the chunk is then among what both were given, and all this holds of the next one.
  pub both_replayed : SingleCalls t m (more ++ done_by_both) (more_answers ++ (run t last done_by_both).answers) (replay_chunk t last party hops tally words room chunk).memory
      × SingleCalls t new_m (more ++ done_by_both) (more_new_answers ++ (run t new_last done_by_both).answers) (replay_chunk t new_last party hops tally words room chunk).memory
  unfolding replay_chunk
  both_replayed = both_taken (lawful party hops) history same anew made made_anew tally words room chunk room_bytes chunk_bytes_lem

  -- Both give it the same number, tally, words and room.
  pub same_replays : SameGiven (replay_chunk t new_last party hops tally words room chunk) (replay_chunk t last party hops tally words room chunk)
  unfolding replay_chunk
  same_replays = same_chunks (lawful party hops) history same anew made made_anew tally words room chunk room_bytes chunk_bytes_lem
