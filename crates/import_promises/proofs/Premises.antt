-- The promises' premises are met by worked dumps, of either party, under settings T and under filters of unequal size: what a
-- chunk is given is computed, and handed to the promise. The room is short, which the definitions allow.
use Prim.Native.Nat.{ℕ, ◌≤◌}
use mathlib.Core.Path.{◌≡◌, refl, ap, ◌∙◌}
use mathlib.Core.Bool.{false}
use mathlib.Core.List.{List, [], ◌∷◌, ◌++◌}
use native.Mathlib.Omega.{arith}
use lib.Dec.{lit<, lit≤}
use lib.ListN.{replicate, take, drop}
use Rattle.rules.specs.declared.Settings.{Settings}
use Rattle.rules.specs.Tools.{those, fed, input_of}
use Rattle.rules.specs.Table.{Memory, lookup}
use Rattle.rules.specs.Calls.{Call, Clear, Add, word_sized, all_word_sized, act, each, run, accepted_of}
use Rattle.rules.proofs.Worked.{ip, T}
use Rattle.message_format.proofs.Worked.{computing as reading}
use Rattle.stream_format.specs.Streams.{is_kind, body_size, to_read, to_step_over, header_read, next_byte, unless_ended, completed, byte_taken, chunk_taken}
use Rattle.stream_format.specs.Kept.{ended_word, read_word, left_word, is_ended, ended_number, is_body, stage_of, words_of, inside_record, end_number, end_stream}
use Rattle.stream_format.specs.Chunks.{record_done, record_over, doing, chunk_refusal, Chunked, stage_number, lent_back, taken_up, as_it_was, take_chunk}
use Rattle.stream_format.proofs.Ends.{inside}
use Rattle.import_format.specs.Routes.{dump_kind, entries_count, entries_from, entry_attributes, after_entry, entry_starts, entries_to, entries, entry_good, ends_well, record_good, entry_hop, chosen_hop, route_hop, record_calls}
use Rattle.import_format.specs.Importing.{counts_more, counts_of, counts_words, counts_high, importing, import_chunk}
use Rattle.promises.specs.History.{Route, routes_of, route, on_paper, stored_by, History}
use Rattle.promises.specs.Demands.{some_below, Finds, First, Nothing, paper, adds}
use Rattle.promises.proofs.Showing.{sevens, showing}
use Rattle.promises.proofs.Premises.{U}
use Rattle.promises.proofs.Histories.{made, history_of}
use Rattle.promises.proofs.Matches.{right}
use Rattle.promises.proofs.Promises.{finds_longest}
use Rattle.stream_promises.specs.Noted.{record_noted, noting, chunk_records, calls_of, untaken, taken_records, taken_calls, some_high, over_limit, next_chunk, NoMore, Chunk, SameStream, SameGiven}
use Rattle.stream_promises.proofs.Refused.{ended_unchanged, refused_unchanged, goes_on, has_ended, end_numbers, end_stays}
use Rattle.import_promises.specs.Dumps.{imported_records, imported_calls, hopless_of, Imports}
use Rattle.import_promises.proofs.Cuts.{any_cut, any_cut_whole}
use Rattle.import_promises.proofs.Promises.{import_refused, import_unknown, import_taken, import_history, import_numbers, import_accepts, import_hopless, same_imports}
use Rattle.import_promises.proofs.Laws.{lawful}

-- to unfold this is to unfold all that an import computes with
unfoldable dumping : ℕ
unfolding fed is_kind body_size to_read to_step_over header_read next_byte unless_ended completed byte_taken chunk_taken ended_word read_word left_word is_ended ended_number is_body stage_of words_of inside_record end_number end_stream entries_count entries_from entry_attributes after_entry entry_starts entries_to entries entry_good ends_well record_good entry_hop chosen_hop route_hop record_calls record_done record_over doing chunk_refusal stage_number lent_back taken_up take_chunk counts_more counts_of counts_words counts_high importing import_chunk record_noted noting chunk_records calls_of untaken taken_records taken_calls some_high over_limit next_chunk hopless_of some_below paper adds reading showing
dumping = 0

-- two records: 10/8 with the hop of 192.0.2.1, and 11/8, which no neighbour announces
abbrev pub dump : List ℕ
dump =
    (0 ∷ 0 ∷ 0 ∷ 0 ∷ 0 ∷ 13 ∷ 0 ∷ 2 ∷ 0 ∷ 0 ∷ 0 ∷ 23 ∷ [])
    ++ (0 ∷ 0 ∷ 0 ∷ 0 ∷ 8 ∷ 10 ∷ 0 ∷ 1 ∷ 0 ∷ 0 ∷ 0 ∷ 0 ∷ 0 ∷ 0 ∷ 0 ∷ 7 ∷ 64 ∷ 3 ∷ 4 ∷ 192 ∷ 0 ∷ 2 ∷ 1 ∷ [])
    ++ (0 ∷ 0 ∷ 0 ∷ 0 ∷ 0 ∷ 13 ∷ 0 ∷ 2 ∷ 0 ∷ 0 ∷ 0 ∷ 8 ∷ [])
    ++ (0 ∷ 0 ∷ 0 ∷ 1 ∷ 8 ∷ 11 ∷ 0 ∷ 0 ∷ [])

abbrev pub hops : List ℕ
hops = ip 198 51 100 1 ∷ ip 192 0 2 1 ∷ []

abbrev pub zeros : List ℕ
zeros = 0 ∷ 0 ∷ 0 ∷ []

abbrev pub room : List ℕ
room = replicate 100 0

abbrev pub calls : (party : ℕ) → List Call
calls party = Add party (ip 10 0 0 0) 8 1 ∷ []

-- its one call, the party's
pub its_calls : (party : ℕ) → imported_calls party hops zeros room dump 0 ≡ calls party
unfolding dumping
its_calls party = refl

-- and the one record that is none
its_hopless : (party : ℕ) → hopless_of hops (imported_records party hops zeros room dump 0) ≡ 1
unfolding dumping
its_hopless party = refl

-- an import into a table newly cleared, on memory that held anything
abbrev begin : Settings → (before : Memory) → Chunked
begin t before = record { number = 0; counts = zeros; words = zeros; room = room; memory = (act t Clear before).memory }

-- what is computed under settings t for a party: the dump as one chunk, cut within the first body, and with a body of no bytes
record Worked (t : Settings) (party : ℕ) (before : Memory) : Type 0 where
  cleared : (act t Clear before).refusal ≡ 0
  known : party ≤ 1
  numbers : (paper t [] (calls party)).answers ≡ 0 ∷ []
  own : routes_of party (stored_by (calls party) (0 ∷ [])) ≡ route party (ip 10 0 0 0) 8 1 ∷ []
  whole : (next_chunk t (importing party hops) (begin t before) dump).number ≡ 0
  first : (next_chunk t (importing party hops) (begin t before) (take 20 dump)).number ≡ 0
  second : (next_chunk t (importing party hops) (next_chunk t (importing party hops) (begin t before) (take 20 dump)) (drop 20 dump)).number ≡ 0
  left : (next_chunk t (importing party hops) (begin t before) (take 20 dump)).words ≡ 0 ∷ 20 ∷ 15 ∷ []
  ended : (next_chunk t (importing party hops) (begin t before) (take 11 dump ++ 0 ∷ [])).number ≡ 12

at_T : Worked T 0 sevens
unfolding dumping
at_T = record { cleared = refl; known = lit≤ tt; numbers = refl; own = refl; whole = refl; first = refl; second = refl; left = refl; ended = refl }

at_T_1 : Worked T 1 sevens
unfolding dumping
at_T_1 = record { cleared = refl; known = lit≤ tt; numbers = refl; own = refl; whole = refl; first = refl; second = refl; left = refl; ended = refl }

at_U : Worked U 1 (record { counters = replicate 688 7; slots = replicate 258 7 })
unfolding dumping
at_U = record { cleared = refl; known = lit≤ tt; numbers = refl; own = refl; whole = refl; first = refl; second = refl; left = refl; ended = refl }

module _ {t : Settings} {party : ℕ} {before : Memory} (worked : Worked t party before) where
  abbrev empty : Memory
  empty = (act t Clear before).memory

  abbrev start : Chunked
  start = begin t before

  begun : History t [] [] empty
  unfolding all_word_sized showing
  begun = history_of before worked.cleared (made t empty [] refl)

  -- ---- Two cuttings

  abbrev one : Chunked
  one = next_chunk t (importing party hops) start dump

  abbrev half : Chunked
  half = next_chunk t (importing party hops) start (take 20 dump)

  abbrev other : Chunked
  other = next_chunk t (importing party hops) half (drop 20 dump)

  -- a chunk that is given 0 is taken
  with_0 : {number : ℕ} → number ≡ 0 → untaken number ≡ false
  unfolding untaken
  with_0 none = rw none

  in_one : Imports t party hops start (dump ∷ []) one
  in_one = Chunk (with_0 worked.whole) NoMore

  in_two : Imports t party hops start (take 20 dump ∷ drop 20 dump ∷ []) other
  in_two = Chunk (with_0 worked.first) (Chunk (with_0 worked.second) NoMore)

  -- they come to the same
  cut_met : SameStream (importing party hops) one other
  unfolding input_of
  cut_met = any_cut t party hops refl in_one in_two

  cut_whole_met : one ≡ other
  unfolding input_of
  cut_whole_met = any_cut_whole t party hops refl in_one in_two

  -- ---- Numbers given back

  -- with a count above the limit it is refused with 19, and leaves all as it was
  abbrev high : List ℕ
  high = 0 ∷ 4000000001 ∷ 0 ∷ []

  high_met : (import_chunk t empty party hops high zeros room dump).number ≡ 19
  unfolding dumping
  high_met = (import_refused begun party hops high zeros room dump refl).1 refl

  unchanged_met : import_chunk t empty party hops high zeros room dump ≡ as_it_was 19 empty high zeros room
  unfolding import_chunk untaken
  unchanged_met = refused_unchanged (lawful party hops) t empty high zeros room dump (rw high_met) ∙ ap (λ number. as_it_was number empty high zeros room) high_met

  -- within it a chunk of party 2's is refused with 15
  unknown_met : (import_chunk t empty 2 hops zeros zeros room dump).number ≡ 15
  unfolding dumping
  unknown_met = (import_unknown begun 2 hops zeros zeros room dump refl).1 (refl, lit< tt)

  -- within it, it is taken, and the stream goes on
  taken_met : untaken one.number ≡ false
  unfolding dumping
  taken_met = (import_taken begun party hops zeros zeros room dump refl).1 (refl, worked.known)

  goes_on_met : is_ended one.words ≡ false
  unfolding next_chunk import_chunk is_ended ended_word
  goes_on_met = goes_on (lawful party hops) t empty zeros zeros room dump refl worked.whole

  -- within a record the end gives 17, and then every chunk is given that
  end_met : (end_stream half.words).number ≡ 17
  unfolding dumping inside
  end_met = rw worked.left (end_numbers (0 ∷ 20 ∷ 15 ∷ []) refl dump_kind room)

  end_stays_met : (import_chunk t empty party hops zeros (end_stream half.words).words room dump).number ≡ 17
  unfolding import_chunk
  end_stays_met = ap (λ i. i.number) (end_stays half.words (importing party hops) t empty zeros room dump).0 ∙ end_met

  -- a record of no bytes ends the import with 12, and then every chunk is given that
  abbrev bad : Chunked
  bad = next_chunk t (importing party hops) start (take 11 dump ++ 0 ∷ [])

  bad_met : (next_chunk t (importing party hops) bad dump).number ≡ 12
  unfolding next_chunk import_chunk untaken is_ended ended_word
  bad_met =
      let over = has_ended (lawful party hops) t empty zeros zeros room (take 11 dump ++ 0 ∷ []) refl (rw worked.ended) (rw worked.ended (omega arith)) in
      ap (λ i. i.number) (ended_unchanged (importing party hops) t bad.memory bad.counts bad.words bad.room dump over.0) ∙ over.1 ∙ worked.ended

  -- ---- The history

  its_done : imported_calls party hops zeros room dump one.number ≡ calls party
  its_done = rw worked.whole (its_calls party)

  given : (run t empty (calls party)).answers ≡ 0 ∷ []
  unfolding stored_by on_paper next_chunk import_chunk
  given = rw its_done at (import_numbers begun party hops zeros zeros room dump refl refl) ∙ worked.numbers

  after : History t (calls party) (0 ∷ []) one.memory
  unfolding next_chunk import_chunk
  after = rw (its_done, given) at (import_history begun party hops zeros zeros room dump refl refl)

  -- one route is accepted, and one record has no hop
  counts_met : ((counts_of one.counts).accepted ≡ 1) × ((counts_of one.counts).hopless ≡ 1)
  unfolding next_chunk import_chunk stored_by on_paper accepted_of those counts_of
  counts_met = (
    import_accepts begun party hops zeros zeros room dump refl refl ∙ rw (its_done, worked.numbers),
    import_hopless begun party hops zeros zeros room dump refl refl ∙ rw (worked.whole, its_hopless party),
  )

  -- what is stored then
  abbrev order : List Route
  order = route party (ip 10 0 0 0) 8 1 ∷ []

  -- for the party 10.2.2.3 gets the hop of the list's second place
  found_met : Finds (lookup t one.memory party (ip 10 2 2 3)) (route party (ip 10 0 0 0) 8 1)
  unfolding showing
  found_met = finds_longest after party worked.known (ip 10 2 2 3) (lit< tt) (route party (ip 10 0 0 0) 8 1) (rw worked.own (right (ip 10 2 2 3) order))

  -- a table newly cleared, to which 10/8 is added, gives the rest of a dump the same
  anew : History t (adds order) (run t empty (adds order)).answers (run t empty (adds order)).last
  unfolding adds all_word_sized word_sized
  anew = history_of before worked.cleared (made t empty (adds order) refl)

  same_met : SameGiven (import_chunk t (run t empty (adds order)).last party hops zeros zeros room dump) (import_chunk t one.memory party hops zeros zeros room dump)
  unfolding all_word_sized run each showing
  same_met = same_imports after (First (route party (ip 10 0 0 0) 8 1) Nothing) anew (made t one.memory [] refl) (made t (run t empty (adds order)).last [] refl) party hops zeros zeros room dump refl refl

-- ---- Both parties

-- after party 0's dump, the same one for party 1, with a list of next hops of its own
abbrev theirs : Chunked
theirs = import_chunk T (one at_T).memory 1 (ip 192 0 2 1 ∷ []) zeros zeros room dump

abbrev their_calls : List Call
their_calls = Add 1 (ip 10 0 0 0) 8 0 ∷ []

theirs_done : imported_calls 1 (ip 192 0 2 1 ∷ []) zeros room dump theirs.number ≡ their_calls
unfolding dumping
theirs_done = refl

their_numbers : (paper T (stored_by (calls 0) (0 ∷ [])) their_calls).answers ≡ 0 ∷ []
unfolding dumping
their_numbers = refl

theirs_given : (run T (one at_T).memory their_calls).answers ≡ 0 ∷ []
theirs_given = rw theirs_done at (import_numbers (after at_T) 1 (ip 192 0 2 1 ∷ []) zeros zeros room dump refl refl) ∙ their_numbers

both_after : History T (calls 0 ++ their_calls) (0 ∷ 0 ∷ []) theirs.memory
both_after = rw (theirs_done, theirs_given) at (import_history (after at_T) 1 (ip 192 0 2 1 ∷ []) zeros zeros room dump refl refl)

-- each party finds its own route
theirs_met : Finds (lookup T theirs.memory 0 (ip 10 2 2 3)) (route 0 (ip 10 0 0 0) 8 1) × Finds (lookup T theirs.memory 1 (ip 10 2 2 3)) (route 1 (ip 10 0 0 0) 8 0)
unfolding showing
theirs_met = (
  finds_longest both_after 0 (lit≤ tt) (ip 10 2 2 3) (lit< tt) (route 0 (ip 10 0 0 0) 8 1) (right (ip 10 2 2 3) (route 0 (ip 10 0 0 0) 8 1 ∷ [])),
  finds_longest both_after 1 (lit≤ tt) (ip 10 2 2 3) (lit< tt) (route 1 (ip 10 0 0 0) 8 0) (right (ip 10 2 2 3) (route 1 (ip 10 0 0 0) 8 0 ∷ [])),
)
