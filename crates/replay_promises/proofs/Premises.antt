-- The promises' premises are met by a worked day, of either party, under settings T and under filters of unequal size: what a
-- chunk is given is computed, and handed to the promise. The room is short, which the definitions allow.
use Prim.Native.Nat.{ℕ, ◌≤◌}
use mathlib.Core.Path.{◌≡◌, refl, ap, ◌∙◌}
use mathlib.Core.Bool.{true, false}
use mathlib.Core.List.{List, [], ◌∷◌, ◌++◌}
use native.Mathlib.Omega.{arith}
use lib.Dec.{lit<, lit≤}
use lib.ListN.{get_or, replicate, take, drop}
use lib.Pow.{are_bytes}
use Rattle.rules.specs.declared.Settings.{Settings}
use Rattle.rules.specs.Tools.{fed, input_of}
use Rattle.rules.specs.Table.{Memory, lookup}
use Rattle.rules.specs.Calls.{Call, Clear, Add, word_sized, all_word_sized, act, each, run}
use Rattle.rules.proofs.Worked.{ip, T}
use Rattle.message_format.specs.Reading.{apply_message}
use Rattle.message_format.proofs.Worked.{computing as reading}
use Rattle.stream_format.specs.Streams.{is_kind, body_size, to_read, to_step_over, header_read, next_byte, unless_ended, completed, byte_taken, chunk_taken}
use Rattle.stream_format.specs.Kept.{ended_word, read_word, left_word, is_ended, ended_number, is_body, stage_of, words_of, inside_record, end_number, end_stream}
use Rattle.stream_format.specs.Chunks.{record_done, record_over, doing, chunk_refusal, Chunked, stage_number, lent_back, taken_up, as_it_was, take_chunk}
use Rattle.stream_format.proofs.Ends.{inside}
use Rattle.replay_format.specs.Messages.{day_kind, as_size, family_from, addresses_from, message_from, message_of, is_ipv4, is_update, too_short, holds_update, record_bad, is_applied, record_calls}
use Rattle.replay_format.specs.Replaying.{refused_under, tally_more, tally_of, tally_words, tally_high, replaying, replay_chunk}
use Rattle.promises.specs.History.{Route, routes_of, route, on_paper, stored_by, History}
use Rattle.promises.specs.Demands.{some_below, Finds, First, Nothing, paper, adds}
use Rattle.promises.proofs.Showing.{sevens, showing}
use Rattle.promises.proofs.Premises.{U}
use Rattle.promises.proofs.Histories.{made, history_of}
use Rattle.promises.proofs.Matches.{right}
use Rattle.promises.proofs.Promises.{finds_longest}
use Rattle.stream_promises.specs.Noted.{record_noted, noting, chunk_records, calls_of, untaken, taken_records, taken_calls, some_high, over_limit, next_chunk, NoMore, Chunk, SameStream, SameGiven}
use Rattle.stream_promises.proofs.Refused.{ended_unchanged, refused_unchanged, goes_on, has_ended, end_numbers, end_stays}
use Rattle.replay_promises.specs.Days.{replayed_records, replayed_calls, Replays, day_records, applied_of, Tallied, updates_of, messages_applied}
use Rattle.replay_promises.proofs.Cuts.{any_cut, any_cut_whole}
use Rattle.replay_promises.proofs.Messages.{replay_messages, day_messages}
use Rattle.replay_promises.proofs.Promises.{replay_refused, replay_unknown, replay_taken, replay_history, replay_numbers, replay_counts, day_counts, same_replays}
use Rattle.replay_promises.proofs.Laws.{lawful}

-- to unfold this is to unfold all that a replay computes with
unfoldable replays : ℕ
unfolding fed is_kind body_size to_read to_step_over header_read next_byte unless_ended completed byte_taken chunk_taken ended_word read_word left_word is_ended ended_number is_body stage_of words_of inside_record end_number end_stream record_done record_over doing chunk_refusal stage_number lent_back taken_up take_chunk as_size family_from addresses_from message_from message_of is_ipv4 is_update too_short holds_update record_bad is_applied record_calls refused_under tally_more tally_of tally_words tally_high replaying replay_chunk record_noted noting chunk_records calls_of untaken taken_records taken_calls some_high over_limit next_chunk applied_of updates_of input_of some_below paper adds reading showing
replays = 0

abbrev ones : List ℕ
ones = replicate 16 255

-- an UPDATE that announces 10/8 and 127/8 with the hop of 192.0.2.1; the second one is odd
abbrev pub message : List ℕ
message = ones ++ 0 ∷ 34 ∷ 2 ∷ 0 ∷ 0 ∷ 0 ∷ 7 ∷ 64 ∷ 3 ∷ 4 ∷ 192 ∷ 0 ∷ 2 ∷ 1 ∷ 8 ∷ 10 ∷ 8 ∷ 127 ∷ []

-- a record with it, one of another kind, and one with a KEEPALIVE
abbrev pub day : List ℕ
day =
    (0 ∷ 0 ∷ 0 ∷ 0 ∷ 0 ∷ 16 ∷ 0 ∷ 4 ∷ 0 ∷ 0 ∷ 0 ∷ 54 ∷ [])
    ++ (0 ∷ 0 ∷ 0 ∷ 1 ∷ 0 ∷ 0 ∷ 0 ∷ 2 ∷ 0 ∷ 0 ∷ 0 ∷ 1 ∷ 192 ∷ 0 ∷ 2 ∷ 1 ∷ 192 ∷ 0 ∷ 2 ∷ 2 ∷ [])
    ++ message
    ++ (0 ∷ 0 ∷ 0 ∷ 0 ∷ 0 ∷ 13 ∷ 0 ∷ 1 ∷ 0 ∷ 0 ∷ 0 ∷ 0 ∷ [])
    ++ (0 ∷ 0 ∷ 0 ∷ 0 ∷ 0 ∷ 16 ∷ 0 ∷ 1 ∷ 0 ∷ 0 ∷ 0 ∷ 35 ∷ [])
    ++ (0 ∷ 1 ∷ 0 ∷ 2 ∷ 0 ∷ 0 ∷ 0 ∷ 1 ∷ 192 ∷ 0 ∷ 2 ∷ 1 ∷ 192 ∷ 0 ∷ 2 ∷ 2 ∷ [])
    ++ ones
    ++ 0 ∷ 19 ∷ 4 ∷ []

abbrev pub hops : List ℕ
hops = ip 198 51 100 1 ∷ ip 192 0 2 1 ∷ []

abbrev pub zeros : List ℕ
zeros = 0 ∷ 0 ∷ 0 ∷ []

abbrev pub none_yet : List ℕ
none_yet = replicate 23 0

abbrev pub room : List ℕ
room = replicate 100 0

abbrev pub calls : (party : ℕ) → List Call
calls party = Add party (ip 10 0 0 0) 8 1 ∷ Add party (ip 127 0 0 0) 8 1 ∷ []

abbrev pub answers : List ℕ
answers = 0 ∷ 11 ∷ []

-- its two calls, the party's
pub its_calls : (party : ℕ) → replayed_calls party hops zeros room day 0 ≡ calls party
unfolding replays
its_calls party = refl

-- and its one UPDATE
its_updates : (party : ℕ) → updates_of (replayed_records party hops zeros room day 0) ≡ message ∷ []
unfolding replays
its_updates party = refl

-- so it is in two chunks
abbrev halves : List (List ℕ)
halves = take 20 day ∷ drop 20 day ∷ []

halves_calls : (party : ℕ) → calls_of (replaying party hops) (chunk_records (replaying party hops) zeros room (input_of halves)) ≡ calls party
unfolding replays
halves_calls party = refl

halves_updates : (party : ℕ) → updates_of (chunk_records (replaying party hops) zeros room (input_of halves)) ≡ message ∷ []
unfolding replays
halves_updates party = refl

halves_bytes : are_bytes (input_of halves) ≡ true
unfolding input_of
halves_bytes = refl

-- a replay into a table newly cleared, on memory that held anything
abbrev begin : Settings → (before : Memory) → Chunked
begin t before = record { number = 0; counts = none_yet; words = zeros; room = room; memory = (act t Clear before).memory }

-- what is computed under settings t for a party: the day as one chunk, cut within the first body, and with a body of no bytes
record Worked (t : Settings) (party : ℕ) (before : Memory) : Type 0 where
  cleared : (act t Clear before).refusal ≡ 0
  known : party ≤ 1
  numbers : (paper t [] (calls party)).answers ≡ answers
  own : routes_of party (stored_by (calls party) answers) ≡ route party (ip 10 0 0 0) 8 1 ∷ []
  whole : (next_chunk t (replaying party hops) (begin t before) day).number ≡ 0
  first : (next_chunk t (replaying party hops) (begin t before) (take 20 day)).number ≡ 0
  second : (next_chunk t (replaying party hops) (next_chunk t (replaying party hops) (begin t before) (take 20 day)) (drop 20 day)).number ≡ 0
  left : (next_chunk t (replaying party hops) (begin t before) (take 20 day)).words ≡ 0 ∷ 20 ∷ 46 ∷ []
  ended : (next_chunk t (replaying party hops) (begin t before) (take 11 day ++ 0 ∷ [])).number ≡ 12

at_T : Worked T 0 sevens
unfolding replays
at_T = record { cleared = refl; known = lit≤ tt; numbers = refl; own = refl; whole = refl; first = refl; second = refl; left = refl; ended = refl }

at_T_1 : Worked T 1 sevens
unfolding replays
at_T_1 = record { cleared = refl; known = lit≤ tt; numbers = refl; own = refl; whole = refl; first = refl; second = refl; left = refl; ended = refl }

at_U : Worked U 1 (record { counters = replicate 688 7; slots = replicate 258 7 })
unfolding replays
at_U = record { cleared = refl; known = lit≤ tt; numbers = refl; own = refl; whole = refl; first = refl; second = refl; left = refl; ended = refl }

module _ {t : Settings} {party : ℕ} {before : Memory} (worked : Worked t party before) where
  abbrev empty : Memory
  empty = (act t Clear before).memory

  abbrev start : Chunked
  start = begin t before

  begun : History t [] [] empty
  unfolding all_word_sized showing
  begun = history_of before worked.cleared (made t empty [] refl)

  -- ---- Two cuttings

  abbrev one : Chunked
  one = next_chunk t (replaying party hops) start day

  abbrev half : Chunked
  half = next_chunk t (replaying party hops) start (take 20 day)

  abbrev other : Chunked
  other = next_chunk t (replaying party hops) half (drop 20 day)

  -- a chunk that is given 0 is taken
  with_0 : {number : ℕ} → number ≡ 0 → untaken number ≡ false
  unfolding untaken
  with_0 none = rw none

  in_one : Replays t party hops start (day ∷ []) one
  in_one = Chunk (with_0 worked.whole) NoMore

  in_two : Replays t party hops start halves other
  in_two = Chunk (with_0 worked.first) (Chunk (with_0 worked.second) NoMore)

  -- they come to the same
  cut_met : SameStream (replaying party hops) one other
  unfolding input_of
  cut_met = any_cut t party hops refl in_one in_two

  cut_whole_met : one ≡ other
  unfolding input_of
  cut_whole_met = any_cut_whole t party hops refl in_one in_two

  -- ---- Numbers given back

  -- with a figure above the limit it is refused with 19, and leaves all as it was
  abbrev high : List ℕ
  high = replicate 22 0 ++ 4000000001 ∷ []

  high_met : (replay_chunk t empty party hops high zeros room day).number ≡ 19
  unfolding replays
  high_met = (replay_refused begun party hops high zeros room day refl).1 refl

  unchanged_met : replay_chunk t empty party hops high zeros room day ≡ as_it_was 19 empty high zeros room
  unfolding replay_chunk untaken
  unchanged_met = refused_unchanged (lawful party hops) t empty high zeros room day (rw high_met) ∙ ap (λ number. as_it_was number empty high zeros room) high_met

  -- within it a chunk of party 2's is refused with 15
  unknown_met : (replay_chunk t empty 2 hops none_yet zeros room day).number ≡ 15
  unfolding replays
  unknown_met = (replay_unknown begun 2 hops none_yet zeros room day refl).1 (refl, lit< tt)

  -- within it, it is taken, and the stream goes on
  taken_met : untaken one.number ≡ false
  unfolding replays
  taken_met = (replay_taken begun party hops none_yet zeros room day refl).1 (refl, worked.known)

  goes_on_met : is_ended one.words ≡ false
  unfolding next_chunk replay_chunk is_ended ended_word
  goes_on_met = goes_on (lawful party hops) t empty none_yet zeros room day refl worked.whole

  -- within a record the end gives 17, and then every chunk is given that
  end_met : (end_stream half.words).number ≡ 17
  unfolding replays inside
  end_met = rw worked.left (end_numbers (0 ∷ 20 ∷ 46 ∷ []) refl day_kind room)

  end_stays_met : (replay_chunk t empty party hops none_yet (end_stream half.words).words room day).number ≡ 17
  unfolding replay_chunk
  end_stays_met = ap (λ i. i.number) (end_stays half.words (replaying party hops) t empty none_yet room day).0 ∙ end_met

  -- a record of no bytes ends the replay with 12, and then every chunk is given that
  abbrev bad : Chunked
  bad = next_chunk t (replaying party hops) start (take 11 day ++ 0 ∷ [])

  bad_met : (next_chunk t (replaying party hops) bad day).number ≡ 12
  unfolding next_chunk replay_chunk untaken is_ended ended_word
  bad_met =
      let over = has_ended (lawful party hops) t empty none_yet zeros room (take 11 day ++ 0 ∷ []) refl (rw worked.ended) (rw worked.ended (omega arith)) in
      ap (λ i. i.number) (ended_unchanged (replaying party hops) t bad.memory bad.counts bad.words bad.room day over.0) ∙ over.1 ∙ worked.ended

  -- ---- The history

  its_done : replayed_calls party hops zeros room day one.number ≡ calls party
  its_done = rw worked.whole (its_calls party)

  given : (run t empty (calls party)).answers ≡ answers
  unfolding stored_by on_paper next_chunk replay_chunk
  given = rw its_done at (replay_numbers begun party hops none_yet zeros room day refl refl) ∙ worked.numbers

  after : History t (calls party) answers one.memory
  unfolding next_chunk replay_chunk
  after = rw (its_done, given) at (replay_history begun party hops none_yet zeros room day refl refl)

  -- three records are seen, one UPDATE is applied, one route is accepted, and one is refused under 11
  tally_met : Tallied hops none_yet one.counts (replayed_records party hops zeros room day 0) answers
  unfolding next_chunk replay_chunk stored_by on_paper
  tally_met = rw (its_done, worked.whole, worked.numbers) at (replay_counts begun party hops none_yet zeros room day refl refl)

  figures_met : (get_or one.counts 0 0 ≡ 3) × (get_or one.counts 1 0 ≡ 1) × (get_or one.counts 2 0 ≡ 1) × (get_or one.counts 14 0 ≡ 1)
  unfolding replays
  figures_met = (tally_met.seen, tally_met.applied, tally_met.accepted, tally_met.refused 11 (omega arith) (omega arith))

  -- so it is with the day in two chunks
  day_met : Tallied hops none_yet other.counts (day_records party hops start halves) answers
  unfolding stored_by on_paper
  day_met = rw (halves_calls party, worked.numbers) at (day_counts party hops in_two begun refl halves_bytes)

  -- either leaves the table that the message call leaves of its one UPDATE
  message_met : one.memory ≡ (apply_message t empty party message hops).memory
  unfolding next_chunk replay_chunk messages_applied
  message_met = replay_messages t party hops empty none_yet zeros room day ∙ rw (worked.whole, its_updates party)

  day_message_met : other.memory ≡ (apply_message t empty party message hops).memory
  unfolding messages_applied
  day_message_met = day_messages t party hops in_two ∙ rw (halves_updates party)

  -- what is stored then
  abbrev order : List Route
  order = route party (ip 10 0 0 0) 8 1 ∷ []

  -- for the party 10.2.2.3 gets the hop of the list's second place
  found_met : Finds (lookup t one.memory party (ip 10 2 2 3)) (route party (ip 10 0 0 0) 8 1)
  unfolding showing
  found_met = finds_longest after party worked.known (ip 10 2 2 3) (lit< tt) (route party (ip 10 0 0 0) 8 1) (rw worked.own (right (ip 10 2 2 3) order))

  -- a table newly cleared, to which 10/8 is added, gives the rest of a day the same
  anew : History t (adds order) (run t empty (adds order)).answers (run t empty (adds order)).last
  unfolding adds all_word_sized word_sized
  anew = history_of before worked.cleared (made t empty (adds order) refl)

  same_met : SameGiven (replay_chunk t (run t empty (adds order)).last party hops none_yet zeros room day) (replay_chunk t one.memory party hops none_yet zeros room day)
  unfolding all_word_sized run each showing
  same_met = same_replays after (First (route party (ip 10 0 0 0) 8 1) Nothing) anew (made t one.memory [] refl) (made t (run t empty (adds order)).last [] refl) party hops none_yet zeros room day refl refl

-- ---- Both parties

-- after party 0's day, the same one for party 1, with a list of next hops of its own
abbrev theirs : Chunked
theirs = replay_chunk T (one at_T).memory 1 (ip 192 0 2 1 ∷ []) none_yet zeros room day

abbrev their_calls : List Call
their_calls = Add 1 (ip 10 0 0 0) 8 0 ∷ Add 1 (ip 127 0 0 0) 8 0 ∷ []

theirs_done : replayed_calls 1 (ip 192 0 2 1 ∷ []) zeros room day theirs.number ≡ their_calls
unfolding replays
theirs_done = refl

their_numbers : (paper T (stored_by (calls 0) answers) their_calls).answers ≡ answers
unfolding replays
their_numbers = refl

theirs_given : (run T (one at_T).memory their_calls).answers ≡ answers
theirs_given = rw theirs_done at (replay_numbers (after at_T) 1 (ip 192 0 2 1 ∷ []) none_yet zeros room day refl refl) ∙ their_numbers

both_after : History T (calls 0 ++ their_calls) (answers ++ answers) theirs.memory
both_after = rw (theirs_done, theirs_given) at (replay_history (after at_T) 1 (ip 192 0 2 1 ∷ []) none_yet zeros room day refl refl)

-- each party finds its own route
theirs_met : Finds (lookup T theirs.memory 0 (ip 10 2 2 3)) (route 0 (ip 10 0 0 0) 8 1) × Finds (lookup T theirs.memory 1 (ip 10 2 2 3)) (route 1 (ip 10 0 0 0) 8 0)
unfolding showing
theirs_met = (
  finds_longest both_after 0 (lit≤ tt) (ip 10 2 2 3) (lit< tt) (route 0 (ip 10 0 0 0) 8 1) (right (ip 10 2 2 3) (route 0 (ip 10 0 0 0) 8 1 ∷ [])),
  finds_longest both_after 1 (lit≤ tt) (ip 10 2 2 3) (lit< tt) (route 1 (ip 10 0 0 0) 8 0) (right (ip 10 2 2 3) (route 1 (ip 10 0 0 0) 8 0 ∷ [])),
)
