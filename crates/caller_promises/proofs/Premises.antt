-- Calls of crates/table, crates/message_calls, crates/import_calls and crates/replay_calls as they were made, at their own types,
-- meet the premises, of either party: each is written down with its arguments and what it gave back, and handed to the promises.
use Prim.Native.Nat.{ℕ, zero, suc}
use mathlib.Core.Path.{◌≡◌, refl}
use mathlib.Core.Bool.{true}
use mathlib.Core.List.{List, [], ◌∷◌, ◌++◌, map}
use native.Mathlib.Omega.{arith}
use lib.Dec.{ltb, lit<, lit≤}
use lib.ListN.{length, replicate}
use lib.Pow.{are_bytes}
use mir.Syntax.{w8, w32}
use mir.Val.{Val, vint}
use contract.Lifetimes.{Lfts}
use denote.Array.{each, array_val}
use denote.Laws.{Is}
use denote.Ref.{Bor, MutBor}
use denote.Shadow.{shadow}
use denote.Struct.Declared.{row}
use denote.Struct.Field.{u8-field}
use denote.Struct.Laws.{val}
use borrow.Author.Tests.{ltb-true}
use Rattle.std.specs.Prelude.{Ok, Err, Some}
use Rattle.rules.specs.declared.Settings.{Settings}
use Rattle.rules.specs.declared.Refusal.TheVariants.{BadRoom}
use Rattle.rules.specs.Tools.{any, count, fed}
use Rattle.rules.specs.Table.{Memory, lent, clear, add, lookup, answer_words, list_words, listed, fourfold, list_refusal, lookup_list}
use Rattle.rules.specs.Calls.{Clear, Add}
use Rattle.rules.proofs.Members.{both}
use Rattle.rules.specs.contracts.Settings.{the_type}
use Rattle.rules.proofs.Settings.TheLaws.{the_laws}
use Rattle.rules.proofs.Worked.{ip, T}
use Rattle.message_format.specs.Reading.{apply_message}
use Rattle.message_format.proofs.Worked.{computing as reading}
use Rattle.stream_format.specs.Streams.{is_kind, body_size, to_read, to_step_over, header_read, next_byte, unless_ended, completed, byte_taken, chunk_taken}
use Rattle.stream_format.specs.Kept.{ended_word, read_word, left_word, is_ended, ended_number, is_body, stage_of, words_of, inside_record, end_number, end_stream}
use Rattle.import_format.specs.Routes.{entries_count, entries_from, entry_attributes, after_entry, entry_starts, entries_to, entries, entry_good, ends_well, record_good, entry_hop, chosen_hop, route_hop, record_calls}
use Rattle.stream_format.specs.Chunks.{record_done, record_over, doing, chunk_refusal, Chunked, chunked, stage_number, lent_back, taken_up, take_chunk}
use Rattle.import_format.specs.Importing.{counts_more, importing, counts_of, counts_words, counts_high, import_chunk}
use Rattle.replay_format.specs.Messages.{as_size, family_from, addresses_from, message_from, message_of, is_ipv4, is_update, too_short, holds_update, record_bad, is_applied, record_calls as update_calls}
use Rattle.replay_format.specs.Replaying.{refused_under, tally_more, tally_of, tally_words, tally_high, replaying, replay_chunk}
use Rattle.promises.specs.History.{routes_of, route, stored_by, History, Stop, Then}
use Rattle.promises.specs.Demands.{Finds, SaysNone, Words, answer_at, paper}
use Rattle.promises.specs.Parties.{is_call_of, no_clear, made_by, SameRoute}
use Rattle.promises.proofs.Showing.{sevens, showing}
use Rattle.promises.proofs.Matches.{right}
use Rattle.promises.proofs.Premises.{U}
use Rattle.promises.proofs.Promises.{finds_longest, says_none}
use Rattle.message_promises.specs.Heard.{heard_calls}
use Rattle.message_promises.proofs.Premises.{message, hops, calls}
use Rattle.stream_promises.specs.Noted.{record_noted, noting, chunk_records, calls_of, untaken, taken_records, taken_calls, next_chunk}
use Rattle.import_promises.specs.Dumps.{Imports}
use Rattle.replay_promises.specs.Days.{Replays}
use Rattle.caller_promises.proofs.Contracts.{Called, ClearCalled, AddCalled, Looked, LookupCalled, looked_given, looked_word, ListCalled, LookupListCalled, place_looked}
use Rattle.caller_promises.proofs.Messages.{MessageCalled, ApplyMessageCalled}
use Rattle.caller_promises.proofs.Streams.{EndCalled, EndStreamCalled, NoneLeft, Next}
use Rattle.caller_promises.proofs.Imports.{ImportCalled, ImportChunkCalled, called_imports}
use Rattle.caller_promises.proofs.Replays.{ReplayCalled, ReplayChunkCalled, called_replays}
use Rattle.caller_promises.proofs.Callers.{Single, Addresses, Heard, Imported, Replayed, served_history, served_stores, served_same_for_party}

-- T's settings with this list of D
abbrev with_list : (d : List ℕ) → Settings
with_list d = record { k = 2; d = d; e = 1; s = 2; a = 1; b = 2; c = 1 }

-- they are a struct of six numbers of 32 bits and an array of 32 bytes
abbrev word : ℕ → List Val
word n = vint w32 n ∷ []

each_byte : (d : List ℕ) → are_bytes d ≡ true → shadow (each ℕ u8-field.row.own_val d (map (vint w8) d))
each_byte [] small = tt
each_byte (D ∷ d) small =
    let parts = both (ltb D 256) (are_bytes d) small in
    ((refl, ltb-true D 256 parts.0), each_byte d parts.1)

pub settings_good : (d : List ℕ) → are_bytes d ≡ true → length d ≡ 32 → Is (row the_type) (with_list d) (val the_type the_laws (with_list d) ∷ [])
settings_good d small long = (
  (word 2, (array_val (map (vint w8) d) ∷ [], (word 1, (word 2, (word 1, (word 2, (word 1, tt))))))),
  (refl, ((refl, lit< tt), ((map (vint w8) d, ((refl, long), each_byte d small)), ((refl, lit< tt), ((refl, lit< tt), ((refl, lit< tt), ((refl, lit< tt), ((refl, lit< tt), tt)))))))),
)

-- a list as it is lent
abbrev pub lending : List ℕ → Bor (List ℕ)
lending xs = record { ref_ptr = (0, 0); now = xs }

-- and as it is lent to be written
abbrev pub writing : List ℕ → MutBor (List ℕ)
writing xs = record { ref_ptr = (0, 0); ghost_name = 0; now = xs }

abbrev lifetimes : Lfts 2
lifetimes = ([], ([], tt))

-- the memory cleared, with 10/8 added for party 1, and then with 10/8 added for party 0 too
abbrev pub empty : Memory
empty = (clear T sevens).memory

abbrev one : Memory
one = (add T empty 1 (ip 10 0 0 0) 8 7).memory

abbrev two : Memory
two = (add T one 0 (ip 10 0 0 0) 8 5).memory

pub clear_called : Called T Clear sevens 0 empty
unfolding showing
clear_called = ClearCalled lifetimes (T, (writing sevens.counters, (writing sevens.slots, tt))) (Ok tt) (T, (writing empty.counters, (writing empty.slots, tt)))
    (settings_good (replicate 32 4) refl refl, ((lit< tt, lit< tt), ((lit< tt, lit< tt), tt))) refl

add_called : Called T (Add 1 (ip 10 0 0 0) 8 7) empty 0 one
unfolding showing
add_called = AddCalled lifetimes (T, (writing empty.counters, (writing empty.slots, (1, (ip 10 0 0 0, (8, (7, tt))))))) (Ok tt) (T, (writing one.counters, (writing one.slots, (1, (ip 10 0 0 0, (8, (7, tt)))))))
    (settings_good (replicate 32 4) refl refl, ((lit< tt, lit< tt), ((lit< tt, lit< tt), ((refl, lit< tt), ((refl, lit< tt), ((refl, lit< tt), ((refl, lit< tt), tt))))))) refl

other_called : Called T (Add 0 (ip 10 0 0 0) 8 5) one 0 two
unfolding showing
other_called = AddCalled lifetimes (T, (writing one.counters, (writing one.slots, (0, (ip 10 0 0 0, (8, (5, tt))))))) (Ok tt) (T, (writing two.counters, (writing two.slots, (0, (ip 10 0 0 0, (8, (5, tt)))))))
    (settings_good (replicate 32 4) refl refl, ((lit< tt, lit< tt), ((lit< tt, lit< tt), ((refl, lit< tt), ((refl, lit< tt), ((refl, lit< tt), ((refl, lit< tt), tt))))))) refl

-- ---- Lookups

looked : Looked T one 1 (ip 10 2 2 3) (lookup T one 1 (ip 10 2 2 3))
unfolding showing
looked = LookupCalled lifetimes (T, (lending one.counters, (lending one.slots, (1, (ip 10 2 2 3, tt))))) (Ok (record { route = Some (record { hop = 7; length = 8 }); probes = 1 })) (T, (lending one.counters, (lending one.slots, (1, (ip 10 2 2 3, tt)))))
    (settings_good (replicate 32 4) refl refl, ((lit< tt, lit< tt), ((lit< tt, lit< tt), ((refl, lit< tt), ((refl, lit< tt), tt))))) refl

-- 10.2.2.3 and 11.0.0.1, and eight words for their results
abbrev addresses : List ℕ
addresses = ip 10 2 2 3 ∷ ip 11 0 0 1 ∷ []

abbrev nines : List ℕ
nines = replicate 8 9

abbrev two_answers : List ℕ
two_answers = 1 ∷ 7 ∷ 8 ∷ 1 ∷ 0 ∷ 0 ∷ 0 ∷ 0 ∷ []

addresses_sized : Words addresses
addresses_sized zero inside = lit< tt
addresses_sized (suc zero) inside = lit< tt
addresses_sized (suc (suc i)) inside = absurd (omega arith)

list_called : ListCalled T one 1 addresses nines 0 two_answers
unfolding showing answer_words list_words listed fourfold list_refusal lookup_list
list_called = LookupListCalled ([], ([], ([], ([], tt))))
    (T, (lending one.counters, (lending one.slots, (1, (lending addresses, (writing nines, tt)))))) (Ok tt)
    (T, (lending one.counters, (lending one.slots, (1, (lending addresses, (writing two_answers, tt))))))
    (settings_good (replicate 32 4) refl refl, ((lit< tt, lit< tt), ((lit< tt, lit< tt), ((refl, lit< tt), ((lit< tt, lit< tt), ((lit< tt, lit< tt), tt)))))) addresses_sized refl

-- seven words are refused with 18, and stay as they were
list_short : ListCalled T empty 0 addresses (replicate 7 9) 18 (replicate 7 9)
unfolding showing answer_words list_words listed fourfold list_refusal lookup_list
list_short = LookupListCalled ([], ([], ([], ([], tt))))
    (T, (lending empty.counters, (lending empty.slots, (0, (lending addresses, (writing (replicate 7 9), tt)))))) (Err BadRoom)
    (T, (lending empty.counters, (lending empty.slots, (0, (lending addresses, (writing (replicate 7 9), tt))))))
    (settings_good (replicate 32 4) refl refl, ((lit< tt, lit< tt), ((lit< tt, lit< tt), ((refl, lit< tt), ((lit< tt, lit< tt), ((lit< tt, lit< tt), tt)))))) addresses_sized refl

-- ---- A history

-- a table was cleared, and served a list that it refused, an add, and a list that it accepted
one_served : History T (Add 1 (ip 10 0 0 0) 8 7 ∷ []) (0 ∷ []) one
one_served = served_history clear_called (Then (Addresses list_short) (Then (Single add_called) (Then (Addresses list_called) Stop)))

-- for party 1 10.2.2.3 finds the route,
looked_met : Finds (lookup T one 1 (ip 10 2 2 3)) (route 1 (ip 10 0 0 0) 8 7)
unfolding showing
looked_met = finds_longest one_served 1 (lit≤ tt) (ip 10 2 2 3) (looked_word looked) (route 1 (ip 10 0 0 0) 8 7) (right (ip 10 2 2 3) (routes_of 1 (stored_by (Add 1 (ip 10 0 0 0) 8 7 ∷ []) (0 ∷ []))))

-- as the first place of the list does, of which the second says none
list_found : Finds (answer_at two_answers 0) (route 1 (ip 10 0 0 0) 8 7)
unfolding showing
list_found = rw (looked_given (place_looked list_called refl 0 (lit< tt))) looked_met

list_none : SaysNone (answer_at two_answers 1)
unfolding showing
list_none = rw (looked_given (place_looked list_called refl 1 (lit< tt)))
    (says_none one_served 1 (lit≤ tt) (ip 11 0 0 1) (lit< tt) (right (ip 11 0 0 1) (routes_of 1 (stored_by (Add 1 (ip 10 0 0 0) 8 7 ∷ []) (0 ∷ [])))))

-- and for party 0 nothing matches 10.2.2.3
other_none : SaysNone (lookup T one 0 (ip 10 2 2 3))
unfolding showing
other_none = says_none one_served 0 (lit≤ tt) (ip 10 2 2 3) (lit< tt) (right (ip 10 2 2 3) (routes_of 0 (stored_by (Add 1 (ip 10 0 0 0) 8 7 ∷ []) (0 ∷ []))))

-- party 1 is told the same whether or not party 0 adds its own 10/8
alike_met : SameRoute (lookup T one 1 (ip 10 2 2 3)) (lookup T two 1 (ip 10 2 2 3))
unfolding made_by is_call_of no_clear
alike_met = served_same_for_party clear_called (Then (Single add_called) Stop) clear_called (Then (Single add_called) (Then (Single other_called) Stop)) refl refl 1 refl (ip 10 2 2 3) (lit< tt)

-- ---- A message, under filters of unequal size

-- lent memory of the sizes of U that held sevens, and what a clear leaves of it
abbrev before_U : Memory
before_U = lent (replicate 688 7) (replicate 258 7)

abbrev empty_U : Memory
empty_U = (clear U before_U).memory

-- what party 1's message leaves, which withdraws 11/8, not stored, and announces 10/8 with the hop of 192.0.2.1
abbrev told : Memory
told = (apply_message U empty_U 1 message hops).memory

clear_called_U : Called U Clear before_U 0 empty_U
unfolding showing
clear_called_U = ClearCalled lifetimes (U, (writing before_U.counters, (writing before_U.slots, tt))) (Ok tt) (U, (writing empty_U.counters, (writing empty_U.slots, tt)))
    (settings_good U.d refl refl, ((lit< tt, lit< tt), ((lit< tt, lit< tt), tt))) refl

message_called : MessageCalled U empty_U 1 message hops (record { refusal = 0; accepted = 1; refused = 1 }) told
unfolding reading showing
message_called = ApplyMessageCalled ([], ([], ([], ([], tt))))
    (U, (writing empty_U.counters, (writing empty_U.slots, (1, (lending message, (lending hops, tt)))))) (Ok (record { accepted = 1; refused = 1 }))
    (U, (writing told.counters, (writing told.slots, (1, (lending message, (lending hops, tt))))))
    (settings_good U.d refl refl, ((lit< tt, lit< tt), ((lit< tt, lit< tt), ((refl, lit< tt), ((lit< tt, lit< tt), ((lit< tt, lit< tt), tt)))))) refl refl

-- the first call is refused, and the second accepted
message_served : History U calls (7 ∷ 0 ∷ []) told
unfolding heard_calls reading showing
message_served = served_history clear_called_U (Then (Heard message_called) Stop)

-- what is stored is what the two calls leave on paper
message_stored : stored_by calls (7 ∷ 0 ∷ []) ≡ (paper U [] calls).last
unfolding heard_calls reading showing
message_stored = served_stores clear_called_U (Then (Heard message_called) Stop)

-- for party 1 10.2.2.3 gets the hop of the list's second place
message_found : Finds (lookup U told 1 (ip 10 2 2 3)) (route 1 (ip 10 0 0 0) 8 1)
unfolding showing
message_found = finds_longest message_served 1 (lit≤ tt) (ip 10 2 2 3) (lit< tt) (route 1 (ip 10 0 0 0) 8 1) (right (ip 10 2 2 3) (routes_of 1 (stored_by calls (7 ∷ 0 ∷ []))))

-- ---- A dump of one record, in one chunk

-- to unfold this is to unfold all that a chunk computes with
unfoldable pub filling : ℕ
unfolding fed is_kind body_size to_read to_step_over header_read next_byte unless_ended completed byte_taken chunk_taken ended_word read_word left_word is_ended ended_number is_body stage_of words_of entries_count entries_from entry_attributes after_entry entry_starts entries_to entries entry_good ends_well record_good entry_hop chosen_hop route_hop record_calls counts_more record_done record_over doing importing counts_of counts_words counts_high chunk_refusal stage_number lent_back taken_up take_chunk import_chunk record_noted noting chunk_records calls_of untaken taken_records taken_calls next_chunk reading showing
filling = 0

-- a header of 12 bytes, and a body of 23 with 10/8 and one entry, whose NEXT_HOP is 192.0.2.1
abbrev pub dump : List ℕ
dump =
    0 ∷ 0 ∷ 0 ∷ 0 ∷ 0 ∷ 13 ∷ 0 ∷ 2 ∷ 0 ∷ 0 ∷ 0 ∷ 23
    ∷ 0 ∷ 0 ∷ 0 ∷ 0 ∷ 8 ∷ 10 ∷ 0 ∷ 1
    ∷ 0 ∷ 0 ∷ 0 ∷ 0 ∷ 0 ∷ 0 ∷ 0 ∷ 7 ∷ 64 ∷ 3 ∷ 4 ∷ 192 ∷ 0 ∷ 2 ∷ 1 ∷ []

-- what is lent to the first chunk: nothing is counted, and the words begin a stream
abbrev pub begun : Memory → Chunked
begun m = chunked 0 (replicate 3 0) (replicate 3 0) (replicate 65548 0) m.counters m.slots

abbrev filled : Chunked
filled = next_chunk U (importing 0 hops) (begun empty_U) dump

pub zeros_bytes : (n : ℕ) → are_bytes (replicate n 0) ≡ true
zeros_bytes zero = refl
zeros_bytes (suc n) = zeros_bytes n

import_called : ImportCalled U 0 hops (begun empty_U) dump filled
unfolding next_chunk import_chunk showing
import_called = ImportChunkCalled ([], ([], ([], ([], ([], ([], ([], tt)))))))
    (U, (writing empty_U.counters, (writing empty_U.slots, (0, (lending hops, (writing (replicate 3 0), (writing (replicate 3 0), (writing (replicate 65548 0), (lending dump, tt))))))))) filled.number
    (U, (writing filled.memory.counters, (writing filled.memory.slots, (0, (lending hops, (writing filled.counts, (writing filled.words, (writing filled.room, (lending dump, tt)))))))))
    (settings_good U.d refl refl, ((lit< tt, lit< tt), ((lit< tt, lit< tt), ((refl, lit< tt), ((lit< tt, lit< tt), (refl, (refl, (refl, ((lit< tt, lit< tt), tt))))))))) (zeros_bytes 65548) refl refl

-- its record is party 0's add of 10/8 with the hop of the list's second place, which is accepted
import_served : History U (Add 0 (ip 10 0 0 0) 8 1 ∷ []) (0 ∷ []) filled.memory
unfolding filling
import_served = served_history clear_called_U (Then (Imported import_called) Stop)

counts_met : filled.counts ≡ 1 ∷ 0 ∷ 0 ∷ []
unfolding filling
counts_met = refl

-- for party 0 10.2.2.3 gets that hop
import_found : Finds (lookup U filled.memory 0 (ip 10 2 2 3)) (route 0 (ip 10 0 0 0) 8 1)
unfolding showing
import_found = finds_longest import_served 0 (lit≤ tt) (ip 10 2 2 3) (lit< tt) (route 0 (ip 10 0 0 0) 8 1) (right (ip 10 2 2 3) (routes_of 0 (stored_by (Add 0 (ip 10 0 0 0) 8 1 ∷ []) (0 ∷ []))))

-- the chunk was taken, and the end after it is given 0
chunks_met : Imports U 0 hops (begun empty_U) (dump ∷ []) filled
unfolding filling
chunks_met = called_imports (Next import_called refl NoneLeft)

end_called : EndCalled filled.words 0 (1 ∷ 0 ∷ 0 ∷ [])
unfolding end_stream end_number inside_record filling
end_called = EndStreamCalled ([], tt) (writing filled.words, tt) 0 (writing (1 ∷ 0 ∷ 0 ∷ []), tt) refl

-- ---- A day of one record, in one chunk

-- to unfold this is to unfold all that a chunk of a day computes with
unfoldable pub running : ℕ
unfolding any count as_size family_from addresses_from message_from message_of is_ipv4 is_update too_short holds_update record_bad is_applied update_calls refused_under tally_more tally_of tally_words tally_high replaying replay_chunk filling
running = 0

-- a header of 12 bytes, and a body of 54 with the message above: AS numbers of four bytes, IPv4, and two addresses
abbrev pub day : List ℕ
day =
    0 ∷ 0 ∷ 0 ∷ 0 ∷ 0 ∷ 16 ∷ 0 ∷ 4 ∷ 0 ∷ 0 ∷ 0 ∷ 54
    ∷ 0 ∷ 0 ∷ 0 ∷ 1 ∷ 0 ∷ 0 ∷ 0 ∷ 2 ∷ 0 ∷ 0 ∷ 0 ∷ 1
    ∷ 192 ∷ 0 ∷ 2 ∷ 1 ∷ 192 ∷ 0 ∷ 2 ∷ 2 ∷ message

-- what is lent to the first chunk: nothing is tallied, and the words begin a stream
abbrev pub day_begun : Memory → Chunked
day_begun m = chunked 0 (replicate 23 0) (replicate 3 0) (replicate 65548 0) m.counters m.slots

abbrev run_over : Chunked
run_over = next_chunk U (replaying 1 hops) (day_begun empty_U) day

replay_called : ReplayCalled U 1 hops (day_begun empty_U) day run_over
unfolding next_chunk replay_chunk showing
replay_called = ReplayChunkCalled ([], ([], ([], ([], ([], ([], ([], tt)))))))
    (U, (writing empty_U.counters, (writing empty_U.slots, (1, (lending hops, (writing (replicate 23 0), (writing (replicate 3 0), (writing (replicate 65548 0), (lending day, tt))))))))) run_over.number
    (U, (writing run_over.memory.counters, (writing run_over.memory.slots, (1, (lending hops, (writing run_over.counts, (writing run_over.words, (writing run_over.room, (lending day, tt)))))))))
    (settings_good U.d refl refl, ((lit< tt, lit< tt), ((lit< tt, lit< tt), ((refl, lit< tt), ((lit< tt, lit< tt), (refl, (refl, (refl, ((lit< tt, lit< tt), tt))))))))) (zeros_bytes 65548) refl refl

-- the two calls of its message, party 1's: the first is refused, and the second accepted
replay_served : History U calls (7 ∷ 0 ∷ []) run_over.memory
unfolding running
replay_served = served_history clear_called_U (Then (Replayed replay_called) Stop)

-- one record seen, one UPDATE applied, one route accepted, and one refused under 7
tally_met : run_over.counts ≡ 1 ∷ 1 ∷ 1 ∷ replicate 7 0 ++ 1 ∷ replicate 12 0
unfolding running
tally_met = refl

-- the chunk was taken
days_met : Replays U 1 hops (day_begun empty_U) (day ∷ []) run_over
unfolding running
days_met = called_replays (Next replay_called refl NoneLeft)
