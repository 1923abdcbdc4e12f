-- Small worked programs of both parties meet the premises, under settings T and under filters of unequal size: what the calls give back is
-- computed, and handed to the promises.
use Prim.Native.Nat.{ℕ, ◌+◌, ◌*◌, ◌^◌}
use mathlib.Core.Path.{◌≡◌, refl, sym, ap, ◌∙◌}
use mathlib.Core.Bool.{true}
use mathlib.Core.List.Memᴰ
use mathlib.Core.List.{List, [], ◌∷◌, Memᴰ}
use native.Mathlib.Omega.{arith}
use lib.Dec.{lit<, lit≤}
use lib.ListN.{length, replicate}
use Rattle.rules.specs.declared.Settings.{Settings}
use Rattle.rules.specs.Table.{Memory, lookup, Listed, c_lookup, bytes_of, c_lookup_list}
use Rattle.rules.specs.Calls.{Call, Clear, Add, Withdraw, word_sized, all_word_sized, act, run, each}
use Rattle.rules.proofs.Worked.{ip, T}
use Rattle.rules.proofs.Members.{both}
use Rattle.difference_rules.specs.declared.Difference.{Difference}
use Rattle.difference_rules.specs.Comparing.{Compared, between, differences_number, c_difference}
use Rattle.message_format.specs.Reading.{apply_message, report_number}
use Rattle.promises.specs.History.{Route, routes_of, route, stored_by, History, Ran, Stop, Then}
use Rattle.promises.specs.Demands.{Finds, SaysNone, Reordered, Nothing, First, Longest, probes_down_to, adds}
use Rattle.promises.specs.Parties.{is_call_of, no_clear, made_by}
use Rattle.promises.proofs.Showing.{sevens, showing}
use Rattle.promises.proofs.Matches.{right}
use Rattle.promises.proofs.Premises.{U}
use Rattle.promises.proofs.Histories.{made}
use Rattle.promises.proofs.Promises.{finds_longest, says_none}
use Rattle.difference_promises.specs.Differing.{place, exchange}
use Rattle.difference_promises.specs.Paper.{four}
use Rattle.difference_promises.proofs.Paper.{absent}
use Rattle.difference_promises.proofs.Promises.{differences_of_papers, lists_routes, routes_counted}
use Rattle.message_promises.specs.Heard.{heard_calls}
use Rattle.message_promises.proofs.Premises.{message, hops, calls, its_calls}
use Rattle.stream_format.specs.Chunks.{Chunked}
use Rattle.import_format.specs.Importing.{importing}
use Rattle.replay_format.specs.Replaying.{replaying}
use Rattle.stream_promises.specs.Noted.{untaken, next_chunk}
use Rattle.import_promises.specs.Dumps.{imported_calls, Imports}
use Rattle.replay_promises.specs.Days.{replayed_calls, Replays}
use Rattle.caller_promises.proofs.Streams.{NoneLeft, Next}
use Rattle.caller_promises.proofs.Premises.{zeros_bytes, filling, dump, begun, running, day as recorded, day_begun}
use Rattle.c_promises.specs.Numbers.{gateway_refusal, gateway_found, gateway_hop, gateway_length, gateway_count, word_at, list_address, read_answer, read_report, read_result, read_difference}
use Rattle.c_promises.specs.Calls.{Updated, LookedUp, ListedUp, TablesCompared, Sent, ChunkImported, ChunkReplayed, Did, Single, Addresses, Heard, Imported, Replayed}
use Rattle.c_promises.proofs.Unpacking.{answer_read, message_read}
use Rattle.c_promises.proofs.Lists.{list_accepted, result_read}
use Rattle.c_promises.proofs.Comparisons.{tables_counted, tables_read, exchanged_accepted, exchanged_read, comparison_accepted}
use Rattle.c_promises.proofs.Chunks.{c_imports, c_replays}
use Rattle.c_promises.proofs.Seat.{c_history}
use Rattle.c_promises.proofs.Promises.{number_found, number_above, same_lookup_numbers, same_message_numbers, party_reads_found, party_reads_hop, party_reads_length}

-- ---- Any calls can be made from C

refusal_back : (refusal : ℕ) → gateway_refusal (refusal * 2 ^ 48) ≡ refusal
unfolding gateway_refusal
refusal_back refusal = omega arith

updated : (t : Settings) (call : Call) (m : Memory) → word_sized call ≡ true → Updated t call m ((act t call m).refusal * 2 ^ 48) (act t call m).memory
updated t call m word = record { word = word; crossed = record { number = refl; memory = refl } }

did_all : (t : Settings) (m : Memory) (calls : List Call) → all_word_sized calls ≡ true → Ran (Did t) m calls (run t m calls).answers (run t m calls).last
unfolding run each all_word_sized
did_all t m [] words = Stop
did_all t m (call ∷ calls) words =
    let parts = both (word_sized call) (all_word_sized calls) words in
    Then (rw refusal_back at (Single (updated t call m parts.0))) (did_all t (act t call m).memory calls parts.1)

-- ---- A day of updates of both parties, one of them refused, a list of addresses, a message, and a dump

day : List Call
day =
    Add 1 (ip 10 0 0 0) 8 7
    ∷ Add 0 (ip 10 2 0 0) 16 3
    ∷ Add 1 (ip 10 0 0 0) 8 9
    ∷ Withdraw 1 (ip 10 2 0 0) 16
    ∷ []

day_answers : List ℕ
day_answers = 0 ∷ 0 ∷ 0 ∷ 7 ∷ []

-- the same day with party 0 away
quiet : List Call
quiet = Add 1 (ip 10 0 0 0) 8 7 ∷ Add 1 (ip 10 0 0 0) 8 9 ∷ Withdraw 1 (ip 10 2 0 0) 16 ∷ []

-- what stands in a list of one is its first
alone : {d : Difference} (ds : List Difference) → length ds ≡ 1 → Memᴰ d ds → place ds 0 ≡ d
alone [] one there = absurd (omega arith)
alone (e ∷ []) one there = sym (Memᴰ.eq_of_singleton there)
alone (e ∷ other ∷ ds) one there = absurd (omega arith)

-- two addresses as bytes
addresses : List ℕ
addresses = bytes_of (ip 10 2 2 3 ∷ ip 11 0 0 1 ∷ [])

-- what is computed under settings t, on memory that held anything. Party 1's lookup of 10.2.2.3 probes twice, as party 0 has a
-- route of length 16 there.
record Worked (t : Settings) (before : Memory) : Type 0 where
  cleared : (act t Clear before).refusal ≡ 0
  given : (run t (act t Clear before).memory day).answers ≡ day_answers
  quiet_given : (run t (act t Clear before).memory quiet).answers ≡ 0 ∷ 0 ∷ 7 ∷ []
  probed : probes_down_to t (stored_by day day_answers) (ip 10 2 2 3) 8 ≡ 2
  reported : (apply_message t (act t Clear before).memory 1 message hops).report ≡ record { refusal = 0; accepted = 1; refused = 1 }
  calls_given : (run t (act t Clear before).memory calls).answers ≡ 7 ∷ 0 ∷ []
  beside_given : (act t (Add 0 (ip 10 2 0 0) 16 3) (act t Clear before).memory).refusal ≡ 0
  beside_reported : (apply_message t (act t (Add 0 (ip 10 2 0 0) 16 3) (act t Clear before).memory).memory 1 message hops).report ≡ record { refusal = 0; accepted = 1; refused = 1 }
  beside_calls_given : (run t (act t (Add 0 (ip 10 2 0 0) 16 3) (act t Clear before).memory).memory calls).answers ≡ 7 ∷ 0 ∷ []
  imported : (next_chunk t (importing 0 hops) (begun (act t Clear before).memory) dump).number ≡ 0
  replayed : (next_chunk t (replaying 1 hops) (day_begun (act t Clear before).memory) recorded).number ≡ 0
  add_given : (run t (act t Clear before).memory (Add 0 (ip 10 0 0 0) 8 1 ∷ [])).answers ≡ 0 ∷ []

at_T : Worked T sevens
unfolding day day_answers quiet running
at_T = record { cleared = refl; given = refl; quiet_given = refl; probed = refl; reported = refl; calls_given = refl; beside_given = refl; beside_reported = refl; beside_calls_given = refl; imported = refl; replayed = refl; add_given = refl }

at_U : Worked U (record { counters = replicate 688 7; slots = replicate 258 7 })
unfolding day day_answers quiet running
at_U = record { cleared = refl; given = refl; quiet_given = refl; probed = refl; reported = refl; calls_given = refl; beside_given = refl; beside_reported = refl; beside_calls_given = refl; imported = refl; replayed = refl; add_given = refl }

module _ {t : Settings} {before : Memory} (worked : Worked t before) where
  abbrev empty : Memory
  empty = (act t Clear before).memory

  -- party 1's list of two addresses, into thirty-two bytes
  abbrev list : Memory → Listed
  list m = c_lookup_list t m.counters (bytes_of m.slots) 1 addresses (replicate 32 9)

  list_asked : (m : Memory) → ListedUp t m 1 addresses (replicate 32 9) ((list m).refusal * 2 ^ 48) (list m).results
  unfolding addresses bytes_of
  list_asked m = record { bytes = refl; crossed = record { number = refl; results = refl } }

  lived : (made_calls : List Call) → all_word_sized made_calls ≡ true → History t made_calls (run t empty made_calls).answers (run t empty made_calls).last
  unfolding word_sized
  lived made_calls words = c_history (updated t Clear before refl) (refusal_back _ ∙ worked.cleared) (Then (Addresses (list_asked empty)) (did_all t empty made_calls words))

  abbrev last : Memory
  last = (run t empty day).last

  day_lived : History t day day_answers last
  unfolding day word_sized all_word_sized
  day_lived = rw worked.given at (lived day refl)

  abbrev answer_in : (m : Memory) (party : ℕ) → ℕ
  answer_in m party = c_lookup t m.counters (bytes_of m.slots) party (ip 10 2 2 3)

  looked : (m : Memory) (party : ℕ) → LookedUp t m party (ip 10 2 2 3) (answer_in m party)
  looked m party = record { word = lit< tt; crossed = refl }

  best : Longest (ip 10 2 2 3) (routes_of 1 (stored_by day day_answers)) (route 1 (ip 10 0 0 0) 8 9)
  unfolding day day_answers showing
  best = right (ip 10 2 2 3) (routes_of 1 (stored_by day day_answers))

  -- party 1's lookup of 10.2.2.3 finds its 10.0.0.0/8 with the last hop, 9, in two probes
  found_met : Finds (read_answer (answer_in last 1)) (route 1 (ip 10 0 0 0) 8 9)
  found_met = rw (answer_read (looked last 1)) (finds_longest day_lived 1 (lit≤ tt) (ip 10 2 2 3) (lit< tt) (route 1 (ip 10 0 0 0) 8 9) best)

  number_met : answer_in last 1 ≡ 2 ^ 40 + 9 * 2 ^ 16 + 8 * 2 ^ 8 + 2
  number_met = number_found day_lived (looked last 1) (lit≤ tt) (route 1 (ip 10 0 0 0) 8 9) best ∙ ap (λ probes. 2 ^ 40 + 9 * 2 ^ 16 + 8 * 2 ^ 8 + probes) worked.probed

  -- party 0's finds its own 10.2.0.0/16 there
  other_found_met : Finds (read_answer (answer_in last 0)) (route 0 (ip 10 2 0 0) 16 3)
  unfolding day day_answers showing
  other_found_met = rw (answer_read (looked last 0))
      (finds_longest day_lived 0 (lit≤ tt) (ip 10 2 2 3) (lit< tt) (route 0 (ip 10 2 0 0) 16 3) (right (ip 10 2 2 3) (routes_of 0 (stored_by day day_answers))))

  -- and there is no party 2
  above_met : answer_in last 2 ≡ 15 * 2 ^ 48
  above_met = number_above day_lived (looked last 2) (lit< tt)

  -- the list finds it for the first address, and says none of the second
  list_met : gateway_refusal ((list last).refusal * 2 ^ 48) ≡ 0
  unfolding addresses bytes_of
  list_met = (list_accepted day_lived (list_asked last) (lit≤ tt)).1 (refl, refl)

  list_found_met : Finds (read_result (list last).results 0) (route 1 (ip 10 0 0 0) 8 9)
  unfolding addresses bytes_of list_address word_at
  list_found_met = rw (result_read (list_asked last) list_met 0 (lit< tt)) (finds_longest day_lived 1 (lit≤ tt) (ip 10 2 2 3) (lit< tt) (route 1 (ip 10 0 0 0) 8 9) best)

  list_none_met : SaysNone (read_result (list last).results 1)
  unfolding day day_answers showing addresses bytes_of list_address word_at
  list_none_met = rw (result_read (list_asked last) list_met 1 (lit< tt)) (says_none day_lived 1 (lit≤ tt) (ip 11 0 0 1) (lit< tt) (right (ip 11 0 0 1) (routes_of 1 (stored_by day day_answers))))

  -- ---- A comparison with a table just cleared

  abbrev against : List ℕ → Compared
  against list = c_difference t last.counters (bytes_of last.slots) t empty.counters (bytes_of empty.slots) 1 list

  compared : (list : List ℕ) → TablesCompared t last t empty 1 list (differences_number (against list).answer) (against list).list
  compared list = record { crossed = record { number = refl; list = refl } }

  empty_lived : History t [] [] empty
  unfolding word_sized
  empty_lived = c_history (updated t Clear before refl) (refusal_back _ ∙ worked.cleared) Stop

  -- party 1 has one route, of which 16 bytes tell
  one_route : length (between t last.slots t empty.slots 1) ≡ 1
  unfolding day day_answers showing
  one_route = routes_counted day_lived empty_lived 1 (lit≤ tt) (λ p L. absent 1 p L [] refl)

  room_met : gateway_refusal (differences_number (against (replicate 20 9)).answer) ≡ 0
  room_met = (comparison_accepted day_lived empty_lived (compared (replicate 20 9)) (lit≤ tt)).1
      (omega (arith, one_route, ap length (differences_of_papers day_lived empty_lived 1 (lit≤ tt))))

  count_met : gateway_count (differences_number (against (replicate 20 9)).answer) ≡ 1
  count_met = tables_counted (compared (replicate 20 9)) room_met ∙ one_route

  -- its 10.0.0.0/8 with the last hop, 9
  difference_met : read_difference (against (replicate 20 9)).list 0 ≡ four 8 (ip 10 0 0 0) 10 0
  unfolding day day_answers showing
  difference_met = tables_read (compared (replicate 20 9)) room_met 0 (omega (arith, count_met))
      ∙ alone _ one_route (lists_routes day_lived empty_lived 1 (lit≤ tt) (λ p L. absent 1 p L [] refl) (ip 10 0 0 0) 8 9 (Memᴰ.head refl))

  -- and with the two tables exchanged, told the other way round
  abbrev back : Compared
  back = c_difference t empty.counters (bytes_of empty.slots) t last.counters (bytes_of last.slots) 1 (replicate 20 9)

  compared_back : TablesCompared t empty t last 1 (replicate 20 9) (differences_number back.answer) back.list
  compared_back = record { crossed = record { number = refl; list = refl } }

  back_met : read_difference back.list 0 ≡ four 8 (ip 10 0 0 0) 0 10
  back_met =
      (exchanged_read (compared (replicate 20 9)) compared_back room_met ((exchanged_accepted (compared (replicate 20 9)) compared_back refl).0 room_met)).1 0 (omega (arith, count_met))
      ∙ ap exchange difference_met

  -- ---- The same day with party 0 away

  abbrev quiet_last : Memory
  quiet_last = (run t empty quiet).last

  clear_made : Updated t Clear before ((act t Clear before).refusal * 2 ^ 48) empty
  unfolding word_sized
  clear_made = updated t Clear before refl

  day_ran : Ran (Did t) empty day day_answers last
  unfolding day word_sized all_word_sized
  day_ran = rw worked.given at (did_all t empty day refl)

  quiet_ran : Ran (Did t) empty quiet (0 ∷ 0 ∷ 7 ∷ []) quiet_last
  unfolding quiet word_sized all_word_sized
  quiet_ran = rw worked.quiet_given at (did_all t empty quiet refl)

  own_same : made_by 1 day day_answers ≡ made_by 1 quiet (0 ∷ 0 ∷ 7 ∷ [])
  unfolding day day_answers quiet made_by is_call_of
  own_same = refl

  -- party 1 reads the same found, hop and length
  own_met : (gateway_found (answer_in last 1) ≡ gateway_found (answer_in quiet_last 1))
      × (gateway_hop (answer_in last 1) ≡ gateway_hop (answer_in quiet_last 1)) × (gateway_length (answer_in last 1) ≡ gateway_length (answer_in quiet_last 1))
  unfolding day quiet no_clear
  own_met =
      let cleared = refusal_back _ ∙ worked.cleared in (
        party_reads_found clear_made cleared day_ran clear_made cleared quiet_ran refl refl 1 own_same (looked last 1) (looked quiet_last 1),
        party_reads_hop clear_made cleared day_ran clear_made cleared quiet_ran refl refl 1 own_same (looked last 1) (looked quiet_last 1),
        party_reads_length clear_made cleared day_ran clear_made cleared quiet_ran refl refl 1 own_same (looked last 1) (looked quiet_last 1),
      )

  -- ---- A message

  sent : (m : Memory) → Sent t m 1 message hops (report_number (apply_message t m 1 message hops).report) (apply_message t m 1 message hops).memory
  sent m = record { bytes = refl; crossed = record { number = refl; memory = refl } }

  -- one route is read as accepted and one as refused
  counts_met : read_report (report_number (apply_message t empty 1 message hops).report) ≡ record { refusal = 0; accepted = 1; refused = 1 }
  counts_met = sym (ap (λ r. r.report) (message_read (sent empty))) ∙ worked.reported

  heard : (m : Memory) → (apply_message t m 1 message hops).report ≡ record { refusal = 0; accepted = 1; refused = 1 }
      → heard_calls 1 message hops (gateway_refusal (report_number (apply_message t m 1 message hops).report)) ≡ calls
  unfolding heard_calls
  heard m reported = rw (ap (λ r. r.refusal) (sym (ap (λ r. r.report) (message_read (sent m))) ∙ reported)) its_calls

  message_did : (m : Memory) → (apply_message t m 1 message hops).report ≡ record { refusal = 0; accepted = 1; refused = 1 } → (run t m calls).answers ≡ 7 ∷ 0 ∷ []
      → Did t m calls (7 ∷ 0 ∷ []) (apply_message t m 1 message hops).memory
  message_did m reported given = rw (heard m reported, given) at (Heard (sent m))

  message_ran : Ran (Did t) empty calls (7 ∷ 0 ∷ []) (apply_message t empty 1 message hops).memory
  message_ran = Then (message_did empty worked.reported worked.calls_given) Stop

  message_lived : History t calls (7 ∷ 0 ∷ []) (apply_message t empty 1 message hops).memory
  message_lived = c_history clear_made (refusal_back _ ∙ worked.cleared) message_ran

  -- for party 1 10.2.2.3 gets the hop of the list's second place
  message_found_met : Finds (lookup t (apply_message t empty 1 message hops).memory 1 (ip 10 2 2 3)) (route 1 (ip 10 0 0 0) 8 1)
  unfolding showing
  message_found_met = finds_longest message_lived 1 (lit≤ tt) (ip 10 2 2 3) (lit< tt) (route 1 (ip 10 0 0 0) 8 1) (right (ip 10 2 2 3) (routes_of 1 (stored_by calls (7 ∷ 0 ∷ []))))

  -- after an add of party 0's, party 1 reads the same hop of it
  abbrev beside : Memory
  beside = (act t (Add 0 (ip 10 2 0 0) 16 3) empty).memory

  add_ran : Did t empty (Add 0 (ip 10 2 0 0) 16 3 ∷ []) (0 ∷ []) beside
  unfolding word_sized
  add_ran = rw (refusal_back, worked.beside_given) at (Single (updated t (Add 0 (ip 10 2 0 0) 16 3) empty refl))

  beside_ran : Ran (Did t) empty (Add 0 (ip 10 2 0 0) 16 3 ∷ calls) (0 ∷ 7 ∷ 0 ∷ []) (apply_message t beside 1 message hops).memory
  beside_ran = Then add_ran (Then (message_did beside worked.beside_reported worked.beside_calls_given) Stop)

  beside_met : gateway_hop (answer_in (apply_message t empty 1 message hops).memory 1) ≡ gateway_hop (answer_in (apply_message t beside 1 message hops).memory 1)
  unfolding no_clear made_by is_call_of
  beside_met =
      let cleared = refusal_back _ ∙ worked.cleared in
      party_reads_hop clear_made cleared message_ran clear_made cleared beside_ran refl refl 1 refl (looked _ 1) (looked _ 1)

  -- ---- A dump of one record, in one chunk

  abbrev filled : Chunked
  filled = next_chunk t (importing 0 hops) (begun empty) dump

  abbrev number : ℕ
  number = filled.number * 2 ^ 48

  import_made : ChunkImported t 0 hops (begun empty) dump number filled
  unfolding next_chunk
  import_made = record { room_bytes = zeros_bytes 65548; bytes = refl; number = sym (refusal_back filled.number); crossed = record { number = refl; leaves = refl } }

  -- its record is party 0's add of 10/8, which is accepted
  stands_for : imported_calls 0 hops (replicate 3 0) (replicate 65548 0) dump (gateway_refusal number) ≡ Add 0 (ip 10 0 0 0) 8 1 ∷ []
  unfolding filling
  stands_for = rw (refusal_back filled.number, worked.imported)

  import_lived : History t (Add 0 (ip 10 0 0 0) 8 1 ∷ []) (0 ∷ []) filled.memory
  unfolding word_sized
  import_lived = rw (stands_for, worked.add_given) at (c_history (updated t Clear before refl) (refusal_back _ ∙ worked.cleared) (Then (Imported 0 hops import_made) Stop))

  -- for party 0 10.2.2.3 gets the hop of the list's second place
  import_found_met : Finds (lookup t filled.memory 0 (ip 10 2 2 3)) (route 0 (ip 10 0 0 0) 8 1)
  unfolding showing
  import_found_met = finds_longest import_lived 0 (lit≤ tt) (ip 10 2 2 3) (lit< tt) (route 0 (ip 10 0 0 0) 8 1) (right (ip 10 2 2 3) (routes_of 0 (stored_by (Add 0 (ip 10 0 0 0) 8 1 ∷ []) (0 ∷ []))))

  -- the chunk was taken
  imports_met : Imports t 0 hops (begun empty) (dump ∷ []) filled
  unfolding untaken
  imports_met = c_imports 0 hops (Next (number, import_made) (rw worked.imported) NoneLeft)

  -- ---- A day of one record, in one chunk

  abbrev run_over : Chunked
  run_over = next_chunk t (replaying 1 hops) (day_begun empty) recorded

  abbrev day_number : ℕ
  day_number = run_over.number * 2 ^ 48

  replay_made : ChunkReplayed t 1 hops (day_begun empty) recorded day_number run_over
  unfolding next_chunk
  replay_made = record { room_bytes = zeros_bytes 65548; bytes = refl; number = sym (refusal_back run_over.number); crossed = record { number = refl; leaves = refl } }

  -- its record is party 1's two calls of the message, of which the first is refused
  day_stands_for : replayed_calls 1 hops (replicate 3 0) (replicate 65548 0) recorded (gateway_refusal day_number) ≡ calls
  unfolding running
  day_stands_for = rw (refusal_back run_over.number, worked.replayed)

  replay_lived : History t calls (7 ∷ 0 ∷ []) run_over.memory
  unfolding word_sized
  replay_lived = rw (day_stands_for, worked.calls_given) at (c_history (updated t Clear before refl) (refusal_back _ ∙ worked.cleared) (Then (Replayed 1 hops replay_made) Stop))

  -- the chunk was taken
  replays_met : Replays t 1 hops (day_begun empty) (recorded ∷ []) run_over
  unfolding untaken
  replays_met = c_replays 1 hops (Next (day_number, replay_made) (rw worked.replayed) NoneLeft)

  -- ---- A table newly cleared

  order : List Route
  order = route 1 (ip 10 0 0 0) 8 9 ∷ route 0 (ip 10 2 0 0) 16 3 ∷ []

  order_same : Reordered (stored_by day day_answers) order
  unfolding day day_answers order showing
  order_same = First (route 1 (ip 10 0 0 0) 8 9) (First (route 0 (ip 10 2 0 0) 16 3) Nothing)

  order_lived : History t (adds order) (run t empty (adds order)).answers (run t empty (adds order)).last
  unfolding order adds word_sized all_word_sized
  order_lived = lived (adds order) refl

  -- with both parties' routes added, and then party 1's 10/8 withdrawn from both tables, it gives the same number to a lookup
  -- and to the message
  abbrev more : List Call
  more = Withdraw 1 (ip 10 0 0 0) 8 ∷ []

  same_met : {answer new_answer : ℕ} → LookedUp t (run t last more).last 0 (ip 10 2 2 3) answer
      → LookedUp t (run t (run t empty (adds order)).last more).last 0 (ip 10 2 2 3) new_answer → new_answer ≡ answer
  unfolding word_sized all_word_sized
  same_met = same_lookup_numbers day_lived order_same order_lived (made t last more refl) (made t (run t empty (adds order)).last more refl)

  same_message_met : {answer new_answer : ℕ} {m' new_m' : Memory} → Sent t (run t last more).last 1 message hops answer m'
      → Sent t (run t (run t empty (adds order)).last more).last 1 message hops new_answer new_m' → new_answer ≡ answer
  unfolding word_sized all_word_sized
  same_message_met = same_message_numbers day_lived order_same order_lived (made t last more refl) (made t (run t empty (adds order)).last more refl)
