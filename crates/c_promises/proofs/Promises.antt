-- What is said of the 64-bit numbers themselves, after a history: the number of a lookup as a whole, demand 3's last
-- sentence as equal numbers, and what a party reads of its own whatever the other party does. All else that is promised to a C
-- program is a promise of crates/promises, crates/difference_promises, crates/message_promises, crates/import_promises or
-- crates/replay_promises, of the answer that it reads: rw (answer_read asked) (finds_longest history ..) is demand 2 of
-- gateway_lookup (proofs/Unpacking.antt, proofs/Lists.antt, proofs/Comparisons.antt, proofs/Chunks.antt).
use Prim.Native.Nat.{ℕ, ◌+◌, ◌*◌, ◌/◌, ◌^◌, ◌≤◌, ◌<◌}
use mathlib.Core.Path.{◌≡◌, sym, ap, ◌∙◌}
use mathlib.Core.Bool.{true}
use mathlib.Core.List.{List, [], ◌∷◌, append_cancel_left}
use native.Mathlib.Nat.{zero-add}
use lib.ListN.{length, get_or}
use Rattle.rules.specs.declared.Settings.{Settings}
use Rattle.rules.specs.Table.{Memory, one_if, refused, answer_number}
use Rattle.rules.specs.Calls.{Call, Clear, Withdraw, Change, act}
use Rattle.promises.specs.History.{Route, routes_of, stored_by, SingleCalls, History, Ran}
use Rattle.promises.specs.Demands.{Reordered, Longest, NoMatch, probes_down_to, adds}
use Rattle.promises.specs.Parties.{no_clear, made_by, SameRoute}
use Rattle.promises.proofs.Histories.{one_made, made_append}
use Rattle.promises.proofs.Promises.{finds_longest, says_none, above_refused, probes_counted, same_numbers, same_lookups_after, same_vectors_after}
use Rattle.promises.proofs.Parties.{same_for_party, same_withdrawals, same_changes}
use Rattle.difference_promises.proofs.Promises.{same_differences_after, same_differences_from}
use Rattle.message_promises.proofs.Promises.{same_reports}
use Rattle.stream_format.specs.Chunks.{Reading, Chunked, as_it_was}
use Rattle.import_format.specs.Importing.{import_chunk}
use Rattle.replay_format.specs.Replaying.{replay_chunk}
use Rattle.stream_promises.specs.Noted.{next_chunk, SameGiven}
use Rattle.import_promises.proofs.Promises.{same_imports}
use Rattle.replay_promises.proofs.Promises.{same_replays}
use Rattle.c_promises.specs.Numbers.{gateway_refusal, gateway_found, gateway_hop, gateway_length, read_answer, list_address, read_result}
use Rattle.c_promises.specs.Calls.{Updated, LookedUp, Matched, ListedUp, TablesCompared, Sent, ChunkTaken, ChunkImported, ChunkReplayed, Did}
use Rattle.c_promises.proofs.Unpacking.{update_read, update_zero_elsewhere, looked_up, answer_read, found_read, equal_lookups, equal_vectors, equal_messages, list_zero_elsewhere, chunk_read, chunk_zero_elsewhere}
use Rattle.c_promises.proofs.Lists.{address_small, result_read, list_given, equal_list_numbers, equal_lists}
use Rattle.c_promises.proofs.Comparisons.{equal_comparisons}
use Rattle.c_promises.proofs.Seat.{c_history}

-- ---- The number of a lookup

module _ {t : Settings} {calls : List Call} {answers : List ℕ} {m : Memory} (history : History t calls answers m)
    {party address answer : ℕ} (asked : LookedUp t m party address answer) where
  -- the routes that the history stores
  abbrev routes : List Route
  routes = stored_by calls answers

  -- For a route of the party's that is found,
  pub number_found : party ≤ 1 → (r : Route) → Longest address (routes_of party routes) r
      → answer ≡ 2 ^ 40 + r.hop * 2 ^ 16 + r.length * 2 ^ 8 + probes_down_to t routes address r.length
  unfolding answer_number one_if
  number_found known r longest =
      let its = finds_longest history party known address asked.word r longest in
      looked_up asked ∙ rw (probes_counted history party known address asked.word, its.refusal, its.found, its.hop, its.length)

  -- for none,
  pub number_none : party ≤ 1 → NoMatch address (routes_of party routes) → answer ≡ probes_down_to t routes address 0
  unfolding answer_number one_if
  number_none known no_match =
      let its = says_none history party known address asked.word no_match in
      looked_up asked ∙ rw (probes_counted history party known address asked.word, its.refusal, its.found, its.hop, its.length) (zero-add _)

  -- and for a party above 1.
  pub number_above : 1 < party → answer ≡ 15 * 2 ^ 48
  unfolding answer_number one_if refused
  number_above above = looked_up asked ∙ rw (above_refused history party address above)

-- ---- Demand 3, of a table newly cleared under these settings, to which the stored routes are added, in any order

-- two chunks that are given and leave the same cross back as the same number
same_given_numbers : {C : Type 0} {t : Settings} {r : Reading C} {s new_s s' new_s' : Chunked} {chunk : List ℕ} {answer new_answer : ℕ}
    → ChunkTaken t r s chunk answer s' → ChunkTaken t r new_s chunk new_answer new_s' → SameGiven (next_chunk t r new_s chunk) (next_chunk t r s chunk)
    → (new_answer ≡ answer) × SameGiven new_s' s'
same_given_numbers taken new_taken both =
    let alike = rw (chunk_read new_taken, chunk_read taken) at both in
    let numbers = sym new_taken.number ∙ alike.number ∙ taken.number in
    (chunk_zero_elsewhere new_taken ∙ rw numbers (sym (chunk_zero_elsewhere taken)), alike)

-- Whatever single calls are then made to both, none at all among others, the two give a C program the same 64-bit number. What
-- it did to both is such calls by c_made (proofs/Seat.antt).
module _ {t : Settings} {calls : List Call} {answers : List ℕ} {m : Memory} (history : History t calls answers m)
    {order : List Route} (same : Reordered (stored_by calls answers) order) {new_answers : List ℕ} {new_m : Memory} (anew : History t (adds order) new_answers new_m)
    {more : List Call} {more_answers more_new_answers : List ℕ} {last new_last : Memory}
    (made : SingleCalls t m more more_answers last) (made_anew : SingleCalls t new_m more more_new_answers new_last) where
  -- They give it for a party's lookup,
  pub same_lookup_numbers : {party address answer new_answer : ℕ} → LookedUp t last party address answer → LookedUp t new_last party address new_answer → new_answer ≡ answer
  same_lookup_numbers {party} {address} asked new_asked = equal_lookups asked new_asked (same_lookups_after history same anew made made_anew party address asked.word)

  -- for a match vector,
  pub same_vector_numbers : {address answer new_answer : ℕ} → Matched t last address answer → Matched t new_last address new_answer → new_answer ≡ answer
  same_vector_numbers {address} asked new_asked = equal_vectors asked new_asked (same_vectors_after history same anew made made_anew address asked.word)

  -- for an update,
  pub same_update_numbers : {call : Call} {m' new_m' : Memory} {answer new_answer : ℕ} → Updated t call last answer m' → Updated t call new_last new_answer new_m'
      → new_answer ≡ answer
  same_update_numbers {answer = answer} {new_answer} updated new_updated =
      let both = same_numbers history same anew (made_append made (one_made updated.word (update_read updated)))
      (made_append made_anew (one_made new_updated.word (update_read new_updated))) in
      let refusals : gateway_refusal new_answer ∷ [] ≡ gateway_refusal answer ∷ [] = append_cancel_left more_new_answers _ _ (both ∙ rw (same_numbers history same anew made made_anew)) in
      update_zero_elsewhere new_updated ∙ ap (λ numbers. get_or numbers 0 0 * 2 ^ 48) refusals ∙ sym (update_zero_elsewhere updated)

  -- for a message,
  pub same_message_numbers : {party : ℕ} {message hops : List ℕ} {m' new_m' : Memory} {answer new_answer : ℕ} → Sent t last party message hops answer m' → Sent t new_last party message hops new_answer new_m'
      → new_answer ≡ answer
  same_message_numbers {party} {message} {hops} sent new_sent = equal_messages sent new_sent (same_reports history same anew made made_anew party message hops sent.bytes)

  -- for a chunk of a dump, where counts, words and room are the same, and are left so,
  pub same_import_numbers : {before new_before answer new_answer : ℕ} (party : ℕ) (hops : List ℕ) {counts words room chunk : List ℕ} {s' new_s' : Chunked}
      → ChunkImported t party hops (as_it_was before last counts words room) chunk answer s'
      → ChunkImported t party hops (as_it_was new_before new_last counts words room) chunk new_answer new_s' → (new_answer ≡ answer) × SameGiven new_s' s'
  unfolding next_chunk import_chunk
  same_import_numbers party hops {counts} {words} {room} {chunk} made_of new_made_of =
      same_given_numbers made_of new_made_of (same_imports history same anew made made_anew party hops counts words room chunk made_of.room_bytes made_of.bytes)

  -- for one of a day, where tally, words and room are,
  pub same_replay_numbers : {before new_before answer new_answer : ℕ} (party : ℕ) (hops : List ℕ) {tally words room chunk : List ℕ} {s' new_s' : Chunked}
      → ChunkReplayed t party hops (as_it_was before last tally words room) chunk answer s'
      → ChunkReplayed t party hops (as_it_was new_before new_last tally words room) chunk new_answer new_s' → (new_answer ≡ answer) × SameGiven new_s' s'
  unfolding next_chunk replay_chunk
  same_replay_numbers party hops {tally} {words} {room} {chunk} made_of new_made_of =
      same_given_numbers made_of new_made_of (same_replays history same anew made made_anew party hops tally words room chunk made_of.room_bytes made_of.bytes)

  -- for a comparison with any table, whatever its settings and memory, as the first of the two,
  pub same_comparisons : {u : Settings} {n : Memory} {party : ℕ} {list : List ℕ} {answer new_answer : ℕ} {list' new_list' : List ℕ}
      → TablesCompared t last u n party list answer list' → TablesCompared t new_last u n party list new_answer new_list' → (new_answer ≡ answer) × (new_list' ≡ list')
  same_comparisons {u} {n} {party} asked new_asked = equal_comparisons asked new_asked (same_differences_after history same anew made made_anew u n party)

  -- and as the second, with the same bytes of the list,
  pub same_comparisons_from : {u : Settings} {n : Memory} {party : ℕ} {list : List ℕ} {answer new_answer : ℕ} {list' new_list' : List ℕ}
      → TablesCompared u n t last party list answer list' → TablesCompared u n t new_last party list new_answer new_list' → (new_answer ≡ answer) × (new_list' ≡ list')
  same_comparisons_from {u} {n} {party} asked new_asked = equal_comparisons asked new_asked (same_differences_from history same anew made made_anew u n party)

  -- and for a list of addresses, over as many bytes of results.
  module _ {party : ℕ} {addresses results results' new_results new_results' : List ℕ} {answer new_answer : ℕ}
      (asked : ListedUp t last party addresses results answer results') (new_asked : ListedUp t new_last party addresses new_results new_answer new_results')
      (size : length new_results ≡ length results) where
    pub same_list_numbers : new_answer ≡ answer
    same_list_numbers = equal_list_numbers (same_lookups_after history same anew made made_anew) asked new_asked size

    -- Where it is accepted, its results are the same byte for byte.
    pub same_list_bytes : gateway_refusal answer ≡ 0 → new_results' ≡ results'
    same_list_bytes = equal_lists (same_lookups_after history same anew made made_anew) asked new_asked size

-- ---- What a party reads of its own

-- Two C programs cleared, under the same settings, and the header read both clears as accepted; neither cleared again. In both
-- the party did the same: its updates, messages, dumps and days are the same single calls, and each of them was accepted in both
-- or refused in both, whatever number refused it. What the other party did, and when, is not asked.
module _ {t : Settings} {before empty m other_before other_empty other : Memory} {calls others : List Call} {answers other_answers : List ℕ} {clear_answer other_clear_answer : ℕ}
    (cleared : Updated t Clear before clear_answer empty) (accepted : gateway_refusal clear_answer ≡ 0) (ran : Ran (Did t) empty calls answers m)
    (other_cleared : Updated t Clear other_before other_clear_answer other_empty) (other_accepted : gateway_refusal other_clear_answer ≡ 0) (other_ran : Ran (Did t) other_empty others other_answers other)
    (uncleared : no_clear calls ≡ true) (uncleared_other : no_clear others ≡ true)
    (party : ℕ) (same : made_by party calls answers ≡ made_by party others other_answers) where
  abbrev history : History t calls answers m
  history = c_history cleared accepted ran

  abbrev other_history : History t others other_answers other
  other_history = c_history other_cleared other_accepted other_ran

  -- What it reads of its lookup of an address is the same in both, but for the probes:
  module _ {address answer other_answer : ℕ} (asked : LookedUp t m party address answer) (other_asked : LookedUp t other party address other_answer) where
    alike : SameRoute (read_answer answer) (read_answer other_answer)
    alike = rw (answer_read asked, answer_read other_asked) (same_for_party history other_history uncleared uncleared_other party same address asked.word)

    -- gateway_refusal,
    pub party_reads_refusal : gateway_refusal answer ≡ gateway_refusal other_answer
    party_reads_refusal = alike.refusal

    -- gateway_found,
    pub party_reads_found : gateway_found answer ≡ gateway_found other_answer
    party_reads_found =
        found_read asked
        ∙ ap one_if (same_for_party history other_history uncleared uncleared_other party same address asked.word).found
        ∙ sym (found_read other_asked)

    -- gateway_hop
    pub party_reads_hop : gateway_hop answer ≡ gateway_hop other_answer
    party_reads_hop = alike.hop

    -- and gateway_length.
    pub party_reads_length : gateway_length answer ≡ gateway_length other_answer
    party_reads_length = alike.length

  -- A list of its addresses
  module _ {addresses results results' other_results other_results' : List ℕ} {answer other_answer : ℕ}
      (asked : ListedUp t m party addresses results answer results') (other_asked : ListedUp t other party addresses other_results other_answer other_results') where
    -- is given the same number over as many bytes of results,
    pub party_list_number : length results ≡ length other_results → answer ≡ other_answer
    party_list_number size =
        list_zero_elsewhere asked.crossed
        ∙ ap (λ refusal. refusal * 2 ^ 48) (list_given history asked ∙ rw size (sym (list_given other_history other_asked)))
        ∙ sym (list_zero_elsewhere other_asked.crossed)

    -- and where it is accepted, result i is read the same, but for the probes.
    pub party_reads_result : gateway_refusal answer ≡ 0 → gateway_refusal other_answer ≡ 0 → (i : ℕ) → i < length addresses / 4
        → SameRoute (read_result results' i) (read_result other_results' i)
    party_reads_result good other_good i there = rw (result_read asked good i there, result_read other_asked other_good i there)
        (same_for_party history other_history uncleared uncleared_other party same (list_address addresses i) (address_small asked good i there))

  -- An update that is given the same refusal in both is read the same.
  read_alike : {call : Call} {answer other_answer : ℕ} {m' other' : Memory} → Updated t call m answer m' → Updated t call other other_answer other'
      → (act t call m).refusal ≡ (act t call other).refusal → answer ≡ other_answer
  read_alike updated other_updated alike = updated.crossed.number ∙ ap (λ refusal. refusal * 2 ^ 48) alike ∙ sym other_updated.crossed.number

  -- So are its withdrawals and its changes.
  pub party_withdrawal_number : {p L answer other_answer : ℕ} {m' other' : Memory} → Updated t (Withdraw party p L) m answer m' → Updated t (Withdraw party p L) other other_answer other'
      → answer ≡ other_answer
  party_withdrawal_number {p} {L} updated other_updated =
      read_alike updated other_updated (same_withdrawals history other_history uncleared uncleared_other party same p L updated.word)

  pub party_change_number : {p L hop answer other_answer : ℕ} {m' other' : Memory} → Updated t (Change party p L hop) m answer m' → Updated t (Change party p L hop) other other_answer other'
      → answer ≡ other_answer
  party_change_number {p} {L} {hop} updated other_updated =
      read_alike updated other_updated (same_changes history other_history uncleared uncleared_other party same p L hop updated.word)
