-- Demands 2 and 3, sentence by sentence, each as one theorem over a history (specs/History.antt): an accepted clear, over
-- memory that held anything, and then any calls, with any arguments, refused calls included. Whoever makes the calls, what
-- was seen is such a history, and so all of this holds of it. Prefixes and addresses are numbers of 32 bits. The words of the
-- demands are in specs/Demands.antt. One fact carries all of them: every history keeps memory and stored routes together
-- (proofs/Kept.antt). Demand 1 is in proofs/Refused.antt.
use Prim.Native.Nat.{ℕ, ◌*◌, ◌^◌, ◌≤◌, ◌<◌}
use mathlib.Core.Path.{◌≡◌, sym, ap, ◌∙◌}
use mathlib.Core.Bool.{true, false}
use mathlib.Core.List.{List, []}
use mathlib.Core.Logic.{◌↔◌, ◌≢◌}
use native.Mathlib.Nat.{zero-add}
use lib.Dec.{eqb}
use borrow.Author.Tests.{lt-ltb}
use Rattle.rules.specs.declared.Settings.{Settings}
use Rattle.rules.specs.Tools.{all}
use Rattle.rules.specs.Table.{in_range, prefix, bucket, Memory, sized, refuse, memory_refusal, unless_refused, clear, refused, lookup, match_vector, bits_where}
use Rattle.rules.specs.Calls.{Call, Clear, Add, Withdraw, word_sized, act}
use Rattle.rules.proofs.Refusals.{memory_order}
use Rattle.promises.specs.History.{Route, routes_of, about, route, stored_by, SingleCalls, History}
use Rattle.promises.specs.Demands.{Stored, sum, number, Reordered, matches, Longest, NoMatch, Finds, SaysNone, SameButHop, odd, number_given, paper, covered, probes_down_to, lengths_in_use, adds, filter_sum}
use Rattle.promises.proofs.Sums.{sum_reordered}
use Rattle.promises.proofs.Counters.{filter_sum_kept}
use Rattle.promises.proofs.Kept.{Kept, fits, ready}
use Rattle.promises.proofs.Refusals.{no_memory_refusal, number_by_routes}
use Rattle.promises.proofs.Numbers.{add_odd}
use Rattle.promises.proofs.Conditions.{odd_by_octets}
use Rattle.promises.proofs.Histories.{Together, kept_run, kept, answers_on_paper, routes_on_paper}
use Rattle.promises.proofs.Matches.{vector_by}
use Rattle.promises.proofs.Lookups.{lookup_above, vector_by_routes, lookups_alike}
use Rattle.promises.proofs.Anew.{Anew, anew as added_anew, kept_same, Same}
use Rattle.promises.proofs.Answers.{finds, default_longest, says, finds_none, probes, probes_few, never_10, freed, freed_place}
use Rattle.promises.proofs.Replaced.{again_accepted, again_finds, again_others, again_other_party, again_lookup, again_vector}

-- A history can always begin: under settings in range, over lists of their sizes, a clear is accepted.
pub clear_accepted : (t : Settings) (before : Memory) → in_range t ≡ true → sized t before ≡ true → (act t Clear before).refusal ≡ 0
unfolding act clear unless_refused refuse
clear_accepted t before range sizes = memory_order t before 0 ∙ rw (range, sizes)

module _ {t : Settings} {calls : List Call} {answers : List ℕ} {m : Memory} (history : History t calls answers m) where
  -- the routes that the history stores
  abbrev routes : List Route
  routes = stored_by calls answers

  -- the party's own among them
  abbrev routes_by : (party : ℕ) → List Route
  routes_by party = routes_of party routes

  -- ---- Demand 2, which looks only at the caller's own routes

  -- Of the party's stored routes that match an address, a lookup answers with hop and length of the longest.
  pub finds_longest : (party : ℕ) → party ≤ 1 → (address : ℕ) → address < 2 ^ 32 → (r : Route) → Longest address (routes_by party) r → Finds (lookup t m party address) r
  finds_longest = finds (kept history)

  -- It gives the party's default, its stored route of length 0, if no other matches.
  pub finds_default : (party : ℕ) → party ≤ 1 → (address : ℕ) → address < 2 ^ 32 → (r : Route) → Stored r (routes_by party) → r.length ≡ 0
      → ((q : Route) → Stored q (routes_by party) → matches address q ≡ true → q.length ≡ 0) → Finds (lookup t m party address) r
  finds_default party known address word r stands default no_other =
      finds_longest party known address word r (default_longest (kept history) party known address word r stands default no_other)

  -- It says none exactly if no stored route of the party's matches.
  pub none_exactly : (party : ℕ) → party ≤ 1 → (address : ℕ) → address < 2 ^ 32 → ((lookup t m party address).found ≡ false) ↔ NoMatch address (routes_by party)
  none_exactly party known address word =
      (finds_none (kept history) party known address word, λ no_match. (says (kept history) party known address word no_match).found)

  -- Then it carries no hop, no length and no refusal.
  pub says_none : (party : ℕ) → party ≤ 1 → (address : ℕ) → address < 2 ^ 32 → NoMatch address (routes_by party) → SaysNone (lookup t m party address)
  says_none = says (kept history)

  -- There is no party above 1: its lookups are refused with 15.
  pub above_refused : (party address : ℕ) → 1 < party → lookup t m party address ≡ refused 15
  above_refused = lookup_above (kept history)

  -- A call gets the number of the first condition, in the order of the list, that is so of the stored routes, and 0
  -- where none is; a clear always gets 0.
  pub numbers_given : (call : Call) → word_sized call ≡ true → (act t call m).refusal ≡ number_given t routes call
  numbers_given = number_by_routes (kept history)

  -- An add of a stored route by its party, with any hop that is valid, is accepted, whatever else is stored.
  pub stored_accepted : (r : Route) → Stored r routes → (hop : ℕ) → hop ≤ 65535 → (act t (Add r.party r.prefix r.length hop) m).refusal ≡ 0
  stored_accepted = again_accepted (kept history)

  -- An address of which the route is its party's longest match then gets the new hop,
  pub replaced_found : (r : Route) → Stored r routes → (hop : ℕ) → hop ≤ 65535 → (address : ℕ) → address < 2 ^ 32 → Longest address (routes_by r.party) r
      → Finds (lookup t (act t (Add r.party r.prefix r.length hop) m).memory r.party address) (route r.party r.prefix r.length hop)
  replaced_found = again_finds (kept history)

  -- and any other is answered as before,
  pub replaced_others : (r : Route) → Stored r routes → (hop : ℕ) → hop ≤ 65535 → (party address : ℕ) → address < 2 ^ 32 → (Longest address (routes_by party) r → ⊥)
      → lookup t (act t (Add r.party r.prefix r.length hop) m).memory party address ≡ lookup t m party address
  replaced_others = again_others (kept history)

  -- as the other party is of every address.
  pub replaced_other_party : (r : Route) → Stored r routes → (hop : ℕ) → hop ≤ 65535 → (party address : ℕ) → address < 2 ^ 32 → party ≢ r.party
      → lookup t (act t (Add r.party r.prefix r.length hop) m).memory party address ≡ lookup t m party address
  replaced_other_party = again_other_party (kept history)

  -- An add of an odd prefix is given 11, whatever is stored and whatever the hop.
  pub odd_given_eleven : (party p L hop : ℕ) → party ≤ 1 → p < 2 ^ 32 → L ≤ 32 → prefix p L ≡ p → odd p L ≡ true → (act t (Add party p L hop) m).refusal ≡ 11
  unfolding number_given word_sized
  odd_given_eleven party p L hop known word high tight its =
      numbers_given (Add party p L hop) (lt-ltb p (2 ^ 32) word)
      ∙ add_odd t routes party p L hop (record { known = known; high = high; tight = tight }) (odd_by_octets p L ∙ its)

  -- Number 10 is never given.
  pub never_ten : (call : Call) → word_sized call ≡ true → (act t call m).refusal ≢ 10
  never_ten = never_10 (kept history)

  -- A freed place can be used again: what a party withdrew it can add again, with any hop that is valid.
  pub freed_again : (party p L hop : ℕ) → p < 2 ^ 32 → hop ≤ 65535 → (act t (Withdraw party p L) m).refusal ≡ 0
      → (act t (Add party p L hop) (act t (Withdraw party p L) m).memory).refusal ≡ 0
  freed_again = freed (kept history)

  -- Nor is any other prefix of that length and bucket, of either party, told that the bucket is full.
  pub freed_for_others : (party p L other q hop : ℕ) → p < 2 ^ 32 → q < 2 ^ 32 → bucket t q ≡ bucket t p → (act t (Withdraw party p L) m).refusal ≡ 0
      → (act t (Add other q L hop) (act t (Withdraw party p L) m).memory).refusal ≢ 8
  freed_for_others = freed_place (kept history)

  -- ---- Demand 3, which counts positions of either party's routes

  -- Probes count the lengths from 32 down to the one that answered, or down to 1 where the default or nothing did, that
  -- are covered: whatever position the address has in the filter of such a length, a stored route of it has too.
  pub probes_counted : (party : ℕ) → party ≤ 1 → (address : ℕ) → address < 2 ^ 32
      → (lookup t m party address).probes ≡ probes_down_to t routes address (lookup t m party address).length
  probes_counted = probes (kept history)

  -- They are at most as many as the lengths, 0 left out, that stored routes have.
  pub probes_bounded : (party : ℕ) → party ≤ 1 → (address : ℕ) → address < 2 ^ 32 → (lookup t m party address).probes ≤ lengths_in_use routes
  probes_bounded = probes_few (kept history)

  -- An add of a stored route changes no probe count: a lookup of either party answers as before, but for the hop.
  pub replaced_lookups : (r : Route) → Stored r routes → (hop : ℕ) → hop ≤ 65535 → (party address : ℕ) → address < 2 ^ 32
      → SameButHop (lookup t (act t (Add r.party r.prefix r.length hop) m).memory party address) (lookup t m party address)
  replaced_lookups = again_lookup (kept history)

  -- Nor does it change a match vector.
  pub replaced_vectors : (r : Route) → Stored r routes → (hop : ℕ) → hop ≤ 65535 → (address : ℕ) → address < 2 ^ 32
      → match_vector t (act t (Add r.party r.prefix r.length hop) m).memory address ≡ match_vector t m address
  replaced_vectors = again_vector (kept history)

  -- ---- What the rules say of a history

  -- No two stored routes of a party have one prefix and length, so that each is added once.
  pub stored_once : (party p L : ℕ) → number (about party p L) routes ≤ 1
  stored_once = (kept history).once

  -- No stored route is odd.
  pub none_odd : (r : Route) → Stored r routes → odd r.prefix r.length ≡ false
  none_odd r stands = sym (odd_by_octets r.prefix r.length) ∙ (fits (kept history) r stands).not_odd

  -- Settings and sizes are not at fault: no call is given 1 or 2.
  pub checks_passed : (after : ℕ) → memory_refusal t m after ≡ after
  checks_passed = no_memory_refusal (kept history)

  -- A match vector is accepted.
  pub vector_accepted : (address : ℕ) → (match_vector t m address).refusal ≡ 0
  unfolding match_vector
  vector_accepted address = checks_passed 0

  -- Bit L − 1 of the match vector is set exactly if length L is so covered.
  pub vector_covered : (address : ℕ) → address < 2 ^ 32 → (match_vector t m address).vector ≡ bits_where (covered t routes address) 32
  unfolding vector_by
  vector_covered address word = ap (λ v. v.vector) (vector_by_routes (kept history) address word)

  -- A length's counters together are K for each route stored with it.
  pub counters_sum : (L : ℕ) → 1 ≤ L → L ≤ 32 → filter_sum t m.counters L ≡ t.k * number (λ r. eqb r.length L) routes
  counters_sum L low high = filter_sum_kept t routes m.counters (kept history).counters L (ready (kept history).range low high)

-- ---- Demand 3, of a table newly cleared under these settings, to which the stored routes of both parties are added, in any order

module _ {t : Settings} {calls : List Call} {answers : List ℕ} {m : Memory} (history : History t calls answers m)
    {order : List Route} (same : Reordered (stored_by calls answers) order) {new_answers : List ℕ} {new_m : Memory} (anew : History t (adds order) new_answers new_m) where
  filled : Anew t [] order (stored_by calls answers)
  unfolding sum
  filled = added_anew (kept history) [] order (λ weight. zero-add (sum weight order) ∙ sym (sum_reordered weight same))

  -- what it stores is what is stored
  same_routes : Same (stored_by (adds order) new_answers) (stored_by calls answers)
  same_routes = rw (routes_on_paper anew) filled.same

  pub kept_anew : Kept t (stored_by calls answers) new_m
  kept_anew = kept_same same_routes (kept anew)

  -- It accepts them all, each added once for its party.
  pub all_accepted : all (λ n. eqb n 0) new_answers ≡ true
  all_accepted = rw (answers_on_paper anew) filled.accepted

  -- Then it gives each party the same answers and counts.
  pub same_lookups : (party address : ℕ) → address < 2 ^ 32 → lookup t new_m party address ≡ lookup t m party address
  same_lookups = lookups_alike kept_anew (kept history)

  -- It gives the same match vectors.
  pub same_vectors : (address : ℕ) → address < 2 ^ 32 → match_vector t new_m address ≡ match_vector t m address
  same_vectors address word = vector_by_routes kept_anew address word ∙ sym (vector_by_routes (kept history) address word)

  -- So it stays, whatever calls are then made to both.
  module _ {more : List Call} {more_answers more_new_answers : List ℕ} {last new_last : Memory}
      (made : SingleCalls t m more more_answers last) (made_anew : SingleCalls t new_m more more_new_answers new_last) where
    after : Together t (stored_by calls answers) m more
    after = kept_run (kept history) more made.words

    after_anew : Together t (stored_by calls answers) new_m more
    after_anew = kept_run kept_anew more made.words

    pub kept_last : Kept t (paper t (stored_by calls answers) more).last last
    kept_last = rw (ap (λ ran. ran.last) made.ran) at after.kept

    pub kept_new_last : Kept t (paper t (stored_by calls answers) more).last new_last
    kept_new_last = rw (ap (λ ran. ran.last) made_anew.ran) at after_anew.kept

    -- Each call is given the same number by both.
    pub same_numbers : more_new_answers ≡ more_answers
    same_numbers = sym (ap (λ ran. ran.answers) made_anew.ran) ∙ after_anew.answers ∙ sym after.answers ∙ ap (λ ran. ran.answers) made.ran

    -- After them each lookup has the same answer and count.
    pub same_lookups_after : (party address : ℕ) → address < 2 ^ 32 → lookup t new_last party address ≡ lookup t last party address
    same_lookups_after = lookups_alike kept_new_last kept_last

    -- And each match vector is the same.
    pub same_vectors_after : (address : ℕ) → address < 2 ^ 32 → match_vector t new_last address ≡ match_vector t last address
    same_vectors_after address word = vector_by_routes kept_new_last address word ∙ sym (vector_by_routes kept_last address word)
