-- The promises shut out each sham by what they say, not by how they are proved: a program that keeps them is never one
-- of these. One computed history of a small table, and one call or lookup after it, shows each up: of table T, except
-- where a counter has to get to 15.
use Prim.Native.Nat.{ℕ, ◌+◌, ◌-◌, ◌^◌, ◌≤◌, ◌<◌}
use mathlib.Core.Path.{◌≡◌, refl, sym, ap, ◌∙◌}
use mathlib.Core.Bool.{Bool, true, false, cond, not, ◌&&◌, true≢false}
use mathlib.Core.List.{List, [], ◌∷◌, ◌++◌}
use mathlib.Core.Option.{Option, some, none}
use native.Mathlib.Nat.{suc-ne-zero}
use lib.Dec.{eqb, ltb, leb, lit<}
use lib.ListN.{length, take, set}
use borrow.Author.Tests.{eqb-true, eq-eqb, ltb-true, leb-true}
use Rattle.rules.specs.declared.Settings.{Settings}
use Rattle.rules.specs.Tools.{any, those}
use Rattle.rules.specs.Table.{Memory, Outcome, lent, left, default_word, default_mark, mark_of, slot_number, counter_places, held, vacant, stored, odd_prefix, from_1, full, with_slot, with_found, unless_refused, step_each, added, clear, add, withdraw, change, hits, vector_of, down_from, set_bits, search as searched, default_answer, place_answer, lookup, one_if}
use Rattle.rules.proofs.Members.{both}
use Rattle.rules.specs.Calls.{Call, Clear, Add, Withdraw, Change, word_sized, all_word_sized, act, run}
use Rattle.promises.specs.History.{Route, routes_of}
use Rattle.promises.specs.Demands.{probes_down_to, longest}
use Rattle.shams.specs.Programs.{Acting, Asking, run_by, history_by, Promised, Honest, our_calls, our_lookups, with_clear, with_add, with_withdraw, with_change, with_probes}
use Rattle.promises.proofs.Matches.{answer_by, Right, right}
use Rattle.rules.proofs.Worked.{ip, T}
use Rattle.promises.proofs.Showing.{sevens}
use Rattle.shams.proofs.Agree.{Z, right_number, same_answers, right_answer, add_8, add_16, pair, again, four_then_one, other_8, both_8, agreeing}
use Rattle.promises.proofs.Histories.{made, history_of}
use Rattle.promises.proofs.Promises as promise

-- The calls of the rules are not among them: they keep the promises.
pub honest : Honest our_calls our_lookups
unfolding our_calls our_lookups run run_by history_by
honest = record {
  begins = promise.clear_accepted;
  after = λ t before calls cleared words.
      let history = history_of before cleared (made t (act t Clear before).memory calls words) in
      record {
        finds_longest = promise.finds_longest history;
        says_none = promise.says_none history;
        probes_counted = promise.probes_counted history;
        above_refused = promise.above_refused history;
        numbers_given = promise.numbers_given history;
      };
}

-- ---- How one is shown up

module _ (t : Settings) where
  -- it accepts a clear, and the calls have prefixes of 32 bits
  begun : Acting → List Call → Bool
  begun acting calls = eqb (acting t Clear sevens).refusal 0 && all_word_sized calls

  -- after the calls, one more is given another number than is due
  wrong_number : Acting → List Call → Call → Bool
  wrong_number acting calls call = begun acting calls && (word_sized call && not (right_number t acting calls call))

  by_number : (acting : Acting) (asking : Asking) (calls : List Call) (call : Call) → wrong_number acting calls call ≡ true → Honest acting asking → ⊥
  unfolding wrong_number begun right_number
  by_number acting asking calls call wrong honest =
      let one = both (begun acting calls) _ wrong in
      let start = both (eqb (acting t Clear sevens).refusal 0) _ one.0 in
      let two = both (word_sized call) _ one.1 in
      let due = (honest.after t sevens calls (eqb-true _ 0 start.0) start.1).numbers_given call two.0 in
      true≢false (sym two.1 ∙ ap not (eq-eqb _ _ due))

-- what is promised is what is due
due_answer : {acting : Acting} {asking : Asking} {t : Settings} {m : Memory} {routes : List Route} → Promised acting asking t m routes
    → (party : ℕ) → party ≤ 1 → (address : ℕ) → address < 2 ^ 32
    → same_answers (asking t m party address) (answer_by t routes address (longest address (routes_of party routes))) ≡ true
unfolding same_answers answer_by
due_answer {acting} {asking} {t} {m} {routes} promised party known address word = go (longest address (routes_of party routes)) (right address (routes_of party routes))
  where
    go : (o : Option Route) → Right address (routes_of party routes) o → same_answers (asking t m party address) (answer_by t routes address o) ≡ true
    go none no_match =
        let its = promised.says_none party known address word no_match in
        let probes = probes_down_to t routes address 0 in
        rw (promised.probes_counted party known address word, its.refusal, its.found, its.hop, its.length) (eq-eqb probes probes refl)
    go (some r) best =
        let its = promised.finds_longest party known address word r best in
        let probes = probes_down_to t routes address r.length in
        rw (promised.probes_counted party known address word, its.refusal, its.found, its.hop, its.length, eq-eqb r.hop r.hop refl, eq-eqb r.length r.length refl)
        (eq-eqb probes probes refl)

module _ (t : Settings) where
  -- after the calls, a lookup of a party's answers otherwise than is due
  wrong_answer : Acting → Asking → List Call → (party address : ℕ) → Bool
  wrong_answer acting asking calls party address =
      begun t acting calls && (leb party 1 && (ltb address (2 ^ 32) && not (right_answer t acting asking calls party address)))

  by_answer : (acting : Acting) (asking : Asking) (calls : List Call) (party address : ℕ) → wrong_answer acting asking calls party address ≡ true → Honest acting asking → ⊥
  unfolding wrong_answer begun right_answer
  by_answer acting asking calls party address wrong honest =
      let one = both (begun t acting calls) _ wrong in
      let start = both (eqb (acting t Clear sevens).refusal 0) _ one.0 in
      let two = both (leb party 1) _ one.1 in
      let three = both (ltb address (2 ^ 32)) _ two.1 in
      let due = due_answer (honest.after t sevens calls (eqb-true _ 0 start.0) start.1) party (leb-true party 1 two.0) address (ltb-true address (2 ^ 32) three.0) in
      true≢false (sym three.1 ∙ ap not due)

-- the number that a call should give, with other memory, other counters or other slots
abbrev pub says_ok : Outcome → Memory → Outcome
says_ok u m = record { refusal = u.refusal; memory = m }

abbrev pub with_counters : Outcome → List ℕ → Outcome
with_counters u counters = left u.refusal counters u.memory.slots

abbrev pub with_slots : Outcome → List ℕ → Outcome
with_slots u slots = left u.refusal u.memory.counters slots

-- to unfold this is to unfold all that one is shown up by
shown : ℕ
unfolding wrong_number wrong_answer begun agreeing
shown = 0

-- ---- The shams of the rules

-- Refuses every add: 10/8 is told that its bucket is full.
pub refuses_every_add : Honest (with_add (λ t m party p L hop. left 8 m.counters m.slots)) lookup → ⊥
unfolding shown
refuses_every_add = by_number T _ lookup [] add_8 refl

-- Answers every lookup with none, after the probes that are due: 10/8 is stored and 10.2.2.3 is not found.
pub answers_none :
    Honest act (λ t m party address. let a = lookup t m party address in record { refusal = a.refusal; found = false; hop = 0; length = 0; probes = a.probes }) → ⊥
unfolding shown
answers_none = by_answer T act _ (add_8 ∷ []) 0 (ip 10 2 2 3) refl

-- Answers always with the default.
pub answers_default : Honest act (λ t m party address. default_answer party (default_mark t m.slots party) (lookup t m party address).probes) → ⊥
unfolding shown
answers_default = by_answer T act _ (add_8 ∷ []) 0 (ip 10 2 2 3) refl

-- An add that writes nothing: what was added cannot be withdrawn.
pub add_writes_nothing : Honest (with_add (λ t m party p L hop. says_ok (add t m party p L hop) m)) lookup → ⊥
unfolding shown
add_writes_nothing = by_number T _ lookup (add_8 ∷ []) (Withdraw 0 (ip 10 0 0 0) 8) refl

-- A withdrawal that writes nothing: a second one of the same prefix is accepted too.
pub withdraw_writes_nothing : Honest (with_withdraw (λ t m party p L. says_ok (withdraw t m party p L) m)) lookup → ⊥
unfolding shown
withdraw_writes_nothing = by_number T _ lookup (add_8 ∷ Withdraw 0 (ip 10 0 0 0) 8 ∷ []) (Withdraw 0 (ip 10 0 0 0) 8) refl

-- A change that writes nothing: the old hop is found.
pub change_writes_nothing : Honest (with_change (λ t m party p L hop. says_ok (change t m party p L hop) m)) lookup → ⊥
unfolding shown
change_writes_nothing = by_answer T _ lookup (add_8 ∷ Change 0 (ip 10 0 0 0) 8 1 ∷ []) 0 (ip 10 2 2 3) refl

-- The first add works and later ones, where some counter is set already, only say ok.
pub only_first_add_works :
    Honest (with_add (λ t m party p L hop. let u = add t m party p L hop in says_ok u (cond (any (ltb 0) m.counters) m u.memory))) lookup → ⊥
unfolding shown
only_first_add_works = by_number T _ lookup (add_8 ∷ add_16 ∷ []) (Withdraw 0 (ip 10 1 0 0) 16) refl

-- Reports 1 probe regardless.
pub one_probe : Honest act (with_probes (λ t m party address. 1)) → ⊥
unfolding shown
one_probe = by_answer T act _ [] 0 0 refl

-- Reports 32 probes regardless.
pub thirty_two_probes : Honest act (with_probes (λ t m party address. 32)) → ⊥
unfolding shown
thirty_two_probes = by_answer T act _ [] 0 0 refl

-- ---- Other wrong programs

-- A withdrawal that writes zero to its counters: it takes the marks that 10/8 shares, and 10/8 is not found.
pub withdraw_takes_shared_marks :
    Honest (with_withdraw (λ t m party p L.
    let u = withdraw t m party p L in
    unless_refused u.refusal (lent (step_each (λ n. 0) m.counters (counter_places t p L)) u.memory.slots) m)) lookup → ⊥
unfolding shown
withdraw_takes_shared_marks = by_answer T _ lookup (pair ++ Withdraw 0 (ip 8 0 0 0) 8 ∷ []) 0 (ip 10 2 2 3) refl

-- A withdrawal that empties its whole bucket: 10/8 is no longer stored.
pub withdraw_takes_two :
    Honest (with_withdraw (λ t m party p L.
    with_slots (withdraw t m party p L) (with_slot (with_slot m.slots (slot_number t p L 0) 0 0) (slot_number t p L 1) 0 0))) lookup → ⊥
unfolding shown
withdraw_takes_two = by_number T _ lookup (pair ++ Withdraw 0 (ip 8 0 0 0) 8 ∷ []) (Withdraw 0 (ip 10 0 0 0) 8) refl

-- An add that always writes slot 0 of its bucket: 10/8 is no longer stored once 8/8 is.
pub add_evicts :
    Honest (with_add (λ t m party p L hop. with_slots (add t m party p L hop) (with_slot m.slots (slot_number t p L 0) p (mark_of party hop)))) lookup → ⊥
unfolding shown
add_evicts = by_number T _ lookup pair (Withdraw 0 (ip 10 0 0 0) 8) refl

-- An add that has raised its first counter when it asks for 8 and 9: 0/8 is refused in the full bucket, and when the two
-- others are withdrawn position 0 is still counted, so that 0.0.0.1 takes a probe for nothing.
pub first_counter_raised :
    Honest (with_add (λ t m party p L hop.
    let u = add t m party p L hop in
    cond (ltb 7 u.refusal) (with_counters u (step_each (λ n. n + 1) m.counters (take 1 (counter_places t p L)))) u)) lookup → ⊥
unfolding shown
first_counter_raised = by_answer T _ lookup (pair ++ Add 0 0 8 1 ∷ Withdraw 0 (ip 10 0 0 0) 8 ∷ Withdraw 0 (ip 8 0 0 0) 8 ∷ []) 0 1 refl

-- An add that raises a doubled position once: the withdrawal, which counts it twice, gets 10.
pub doubled_raised_once :
    Honest (with_add (λ t m party p L hop.
    let u = add t m party p L hop in
    let once = those (λ i. ltb 0 (hits t p L i)) (down_from (length m.counters)) in
    cond (eqb u.refusal 0) (with_counters u (step_each (λ n. n + 1) m.counters once)) u)) lookup → ⊥
unfolding shown
doubled_raised_once = by_number T _ lookup (Add 0 0 8 1 ∷ []) (Withdraw 0 0 8) refl

-- An add that never gives 9 and lets a counter stick at 15: three of four routes are withdrawn, five at a time, and
-- the fourth, which is stored, is not found.
pub counter_sticks :
    Honest (with_add (λ t m party p L hop.
    let u = add t m party p L hop in
    let stuck = step_each (λ n. cond (ltb n 15) (n + 1) 15) m.counters (counter_places t p L) in
    cond (eqb u.refusal 9) (left 0 stuck (added t m party p L hop).slots) u)) lookup → ⊥
unfolding shown
counter_sticks = by_answer Z _ lookup four_then_one 0 4 refl

-- ---- Adds of a stored prefix that do not replace

-- Refuses it, with 6.
pub stored_refused :
    Honest (with_add (λ t m party p L hop. cond (stored t m.slots party p L) (left 6 m.counters m.slots) (add t m party p L hop))) lookup → ⊥
unfolding shown
stored_refused = by_number T _ lookup (add_8 ∷ []) add_8 refl

-- Asks for a free slot first: 8/8 is refused in its full bucket.
pub full_before_stored :
    Honest (with_add (λ t m party p L hop. cond (from_1 L (full t m.slots p L)) (left 8 m.counters m.slots) (add t m party p L hop))) lookup → ⊥
unfolding shown
full_before_stored = by_number T _ lookup pair (Add 0 (ip 8 0 0 0) 8 6) refl

-- Says ok and leaves the old hop: 10.2.2.3 gets it.
pub old_hop_stays :
    Honest (with_add (λ t m party p L hop. let u = add t m party p L hop in says_ok u (cond (stored t m.slots party p L) m u.memory))) lookup → ⊥
unfolding shown
old_hop_stays = by_answer T _ lookup again 0 (ip 10 2 2 3) refl

-- Raises the counters again: with 10/8 withdrawn they still claim it, and 10.2.2.3 takes a probe for nothing.
pub raised_again :
    Honest (with_add (λ t m party p L hop.
    let u = add t m party p L hop in
    with_counters u (cond (stored t m.slots party p L) (step_each (λ n. n + 1) m.counters (counter_places t p L)) u.memory.counters))) lookup → ⊥
unfolding shown
raised_again = by_answer T _ lookup (again ++ Withdraw 0 (ip 10 0 0 0) 8 ∷ []) 0 (ip 10 2 2 3) refl

-- Takes the first free slot: 10/8 stands twice, and after one withdrawal a second gets 10 where 7 is due.
pub first_free_taken :
    Honest (with_add (λ t m party p L hop.
    let u = add t m party p L hop in
    with_slots u (cond (stored t m.slots party p L) (with_found t m.slots p L (vacant t m.slots p L) p (mark_of party hop)) u.memory.slots))) lookup → ⊥
unfolding shown
first_free_taken = by_number T _ lookup (again ++ Withdraw 0 (ip 10 0 0 0) 8 ∷ []) (Withdraw 0 (ip 10 0 0 0) 8) refl

-- ---- Odd prefixes

-- Lets them in: 127/8 is accepted.
pub lets_odd_in :
    Honest (with_add (λ t m party p L hop. let u = add t m party p L hop in cond (eqb u.refusal 11) (record { refusal = 0; memory = added t m party p L hop }) u)) lookup → ⊥
unfolding shown
lets_odd_in = by_number T _ lookup [] (Add 0 (ip 127 0 0 0) 8 1) refl

-- Keeps out what only contains one: 224/3 gets 11.
pub refuses_around_odd :
    Honest (with_add (λ t m party p L hop. cond (odd_prefix p 32) (left 11 m.counters m.slots) (add t m party p L hop))) lookup → ⊥
unfolding shown
refuses_around_odd = by_number T _ lookup [] (Add 0 (ip 224 0 0 0) 3 1) refl

-- Asks a withdrawal for them too: 127/8, which is not stored, gets 11 where 7 is due.
pub odd_not_withdrawn :
    Honest (with_withdraw (λ t m party p L. cond (odd_prefix p L) (left 11 m.counters m.slots) (withdraw t m party p L))) lookup → ⊥
unfolding shown
odd_not_withdrawn = by_number T _ lookup [] (Withdraw 0 (ip 127 0 0 0) 8) refl

-- ---- Changes, clears and lookups

-- A change that gives the default the new hop too.
pub change_moves_default :
    Honest (with_change (λ t m party p L hop. let u = change t m party p L hop in with_slots u (set u.memory.slots (default_word t party) (mark_of party hop)))) lookup → ⊥
unfolding shown
change_moves_default = by_answer T _ lookup (add_8 ∷ Add 0 0 0 3 ∷ Change 0 (ip 10 0 0 0) 8 1 ∷ []) 0 (ip 12 0 0 1) refl

-- A clear that leaves the default's mark as it was: a default is still found.
pub clear_leaves_default :
    Honest (with_clear (λ t m. let u = clear t m in with_slots u (set u.memory.slots (default_word t 0) (default_mark t m.slots 0)))) lookup → ⊥
unfolding shown
clear_leaves_default = by_answer T _ lookup [] 0 0 refl

-- A clear that is always refused, so that no history begins.
pub refuses_every_clear : Honest (with_clear (λ t m. left 2 m.counters m.slots)) lookup → ⊥
unfolding shown
refuses_every_clear honest = suc-ne-zero 1 (honest.begins T sevens refl refl)

-- A lookup that answers for another address.
pub answers_another : Honest act (λ t m party address. lookup t m party (ip 10 1 2 3)) → ⊥
unfolding shown
answers_another = by_answer T act _ (add_8 ∷ []) 0 (ip 12 0 0 1) refl

-- A lookup that stops at the highest claimed length, though its bucket has no such prefix: 10.2.2.3 is claimed at 16.
abbrev pub first : List ℕ → List ℕ
first [] = []
first (L ∷ Ls) = L ∷ []

pub stops_at_highest :
    Honest act (λ t m party address. place_answer t m.slots party 1 (searched t m.slots party address 0 (first (set_bits (vector_of t m.counters address))))) → ⊥
unfolding shown
stops_at_highest = by_answer T act _ (add_8 ∷ add_16 ∷ []) 0 (ip 10 2 2 3) refl

-- A lookup that does not count the probe that finds the route.
pub probes_above_only : Honest act (with_probes (λ t m party address. (lookup t m party address).probes - one_if (lookup t m party address).found)) → ⊥
unfolding shown
probes_above_only = by_answer T act _ (add_8 ∷ []) 0 (ip 10 2 2 3) refl

-- A none that carries a length.
pub none_with_length :
    Honest act (λ t m party address.
    let a = lookup t m party address in
    record { refusal = a.refusal; found = a.found; hop = a.hop; length = cond a.found a.length 32; probes = a.probes }) → ⊥
unfolding shown
none_with_length = by_answer T act _ [] 0 0 refl

-- ---- Two parties

-- A lookup that looks at both parties' routes, and answers with the longer of its own match and the other's: 10/8 is party
-- 1's, and party 0 finds it.
pub looks_at_both :
    Honest act (λ t m party address.
    let own = lookup t m party address in
    let others = lookup t m (1 - party) address in
    cond (ltb own.length others.length) others own) → ⊥
unfolding shown
looks_at_both = by_answer T act _ (other_8 ∷ []) 0 (ip 10 2 2 3) refl

-- An add that takes the slot of the other party's route, where that one has stored the prefix: party 0, whose 10/8 party 1
-- has added too, cannot withdraw it.
pub takes_others_slot :
    Honest (with_add (λ t m party p L hop.
    let u = add t m party p L hop in
    with_slots u (cond (stored t m.slots (1 - party) p L) (with_found t m.slots p L (held t m.slots (1 - party) p L) p (mark_of party hop)) u.memory.slots))) lookup → ⊥
unfolding shown
takes_others_slot = by_number T _ lookup both_8 (Withdraw 0 (ip 10 0 0 0) 8) refl

-- A withdrawal that withdraws the other party's route, where its own party has none: party 0 is given 0 for party 1's 10/8
-- where 7 is due.
pub withdraws_others :
    Honest (with_withdraw (λ t m party p L. cond (stored t m.slots party p L) (withdraw t m party p L) (withdraw t m (1 - party) p L))) lookup → ⊥
unfolding shown
withdraws_others = by_number T _ lookup (other_8 ∷ []) (Withdraw 0 (ip 10 0 0 0) 8) refl

-- An add that lets a third party in, as party 0: 15 is due.
pub lets_third_in : Honest (with_add (λ t m party p L hop. add t m (cond (ltb 1 party) 0 party) p L hop)) lookup → ⊥
unfolding shown
lets_third_in = by_number T _ lookup [] (Add 2 (ip 10 0 0 0) 8 1) refl

-- A lookup that answers a third party as party 0.
pub answers_third : Honest act (λ t m party address. lookup t m (cond (ltb 1 party) 0 party) address) → ⊥
unfolding shown
answers_third honest = suc-ne-zero 14 (sym (ap (λ a. a.refusal) ((honest.after T sevens [] refl refl).above_refused 2 0 (lit< tt))))
