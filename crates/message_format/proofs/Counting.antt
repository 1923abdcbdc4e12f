-- Counts add up: each route of a message is accepted or refused, and a message has fewer of them than 4,096.
use Prim.Native.Nat.{ℕ, suc, ◌+◌, ◌-◌, ◌^◌, ◌≤◌, ◌<◌}
use mathlib.Core.Path.{◌≡◌, refl, sym, ◌∙◌}
use mathlib.Core.Bool.{Bool, true, false, not, ◌&&◌, and-true}
use mathlib.Core.List.{List, [], ◌++◌, append-nil}
use mathlib.Core.Logic.{◌≢◌}
use mathlib.Core.Option.{Option, some, none}
use native.Mathlib.Nat.{suc-ne-zero}
use native.Mathlib.Omega.{arith}
use lib.Dec.{eqb, leb}
use lib.ListN.{length, length-append, length-map}
use borrow.Author.Tests.{leb-true, ltb-false, lt-ltb, eqb-true, eqb-false, ne_eqb, eq-eqb, not-false}
use Rattle.rules.specs.declared.Settings.{Settings}
use Rattle.rules.specs.Tools.{within}
use Rattle.rules.specs.Table.{Memory, refuse, memory_refusal, party_refusal}
use Rattle.rules.specs.Calls.{run}
use Rattle.rules.proofs.Calls.{answers_length, counted_all}
use Rattle.rules.proofs.Members.{both, within_true}
use Rattle.rules.proofs.Refusals.{passed, memory_passing, party_passed}
use Rattle.message_format.specs.Format.{after_prefix, prefixes_fit, prefixes, header_good, withdrawn_from, withdrawn_to, attributes_from, announced_from, attributes_good, parts_fit, withdrawn_prefixes, announced_prefixes, contents_good, well_formed, announces}
use Rattle.message_format.specs.Reading.{hop_in, is_hop, update_refusal, message_refusal, withdrawals, announcements, message_calls, counts, refused_message, apply_message}
use Rattle.message_format.proofs.Walks.{by_steps, after_prefix_later, prefixes_none, prefixes_next}

-- ---- A part has no more prefixes than bytes

-- Each prefix takes a byte or more of its part.
pub prefixes_few : (bytes : List ℕ) (at end : ℕ) → length (prefixes bytes at end) ≤ end - at
prefixes_few bytes at end = by_steps end (after_prefix bytes) (after_prefix_later bytes) (λ here. length (prefixes bytes here end) ≤ end - here)
    (λ here past. rw (prefixes_none bytes here end past) (omega arith))
    (λ here inside rest. rw (prefixes_next bytes here end inside) (omega (arith, after_prefix_later bytes here)))
    at

-- ---- A well-formed message

-- where its parts lie, and that its prefixes fit
pub record Parts (message : List ℕ) : Type 0 where
  pub withdrawn : withdrawn_from ≤ withdrawn_to message
  pub attributes : withdrawn_to message + 2 ≤ announced_from message
  pub announced : announced_from message ≤ length message
  pub short : length message ≤ 4096
  pub withdrawn_fits : prefixes_fit message withdrawn_from (withdrawn_to message) ≡ true
  pub announced_fits : prefixes_fit message (announced_from message) (length message) ≡ true

pub parts : (message : List ℕ) → well_formed message ≡ true → Parts message
unfolding well_formed header_good parts_fit contents_good withdrawn_to attributes_from announced_from
parts message good =
    let whole = both (header_good message) _ good in
    let sized = both (within 23 4096 (length message)) _ whole.0 in
    let inside = both (parts_fit message) (contents_good message) whole.1 in
    let ends = both (leb (attributes_from message) (length message)) _ inside.0 in
    let contents = both (prefixes_fit message withdrawn_from (withdrawn_to message)) _ inside.1 in
    record {
      withdrawn = omega arith;
      attributes = omega arith;
      announced = leb-true _ _ ends.1;
      short = (within_true 23 4096 (length message) sized.0).1;
      withdrawn_fits = contents.0;
      announced_fits = (both (attributes_good message (attributes_from message) (announced_from message)) _ contents.1).1;
    }

-- Its withdrawn and announced prefixes are fewer than 4,096.
pub routes_few : (message : List ℕ) → well_formed message ≡ true → length (withdrawn_prefixes message) + length (announced_prefixes message) < 2 ^ 12
unfolding withdrawn_prefixes announced_prefixes
routes_few message good =
    let lie = parts message good in
    omega (arith, prefixes_few message withdrawn_from (withdrawn_to message), prefixes_few message (announced_from message) (length message))

-- ---- What is refused, and what is not

-- a number is given only where what it asks for is not so
pub refused_so : (good : Bool) (number : ℕ) → refuse (not good) (suc number) 0 ≡ suc number → good ≡ false
unfolding refuse
refused_so true number e = absurd (suc-ne-zero number (sym e))
refused_so false number e = refl

-- what 12 and 13 not given tells
pub record Passed (message hops : List ℕ) : Type 0 where
  pub good : well_formed message ≡ true
  pub hop : announces message && not (is_hop (hop_in message hops)) ≡ false

pub update_passed : (message hops : List ℕ) → update_refusal message hops ≡ 0 → Passed message hops
unfolding update_refusal
update_passed message hops e =
    let twelve = passed (not (well_formed message)) 11 _ e in
    record { good = not-false _ twelve.0; hop = (passed _ 12 0 twelve.1).0 }

pub message_passed : (t : Settings) (m : Memory) (party : ℕ) (message hops : List ℕ) → message_refusal t m party message hops ≡ 0 → Passed message hops
unfolding message_refusal
message_passed t m party message hops e = update_passed message hops (party_passed t m.counters m.slots party _ e).1

-- A third party's message is given 15 where settings and sizes are good, whatever stands in it.
pub unknown_party : (t : Settings) (m : Memory) (party : ℕ) (message hops : List ℕ) → memory_refusal t m 0 ≡ 0 → 1 < party
    → message_refusal t m party message hops ≡ 15
unfolding message_refusal party_refusal refuse
unknown_party t m party message hops fit third = (memory_passing t m).accepts fit _ ∙ rw (lt-ltb 1 party third)

-- ---- A message's single calls

-- each prefix is one of them, and without a hop no prefix is announced
module _ (party : ℕ) (message hops : List ℕ) where
  one_each : (hop : Option ℕ) → (hop ≡ none → announced_prefixes message ≡ [])
      → length (withdrawals party (withdrawn_prefixes message) ++ announcements party hop (announced_prefixes message)) ≡ length (withdrawn_prefixes message) + length (announced_prefixes message)
  unfolding withdrawals announcements
  one_each none nothing = rw (nothing refl, append-nil, length-map) (omega arith)
  one_each (some hop) nothing = simp (length-append, length-map)

  module _ (passed : Passed message hops) where
    nothing_announced : hop_in message hops ≡ none → announced_prefixes message ≡ []
    unfolding is_hop announces announced_prefixes
    nothing_announced missing =
        prefixes_none message (announced_from message) (length message)
        (ltb-false _ _ (sym (and-true (announces message)) ∙ (rw missing at passed.hop)))

    -- A message that is not refused has a call for each of its withdrawn and announced prefixes.
    pub calls_total : length (message_calls party message hops) ≡ length (withdrawn_prefixes message) + length (announced_prefixes message)
    unfolding message_calls
    calls_total = one_each (hop_in message hops) nothing_announced

-- They are no more than 4,096.
pub calls_few : (party : ℕ) (message hops : List ℕ) → update_refusal message hops ≡ 0 → length (message_calls party message hops) ≤ 4096
calls_few party message hops e =
    let passed = update_passed message hops e in
    omega (arith, calls_total party message hops passed, routes_few message passed.good)

module _ (t : Settings) (m : Memory) (party : ℕ) (message hops : List ℕ) where
  -- An accepted message is given the counts of its calls, and leaves the memory as they do.
  pub message_accepted : message_refusal t m party message hops ≡ 0 → apply_message t m party message hops ≡ counts (run t m (message_calls party message hops))
  unfolding apply_message
  message_accepted e = rw (eq-eqb _ 0 e)

  -- A refused one is given its number, and counts nothing.
  pub message_refused : message_refusal t m party message hops ≢ 0 → apply_message t m party message hops ≡ refused_message (message_refusal t m party message hops) m
  unfolding apply_message
  message_refused ne = rw (ne_eqb _ 0 ne)

  -- Accepted and refused together are the message's withdrawn and announced prefixes.
  pub routes_total : message_refusal t m party message hops ≡ 0
      → let r = (apply_message t m party message hops).report in r.accepted + r.refused ≡ length (withdrawn_prefixes message) + length (announced_prefixes message)
  unfolding counts run
  routes_total e =
      rw (message_accepted e)
      (counted_all _ ∙ answers_length _ _ m (message_calls party message hops) ∙ calls_total party message hops (message_passed t m party message hops e))

  -- Whatever the message, both counts are below 4,096.
  pub counts_fit : let r = (apply_message t m party message hops).report in (r.accepted < 2 ^ 12) × (r.refused < 2 ^ 12)
  unfolding refused_message
  counts_fit = go (eqb (message_refusal t m party message hops) 0) refl
    where
      go : (b : Bool) → eqb (message_refusal t m party message hops) 0 ≡ b → let r = (apply_message t m party message hops).report in (r.accepted < 2 ^ 12) × (r.refused < 2 ^ 12)
      go true e =
          let none = eqb-true _ _ e in
          let few = routes_few message (message_passed t m party message hops none).good in
          (omega (arith, routes_total none), omega (arith, routes_total none))
      go false e = rw (message_refused (eqb-false _ _ e)) (omega arith, omega arith)
