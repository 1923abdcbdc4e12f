-- Demand 1, and an odd and a stored prefix added, of any settings, any lent memory and any arguments, damaged and wrong ones
-- too. That every call ends and does nothing undefined is what the check of crates/table proves of each function, none of
-- which requires anything. The list of numbers and their conditions is in specs/Demands.antt.
use Prim.Native.Nat.{ℕ, ◌≤◌, ◌<◌}
use mathlib.Core.Path.{◌≡◌, refl, sym, ap, ◌∙◌}
use mathlib.Core.Bool.{Bool, true, false, cond, not, true≢false}
use mathlib.Core.List.Memᴰ
use mathlib.Core.List.{List, [], ◌∷◌, ◌++◌, map}
use mathlib.Core.Logic.{◌↔◌, ◌≢◌}
use mathlib.Core.Option.{some}
use lib.Dec.{eqb, ltb, lit≤}
use lib.ListN.{set}
use borrow.Author.Tests.{eqb-true, ne_eqb, lt-ltb}
use Rattle.rules.specs.declared.Settings.{Settings}
use Rattle.rules.specs.declared.Place.{Place}
use Rattle.rules.specs.declared.Place.TheVariants.{At, Absent}
use Rattle.rules.specs.Tools.{all}
use Rattle.rules.specs.Table.{Memory, lent, slot_number, mark_word, default_word, mark_of, held, needs_slot, refuse, memory_refusal, party_refusal, change_refusal, changed, unless_refused, clear, add, withdraw, change, match_vector, route_answer, default_answer, place_answer, refused, answer_of, lookup}
use Rattle.rules.proofs.Refusals.{memory_passing}
use Rattle.rules.proofs.Updates.{default_in_place, stored_in_place, held_is_stored, added_in_place, changed_default, changed_mark, changed_counters, add_is_change}
use Rattle.rules.specs.Calls.{Call, Clear, Add, Withdraw, Change, act}
use Rattle.promises.specs.Demands.{◌when◌, there, memory_conditions, party_conditions, route_conditions, odd, conditions, numbers_by, NoneMet, FirstMet}
use Rattle.promises.proofs.Conditions.{numbered, given_exactly, never_given, none_exactly, stored_there, odd_by_octets, memory_first, party_first, odd_first, call_first, memory_numbered, party_numbered, call_numbered}
use Rattle.promises.proofs.Sums.{by_cases}

module _ (t : Settings) (call : Call) (m : Memory) where
  -- A number is given exactly if its condition is met and none is of those before it in the list.
  pub numbers_in_order : (n : ℕ) → 1 ≤ n → ((act t call m).refusal ≡ n) ↔ FirstMet n (conditions t call m)
  numbers_in_order = given_exactly (conditions t call m) (call_first t call m)

  -- The call is accepted exactly if no condition is met.
  pub accepted_exactly : ((act t call m).refusal ≡ 0) ↔ NoneMet (conditions t call m)
  accepted_exactly = none_exactly (conditions t call m) (call_first t call m) (call_numbered t call m)

-- These are the numbers that each call can give back, in the order of the list.
pub numbers_listed : (t : Settings) (call : Call) (m : Memory) → map (λ c. c.number) (conditions t call m) ≡ numbers_by call
unfolding conditions memory_conditions party_conditions route_conditions numbers_by
numbers_listed t Clear m = refl
numbers_listed t (Add party p L hop) m = refl
numbers_listed t (Withdraw party p L) m = refl
numbers_listed t (Change party p L hop) m = refl

-- No other number is given.
pub never_unlisted : (t : Settings) (call : Call) (m : Memory) (n : ℕ) → 1 ≤ n → all (λ k. not (eqb k n)) (numbers_by call) ≡ true → (act t call m).refusal ≢ n
never_unlisted t call m n low others = never_given (conditions t call m) (call_first t call m) n low (rw (numbers_listed t call m) others)

-- So no update gives 6.
pub never_six : (t : Settings) (call : Call) (m : Memory) → (act t call m).refusal ≢ 6
unfolding numbers_by all
never_six t Clear m = never_unlisted t Clear m 6 (lit≤ tt) refl
never_six t (Add party p L hop) m = never_unlisted t (Add party p L hop) m 6 (lit≤ tt) refl
never_six t (Withdraw party p L) m = never_unlisted t (Withdraw party p L) m 6 (lit≤ tt) refl
never_six t (Change party p L hop) m = never_unlisted t (Change party p L hop) m 6 (lit≤ tt) refl

-- Where a call is refused, the lent memory is left unchanged.
pub refused_unchanged : (t : Settings) (call : Call) (m : Memory) → (act t call m).refusal ≢ 0 → (act t call m).memory ≡ m
unfolding act clear add withdraw change unless_refused
refused_unchanged t Clear m bad = rw (ne_eqb _ 0 bad)
refused_unchanged t (Add party p L hop) m bad = rw (ne_eqb _ 0 bad)
refused_unchanged t (Withdraw party p L) m bad = rw (ne_eqb _ 0 bad)
refused_unchanged t (Change party p L hop) m bad = rw (ne_eqb _ 0 bad)

-- ---- An odd prefix added

module _ (t : Settings) (m : Memory) (party p L hop : ℕ) (its : odd p L ≡ true) where
  -- An add of an odd prefix is given 11 where it is given none of 1, 2, 15, 3 and 4, whatever is stored and whatever the hop.
  pub odd_numbers : (n : ℕ) → 1 ≤ n → ((act t (Add party p L hop) m).refusal ≡ n) ↔ FirstMet n (party_conditions t m party ++ route_conditions p L ++ (11 when true) ∷ [])
  odd_numbers = given_exactly _ (odd_first t m party p L hop its)

  -- It is never accepted,
  pub odd_refused : (act t (Add party p L hop) m).refusal ≢ 0
  unfolding numbered all memory_conditions party_conditions route_conditions
  odd_refused accepted = true≢false ((none_exactly _ (odd_first t m party p L hop its) refl).0 accepted (11 when true) (search (Memᴰ.head, Memᴰ.tail) depth 8))

  -- so it replaces nothing, and an old entry stays as it is.
  pub odd_replaces_nothing : (act t (Add party p L hop) m).memory ≡ m
  odd_replaces_nothing = refused_unchanged t (Add party p L hop) m odd_refused

-- ---- A stored prefix added again

module _ (t : Settings) (m : Memory) (party p L hop : ℕ) where
  -- An add of a stored prefix that is not odd is a change: it is given the number that a change is given, and writes what a change writes.
  pub stored_changes : odd p L ≡ false → there t m.slots party p L ≡ true → act t (Add party p L hop) m ≡ act t (Change party p L hop) m
  unfolding act
  stored_changes usual stands = add_is_change t m party p L hop (odd_by_octets p L ∙ usual) (stored_there t m.slots party p L ∙ stands)

  -- So an add of a stored prefix is given neither 8 nor 9,
  pub stored_needs_no_room : there t m.slots party p L ≡ true → ((act t (Add party p L hop) m).refusal ≢ 8) × ((act t (Add party p L hop) m).refusal ≢ 9)
  unfolding numbers_by all memory_conditions party_conditions route_conditions
  stored_needs_no_room stands = by_cases (odd p L)
      (λ its. (never_given _ (odd_first t m party p L hop its) 8 (lit≤ tt) refl, never_given _ (odd_first t m party p L hop its) 9 (lit≤ tt) refl))
      (λ usual. rw (stored_changes usual stands) (never_unlisted t (Change party p L hop) m 8 (lit≤ tt) refl, never_unlisted t (Change party p L hop) m 9 (lit≤ tt) refl))

  -- and every counter stays.
  pub counters_stay : there t m.slots party p L ≡ true → (act t (Add party p L hop) m).memory.counters ≡ m.counters
  unfolding act change unless_refused
  counters_stay stands = by_cases (odd p L)
      (λ its. ap (λ left. left.counters) (odd_replaces_nothing t m party p L hop its))
      (λ usual. ap (λ u. u.memory.counters) (stored_changes usual stands) ∙ go (eqb (change_refusal t m party p L hop) 0))
    where
      go : (accepted : Bool) → (cond accepted (changed t m party p L hop) m).counters ≡ m.counters
      go true = changed_counters t m party p L hop
      go false = refl

  accepted_in_place : (act t (Add party p L hop) m).refusal ≡ 0 → needs_slot t m.slots party p L ≡ false → (act t (Add party p L hop) m).memory ≡ changed t m party p L hop
  unfolding act add unless_refused
  accepted_in_place accepted place = rw (accepted, added_in_place t m party p L hop place)

  -- Accepted, it writes one word: at length 0 the default's,
  pub default_word_only : L ≡ 0 → (act t (Add party p L hop) m).refusal ≡ 0
      → (act t (Add party p L hop) m).memory ≡ lent m.counters (set m.slots (default_word t party) (mark_of party hop))
  default_word_only z accepted = accepted_in_place accepted (default_in_place t m.slots party p L z) ∙ changed_default t m party p L hop z

  -- at any other the mark of the lowest slot that holds the prefix.
  pub mark_word_only : L ≢ 0 → (s : ℕ) → held t m.slots party p L ≡ some s → (act t (Add party p L hop) m).refusal ≡ 0
      → (act t (Add party p L hop) m).memory ≡ lent m.counters (set m.slots (mark_word (slot_number t p L s)) (mark_of party hop))
  mark_word_only up s lowest accepted =
      accepted_in_place accepted (stored_in_place t m.slots party p L (held_is_stored t m.slots party p L up s lowest)) ∙ changed_mark t m party p L hop up s lowest

-- ---- Refused lookups

-- what a search's place answers carries no refusal
place_accepted : (t : Settings) (slots : List ℕ) (party ones : ℕ) (place : Place) → (place_answer t slots party ones place).refusal ≡ 0
unfolding place_answer route_answer default_answer
place_accepted t slots party ones (At L probes n) = refl
place_accepted t slots party ones (Absent vacancy) = refl

module _ (t : Settings) (m : Memory) (party address : ℕ) where
  pub lookup_checks : (lookup t m party address).refusal ≡ party_refusal t m party 0
  unfolding lookup refused answer_of
  lookup_checks = by_cases (eqb (party_refusal t m party 0) 0)
      (λ good. rw good (place_accepted t m.slots party _ _ ∙ sym (eqb-true _ 0 good))) (λ bad. rw bad)

  -- A lookup is given 1, 2 or 15 exactly so, by the settings, the sizes and the party alone, and no other number.
  pub lookup_number : (n : ℕ) → 1 ≤ n → ((lookup t m party address).refusal ≡ n) ↔ FirstMet n (party_conditions t m party)
  lookup_number = given_exactly (party_conditions t m party) (lookup_checks ∙ party_first t m party)

  pub lookup_accepted_exactly : ((lookup t m party address).refusal ≡ 0) ↔ NoneMet (party_conditions t m party)
  lookup_accepted_exactly = none_exactly (party_conditions t m party) (lookup_checks ∙ party_first t m party) (party_numbered t m party)

  -- Where it is refused, found is false and every other number is zero.
  pub lookup_refused : (lookup t m party address).refusal ≢ 0 → lookup t m party address ≡ refused (lookup t m party address).refusal
  unfolding lookup refused
  lookup_refused bad = rw (ne_eqb _ 0 (λ good. bad (lookup_checks ∙ good)))

  -- So it is with a party above 1, which is given 15 where settings and sizes are not at fault.
  pub no_such_party : memory_refusal t m 0 ≡ 0 → 1 < party → lookup t m party address ≡ refused 15
  unfolding lookup party_refusal refuse
  no_such_party fits above = rw ((memory_passing t m).accepts fits (refuse (ltb 1 party) 15 0), lt-ltb 1 party above)

-- A match vector and a clear name no party.
module _ (t : Settings) (m : Memory) (address : ℕ) where
  -- A match vector is given 1 or 2 exactly so, and no other number.
  pub vector_number : (n : ℕ) → 1 ≤ n → ((match_vector t m address).refusal ≡ n) ↔ FirstMet n (memory_conditions t m)
  unfolding match_vector
  vector_number = given_exactly (memory_conditions t m) (memory_first t m)

  pub vector_accepted_exactly : ((match_vector t m address).refusal ≡ 0) ↔ NoneMet (memory_conditions t m)
  unfolding match_vector
  vector_accepted_exactly = none_exactly (memory_conditions t m) (memory_first t m) (memory_numbered t m)

  pub vector_refused : (match_vector t m address).refusal ≢ 0 → (match_vector t m address).vector ≡ 0
  unfolding match_vector
  vector_refused bad = rw (ne_eqb _ 0 bad)

  -- So neither is given 15.
  pub vector_never_fifteen : (match_vector t m address).refusal ≢ 15
  unfolding match_vector memory_conditions all
  vector_never_fifteen = never_given (memory_conditions t m) (memory_first t m) 15 (lit≤ tt) refl

pub clear_never_fifteen : (t : Settings) (m : Memory) → (act t Clear m).refusal ≢ 15
unfolding numbers_by all
clear_never_fifteen t m = never_unlisted t Clear m 15 (lit≤ tt) refl
