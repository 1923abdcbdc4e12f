-- Demand 1 of a comparison, on any settings, any lent memory, any party and any list. That it ends and does nothing undefined is
-- what the check of crates/difference_calls proves. The list of conditions is in specs/Differing.antt.
use Prim.Native.Nat.{ℕ, zero, suc, ◌*◌, ◌≤◌, ◌<◌}
use mathlib.Core.Path.{◌≡◌, refl, sym, ap, ◌∙◌}
use mathlib.Core.List.{List, [], ◌∷◌, ◌++◌, map}
use mathlib.Core.Logic.{◌↔◌, ◌≢◌}
use native.Mathlib.Nat.{mul-suc}
use native.Mathlib.Numerals.{add-four}
use native.Mathlib.Omega.{arith}
use lib.Dec.{ltb, eqb}
use lib.ListN.{length, take, drop, length-append, length-drop}
use lib.Seq.{take_at, drop_at}
use borrow.Author.Tests.{ltb-false, lt-ltb, eqb-true, eqb-false, ne_eqb}
use Rattle.rules.specs.declared.Settings.{Settings}
use Rattle.rules.specs.Tools.{all}
use Rattle.rules.specs.Table.{Memory, refuse, memory_refusal, party_refusal}
use Rattle.rules.proofs.Refusals.{passed, memory_passed, party_passed}
use Rattle.difference_rules.specs.declared.Difference.{Difference}
use Rattle.difference_rules.specs.Comparing.{difference_words, Compared, compared, with_count, over, difference_refusal, listing, between, difference}
use Rattle.difference_rules.proofs.Few.{four_words}
use Rattle.difference_rules.proofs.Checks.{refused_listing, accepted_listing, listing_number}
use Rattle.promises.specs.Demands.{Condition, ◌when◌, memory_conditions, party_conditions, NoneMet, FirstMet}
use Rattle.promises.proofs.Conditions.{first_met, numbered, given_exactly, none_exactly, memory_then, party_then}
use Rattle.promises.proofs.Sums.{by_cases}
use Rattle.difference_promises.specs.Differing.{place, difference_conditions}

-- place i of the words has the four of the i-th difference
pub words_place : (ds : List Difference) (i : ℕ) → i < length ds → (rest : List ℕ) → take 4 (drop (4 * i) (difference_words ds ++ rest)) ≡ difference_words (place ds i ∷ [])
unfolding difference_words
words_place [] i inside rest = absurd (omega arith)
words_place (d ∷ ds) zero inside rest = refl
words_place (d ∷ ds) (suc i) inside rest = rw (mul-suc 4 i, add-four) (words_place ds i (omega arith) rest)

-- what is refused after 1 and 2 is refused
stays : (t : Settings) (m : Memory) (after : ℕ) → after ≢ 0 → memory_refusal t m after ≢ 0
stays t m after bad e = bad (memory_passed t m.counters m.slots after e).1

module _ (t : Settings) (m : Memory) (u : Settings) (n : Memory) (party : ℕ) (list : List ℕ) where
  -- the differences of the two tables
  abbrev found : List Difference
  found = between t m.slots u n.slots party

  -- what the comparison gives back, and the list after it
  abbrev gave : Compared
  gave = difference t m u n party list

  -- what the checks give
  checked : ℕ
  checked = difference_refusal t m u n party (length (difference_words found)) (length list)

  its_refusal : gave.answer.refusal ≡ checked
  unfolding difference checked
  its_refusal = listing_number checked (length found) (difference_words found) list

  checked_first : checked ≡ first_met (difference_conditions t m u n party list)
  unfolding checked difference_refusal difference_conditions first_met memory_conditions
  checked_first =
      let last : List Condition = (18 when ltb (length list) (4 * length found)) ∷ [] in
      rw (four_words found) (ap (memory_refusal t m) (party_then u n party last) ∙ memory_then t m (party_conditions u n party ++ last))

  -- A number is given back exactly if its condition is met and none is of those before it in the list.
  pub difference_number : (k : ℕ) → 1 ≤ k → (gave.answer.refusal ≡ k) ↔ FirstMet k (difference_conditions t m u n party list)
  difference_number = given_exactly (difference_conditions t m u n party list) (its_refusal ∙ checked_first)

  -- 0 is, exactly if no condition is met.
  pub difference_accepted_exactly : (gave.answer.refusal ≡ 0) ↔ NoneMet (difference_conditions t m u n party list)
  unfolding numbered all difference_conditions memory_conditions party_conditions
  difference_accepted_exactly = none_exactly (difference_conditions t m u n party list) (its_refusal ∙ checked_first) refl

  -- These are its numbers, in that order: settings and sizes of the first table, those of the second, the party, the list.
  pub difference_numbers_listed : map (λ c. c.number) (difference_conditions t m u n party list) ≡ 1 ∷ 2 ∷ 1 ∷ 2 ∷ 15 ∷ 18 ∷ []
  unfolding difference_conditions memory_conditions party_conditions
  difference_numbers_listed = refl

  -- A refused comparison counts nothing and leaves every word of the list as it was.
  pub difference_refused : gave.answer.refusal ≢ 0 → gave ≡ compared (with_count gave.answer.refusal 0) list
  unfolding difference checked
  difference_refused bad = refused_listing checked (length found) (difference_words found) list its_refusal bad

  -- An accepted one counts the differences, writes them from the list's front on, and leaves what the list had after them.
  pub difference_accepted : gave.answer.refusal ≡ 0 → gave ≡ compared (with_count 0 (length found)) (over (difference_words found) list)
  unfolding difference checked
  difference_accepted good = accepted_listing checked (length found) (difference_words found) list its_refusal good

  -- what an accepted comparison tells of the list
  room : gave.answer.refusal ≡ 0 → length (difference_words found) ≤ length list
  unfolding checked difference_refusal
  room good =
      let first = memory_passed t m.counters m.slots _ (sym its_refusal ∙ good) in
      let second = party_passed u n.counters n.slots party _ first.1 in
      ltb-false _ _ (passed (ltb (length list) (length (difference_words found))) 17 0 second.1).0

  -- The list is as long after as before.
  pub list_size : length gave.list ≡ length list
  unfolding over
  list_size = by_cases (eqb gave.answer.refusal 0)
      (λ good. let e = eqb-true _ 0 good in
      rw (difference_accepted e, length-append, length-drop) (omega (arith, room e)))
      (λ bad. rw (difference_refused (eqb-false _ 0 bad)))

  -- There is no party above 1: its comparisons are given 15, unless they are given 1 or 2.
  pub above_refused : 1 < party → gave ≡ compared (with_count (memory_refusal t m (memory_refusal u n 15)) 0) list
  unfolding difference listing checked difference_refusal party_refusal refuse
  above_refused above = rw (lt-ltb 1 party above, ne_eqb (memory_refusal t m (memory_refusal u n 15)) 0 (stays t m (memory_refusal u n 15) (stays u n 15 (omega arith))))

  module _ (good : gave.answer.refusal ≡ 0) where
    -- Where it is accepted, the count is that of the differences,
    pub count_given : gave.answer.count ≡ length found
    count_given = ap (λ c. c.answer.count) (difference_accepted good)

    -- and four words to each fit the list;
    pub words_fit : 4 * gave.answer.count ≤ length list
    words_fit = rw count_given (omega (arith, room good, four_words found))

    -- the list's front has the words of the differences,
    pub front_written : take (4 * gave.answer.count) gave.list ≡ difference_words found
    unfolding over
    front_written = rw (count_given, difference_accepted good) (take_at (difference_words found) _ _ (four_words found))

    -- behind it the list is as it was,
    pub rest_left : drop (4 * gave.answer.count) gave.list ≡ drop (4 * gave.answer.count) list
    unfolding over
    rest_left = rw (count_given, difference_accepted good) (drop_at (difference_words found) _ _ (four_words found) ∙ ap (λ (k : ℕ). drop k list) (four_words found))

    -- and place i has the four words of the i-th difference: length, prefix, and what the first and the second table have there.
    pub place_written : (i : ℕ) → i < gave.answer.count → take 4 (drop (4 * i) gave.list) ≡ difference_words (place found i ∷ [])
    unfolding over
    place_written i inside = rw (difference_accepted good) (words_place found i (rw count_given at inside) (drop (length (difference_words found)) list))
