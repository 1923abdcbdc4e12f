-- A list of addresses looked up in one call: place i of its results is what a lookup of address i gives, so that each
-- promise of a lookup holds of each place.
use Prim.Native.Nat.{ℕ, ◌*◌, ◌+◌, ◌^◌, ◌≤◌, ◌<◌}
use mathlib.Core.Path.{◌≡◌, refl, sym, ap, ◌∙◌}
use mathlib.Core.Bool.{Bool, true, false}
use mathlib.Core.List.{List, [], ◌∷◌, map}
use mathlib.Core.Logic.{◌↔◌, ◌≢◌}
use native.Mathlib.Nat.{add-zero}
use native.Mathlib.Omega.{arith}
use lib.Dec.{eqb, lit<}
use lib.ListN.{length, take, drop, get_or}
use lib.Seq.{get_or-take, get_or-drop}
use borrow.Author.Tests.{eqb-true, eqb-false, ne_eqb}
use Rattle.rules.specs.declared.Settings.{Settings}
use Rattle.rules.specs.Table.{Memory, refuse, memory_refusal, party_refusal, lookup, one_if, answer_words, list_words, listed, list_refusal, lookup_list}
use Rattle.rules.specs.Calls.{Call}
use Rattle.rules.proofs.Refusals.{memory_passing, memory_passed, PartyFitted, party_fits}
use Rattle.rules.proofs.Lists.{list_size, list_place, list_same, list_passed, list_fits}
use Rattle.promises.specs.History.{History}
use Rattle.promises.specs.Demands.{memory_conditions, party_conditions, list_conditions, NoneMet, FirstMet, Words, answer_at}
use Rattle.promises.proofs.Sums.{by_cases}
use Rattle.promises.proofs.Conditions.{given_exactly, none_exactly, list_first, list_numbered}
use Rattle.promises.proofs.Refused.{lookup_checks}
use Rattle.promises.proofs.Promises.{checks_passed}

-- found is 1 or 0, and read back from it
found_back : (found : Bool) → eqb (one_if found) 1 ≡ found
unfolding one_if
found_back true = refl
found_back false = refl

-- ---- Any list, on any settings and lent lists

module _ (t : Settings) (m : Memory) (party : ℕ) (addresses results : List ℕ) where
  -- the number that it is given back, and its results after
  abbrev given : ℕ
  given = (lookup_list t m party addresses results).refusal

  abbrev results' : List ℕ
  results' = (lookup_list t m party addresses results).results

  -- A number is given exactly if its condition is met and none is of those before it in the list.
  pub list_number : (n : ℕ) → 1 ≤ n → (given ≡ n) ↔ FirstMet n (list_conditions t m party addresses results)
  unfolding lookup_list listed
  list_number = given_exactly (list_conditions t m party addresses results) (list_first t m party addresses results)

  pub list_accepted_exactly : (given ≡ 0) ↔ NoneMet (list_conditions t m party addresses results)
  unfolding lookup_list listed
  list_accepted_exactly = none_exactly (list_conditions t m party addresses results) (list_first t m party addresses results) (list_numbered t m party addresses results)

  -- These are its numbers, in that order.
  pub list_numbers_listed : map (λ c. c.number) (list_conditions t m party addresses results) ≡ 1 ∷ 2 ∷ 15 ∷ 18 ∷ []
  unfolding list_conditions memory_conditions party_conditions
  list_numbers_listed = refl

  -- Where it is refused, every result is left as it was.
  pub list_refused : given ≢ 0 → results' ≡ results
  unfolding lookup_list listed
  list_refused bad = rw (ne_eqb _ 0 bad)

  -- what an accepted list tells
  accepted_fits : given ≡ 0 → PartyFitted t m.counters m.slots party × (length results ≡ 4 * length addresses)
  unfolding lookup_list listed
  accepted_fits good =
      let passed = list_passed _ _ t m.counters m.slots party 0 good in
      (passed.0, passed.1)

  accepted_words : given ≡ 0 → results' ≡ list_words t m party addresses
  unfolding lookup_list listed
  accepted_words good = rw good

  -- There are as many results after as before,
  pub results_size : length results' ≡ length results
  results_size = by_cases (eqb given 0)
      (λ good. let e = eqb-true given 0 good in rw (accepted_words e, list_size t m party addresses) (sym (accepted_fits e).1))
      (λ bad. ap length (list_refused (eqb-false given 0 bad)))

  -- which is four to an address where the list is accepted,
  pub accepted_size : given ≡ 0 → length results' ≡ 4 * length addresses
  accepted_size good = results_size ∙ (accepted_fits good).1

  -- and place i has the four words of address i's lookup: found as 1 or 0, hop, length, probes.
  pub place_words : given ≡ 0 → (i : ℕ) → i < length addresses
      → take 4 (drop (4 * i) results') ≡ answer_words (lookup t m party (get_or addresses i 0))
  place_words good i inside = rw (accepted_words good) (list_place t m party addresses i inside)

  -- Read as an answer, it is that lookup's.
  pub place_answers : given ≡ 0 → (i : ℕ) → i < length addresses → answer_at results' i ≡ lookup t m party (get_or addresses i 0)
  unfolding answer_at answer_words
  place_answers good i inside = λ k. record {
    refusal = sym (lookup_checks t m party address ∙ party_fits t m.counters m.slots party (accepted_fits good).0 0) k;
    found = (ap (λ w. eqb w 1) (rw (add-zero (4 * i)) at (word 0 (omega arith))) ∙ found_back (lookup t m party address).found) k;
    hop = word 1 (omega arith) k;
    length = word 2 (omega arith) k;
    probes = word 3 (omega arith) k;
  }
    where
      address : ℕ
      address = get_or addresses i 0

      word : (j : ℕ) → j < 4 → get_or results' (4 * i + j) 0 ≡ get_or (answer_words (lookup t m party address)) j 0
      word j low = rw (← get_or-drop (4 * i) results' j 0, ← get_or-take 4 (drop (4 * i) results') j 0 low) (ap (λ ws. get_or ws j 0) (place_words good i inside))

-- ---- Two tables whose lookups agree, as those of demand 3 do

module _ (t : Settings) (m other : Memory) (alike : (party address : ℕ) → address < 2 ^ 32 → lookup t other party address ≡ lookup t m party address) where
  pub same_checks : (after : ℕ) → memory_refusal t other after ≡ memory_refusal t m after
  unfolding party_refusal refuse
  same_checks after =
      let same : memory_refusal t other 0 ≡ memory_refusal t m 0 = sym (lookup_checks t other 0 0) ∙ ap (λ u. u.refusal) (alike 0 0 (lit< tt)) ∙ lookup_checks t m 0 0 in
      by_cases (eqb (memory_refusal t m 0) 0)
      (λ good. let e = eqb-true _ 0 good in (memory_passing t other).accepts (same ∙ e) after ∙ sym ((memory_passing t m).accepts e after))
      (λ bad. let ne = eqb-false _ 0 bad in (memory_passing t other).refuses (λ e. ne (sym same ∙ e)) after ∙ same ∙ sym ((memory_passing t m).refuses ne after))

  -- and so the checks of a call that names its party
  pub same_party_checks : (party after : ℕ) → party_refusal t other party after ≡ party_refusal t m party after
  unfolding party_refusal
  same_party_checks party after = same_checks _

  -- Over as many results they give every list the same number,
  pub same_list_numbers : (party : ℕ) (addresses results new_results : List ℕ) → length new_results ≡ length results
      → (lookup_list t other party addresses new_results).refusal ≡ (lookup_list t m party addresses results).refusal
  unfolding lookup_list listed list_refusal
  same_list_numbers party addresses results new_results size = rw size (same_party_checks party _)

  -- and where that is 0 they leave the same results, word for word.
  pub same_lists : (party : ℕ) (addresses results new_results : List ℕ) → length new_results ≡ length results → Words addresses → (lookup_list t m party addresses results).refusal ≡ 0
      → (lookup_list t other party addresses new_results).results ≡ (lookup_list t m party addresses results).results
  same_lists party addresses results new_results size words good =
      accepted_words t other party addresses new_results (same_list_numbers party addresses results new_results size ∙ good)
      ∙ list_same t other m party addresses (λ i inside. alike party (get_or addresses i 0) (words i inside))
      ∙ sym (accepted_words t m party addresses results good)

-- ---- After a history

module _ {t : Settings} {calls : List Call} {answers : List ℕ} {m : Memory} (history : History t calls answers m) (party : ℕ) (addresses results : List ℕ) where
  -- A list of a party that there is is accepted exactly if there are four results to an address.
  pub list_accepted : party ≤ 1 → ((lookup_list t m party addresses results).refusal ≡ 0) ↔ (length results ≡ 4 * length addresses)
  unfolding lookup_list listed
  list_accepted known = (
    λ good. (accepted_fits t m party addresses results good).1,
    λ size. list_fits _ _ t m.counters m.slots party
        (record { memory = (memory_passed t m.counters m.slots 0 (checks_passed history 0)).0; known = known }) size 0,
  )
