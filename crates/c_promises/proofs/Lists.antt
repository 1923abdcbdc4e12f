-- gateway_lookup_list: over addresses and results in bytes, the number that comes back and the bytes that are left. What is
-- read of result i is the lookup of address i, so that each promise of a lookup holds of each result.
use Prim.Native.Nat.{ℕ, ◌+◌, ◌*◌, ◌/◌, ◌%◌, ◌^◌, ◌≤◌, ◌<◌}
use mathlib.Core.Path.{◌≡◌, refl, sym, ap, ◌∙◌}
use mathlib.Core.Bool.{Bool, true, false, not, ◌||◌}
use mathlib.Core.List.{List, [], ◌∷◌, map}
use mathlib.Core.Logic.{◌↔◌, ◌≢◌}
use native.Mathlib.Decide.{ℕ_discrete}
use native.Mathlib.Omega.{arith}
use lib.Dec.{eqb, ltb}
use lib.ListN.{length, get_or, drop}
use lib.Pow.{are_bytes}
use lib.Seq.{get_or-take, get_or-drop}
use borrow.Author.Tests.{eqb-true, eq-eqb, ne_eqb, lt-ltb, le-ltb, not-false}
use Rattle.rules.specs.declared.Settings.{Settings}
use Rattle.rules.specs.Tools.{all}
use Rattle.rules.specs.Table.{Memory, lent, words, refuse, fourfold, party_refusal, lookup, one_if, answer_words, list_words, list_refusal, listed, bytes_of, c_list_refusal, c_lookup_list}
use Rattle.rules.specs.Calls.{Call}
use Rattle.rules.proofs.Lists.{list_size, list_place, list_same, list_passed}
use Rattle.rules.proofs.Refusals.{passed, PartyFitted, party_fits}
use Rattle.words.specs.Laws.{four_each}
use Rattle.words.proofs.Words.{count_whole, word_is}
use Rattle.message_format.proofs.Words.{byte_at}
use Rattle.gateway.specs.Crossing.{ListCrossed}
use Rattle.promises.specs.History.{History}
use Rattle.promises.specs.Demands.{Condition, memory_conditions, party_conditions, NoneMet, FirstMet}
use Rattle.promises.proofs.Conditions.{first_met, numbered, given_exactly, none_exactly, party_then}
use Rattle.promises.proofs.Lists.{same_party_checks}
use Rattle.promises.proofs.Promises.{checks_passed}
use Rattle.promises.proofs.Refused.{lookup_checks}
use Rattle.c_promises.specs.Numbers.{gateway_refusal, word_at, list_address, found_at, hop_at, length_at, probes_at, read_result}
use Rattle.c_promises.specs.Calls.{ListedUp, list_conditions}
use Rattle.c_promises.proofs.Unpacking.{words_again, list_read, found_back}

-- ---- Demand 1: any list, on any settings, bytes, party and addresses

either_18 : (a b : Bool) → refuse a 18 (refuse b 18 0) ≡ refuse (a || b) 18 0
unfolding refuse
either_18 true b = refl
either_18 false b = refl

module _ (t : Settings) (counters slots : List ℕ) (party : ℕ) (addresses results : List ℕ) (answer : ℕ) (results' : List ℕ)
    (crossed : ListCrossed (c_lookup_list t counters slots party addresses results) answer results') where
  abbrev listed_conditions : List Condition
  listed_conditions = list_conditions t counters slots party addresses results

  its_refusal : gateway_refusal answer ≡ c_list_refusal t counters slots party addresses results
  unfolding c_lookup_list listed
  its_refusal = sym (ap (λ l. l.refusal) (list_read crossed))

  list_first : gateway_refusal answer ≡ first_met listed_conditions
  unfolding list_conditions c_list_refusal list_refusal fourfold first_met
  list_first = its_refusal ∙ ap (party_refusal t _ party) (either_18 _ _) ∙ party_then t _ party _

  -- A number is given exactly if its condition is met and none is of those before it in the list.
  pub list_number : (n : ℕ) → 1 ≤ n → (gateway_refusal answer ≡ n) ↔ FirstMet n listed_conditions
  list_number = given_exactly listed_conditions list_first

  -- The list is accepted exactly if no condition is met.
  pub list_accepted_exactly : (gateway_refusal answer ≡ 0) ↔ NoneMet listed_conditions
  unfolding numbered all list_conditions memory_conditions party_conditions
  list_accepted_exactly = none_exactly listed_conditions list_first refl

  -- These are its numbers, in that order.
  pub list_numbers_listed : map (λ c. c.number) listed_conditions ≡ 1 ∷ 2 ∷ 15 ∷ 18 ∷ []
  unfolding list_conditions memory_conditions party_conditions
  list_numbers_listed = refl

  -- A refused list leaves every byte of the results as it was.
  pub list_refused : gateway_refusal answer ≢ 0 → results' ≡ results
  unfolding c_lookup_list listed
  list_refused bad = crossed.results ∙ rw (ne_eqb _ 0 (λ good. bad (its_refusal ∙ good)))

  -- An accepted one leaves the bytes of the lookups' words.
  list_left : gateway_refusal answer ≡ 0 → results' ≡ bytes_of (list_words t (lent counters (words slots)) party (words addresses))
  unfolding c_lookup_list listed
  list_left good = crossed.results ∙ rw (sym its_refusal ∙ good)

  -- It has four bytes of results to each byte of its addresses, and these are whole words.
  pub list_fits : gateway_refusal answer ≡ 0 → PartyFitted t counters (words slots) party × (length results ≡ 4 * length addresses) × (length addresses % 4 ≡ 0)
  unfolding c_list_refusal
  list_fits good =
      let told = list_passed (length addresses) (length results) t counters (words slots) party _ (sym its_refusal ∙ good) in
      (told.0, told.1, eqb-true _ _ (not-false _ (passed _ 17 0 told.2).0))

  -- There are as many bytes of results after the call as before.
  pub results_size : length results' ≡ length results
  results_size = go (ℕ_discrete (gateway_refusal answer) 0)
    where
      go : Dec (gateway_refusal answer ≡ 0) → length results' ≡ length results
      go (yes good) =
          let fits = list_fits good in
          let left = list_words t (lent counters (words slots)) party (words addresses) in
          rw (list_left good) (omega (arith, four_each left, list_size t (lent counters (words slots)) party (words addresses), count_whole addresses fits.2))
      go (no bad) = ap length (list_refused bad)

-- ---- Result i

word_small : (bytes : List ℕ) → are_bytes bytes ≡ true → (from : ℕ) → word_at bytes from < 2 ^ 32
unfolding word_at
word_small bytes small from =
    let byte = byte_at bytes small in
    omega (arith, byte from, byte (from + 1), byte (from + 2), byte (from + 3))

pub word_again : (left : List ℕ) (n : ℕ) → n < length left → word_at (bytes_of left) (4 * n) ≡ get_or left n 0
unfolding word_at
word_again left n h = sym (rw words_again at (word_is (bytes_of left) n (rw words_again h)))

-- the four words of result i are those of its address's lookup
result_word : (t : Settings) (m : Memory) (party : ℕ) (addresses : List ℕ) (i k from : ℕ) → i < length addresses → k < 4 → from ≡ 4 * (4 * i + k)
    → word_at (bytes_of (list_words t m party addresses)) from ≡ get_or (answer_words (lookup t m party (get_or addresses i 0))) k 0
result_word t m party addresses i k from there four e =
    let left = list_words t m party addresses in
    rw e
    (word_again left (4 * i + k) (omega (arith, list_size t m party addresses))
    ∙ sym (get_or-take 4 (drop (4 * i) left) k 0 four ∙ get_or-drop (4 * i) left k 0)
    ∙ ap (λ four_words. get_or four_words k 0) (list_place t m party addresses i there))

module _ {t : Settings} {m : Memory} {party : ℕ} {addresses results results' : List ℕ} {answer : ℕ} (asked : ListedUp t m party addresses results answer results') where
  asked_refusal : gateway_refusal answer ≡ c_list_refusal t m.counters (bytes_of m.slots) party addresses results
  asked_refusal = its_refusal t m.counters (bytes_of m.slots) party addresses results answer results' asked.crossed

  asked_fits : gateway_refusal answer ≡ 0 → PartyFitted t m.counters m.slots party × (length results ≡ 4 * length addresses) × (length addresses % 4 ≡ 0)
  asked_fits = rw words_again at (list_fits t m.counters (bytes_of m.slots) party addresses results answer results' asked.crossed)

  -- Where a list is accepted, its results are the bytes of the lookups' words, four to an address: found as 1 or 0, hop,
  -- length, probes.
  pub results_left : gateway_refusal answer ≡ 0 → results' ≡ bytes_of (list_words t m party (words addresses))
  results_left = rw words_again at (list_left t m.counters (bytes_of m.slots) party addresses results answer results' asked.crossed)

  module _ (accepted : gateway_refusal answer ≡ 0) (i : ℕ) (there : i < length addresses / 4) where
    -- Address i is below 2^32, as gateway_lookup's is.
    pub address_small : list_address addresses i < 2 ^ 32
    unfolding list_address
    address_small = word_small addresses asked.bytes (4 * i)

    inside : i < length (words addresses)
    inside = omega (arith, count_whole addresses (asked_fits accepted).2)

    its_word : (k from : ℕ) → k < 4 → from ≡ 4 * (4 * i + k) → word_at results' from ≡ get_or (answer_words (lookup t m party (list_address addresses i))) k 0
    unfolding list_address word_at
    its_word k from four e = rw (results_left accepted, ← word_is addresses i inside) (result_word t m party (words addresses) i k from inside four e)

    -- Its found is 1 or 0,
    pub result_found : found_at results' i ≡ one_if (lookup t m party (list_address addresses i)).found
    unfolding found_at answer_words
    result_found = its_word 0 (16 * i) (omega arith) (omega arith)

    -- and what is read of result i is the answer to address i.
    pub result_read : read_result results' i ≡ lookup t m party (list_address addresses i)
    unfolding hop_at length_at probes_at answer_words
    result_read = λ k. record {
      refusal = sym (lookup_checks t m party (list_address addresses i) ∙ party_fits t m.counters m.slots party (asked_fits accepted).0 0) k;
      found = found_back _ _ result_found k;
      hop = its_word 1 (16 * i + 4) (omega arith) (omega arith) k;
      length = its_word 2 (16 * i + 8) (omega arith) (omega arith) k;
      probes = its_word 3 (16 * i + 12) (omega arith) (omega arith) k;
    }

-- Where the addresses lie in memory as words, as an array of uint32_t does, the results lie there as the lookups' words,
pub results_in_words : {t : Settings} {m : Memory} {party : ℕ} {results results' : List ℕ} {answer : ℕ} (addresses : List ℕ)
    → ListedUp t m party (bytes_of addresses) results answer results' → gateway_refusal answer ≡ 0 → results' ≡ bytes_of (list_words t m party addresses)
results_in_words addresses asked accepted = rw words_again at (results_left asked accepted)

-- and these are what is read there as words.
pub read_in_words : {t : Settings} {m : Memory} {party : ℕ} {results : List ℕ} {answer : ℕ} (addresses read : List ℕ)
    → ListedUp t m party (bytes_of addresses) results answer (bytes_of read) → gateway_refusal answer ≡ 0 → read ≡ list_words t m party addresses
read_in_words addresses read asked accepted =
    sym (words_again read) ∙ ap words (results_in_words addresses asked accepted) ∙ words_again _

-- ---- After a history

module _ {t : Settings} {calls : List Call} {answers : List ℕ} {m : Memory} (history : History t calls answers m)
    {party : ℕ} {addresses results results' : List ℕ} {answer : ℕ} (asked : ListedUp t m party addresses results answer results') where
  -- Its number is read off the party and the sizes alone.
  pub list_given : gateway_refusal answer ≡ refuse (ltb 1 party) 15 (refuse (not (eqb (length results) (4 * length addresses)) || not (eqb (length addresses % 4) 0)) 18 0)
  unfolding c_list_refusal list_refusal party_refusal fourfold
  list_given = asked_refusal asked ∙ rw words_again (checks_passed history _ ∙ ap (refuse (ltb 1 party) 15) (either_18 _ _))

  -- A party's list is accepted exactly if its results are four bytes to each byte of its addresses, and these are whole words.
  pub list_accepted : party ≤ 1 → (gateway_refusal answer ≡ 0) ↔ ((length results ≡ 4 * length addresses) × (length addresses % 4 ≡ 0))
  unfolding refuse
  list_accepted known = (
    λ good. ((asked_fits asked good).1, (asked_fits asked good).2),
    λ fits. list_given ∙ rw (le-ltb _ _ known, eq-eqb _ _ fits.0, eq-eqb _ _ fits.1),
  )

  -- One of a party above 1 is refused with 15.
  pub list_above : 1 < party → gateway_refusal answer ≡ 15
  unfolding refuse
  list_above above = list_given ∙ rw (lt-ltb _ _ above)

-- ---- Two tables whose lookups agree, as those of demand 3 do

module _ {t : Settings} {m other : Memory} (alike : (party address : ℕ) → address < 2 ^ 32 → lookup t other party address ≡ lookup t m party address)
    {party : ℕ} {addresses results results' new_results new_results' : List ℕ} {answer new_answer : ℕ}
    (asked : ListedUp t m party addresses results answer results') (new_asked : ListedUp t other party addresses new_results new_answer new_results')
    (size : length new_results ≡ length results) where
  same_refusal : c_list_refusal t other.counters (bytes_of other.slots) party addresses new_results ≡ c_list_refusal t m.counters (bytes_of m.slots) party addresses results
  unfolding c_list_refusal list_refusal
  same_refusal = rw (words_again other.slots, words_again m.slots, size) (same_party_checks t m other alike party _)

  -- Over as many bytes of results they give a list the same number,
  pub equal_list_numbers : new_answer ≡ answer
  unfolding c_lookup_list listed
  equal_list_numbers = new_asked.crossed.number ∙ ap (λ refusal. refusal * 2 ^ 48) same_refusal ∙ sym asked.crossed.number

  -- and where it is accepted they leave the same results, byte for byte.
  pub equal_lists : gateway_refusal answer ≡ 0 → new_results' ≡ results'
  unfolding word_at
  equal_lists good =
      results_left new_asked (ap gateway_refusal equal_list_numbers ∙ good)
      ∙ ap bytes_of (list_same t other m party (words addresses) (λ i inside. alike party _ (rw (word_is addresses i inside) (word_small addresses asked.bytes (4 * i)))))
      ∙ sym (results_left asked good)
