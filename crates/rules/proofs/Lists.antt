-- A list of addresses has four words to an address, each four at their place, and grows by one address's four words at a time; and what its checks tell.
use Prim.Native.Nat.{ℕ, zero, suc, ◌+◌, ◌*◌, ◌<◌}
use mathlib.Core.Path.{◌≡◌, refl, ap, ◌∙◌}
use mathlib.Core.Bool.{true, false, not}
use mathlib.Core.List.{List, [], ◌∷◌, ◌++◌, append-nil, append_assoc}
use native.Mathlib.Nat.{mul-suc}
use native.Mathlib.Numerals.{add-one, add-four}
use native.Mathlib.Omega.{arith}
use lib.ListN.{length, take, drop, get_or}
use borrow.Author.Tests.{eqb-true, eq-eqb, ne_eqb, not-false}
use Rattle.rules.specs.declared.Settings.{Settings}
use Rattle.rules.specs.Table.{Memory, lent, lookup, answer_words, list_words, answered, listed, fourfold, refuse, list_refusal}
use Rattle.rules.proofs.Refusals.{passed, PartyFitted, party_passed, party_fits}

module _ (t : Settings) (m : Memory) (party : ℕ) where
  pub list_size : (addresses : List ℕ) → length (list_words t m party addresses) ≡ 4 * length addresses
  unfolding list_words answer_words
  list_size [] = refl
  list_size (address ∷ addresses) = omega (arith, list_size addresses)

  list_next : (addresses : List ℕ) (i : ℕ) → i < length addresses
      → list_words t m party (take (suc i) addresses) ≡ list_words t m party (take i addresses) ++ answer_words (lookup t m party (get_or addresses i 0))
  unfolding list_words
  list_next [] i h = absurd (omega arith)
  list_next (address ∷ addresses) zero h = append-nil (answer_words (lookup t m party address))
  list_next (address ∷ addresses) (suc i) h =
      ap (λ (rest : List ℕ). answer_words (lookup t m party address) ++ rest) (list_next addresses i (omega arith)) ∙ rw append_assoc

  pub list_more : (addresses : List ℕ) (i : ℕ) → i < length addresses
      → list_words t m party (take (i + 1) addresses) ≡ list_words t m party (take i addresses) ++ answer_words (lookup t m party (get_or addresses i 0))
  list_more addresses i h = rw add-one (list_next addresses i h)

  -- place i of the words has the four of address i's lookup
  pub list_place : (addresses : List ℕ) (i : ℕ) → i < length addresses
      → take 4 (drop (4 * i) (list_words t m party addresses)) ≡ answer_words (lookup t m party (get_or addresses i 0))
  unfolding list_words answer_words
  list_place [] i h = absurd (omega arith)
  list_place (address ∷ addresses) zero h = refl
  list_place (address ∷ addresses) (suc i) h = rw (mul-suc 4 i, add-four) (list_place addresses i (omega arith))

-- two tables that answer each address alike have the same words
pub list_same : (t : Settings) (m other : Memory) (party : ℕ) (addresses : List ℕ)
    → ((i : ℕ) → i < length addresses → lookup t m party (get_or addresses i 0) ≡ lookup t other party (get_or addresses i 0))
    → list_words t m party addresses ≡ list_words t other party addresses
unfolding list_words
list_same t m other party [] alike = refl
list_same t m other party (address ∷ addresses) alike =
    rw (alike 0 (omega arith), list_same t m other party addresses (λ i h. alike (suc i) (omega arith)))

-- four results to an address, or not
module _ (addresses results : ℕ) where
  pub fourfold_so : results ≡ 4 * addresses → fourfold addresses results ≡ true
  unfolding fourfold
  fourfold_so e = eq-eqb _ _ e

  pub fourfold_not : (results ≡ 4 * addresses → ⊥) → fourfold addresses results ≡ false
  unfolding fourfold
  fourfold_not ne = ne_eqb _ _ ne

  -- what 1, 2, 15 and 18 not given tells
  pub list_passed : (t : Settings) (counters slots : List ℕ) (party after : ℕ) → list_refusal t (lent counters slots) party addresses results after ≡ 0
      → PartyFitted t counters slots party × (results ≡ 4 * addresses) × (after ≡ 0)
  unfolding list_refusal fourfold
  list_passed t counters slots party after e =
      let whose = party_passed t counters slots party _ e in
      let sizes = passed (not (fourfold addresses results)) 17 after whose.1 in
      (whose.0, eqb-true _ _ (not-false _ sizes.0), sizes.1)

  -- and the other way
  pub list_fits : (t : Settings) (counters slots : List ℕ) (party : ℕ) → PartyFitted t counters slots party → results ≡ 4 * addresses
      → (after : ℕ) → list_refusal t (lent counters slots) party addresses results after ≡ after
  unfolding list_refusal refuse
  list_fits t counters slots party fit size after = party_fits t counters slots party fit _ ∙ simp (fourfold_so size)

-- a list whose checks gave this number
module _ (refusal : ℕ) (after before : List ℕ) {given : ℕ} (e : given ≡ refusal) where
  pub refused_list : (given ≡ 0 → ⊥) → listed refusal after before ≡ answered given before
  unfolding listed
  refused_list bad = rw (← e, ne_eqb _ _ bad)

  pub accepted_list : given ≡ 0 → listed refusal after before ≡ answered 0 after
  unfolding listed
  accepted_list good = rw (← e, good)
