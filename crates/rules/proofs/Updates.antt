-- What each update leaves past its checks, and how it ends at its first ones.
use Prim.Native.Nat.{ℕ, ◌+◌, ◌-◌}
use mathlib.Core.Path.{◌≡◌, refl, sym, ap, ◌∙◌}
use mathlib.Core.Bool.{Bool, true, false, cond}
use mathlib.Core.List.{List}
use mathlib.Core.Option.{some}
use native.Mathlib.Omega.{arith}
use lib.Dec.{ltb, eqb}
use lib.ListN.{set}
use lib.Seq.{set-get_or}
use borrow.Author.Tests.{eqb-true, eq-eqb, ne_eqb}
use Rattle.rules.specs.declared.Settings.{Settings}
use Rattle.rules.specs.Table.{Memory, lent, left, default_word, prefix_word, mark_word, mark_of, slot_number, mark_at, prefix_at, own, holds, held, vacant, is_some, stored, refuse, from_1, needs_slot, odd_prefix, party_refusal, add_checks, route_refusal, with_slot, with_default, with_found, counter_places, step_each, add_refusal, withdraw_refusal, change_refusal, added, withdrawn, changed, add, withdraw, change}
use Rattle.rules.proofs.Members.{both}
use Rattle.rules.proofs.Lowest.{some_lowest}
use Rattle.rules.proofs.Refusals.{RouteFitted, route_fits, route_passing, hop_passing, add_passing, stopped, refused_by}

-- ---- Which prefixes need a slot

module _ (t : Settings) (slots : List ℕ) (party p L : ℕ) where
  pub default_in_place : L ≡ 0 → needs_slot t slots party p L ≡ false
  unfolding needs_slot from_1
  default_in_place z = rw (eq-eqb L 0 z)

  pub stored_in_place : stored t slots party p L ≡ true → needs_slot t slots party p L ≡ false
  unfolding needs_slot from_1
  stored_in_place there = rw there (go (eqb L 0))
    where
      go : (b : Bool) → cond b false false ≡ false
      go true = refl
      go false = refl

  pub new_needs_slot : (L ≡ 0 → ⊥) → stored t slots party p L ≡ false → needs_slot t slots party p L ≡ true
  unfolding needs_slot from_1
  new_needs_slot up fresh = rw (ne_eqb L 0 up, fresh)

-- a slot that holds p for a party has a mark of the party's
pub held_own : (t : Settings) (slots : List ℕ) (party p L s : ℕ) → held t slots party p L ≡ some s → own party (mark_at slots (slot_number t p L s)) ≡ true
unfolding held holds
held_own t slots party p L s there = (both _ _ (some_lowest (holds t slots party p L) t.s s there).passes).0

-- a prefix with a slot of its own is stored
pub held_is_stored : (t : Settings) (slots : List ℕ) (party p L : ℕ) → (L ≡ 0 → ⊥) → (s : ℕ) → held t slots party p L ≡ some s → stored t slots party p L ≡ true
unfolding stored is_some
held_is_stored t slots party p L up s there = rw (ne_eqb L 0 up, there)

-- ---- What an update leaves, past its checks

module _ (t : Settings) (m : Memory) (party p L hop : ℕ) where
  pub added_slot : needs_slot t m.slots party p L ≡ true → (s : ℕ) → vacant t m.slots p L ≡ some s
      → added t m party p L hop ≡ lent (step_each (λ n. n + 1) m.counters (counter_places t p L)) (with_slot m.slots (slot_number t p L s) p (mark_of party hop))
  unfolding added with_found
  added_slot needed s there = rw (needed, there)

  pub added_in_place : needs_slot t m.slots party p L ≡ false → added t m party p L hop ≡ changed t m party p L hop
  unfolding added
  added_in_place place = rw place

  pub changed_default : L ≡ 0 → changed t m party p L hop ≡ lent m.counters (set m.slots (default_word t party) (mark_of party hop))
  unfolding changed with_default
  changed_default z = rw (eq-eqb L 0 z)

  pub changed_slot : (L ≡ 0 → ⊥) → (s : ℕ) → held t m.slots party p L ≡ some s
      → changed t m party p L hop ≡ lent m.counters (with_slot m.slots (slot_number t p L s) p (mark_of party hop))
  unfolding changed with_found
  changed_slot up s there = rw (ne_eqb L 0 up, there)

  -- of the words, only the mark changes
  pub changed_mark : (L ≡ 0 → ⊥) → (s : ℕ) → held t m.slots party p L ≡ some s
      → changed t m party p L hop ≡ lent m.counters (set m.slots (mark_word (slot_number t p L s)) (mark_of party hop))
  unfolding held holds prefix_at with_slot
  changed_mark up s lowest =
      let its_prefix = eqb-true _ p (both (own party (mark_at m.slots (slot_number t p L s))) _ (some_lowest (holds t m.slots party p L) t.s s lowest).passes).1 in
      changed_slot up s lowest
      ∙ ap (λ slots. lent m.counters (set slots (mark_word (slot_number t p L s)) (mark_of party hop)))
      (ap (set m.slots (prefix_word (slot_number t p L s))) (sym its_prefix) ∙ set-get_or m.slots (prefix_word (slot_number t p L s)) 0)

  pub changed_counters : (changed t m party p L hop).counters ≡ m.counters
  unfolding changed with_default
  changed_counters = go (eqb L 0) (with_found t m.slots p L (held t m.slots party p L) p (mark_of party hop))
    where
      go : (default : Bool) (slots : List ℕ) → (cond default (with_default t m party (mark_of party hop)) (lent m.counters slots)).counters ≡ m.counters
      go true slots = refl
      go false slots = refl

  -- so an add of a stored prefix that is not odd is a change, whatever the memory holds
  pub add_is_change : odd_prefix p L ≡ false → stored t m.slots party p L ≡ true → add t m party p L hop ≡ change t m party p L hop
  unfolding add change add_refusal change_refusal route_refusal refuse
  add_is_change not_odd there =
      let place = stored_in_place t m.slots party p L there in
      rw (added_in_place place, place, there, not_odd)

module _ (t : Settings) (m : Memory) (party p L : ℕ) where
  pub withdrawn_default : L ≡ 0 → withdrawn t m party p L ≡ lent m.counters (set m.slots (default_word t party) 0)
  unfolding withdrawn with_default
  withdrawn_default z = rw (eq-eqb L 0 z)

  pub withdrawn_slot : (L ≡ 0 → ⊥) → (s : ℕ) → held t m.slots party p L ≡ some s
      → withdrawn t m party p L ≡ lent (step_each (λ n. n - 1) m.counters (counter_places t p L)) (with_slot m.slots (slot_number t p L s) 0 0)
  unfolding withdrawn with_found
  withdrawn_slot up s there = rw (ne_eqb L 0 up, there)

-- ---- How each update ends at its first checks

module _ (t : Settings) (counters slots : List ℕ) (party p L : ℕ) {given : ℕ} (bad : given ≡ 0 → ⊥) where
  pub withdraw_refused : given ≡ route_refusal t (lent counters slots) party p L 0 → withdraw t (lent counters slots) party p L ≡ left given counters slots
  unfolding withdraw withdraw_refusal
  withdraw_refused e = refused_by (withdraw_refusal t (lent counters slots) party p L) _ _ (stopped (route_passing t (lent counters slots) party p L) e bad _) bad

  pub change_refused : (hop : ℕ) → given ≡ route_refusal t (lent counters slots) party p L (refuse (ltb 65535 hop) 5 0) → change t (lent counters slots) party p L hop ≡ left given counters slots
  unfolding change change_refusal
  change_refused hop e = refused_by (change_refusal t (lent counters slots) party p L hop) _ _ (stopped (hop_passing t (lent counters slots) party p L hop) e bad _) bad

  pub add_refused : (hop : ℕ) → given ≡ party_refusal t (lent counters slots) party (add_checks p L hop 0) → add t (lent counters slots) party p L hop ≡ left given counters slots
  unfolding add add_refusal
  add_refused hop e = refused_by (add_refusal t (lent counters slots) party p L hop) _ _ (stopped (add_passing t (lent counters slots) party p L hop) e bad _) bad

-- a route that has passed 1 to 4 and 15 and is odd gets 11, whatever its hop
pub add_odd : {t : Settings} {counters slots : List ℕ} {party p L : ℕ} → RouteFitted t counters slots party p L → odd_prefix p L ≡ true
    → (hop : ℕ) → add t (lent counters slots) party p L hop ≡ left 11 counters slots
unfolding route_refusal refuse
add_odd {t} {counters} {slots} {party} {p} {L} fit odd hop =
    add_refused t counters slots party p L (λ z. omega arith) hop (sym (route_fits t counters slots party p L fit _ ∙ rw odd))
