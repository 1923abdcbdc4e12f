-- What an accepted add does to each counter: it rises by its hits and stops at 15 at most, so that nothing is lost
-- of it and a withdrawal of the same prefix brings it back.
use Prim.Native.Nat.{ℕ, ◌+◌, ◌≤◌, ◌<◌}
use mathlib.Core.Path.{◌≡◌, sym, ap, ◌∙◌}
use mathlib.Core.Bool.{true}
use mathlib.Core.List.{List}
use mathlib.Core.Option.{some}
use lib.Dec.{ltb}
use lib.ListN.{length, get_or}
use borrow.Author.Tests.{ltb-false}
use Rattle.rules.specs.declared.Settings.{Settings}
use Rattle.rules.specs.Table.{lent, counter_places, hits, passes_15, needs_slot, add_refusal, vacant, added}
use Rattle.rules.proofs.Members.{Among, any_false}
use Rattle.rules.proofs.Placing.{hits_places}
use Rattle.rules.proofs.Refusals.{add_passed}
use Rattle.rules.proofs.Steps.{step_up}
use Rattle.rules.proofs.Updates.{added_slot}

module _ (t : Settings) (counters slots : List ℕ) (party p L hop : ℕ) (needed : needs_slot t slots party p L ≡ true) (s : ℕ) (there : vacant t slots p L ≡ some s) where
  pub added_level : (i : ℕ) → i < length counters → get_or (added t (lent counters slots) party p L hop).counters i 0 ≡ get_or counters i 0 + hits t p L i
  added_level i h =
      ap (λ m. get_or m.counters i 0) (added_slot t (lent counters slots) party p L hop needed s there)
      ∙ step_up counters (counter_places t p L) i h ∙ ap (λ (n : ℕ). get_or counters i 0 + n) (sym (hits_places t p L i))

  pub added_at_most_15 : add_refusal t (lent counters slots) party p L hop ≡ 0 → (i : ℕ) → i < length counters → Among i (counter_places t p L)
      → get_or (added t (lent counters slots) party p L hop).counters i 0 ≤ 15
  unfolding passes_15
  added_at_most_15 accepted i h among =
      let level = (add_passed t counters slots party p L hop accepted).level in
      let few = any_false (λ i. ltb 15 (get_or counters i 0 + hits t p L i)) (counter_places t p L) (rw needed at level) i among in
      rw (added_level i h) (ltb-false 15 _ few)
