-- Each condition of the rules, read off a table that is kept, is one on the stored routes.
use Prim.Native.Nat.{ℕ, zero, suc, ◌^◌, ◌≤◌, ◌<◌}
use mathlib.Core.Path.{◌≡◌, refl, sym, ap, ◌∙◌}
use mathlib.Core.Bool.{Bool, true, false, ◌&&◌}
use mathlib.Core.List.{List}
use native.Mathlib.Omega.{arith}
use lib.Dec.{ltb}
use borrow.Author.Tests.{ltb-true, ne_eqb, ltb-false, le-ltb}
use Rattle.rules.specs.declared.Settings.{Settings}
use Rattle.rules.specs.Table.{unless_refused, clear, add, withdraw, change, prefix, Memory, sized, default_mark, own, stored, loose, refuse, from_1, memory_refusal, party_refusal, add_refusal, withdraw_refusal, change_refusal}
use Rattle.rules.proofs.Refusals.{fits as no_refusal, add_order, withdraw_order, change_order}
use Rattle.rules.proofs.Prefixes.{prefix_zero, loose_false}
use Rattle.rules.specs.Calls.{Call, Clear, Add, Withdraw, Change, word_sized, act}
use Rattle.promises.specs.History.{Route, about}
use Rattle.promises.specs.Demands.{number_given, exists, needs_place, add_number, withdraw_number, change_number}
use Rattle.promises.proofs.Sums.{by_cases, exists_there, exists_one, none_exists}
use Rattle.promises.proofs.Buckets.{held_exists, full_crowded, default_stored, default_free}
use Rattle.promises.proofs.Counters.{passes_overflows, never_short}
use Rattle.promises.proofs.Paper.{about_true, about_made}
use Rattle.promises.proofs.Kept.{Kept, fits, hops, ready}

-- a condition on buckets or counters, of what needs a place
place_same : (L : ℕ) (fresh bad other : Bool) → (1 ≤ L → bad ≡ other) → from_1 L fresh && bad ≡ from_1 L fresh && other
unfolding from_1
place_same zero fresh bad other h = refl
place_same (suc L) fresh bad other h = rw (h (omega arith))

from_1_never : (L : ℕ) (bad : Bool) → (1 ≤ L → bad ≡ false) → from_1 L bad ≡ false
unfolding from_1
from_1_never zero bad h = refl
from_1_never (suc L) bad h = rw (ne_eqb (suc L) 0 (omega arith)) (h (omega arith))

module _ {t : Settings} {routes : List Route} {m : Memory} (kept : Kept t routes m) where
  -- p of length L is stored for the party exactly if a route of the party's on paper is about it
  pub stored_exists : (party p L : ℕ) → party ≤ 1 → L ≤ 32 → prefix p L ≡ p → p < 2 ^ 32 → stored t m.slots party p L ≡ exists (about party p L) routes
  unfolding stored
  stored_exists party p zero known high tight word = go (own party (default_mark t m.slots party)) refl
    where
      none_left : p ≡ 0
      none_left = sym tight ∙ prefix_zero p word

      go : (b : Bool) → own party (default_mark t m.slots party) ≡ b → own party (default_mark t m.slots party) ≡ exists (about party p 0) routes
      go true e =
          let r = default_stored kept.slots (hops kept) party known e in
          let its = fits kept r.0 r.1 in
          let nothing : r.0.prefix ≡ 0 = sym its.tight ∙ ap (λ (L : ℕ). prefix r.0.prefix L) r.3 ∙ prefix_zero r.0.prefix its.word in
          e ∙ sym (exists_there (about party p 0) r.1 (about_made party p 0 r.0 r.2 (nothing ∙ sym none_left) r.3))
      go false e = e ∙ sym (none_exists (about party p 0) routes (λ r there. by_cases (about party p 0 r)
          (λ h. let its = about_true party p 0 r h in absurd (default_free kept.slots (hops kept) party known e r there its.0 its.2)) (λ h. h)))
  stored_exists party p (suc L) known high tight word =
      rw (ne_eqb (suc L) 0 (omega arith)) (held_exists kept.slots (hops kept) party p (suc L) known (ready kept.range (omega arith) high))

  -- sizes and settings are not at fault
  pub no_memory_refusal : (after : ℕ) → memory_refusal t m after ≡ after
  no_memory_refusal = no_refusal t m.counters m.slots
      (record { range = kept.range; counters_fit = kept.counters.size; slots_fit = kept.slots.size })

  -- nor is a party that there is
  pub no_party_refusal : (party after : ℕ) → party ≤ 1 → party_refusal t m party after ≡ after
  unfolding party_refusal refuse
  no_party_refusal party after known = no_memory_refusal _ ∙ rw (le-ltb 1 party known)

  -- what comes after 15, 3 and 4 may count on what they check
  after_4 : (party p L after other : ℕ) → (party ≤ 1 → L ≤ 32 → prefix p L ≡ p → after ≡ other)
      → party_refusal t m party (refuse (ltb 32 L) 3 (refuse (loose p L) 4 after)) ≡ refuse (ltb 1 party) 15 (refuse (ltb 32 L) 3 (refuse (loose p L) 4 other))
  unfolding party_refusal refuse
  after_4 party p L after other h = no_memory_refusal _ ∙ by_cases (ltb 1 party)
      (λ above. rw above)
      (λ known. rw known (by_cases (ltb 32 L)
      (λ high. rw high)
      (λ low. rw low (by_cases (loose p L) (λ bad. rw bad) (λ good. rw good (h (ltb-false 1 party known) (ltb-false 32 L low) ((loose_false p L).0 good)))))))

  pub add_by_routes : (party p L hop : ℕ) → p < 2 ^ 32 → add_refusal t m party p L hop ≡ add_number t routes party p L hop
  unfolding add_number needs_place
  add_by_routes party p L hop word = add_order t m party p L hop ∙ after_4 party p L _ _ (λ known high tight.
      rw (
        stored_exists party p L known high tight word,
        place_same L _ _ _ (λ low. full_crowded kept.slots p L (ready kept.range low high)),
        place_same L _ _ _ (λ low. passes_overflows t routes m.counters kept.counters L (ready kept.range low high) p),
      ))

  pub withdraw_by_routes : (party p L : ℕ) → p < 2 ^ 32 → withdraw_refusal t m party p L ≡ withdraw_number routes party p L
  unfolding withdraw_number refuse
  withdraw_by_routes party p L word = withdraw_order t m party p L ∙ after_4 party p L _ _ (λ known high tight. rw (stored_exists party p L known high tight word) (by_cases (exists (about party p L) routes)
      (λ there. rw there
      (let r = exists_one (about party p L) routes there in
      rw (from_1_never L _ (λ low. never_short t routes m.counters kept.counters L (ready kept.range low high) party p r.1 r.2))))
      (λ gone. rw gone)))

  pub change_by_routes : (party p L hop : ℕ) → p < 2 ^ 32 → change_refusal t m party p L hop ≡ change_number routes party p L hop
  unfolding change_number
  change_by_routes party p L hop word = change_order t m party p L hop ∙ after_4 party p L _ _ (λ known high tight. rw (stored_exists party p L known high tight word))

  -- so each call's number is fixed by the stored routes
  pub number_by_routes : (call : Call) → word_sized call ≡ true → (act t call m).refusal ≡ number_given t routes call
  unfolding act clear add withdraw change unless_refused word_sized number_given
  number_by_routes Clear sized = no_memory_refusal 0
  number_by_routes (Add party p L hop) sized = add_by_routes party p L hop (ltb-true p (2 ^ 32) sized)
  number_by_routes (Withdraw party p L) sized = withdraw_by_routes party p L (ltb-true p (2 ^ 32) sized)
  number_by_routes (Change party p L hop) sized = change_by_routes party p L hop (ltb-true p (2 ^ 32) sized)
