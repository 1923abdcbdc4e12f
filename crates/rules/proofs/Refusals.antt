-- The checks that calls share, as laws: a check passes on what comes after it or gives its own number, and what passed is known.
use Prim.Native.Nat.{ℕ, suc, ◌≤◌}
use mathlib.Core.Path.{◌≡◌, refl, sym, ◌∙◌}
use mathlib.Core.Bool.{Bool, true, false, not, ◌&&◌}
use mathlib.Core.List.{List}
use native.Mathlib.Nat.{suc-ne-zero}
use native.Mathlib.Omega.{arith}
use lib.Dec.{ltb, eqb}
use lib.ListN.{length}
use borrow.Author.Tests.{ltb-false, le-ltb, eqb-true, eq-eqb, ne_eqb, not-false}
use Rattle.std.specs.Prelude.{Result, Err}
use Rattle.rules.specs.declared.Settings.{Settings}
use Rattle.rules.specs.declared.Refusal.{Refusal}
use Rattle.rules.specs.Table.{Memory, lent, in_range, counters_size, slots_size, prefix, stored, full, passes_15, runs_short, refuse, from_1, needs_slot, sized, loose, odd_prefix, memory_refusal, party_refusal, add_checks, route_refusal, add_refusal, withdraw_refusal, change_refusal, fourfold, list_refusal, unless_refused}
use Rattle.rules.specs.Numbers.{refusal_number, number_given}
use Rattle.rules.specs.Ready.{Ready, Counters, Slots}
use Rattle.rules.proofs.Members.{both}
use Rattle.rules.proofs.Numbers.{refusal_nonzero}
use Rattle.rules.proofs.Prefixes.{loose_false}

-- checks that pass on what comes after them, or give their own number whatever comes after
pub record Passing (checks : ℕ → ℕ) : Type 0 where
  pub accepts : checks 0 ≡ 0 → (after : ℕ) → checks after ≡ after
  pub refuses : (checks 0 ≡ 0 → ⊥) → (after : ℕ) → checks after ≡ checks 0

none_passing : Passing (λ after. after)
none_passing = record { accepts = λ e after. refl; refuses = λ ne after. absurd (ne refl) }

-- one check more in front
more_passing : (bad : Bool) (number : ℕ) {checks : ℕ → ℕ} → Passing checks → Passing (λ after. refuse bad (suc number) (checks after))
unfolding refuse
more_passing true number h = record { accepts = λ e after. absurd (suc-ne-zero number e); refuses = λ ne after. refl }
more_passing false number h = h

pub memory_passing : (t : Settings) (m : Memory) → Passing (memory_refusal t m)
unfolding memory_refusal
memory_passing t m = more_passing (not (in_range t)) 0 (more_passing (not (sized t m)) 1 none_passing)

party_then : (t : Settings) (m : Memory) (party : ℕ) {checks : ℕ → ℕ} → Passing checks → Passing (λ after. party_refusal t m party (checks after))
unfolding party_refusal memory_refusal
party_then t m party h =
    more_passing (not (in_range t)) 0 (more_passing (not (sized t m)) 1 (more_passing (ltb 1 party) 14 h))

pub party_passing : (t : Settings) (m : Memory) (party : ℕ) → Passing (party_refusal t m party)
party_passing t m party = party_then t m party none_passing

route_then : (t : Settings) (m : Memory) (party p L : ℕ) {checks : ℕ → ℕ} → Passing checks → Passing (λ after. route_refusal t m party p L (checks after))
unfolding route_refusal
route_then t m party p L h = party_then t m party (more_passing (ltb 32 L) 2 (more_passing (loose p L) 3 h))

pub route_passing : (t : Settings) (m : Memory) (party p L : ℕ) → Passing (route_refusal t m party p L)
route_passing t m party p L = route_then t m party p L none_passing

pub hop_passing : (t : Settings) (m : Memory) (party p L hop : ℕ) → Passing (λ after. route_refusal t m party p L (refuse (ltb 65535 hop) 5 after))
hop_passing t m party p L hop = route_then t m party p L (more_passing (ltb 65535 hop) 4 none_passing)

pub add_passing : (t : Settings) (m : Memory) (party p L hop : ℕ) → Passing (λ after. party_refusal t m party (add_checks p L hop after))
unfolding route_refusal
add_passing t m party p L hop = route_then t m party p L (more_passing (odd_prefix p L) 10 (more_passing (ltb 65535 hop) 4 none_passing))

pub list_passing : (t : Settings) (m : Memory) (party addresses results : ℕ) → Passing (list_refusal t m party addresses results)
unfolding list_refusal
list_passing t m party addresses results = party_then t m party (more_passing (not (fourfold addresses results)) 17 none_passing)

-- a check that passed: its condition does not hold, and those after it passed
pub passed : (bad : Bool) (number after : ℕ) → refuse bad (suc number) after ≡ 0 → (bad ≡ false) × (after ≡ 0)
unfolding refuse
passed true number after e = absurd (suc-ne-zero number e)
passed false number after e = (refl, e)

-- what 1 and 2 not given tells
pub record Fitted (t : Settings) (counters slots : List ℕ) : Type 0 where
  pub range : in_range t ≡ true
  pub counters_fit : length counters ≡ counters_size t
  pub slots_fit : length slots ≡ slots_size t

pub memory_passed : (t : Settings) (counters slots : List ℕ) (after : ℕ) → memory_refusal t (lent counters slots) after ≡ 0
    → Fitted t counters slots × (after ≡ 0)
unfolding memory_refusal sized
memory_passed t counters slots after e =
    let one = passed (not (in_range t)) 0 (refuse (not (sized t (lent counters slots))) 2 after) e in
    let two = passed (not (sized t (lent counters slots))) 1 after one.1 in
    let sizes = both (eqb (length counters) (counters_size t)) (eqb (length slots) (slots_size t)) (not-false _ two.0) in (
      record {
        range = not-false _ one.0;
        counters_fit = eqb-true _ _ sizes.0;
        slots_fit = eqb-true _ _ sizes.1;
      },
      two.1,
    )

-- and the other way
pub fits : (t : Settings) (counters slots : List ℕ) → Fitted t counters slots
    → (after : ℕ) → memory_refusal t (lent counters slots) after ≡ after
unfolding memory_refusal sized refuse
fits t counters slots f after =
    simp (f.range, eq-eqb _ _ f.counters_fit, eq-eqb _ _ f.slots_fit)

-- what 1, 2 and 15 not given tells
pub record PartyFitted (t : Settings) (counters slots : List ℕ) (party : ℕ) : Type 0 where
  pub memory : Fitted t counters slots
  pub known : party ≤ 1

pub party_passed : (t : Settings) (counters slots : List ℕ) (party after : ℕ) → party_refusal t (lent counters slots) party after ≡ 0
    → PartyFitted t counters slots party × (after ≡ 0)
unfolding party_refusal
party_passed t counters slots party after e =
    let two = memory_passed t counters slots (refuse (ltb 1 party) 15 after) e in
    let known = passed (ltb 1 party) 14 after two.1 in
    (record { memory = two.0; known = ltb-false _ _ known.0 }, known.1)

-- and the other way
pub party_fits : (t : Settings) (counters slots : List ℕ) (party : ℕ) → PartyFitted t counters slots party
    → (after : ℕ) → party_refusal t (lent counters slots) party after ≡ after
unfolding party_refusal refuse
party_fits t counters slots party f after = fits t counters slots f.memory _ ∙ simp (le-ltb _ _ f.known)

-- what 1 to 4, and 15, not given tells
pub record RouteFitted (t : Settings) (counters slots : List ℕ) (party p L : ℕ) : Type 0 where
  pub memory : Fitted t counters slots
  pub known : party ≤ 1
  pub high : L ≤ 32
  pub tight : prefix p L ≡ p

pub route_passed : (t : Settings) (counters slots : List ℕ) (party p L after : ℕ) → route_refusal t (lent counters slots) party p L after ≡ 0
    → RouteFitted t counters slots party p L × (after ≡ 0)
unfolding route_refusal
route_passed t counters slots party p L after e =
    let whose = party_passed t counters slots party (refuse (ltb 32 L) 3 (refuse (loose p L) 4 after)) e in
    let three = passed (ltb 32 L) 2 (refuse (loose p L) 4 after) whose.1 in
    let four = passed (loose p L) 3 after three.1 in
    (record { memory = whose.0.memory; known = whose.0.known; high = ltb-false _ _ three.0; tight = (loose_false p L).0 four.0 }, four.1)

-- and the other way
pub route_fits : (t : Settings) (counters slots : List ℕ) (party p L : ℕ) → RouteFitted t counters slots party p L
    → (after : ℕ) → route_refusal t (lent counters slots) party p L after ≡ after
unfolding route_refusal refuse
route_fits t counters slots party p L f after =
    party_fits t counters slots party (record { memory = f.memory; known = f.known }) _
    ∙ simp (le-ltb _ _ f.high, (loose_false p L).1 f.tight)

-- and so the inner steps of an update may count on this
module _ {t : Settings} {counters slots : List ℕ} {party p L : ℕ} (f : RouteFitted t counters slots party p L) where
  pub fitted_ready : (L ≡ 0 → ⊥) → Ready t L
  fitted_ready up = record { range = f.memory.range; low = omega arith; high = f.high }

  pub fitted_counters : Counters t counters
  fitted_counters = record { size = f.memory.counters_fit }

  pub fitted_slots : Slots t slots
  fitted_slots = record { size = f.memory.slots_fit }

-- what 1 to 5, and 15, not given tells
pub record HopFitted (t : Settings) (counters slots : List ℕ) (party p L hop : ℕ) : Type 0 where
  pub route : RouteFitted t counters slots party p L
  pub small : hop ≤ 65535

pub hop_passed : (t : Settings) (counters slots : List ℕ) (party p L hop after : ℕ)
    → route_refusal t (lent counters slots) party p L (refuse (ltb 65535 hop) 5 after) ≡ 0 → HopFitted t counters slots party p L hop × (after ≡ 0)
hop_passed t counters slots party p L hop after e =
    let to4 = route_passed t counters slots party p L (refuse (ltb 65535 hop) 5 after) e in
    let to5 = passed (ltb 65535 hop) 4 after to4.1 in
    (record { route = to4.0; small = ltb-false _ _ to5.0 }, to5.1)

-- what an add's first checks tell: 1 to 5, 11 and 15 not given
pub record AddChecked (t : Settings) (counters slots : List ℕ) (party p L hop : ℕ) : Type 0 where
  pub fitted : HopFitted t counters slots party p L hop
  pub not_odd : odd_prefix p L ≡ false

pub checks_passed : (t : Settings) (counters slots : List ℕ) (party p L hop after : ℕ)
    → party_refusal t (lent counters slots) party (add_checks p L hop after) ≡ 0 → AddChecked t counters slots party p L hop × (after ≡ 0)
unfolding route_refusal
checks_passed t counters slots party p L hop after e =
    let five = refuse (ltb 65535 hop) 5 after in
    let to4 = route_passed t counters slots party p L (refuse (odd_prefix p L) 11 five) e in
    let to11 = passed (odd_prefix p L) 10 five to4.1 in
    let to5 = passed (ltb 65535 hop) 4 after to11.1 in
    (record { fitted = record { route = to4.0; small = ltb-false _ _ to5.0 }; not_odd = to11.0 }, to5.1)

-- and the other way
pub checks_fit : (t : Settings) (counters slots : List ℕ) (party p L hop : ℕ) → AddChecked t counters slots party p L hop
    → (after : ℕ) → party_refusal t (lent counters slots) party (add_checks p L hop after) ≡ after
unfolding route_refusal refuse
checks_fit t counters slots party p L hop f after =
    route_fits t counters slots party p L f.fitted.route _ ∙ simp (f.not_odd, le-ltb _ _ f.fitted.small)

-- a number that checks gave back, of a call that goes no further where it is not 0
module _ {checks : ℕ → ℕ} (passing : Passing checks) {given : ℕ} (e : given ≡ checks 0) where
  pub stopped : (given ≡ 0 → ⊥) → (after : ℕ) → given ≡ checks after
  stopped bad after = e ∙ sym (passing.refuses (λ z. bad (e ∙ z)) after)

  pub let_by : given ≡ 0 → (after : ℕ) → checks after ≡ after
  let_by good after = passing.accepts (sym e ∙ good) after

-- what a call that was refused hands on, after the checks that refused it
pub handed_on : {A : Type 0} {checks : ℕ → ℕ} → Passing checks → {r : Result A Refusal} {e : Refusal} → (d : Refusal) × (r ≡ Err d) × (d ≡ e)
    → refusal_number e ≡ checks 0 → (after : ℕ) → number_given r ≡ checks after
handed_on passing {e = e} (d, is, same) given after = rw (is, same) (stopped passing given (refusal_nonzero e) after)

-- what an accepted add tells
pub record AddFitted (t : Settings) (counters slots : List ℕ) (party p L hop : ℕ) : Type 0 where
  pub route : RouteFitted t counters slots party p L
  pub not_odd : odd_prefix p L ≡ false
  pub small : hop ≤ 65535
  pub room : needs_slot t slots party p L && full t slots p L ≡ false
  pub level : needs_slot t slots party p L && passes_15 t counters p L ≡ false

pub add_passed : (t : Settings) (counters slots : List ℕ) (party p L hop : ℕ) → add_refusal t (lent counters slots) party p L hop ≡ 0
    → AddFitted t counters slots party p L hop
unfolding add_refusal
add_passed t counters slots party p L hop e =
    let nine = refuse (needs_slot t slots party p L && passes_15 t counters p L) 9 0 in
    let eight = refuse (needs_slot t slots party p L && full t slots p L) 8 nine in
    let first = checks_passed t counters slots party p L hop eight e in
    let to8 = passed (needs_slot t slots party p L && full t slots p L) 7 nine first.1 in
    let to9 = passed (needs_slot t slots party p L && passes_15 t counters p L) 8 0 to8.1 in
    let checked = first.0 in
    record { route = checked.fitted.route; not_odd = checked.not_odd; small = checked.fitted.small; room = to8.0; level = to9.0 }

-- an update whose checks gave this number
module _ (refusal : ℕ) (after before : Memory) {given : ℕ} (e : given ≡ refusal) where
  pub refused_by : (given ≡ 0 → ⊥) → unless_refused refusal after before ≡ record { refusal = given; memory = before }
  unfolding unless_refused
  refused_by bad = rw (← e, ne_eqb _ _ bad)

  pub accepted_by : given ≡ 0 → unless_refused refusal after before ≡ record { refusal = 0; memory = after }
  unfolding unless_refused
  accepted_by good = rw (← e, good)

-- ---- Each call's checks, in their order

pub memory_order : (t : Settings) (m : Memory) (after : ℕ) → memory_refusal t m after ≡ refuse (not (in_range t)) 1 (refuse (not (sized t m)) 2 after)
unfolding memory_refusal
memory_order t m after = refl

pub party_order : (t : Settings) (m : Memory) (party after : ℕ)
    → party_refusal t m party after ≡ refuse (not (in_range t)) 1 (refuse (not (sized t m)) 2 (refuse (ltb 1 party) 15 after))
unfolding party_refusal memory_refusal
party_order t m party after = refl

pub add_order : (t : Settings) (m : Memory) (party p L hop : ℕ) → add_refusal t m party p L hop
    ≡ party_refusal t m party
    (refuse (ltb 32 L) 3
    (refuse (loose p L) 4
    (refuse (odd_prefix p L) 11
    (refuse (ltb 65535 hop) 5
    (refuse (from_1 L (not (stored t m.slots party p L)) && full t m.slots p L) 8
    (refuse (from_1 L (not (stored t m.slots party p L)) && passes_15 t m.counters p L) 9 0))))))
unfolding add_refusal needs_slot
add_order t m party p L hop = refl

pub withdraw_order : (t : Settings) (m : Memory) (party p L : ℕ) → withdraw_refusal t m party p L
    ≡ party_refusal t m party
    (refuse (ltb 32 L) 3
    (refuse (loose p L) 4 (refuse (not (stored t m.slots party p L)) 7 (refuse (from_1 L (runs_short t m.counters p L)) 10 0))))
unfolding withdraw_refusal route_refusal
withdraw_order t m party p L = refl

pub change_order : (t : Settings) (m : Memory) (party p L hop : ℕ) → change_refusal t m party p L hop
    ≡ party_refusal t m party
    (refuse (ltb 32 L) 3 (refuse (loose p L) 4 (refuse (ltb 65535 hop) 5 (refuse (not (stored t m.slots party p L)) 7 0))))
unfolding change_refusal route_refusal
change_order t m party p L hop = refl

-- what a list's memory is refused for goes before its party and its sizes
pub list_memory_first : (t : Settings) (m : Memory) (party addresses results after : ℕ) → (memory_refusal t m 0 ≡ 0 → ⊥)
    → list_refusal t m party addresses results after ≡ memory_refusal t m 0
unfolding list_refusal party_refusal
list_memory_first t m party addresses results after bad = (memory_passing t m).refuses bad _
