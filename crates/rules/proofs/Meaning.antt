-- How each update ends past its first checks: as what the search of the bucket answers means to it.
use Prim.Native.Nat.{ℕ, ◌+◌, ◌-◌}
use mathlib.Core.Path.{◌≡◌, refl, ap}
use mathlib.Core.Bool.{Bool, true, false, cond, not, ◌&&◌}
use mathlib.Core.List.{List, []}
use mathlib.Core.Option.{Option, some, none}
use lib.ListN.{set}
use borrow.Author.Tests.{eq-eqb, ne_eqb, le-ltb}
use Rattle.rules.specs.declared.Settings.{Settings}
use Rattle.rules.specs.declared.Place.{Place}
use Rattle.rules.specs.declared.Place.TheVariants.{Absent}
use Rattle.rules.specs.Table.{lent, left, default_word, default_mark, mark_of, own, held, vacant, is_some, stored, refuse, from_1, needs_slot, full, passes_15, runs_short, unless_refused, with_default, with_found, counter_places, step_each, add_refusal, withdraw_refusal, change_refusal, added, withdrawn, changed, add, withdraw, change, found_or}
use Rattle.rules.specs.Meaning.{vacancy_of, bucket_place, place_added, place_withdrawn, place_changed, default_changed}
use Rattle.rules.proofs.Refusals.{RouteFitted, HopFitted, AddChecked, route_fits, checks_fit}

-- the default's word is changed without a look at the counters
pub default_alone : (t : Settings) (counters slots : List ℕ) (party mark : ℕ) {r : ℕ} {after : List ℕ}
    → default_changed t (lent [] slots) party mark ≡ left r [] after → default_changed t (lent counters slots) party mark ≡ left r counters after
unfolding default_changed unless_refused refuse with_default
default_alone t counters slots party mark {r} {after} = go (own party (default_mark t slots party))
  where
    go : (b : Bool) → unless_refused (refuse (not b) 7 0) (with_default t (lent [] slots) party mark) (lent [] slots) ≡ left r [] after
        → unless_refused (refuse (not b) 7 0) (with_default t (lent counters slots) party mark) (lent counters slots) ≡ left r counters after
    go true = ap (λ o. left o.refusal counters o.memory.slots)
    go false = ap (λ o. left o.refusal counters o.memory.slots)

module _ {t : Settings} {counters slots : List ℕ} {party p L : ℕ} (fit : RouteFitted t counters slots party p L) where
  pub withdraw_at_0 : L ≡ 0 → withdraw t (lent counters slots) party p L ≡ default_changed t (lent counters slots) party 0
  unfolding withdraw withdraw_refusal stored from_1 refuse withdrawn default_changed
  withdraw_at_0 z = rw (route_fits t counters slots party p L fit, eq-eqb L 0 z)

  pub withdraw_by_place : (L ≡ 0 → ⊥) → {place : Place} → place ≡ bucket_place t slots party p L
      → withdraw t (lent counters slots) party p L ≡ place_withdrawn t (lent counters slots) p L place
  unfolding withdraw withdraw_refusal stored from_1 refuse withdrawn bucket_place unless_refused is_some with_found place_withdrawn
  withdraw_by_place up searched = rw (searched, route_fits t counters slots party p L fit, ne_eqb L 0 up) (go (held t slots party p L))
    where
      go : (o : Option ℕ)
          → unless_refused (refuse (not (is_some o)) 7 (refuse (runs_short t counters p L) 10 0))
          (lent (step_each (λ n. n - 1) counters (counter_places t p L)) (with_found t slots p L o 0 0)) (lent counters slots)
          ≡ place_withdrawn t (lent counters slots) p L (found_or t p L 1 o (Absent (vacancy_of t p L (vacant t slots p L))))
      go (some s) = refl
      go none = refl

module _ {t : Settings} {counters slots : List ℕ} {party p L hop : ℕ} (fit : HopFitted t counters slots party p L hop) where
  pub change_at_0 : L ≡ 0 → change t (lent counters slots) party p L hop ≡ default_changed t (lent counters slots) party (mark_of party hop)
  unfolding change change_refusal stored refuse changed default_changed
  change_at_0 z = rw (route_fits t counters slots party p L fit.route, le-ltb _ _ fit.small, eq-eqb L 0 z)

  module _ (up : L ≡ 0 → ⊥) {place : Place} (searched : place ≡ bucket_place t slots party p L) where
    pub change_by_place : change t (lent counters slots) party p L hop ≡ place_changed (lent counters slots) party p hop place
    unfolding change change_refusal stored refuse changed bucket_place unless_refused is_some with_found place_changed
    change_by_place = rw (searched, route_fits t counters slots party p L fit.route, le-ltb _ _ fit.small, ne_eqb L 0 up) (go (held t slots party p L))
      where
        go : (o : Option ℕ)
            → unless_refused (refuse (not (is_some o)) 7 0) (lent counters (with_found t slots p L o p (mark_of party hop))) (lent counters slots)
            ≡ place_changed (lent counters slots) party p hop (found_or t p L 1 o (Absent (vacancy_of t p L (vacant t slots p L))))
        go (some s) = refl
        go none = refl

module _ {t : Settings} {counters slots : List ℕ} {party p L hop : ℕ} (fit : AddChecked t counters slots party p L hop) where
  pub add_at_0 : L ≡ 0 → add t (lent counters slots) party p L hop ≡ left 0 counters (set slots (default_word t party) (mark_of party hop))
  unfolding add add_refusal needs_slot from_1 refuse unless_refused added changed with_default
  add_at_0 z = rw (checks_fit t counters slots party p L hop fit, eq-eqb L 0 z)

  module _ (up : L ≡ 0 → ⊥) {place : Place} (searched : place ≡ bucket_place t slots party p L) where
    pub add_by_place : add t (lent counters slots) party p L hop ≡ place_added t (lent counters slots) party p L hop place
    unfolding add add_refusal needs_slot from_1 stored full refuse added changed bucket_place unless_refused is_some with_found place_added
    add_by_place = rw (searched, checks_fit t counters slots party p L hop fit, ne_eqb L 0 up) (go (held t slots party p L) (vacant t slots p L))
      where
        go : (o v : Option ℕ)
            → unless_refused (refuse (not (is_some o) && not (is_some v)) 8 (refuse (not (is_some o) && passes_15 t counters p L) 9 0))
            (cond (not (is_some o))
            (lent (step_each (λ n. n + 1) counters (counter_places t p L)) (with_found t slots p L v p (mark_of party hop)))
            (lent counters (with_found t slots p L o p (mark_of party hop)))) (lent counters slots)
            ≡ place_added t (lent counters slots) party p L hop (found_or t p L 1 o (Absent (vacancy_of t p L v)))
        go (some s) v = refl
        go none (some s) = refl
        go none none = refl
