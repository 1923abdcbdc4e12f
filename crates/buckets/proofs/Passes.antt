-- A pass over a bucket, slot by slot: what it has met below slot s.
use Prim.Native.Nat.{ℕ, ◌+◌, ◌≤◌, ◌<◌}
use mathlib.Core.Path.{◌≡◌, refl, ap, ◌∙◌}
use mathlib.Core.Bool.{Bool, true, false, not}
use mathlib.Core.List.{List}
use mathlib.Core.Option.{some, none}
use mathlib.Core.Option as math
use native.Mathlib.Nat.{le_antisymm}
use native.Mathlib.Numerals.{add-one}
use native.Mathlib.Omega.{arith}
use Rattle.std.specs.Prelude.{Option, Some, None}
use Rattle.rules.specs.declared.Settings.{Settings}
use Rattle.rules.specs.declared.Place.TheVariants.{At, Absent}
use Rattle.rules.specs.Tools.{lowest, or_else}
use Rattle.rules.specs.Table.{slot_number, mark_at, occupied, holds, free, held, vacant}
use Rattle.rules.specs.Meaning.{vacancy_of, bucket_place}
use Rattle.rules.proofs.Lowest.{lowest_on, lowest_here}
use Rattle.std.specs.Option.{option_or}
use Rattle.buckets.specs.Turns.{holding}
use Rattle.buckets.proofs.Slots.{counted, free_by, holds_by}

-- no slot below s holds p for the party, and the vacancy is the lowest free one of them
pub record Met (t : Settings) (slots : List ℕ) (party p L : ℕ) (vacancy : Option ℕ) (s : ℕ) : Type 0 where
  pub within : s ≤ t.s
  pub none_holds : lowest (holds t slots party p L) s ≡ none
  pub first_free : vacancy ≡ vacancy_of t p L (lowest (free t slots p L) s)

-- an earlier free slot stays the first; without one it is slot s
kept : (t : Settings) (p L : ℕ) (o : math.Option ℕ) (s slot : ℕ) → slot ≡ slot_number t p L s → option_or (vacancy_of t p L o) (Some slot) ≡ vacancy_of t p L (or_else o (some s))
kept t p L (some earlier) s slot e = refl
kept t p L none s slot e = ap Some e

-- and an occupied one changes nothing
unmoved : (o : math.Option ℕ) → or_else o none ≡ o
unmoved (some earlier) = refl
unmoved none = refl

module _ {t : Settings} {slots : List ℕ} {party p L : ℕ} where
  -- before the first slot, and past the last
  pub met_none : Met t slots party p L None 0
  unfolding lowest
  met_none = record { within = omega arith; none_holds = refl; first_free = refl }

  pub met_all : {vacancy : Option ℕ} {s : ℕ} → Met t slots party p L vacancy s → t.s ≤ s → Absent vacancy ≡ bucket_place t slots party p L
  unfolding bucket_place held vacant
  met_all {vacancy} {s} met all =
      let last : s ≡ t.s = le_antisymm met.within all in
      rw (rw last at met.none_holds, met.first_free, last)

  -- slot s, by what the code finds of it: whether it holds p
  module _ {vacancy : Option ℕ} {s first : ℕ} {h : Bool} (met : Met t slots party p L vacancy s) (below : s < t.s)
      (from : first ≡ slot_number t p L 0) (found : h ≡ holding slots party (first + s) p) where
    pub met_here : h ≡ true → At L 1 (first + s) ≡ bucket_place t slots party p L
    unfolding bucket_place held
    met_here here =
        rw (lowest_here (holds t slots party p L) _ _ below met.none_holds (holds_by t slots party p L s first from h found ∙ here), counted t p L s first from)

    -- and where it does not, by its mark
    module _ (elsewhere : h ≡ false) {mark : ℕ} {r : Bool} (m : mark ≡ mark_at slots (first + s)) (o : r ≡ occupied mark) where
      is_free : free t slots p L s ≡ not r
      is_free = free_by t slots p L s first from mark r m o

      none_yet : lowest (holds t slots party p L) (s + 1) ≡ none
      none_yet = lowest_on (holds t slots party p L) s met.none_holds (holds_by t slots party p L s first from h found ∙ elsewhere)

      pub met_free : not r ≡ true → Met t slots party p L (option_or vacancy (Some (first + s))) (s + 1)
      unfolding lowest
      met_free denied =
          record {
            within = omega arith;
            none_holds = none_yet;
            first_free = rw (add-one, is_free ∙ denied, met.first_free) (kept t p L (lowest (free t slots p L) s) s _ (counted t p L s first from));
          }

      pub met_other : not r ≡ false → Met t slots party p L vacancy (s + 1)
      unfolding lowest
      met_other taken =
          record {
            within = omega arith;
            none_holds = none_yet;
            first_free = met.first_free ∙ rw (add-one, is_free ∙ taken, unmoved (lowest (free t slots p L) s));
          }
