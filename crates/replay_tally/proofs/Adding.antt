-- What a step adds is what the definition adds: of a number that no route can be given there is none among the answers.
use Prim.Native.Nat.{ℕ, zero, suc, ◌≤◌}
use mathlib.Core.Path.{◌≡◌, refl}
use mathlib.Core.Bool.{Bool, true, false, cond}
use mathlib.Core.List.{List, []}
use native.Mathlib.Nat.{zero-add, add-zero}
use native.Mathlib.Omega.{arith}
use Rattle.rules.specs.Tools.{within, all, count, those}
use Rattle.rules.specs.Calls.{accepted_of, refused_of, route_number}
use Rattle.rules.proofs.Members.{count_none}
use Rattle.message_calls.specs.declared.Counts.{Counts}
use Rattle.message_calls.specs.Walks.{none_counted, tallied}
use Rattle.replay_format.specs.declared.Tally.{Tally}
use Rattle.replay_format.specs.Replaying.{refused_under, tally_more}
use Rattle.replay_tally.specs.Steps.{tally_added, Low}

-- ---- What is added

-- under a number that no route can be given none is refused
none_under : (number : ℕ) (answers : List ℕ) → all route_number answers ≡ true → route_number number ≡ false → refused_under number answers ≡ 0
unfolding refused_under
none_under zero answers known other = refl
none_under (suc number) answers known other = count_none route_number answers known (suc number) other

-- The step is that of the definition, where the counts are those of the answers and every answer is one that a route can be
-- given.
pub added_more : (earlier : Tally) (applied : Bool) (counts : Counts) (answers : List ℕ) → counts ≡ tallied none_counted answers → all route_number answers ≡ true
    → tally_added earlier (cond applied 1 0) counts ≡ tally_more earlier applied answers
unfolding tally_added tally_more tallied refused_under route_number within
added_more earlier applied counts answers counted known =
    let none : (number : ℕ) → route_number number ≡ false → refused_under number answers ≡ 0 = λ number. none_under number answers known in
    rw counted (simp (
      zero-add,
      add-zero,
      none 1 refl,
      none 2 refl,
      none 3 refl,
      none 4 refl,
      none 5 refl,
      none 6 refl,
      none 12 refl,
      none 13 refl,
      none 14 refl,
      none 15 refl,
      none 16 refl,
      none 17 refl,
      none 18 refl,
      none 19 refl,
    ))

-- so it is for a record without calls
pub added_none : (earlier : Tally) → tally_added earlier 0 none_counted ≡ tally_more earlier false []
unfolding tallied accepted_of refused_of those count all
added_none earlier = added_more earlier false none_counted [] refl refl

-- ---- Room for it

-- there may be more
pub low_within : {tally : Tally} {some more : ℕ} → Low tally some → some ≤ more → Low tally more
low_within low less = record {
  seen_low = omega (arith, low.seen_low);
  applied_low = omega (arith, low.applied_low);
  accepted_low = omega (arith, low.accepted_low);
  refused_low = λ number. omega (arith, low.refused_low number);
}
