-- The walk is underway, and what was left is left; what lies ahead rises, and then the length.
use Prim.Native.Nat.{◌+◌, ◌-◌, ◌*◌, ◌^◌}
use mathlib.Core.Path.{◌≡◌}
use Rattle.rules.specs.Numbers.{party_number}
use Rattle.difference_rules.specs.Comparing.{has}
use Rattle.difference_steps.specs.Walking.{Underway, nearest_of, left}
use Rattle.difference_walks.proofs.DifferencesIterator.next.Given as goal

abbrev pub invariant-loop-prefix : goal.invariant-loop-prefix
invariant-loop-prefix g l =
    let words = g.T.Cell.words in
    let now = l.self in
    let was = l.initial.self in
    let one = has now.first.now.settings.now.all (words now.first.now.slots.now) (party_number now.party) in
    let other = has now.second.now.settings.now.all (words now.second.now.slots.now) (party_number now.party) in
    Underway one other now.length now.walk
    × (left one other now.length now.walk
    ≡ left (has was.first.now.settings.now.all (words was.first.now.slots.now) (party_number was.party)) (has was.second.now.settings.now.all (words was.second.now.slots.now) (party_number was.party)) was.length was.walk)

abbrev pub decreases-loop-prefix : goal.decreases-loop-prefix
decreases-loop-prefix g l = (32 - l.self.length) * 2 ^ 33 + (2 ^ 32 - nearest_of l.self.walk)
