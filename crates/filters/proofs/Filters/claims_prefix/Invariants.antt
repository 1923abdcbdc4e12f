-- While no counter was zero, the claim hangs on the places that are left.
use Rattle.std.proofs.Common.{◌≡◌, ℕ, ◌-◌, Bool, true, ltb, List, get_or}
use Rattle.rules.specs.Tools.{all}
use Rattle.rules.specs.Table.{claims}
use Rattle.filters.proofs.Hashing.{places_left}
use Rattle.filters.proofs.Filters.claims_prefix.Given as goal

-- the counters at these places are nonzero
unfoldable pub nonzero : (counters places : List ℕ) → Bool
nonzero counters places = all (λ i. ltb 0 (get_or counters i 0)) places

abbrev pub invariant-loop : goal.invariant-loop
invariant-loop l =
    (l.claimed ≡ true) × (claims l.settings.all l.counters l.p l.length.number ≡ nonzero l.counters (places_left l.settings.all l.length.number l.growth l.counter l.g))

abbrev pub decreases-loop : goal.decreases-loop
decreases-loop l = l.end - l.counter
