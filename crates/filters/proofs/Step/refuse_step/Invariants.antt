-- While every counter could take its hits, the answer hangs on the places that are left.
use Rattle.std.proofs.Common.{◌≡◌, drop}
use Rattle.rules.specs.Tools.{any}
use Rattle.filters.specs.Visits.{cannot_at, some_cannot}
use Rattle.filters.proofs.Step.refuse_step.Given as goal

abbrev pub invariant-loop-place : goal.invariant-loop-place
invariant-loop-place l = some_cannot l.self l.counters l.places ≡ any (cannot_at l.self l.counters l.places) (drop l.place-index l.places)
