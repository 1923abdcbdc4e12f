-- Each counter can take the hits that are left to it, and takes one: `can_take` and `one_taken`.
use Rattle.filters.proofs.Visits.{Stepping}
use Rattle.filters.proofs.Step.step_each.Given as goal

abbrev pub invariant-loop-place : goal.invariant-loop-place
invariant-loop-place l = Stepping l.self l.places l.initial.counters l.counters l.place-index
