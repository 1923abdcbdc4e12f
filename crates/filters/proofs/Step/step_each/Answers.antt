-- Each counter can take the hits that are left to it, and takes one: `can_take` and `one_taken`.
use Rattle.std.proofs.Common.{arith}
use Rattle.filters.proofs.Visits.{can_take, one_taken, all_taken}
use Rattle.filters.proofs.Step.step_each.Goals as goal

pub stepped-requires : goal.stepped-requires
stepped-requires c = can_take c.loop-place.invariant c.loop-place-test.true

pub loop-place-preserved : goal.loop-place-preserved
loop-place-preserved c =
    let inside = c.requires.inside c.loop-place.place-index 0 c.loop-place-test.true in
    one_taken c.loop-place.invariant c.loop-place-test.true (omega (arith, c.loop-place.invariant.size)) c.stepped.ensures

pub returns : goal.returns
returns c = all_taken c.loop-place.invariant c.loop-place-test.false
