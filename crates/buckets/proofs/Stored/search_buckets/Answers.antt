-- Two invariants carry it, `Between` of the lengths and `Below` of the slots, on the words as they are lent.
use native.Mathlib.Omega.{arith}
use Rattle.rules.specs.Table.{mark_word}
use Rattle.buckets.proofs.Searching.{ended, opened, inside, passed, next, here}
use Rattle.buckets.proofs.Stored.search_buckets.Goals as goal

pub loop-s-init : goal.loop-s-init
loop-s-init g c = opened c.lengths.invariant.nothing

pub overflow_add-slot : goal.overflow_add-slot
unfolding mark_word
overflow_add-slot g c = omega (arith, inside c.turn_of-turn.ensures c.args.self.now.settings.now.range c.args.self.now.sized c.loop-s-test.true, g.met.T.Cell.fewer_words c.args.self.now.slots.now)

pub holds_at-requires : goal.holds_at-requires
holds_at-requires g c = inside c.turn_of-turn.ensures c.args.self.now.settings.now.range c.args.self.now.sized c.loop-s-test.true

pub loop-s-preserved : goal.loop-s-preserved
loop-s-preserved g c = passed c.turn_of-turn.ensures c.loop-s.invariant c.holds_at.ensures c.if-holds_at.false

pub lengths-preserved : goal.lengths-preserved
lengths-preserved g c = next c.turn_of-turn.ensures c.lengths.invariant c.loop-s.invariant c.loop-s-test.false

pub returns-after-lengths : goal.returns-after-lengths
returns-after-lengths g c = ended c.lengths.invariant c.lengths-test.false

pub returns-then-holds_at : goal.returns-then-holds_at
returns-then-holds_at g c =
    here c.turn_of-turn.ensures c.lengths.invariant c.loop-s.invariant c.loop-s-test.true c.holds_at.ensures c.if-holds_at.true
