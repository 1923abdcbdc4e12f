-- The loop's invariant carries it: `Met`, of the slots below s.
use native.Mathlib.Omega.{arith}
use mathlib.Core.Path.{ap}
use mathlib.Core.Bool.{not}
use Rattle.rules.specs.Table.{mark_word}
use Rattle.settings.proofs.Readiness.{ready}
use Rattle.buckets.proofs.Slots.{is_lent}
use Rattle.buckets.proofs.Passes.{met_none, met_all, met_free, met_other, met_here}
use Rattle.buckets.proofs.Stored.search_bucket.Goals as goal
use Rattle.buckets.proofs.Stored.search_bucket.Goals.{then-not-is_occupied, else-not-is_occupied}

pub loop-s-init : goal.loop-s-init
loop-s-init g c = met_none

pub overflow_add-slot : goal.overflow_add-slot
unfolding mark_word
overflow_add-slot g c = omega (arith, is_lent _ _ _ _ _ _ c.first_slot-first.ensures (ready c.args.self.now.settings.now c.args.length) c.args.self.now.sized c.loop-s-test.true, g.met.T.Cell.fewer_words c.args.self.now.slots.now)

pub holds_at-requires : goal.holds_at-requires
holds_at-requires g c = is_lent _ _ _ _ _ _ c.first_slot-first.ensures (ready c.args.self.now.settings.now c.args.length) c.args.self.now.sized c.loop-s-test.true

pub returns-then-holds_at : goal.returns-then-holds_at
returns-then-holds_at g c =
    met_here c.loop-s.invariant c.loop-s-test.true c.first_slot-first.ensures c.holds_at.ensures c.if-holds_at.true

pub mark_at-requires : goal.mark_at-requires
mark_at-requires g c = is_lent _ _ _ _ _ _ c.first_slot-first.ensures (ready c.args.self.now.settings.now c.args.length) c.args.self.now.sized c.loop-s-test.true

pub loop-s-preserved : goal.loop-s-preserved
loop-s-preserved g c =
    let inv = c.loop-s.invariant in
    let from = c.first_slot-first.ensures in
    let found = c.holds_at.ensures in
    let occupied = c.is_occupied.ensures in
    elim c.if-not-is_occupied.branch [
      | then-not-is_occupied w ↦
          rw (w.vacancy-is, w.or-vacancy.ensures) (met_free inv c.loop-s-test.true from found c.if-holds_at.false c.mark_at.ensures occupied (ap not w.if-not-is_occupied.true))
      | else-not-is_occupied w ↦
          rw w.vacancy-is (met_other inv c.loop-s-test.true from found c.if-holds_at.false c.mark_at.ensures occupied (ap not w.if-not-is_occupied.false))
    ]

pub returns : goal.returns
returns g c = met_all c.loop-s.invariant c.loop-s-test.false
