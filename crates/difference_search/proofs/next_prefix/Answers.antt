-- Before the first slot of the length nothing lies ahead: `passed_none`.
use native.Mathlib.Omega.{arith}
use Rattle.difference_search.proofs.Passing.{passed_none}
use Rattle.difference_search.proofs.next_prefix.Goals as goal

pub loop-slot-init : goal.loop-slot-init
loop-slot-init g c =
    let some = c.if-length-eq0.false in
    passed_none _ _ _ _ _ _ (record { range = c.args.stored.now.settings.now.range; low = omega arith; high = c.requires.length_bound }) c.slots_of-slot.ensures c.requires.from_bound
