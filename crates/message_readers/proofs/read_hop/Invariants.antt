-- What is left decides, after what was found: `LookingInside`.
use Prim.Native.Nat.{◌-◌}
use Rattle.message_readers.proofs.Parts.{LookingInside}
use Rattle.message_readers.proofs.read_hop.Given as goal

abbrev pub invariant-loop-read : goal.invariant-loop-read
invariant-loop-read l = LookingInside l.bytes l.from l.to l.rest l.found

abbrev pub decreases-loop-read : goal.decreases-loop-read
decreases-loop-read l = l.to - l.rest.at
