-- What is left decides: `Going`.
use Prim.Native.Nat.{◌-◌}
use Rattle.message_readers.proofs.Parts.{Going}
use Rattle.message_readers.proofs.read_prefixes.Given as goal

abbrev pub invariant-loop-read : goal.invariant-loop-read
invariant-loop-read l = Going l.bytes l.from l.to l.rest

abbrev pub decreases-loop-read : goal.decreases-loop-read
decreases-loop-read l = l.to - l.rest.at
