-- What is left decides, after the hop that was found: `Reading`.
use Prim.Native.Nat.{◌-◌}
use Rattle.import_readers.proofs.Entries.{Reading}
use Rattle.import_readers.proofs.read_entries.Given as goal

abbrev pub invariant-loop : goal.invariant-loop
invariant-loop l = Reading l.bytes l.from l.many l.hops l.at (l.many - l.counter) l.found
