-- Whether the bytes so far are all ones.
use mathlib.Core.Path.{◌≡◌}
use Rattle.message_format.specs.Format.{all_ones}
use Rattle.message_readers.proofs.all_ones.Given as goal

abbrev pub invariant-loop-byte : goal.invariant-loop-byte
invariant-loop-byte l = l.ones ≡ all_ones l.bytes l.byte-index
