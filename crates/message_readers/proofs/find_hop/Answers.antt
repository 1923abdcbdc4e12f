-- No place above 65,535 is looked at.
use mathlib.Core.Path.{sym}
use native.Mathlib.Omega.{arith}
use Rattle.message_readers.proofs.Places.{place_low}
use Rattle.message_readers.proofs.find_hop.Goals as goal

pub overflow_cast-result : goal.overflow_cast-result
overflow_cast-result c = let low = (place_low c.args.hops.now c.args.address (sym c.in_ok-place.ensures)).1 in omega arith
