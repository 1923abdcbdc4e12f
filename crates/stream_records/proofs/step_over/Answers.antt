-- A run that is not kept: the bytes end within it, or go past it.
use mathlib.Core.Path.{refl}
use native.Mathlib.Omega.{arith}
use lib.ListN.{length-drop}
use lib.Seq.{take-length}
use Rattle.stream_records.specs.Runs.{completes}
use Rattle.stream_records.proofs.Runs.{over_run, goes_within, goes_past, goes_none}
use Rattle.stream_records.proofs.step_over.Goals as goal

pub returns-then-more-left : goal.returns-then-more-left
returns-then-more-left c kind room =
    goes_within (over_run kind c.args.left room) (omega arith) c.all_taken.ensures (omega arith, omega arith)

pub returns : goal.returns
unfolding completes
returns c kind room =
    goes_past (over_run kind c.args.left room) (omega arith) (omega arith) (goes_none (rw (← length-drop c.args.left c.args.bytes.now, take-length) at c.complete.ensures) (omega arith) refl tt)
