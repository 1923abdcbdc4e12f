-- What is left decides, after what was found: `LookingInside`.
use mathlib.Core.Path.{sym, ap, ◌∙◌}
use Rattle.std.specs.Prelude.{Ok}
use Rattle.message_readers.proofs.Parts.{not_hop, one_hop}
use Rattle.message_readers.proofs.read_hop.Goals as goal
use Rattle.message_readers.proofs.read_hop.Goals.{then-read-eq3+else-read-ne4+else-is_some, else-read-eq3}

pub loop-read-preserved : goal.loop-read-preserved
loop-read-preserved c =
    let read_so = sym c.in_ok-read.ensures ∙ ap Ok c.in-Some.is in
    elim c.if-read-eq3.branch [
      | then-read-eq3+else-read-ne4+else-is_some w ↦ rw w.found-is (one_hop _ _ _ c.loop-read.invariant read_so w.if-read-eq3.true (sym w.is_some.ensures ∙ w.if-is_some.false) w.if-read-ne4.false w.four_bytes.ensures)
      | else-read-eq3 w ↦ rw w.found-is (not_hop _ _ _ c.loop-read.invariant read_so w.if-read-eq3.false)
    ]
