-- What is left of the chunk does what the whole chunk does: `Going`.
use Rattle.rules.proofs.Numbers.{refusal_nonzero, accepted_number}
use Rattle.settings.proofs.Tables.{same_on}
use Rattle.stream_records.specs.Runs.{completes}
use Rattle.stream_chunks.proofs.Going.{goes_less, all_done, steps, goes_on, ends}
use Rattle.stream_chunks.proofs.take_records.Goals as goal

pub returns-in-Nothing-clause-taken : goal.returns-in-Nothing-clause-taken
returns-in-Nothing-clause-taken g c =
    let loop = c.loop-stage.invariant in
    all_done loop.going (rw loop.kind_is at c.next_record-next.ensures) c.in-Nothing.is

pub returns-in-Err-clause-taken : goal.returns-in-Err-clause-taken
returns-in-Err-clause-taken g c =
    let loop = c.loop-stage.invariant in
    ends loop.going (rw loop.kind_is at c.next_record-next.ensures) c.in-Record.is (rw c.number-number.ensures (refusal_nonzero _))
    (rw (loop.same.settings, c.in-Err.is, ← c.number-number.ensures) at c.read.ensures.done)

pub loop-stage-smaller-in_default : goal.loop-stage-smaller-in_default
unfolding completes
loop-stage-smaller-in_default g c =
    let loop = c.loop-stage.invariant in
    goes_less loop.going (rw loop.kind_is at c.next_record-next.ensures) (rw c.in-Record.is)

pub loop-stage-preserved-in_default : goal.loop-stage-preserved-in_default
loop-stage-preserved-in_default g c =
    let loop = c.loop-stage.invariant in
    record {
      same = same_on loop.same c.read.ensures.same;
      going = goes_on loop.going (rw loop.kind_is at c.next_record-next.ensures) c.in-Record.is (rw (loop.same.settings, accepted_number c.in_default.is) at c.read.ensures.done);
      kind_is = loop.kind_is;
    }

pub loop-stage-smaller : goal.loop-stage-smaller
unfolding completes
loop-stage-smaller g c =
    let loop = c.loop-stage.invariant in
    goes_less loop.going (rw loop.kind_is at c.next_record-next.ensures) (rw c.in-Stepped.is)

pub loop-stage-preserved : goal.loop-stage-preserved
loop-stage-preserved g c =
    let loop = c.loop-stage.invariant in
    record {
      going = steps loop.going (rw loop.kind_is at c.next_record-next.ensures) c.in-Stepped.is (c.step_over.ensures _);
      same = loop.same;
      kind_is = loop.kind_is;
    }
