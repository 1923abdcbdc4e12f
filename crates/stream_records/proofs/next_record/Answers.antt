-- Each stage has its function, whose contract is this one.
use Rattle.stream_records.proofs.Runs.{ended, goes_all}
use Rattle.stream_records.proofs.next_record.Goals as goal

pub returns-in-Body : goal.returns-in-Body
returns-in-Body c = rw c.in-Body.is (c.take_body.ensures _)

pub returns-in-Over : goal.returns-in-Over
returns-in-Over c = rw c.in-Over.is (c.step_over.ensures _ _)

pub returns-in-Ended : goal.returns-in-Ended
returns-in-Ended c =
    let a = c.args in
    rw c.in-Ended.is (goes_all (rw c.in-Ended.is at c.all_taken.ensures) (rw c.in-Ended.is at c.requires) (ended a.kind _ a.room.now a.bytes.now))
