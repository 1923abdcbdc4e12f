-- Each test is one of the definition's; what is left then is a law of Runs, or what a callee ensures.
use mathlib.Core.Path.{refl}
use native.Mathlib.Omega.{arith}
use borrow.Author.Tests.{ne_eqb, lt-ltb, le-ltb}
use Rattle.stream_format.specs.Streams.{header_read, to_read, to_step_over, body_size}
use Rattle.stream_records.specs.Runs.{completes}
use Rattle.stream_records.proofs.Runs.{ended, goes_all, goes_none}
use Rattle.stream_records.proofs.after_header.Goals as goal
use Rattle.stream_records.proofs.after_header.Goals.{then-read, else-read}

pub returns-then-size-eq0 : goal.returns-then-size-eq0
unfolding header_read to_read to_step_over body_size completes
returns-then-size-eq0 c =
    rw (← c.is_kind-read.ensures, ← c.four_bytes-size.ensures, c.if-size-eq0.true)
    (elim c.if-read.branch [
      | then-read w ↦ rw w.if-read.true (goes_none (rw w.event-is at c.complete.ensures) (omega arith) refl (omega arith))
      | else-read w ↦ rw w.if-read.false (goes_none (rw w.event-is at c.complete.ensures) (omega arith) refl tt)
    ])

pub returns-then-not-read : goal.returns-then-not-read
unfolding header_read to_step_over body_size
returns-then-not-read c =
    rw (← c.is_kind-read.ensures, c.if-not-read.true, ← c.four_bytes-size.ensures, ne_eqb _ _ c.if-size-eq0.false) (c.step_over.ensures _ _)

pub returns-then-size-gt65536 : goal.returns-then-size-gt65536
unfolding header_read to_read body_size
returns-then-size-gt65536 c =
    let a = c.args in
    rw (← c.is_kind-read.ensures, c.if-not-read.false, ← c.four_bytes-size.ensures, lt-ltb _ _ c.if-size-gt65536.true)
    (goes_all (rw c.number.ensures at c.all_taken.ensures) (omega arith) (ended a.kind 14 a.room.now a.bytes.now))

pub returns : goal.returns
unfolding header_read to_read body_size
returns c =
    rw (← c.is_kind-read.ensures, c.if-not-read.false, ← c.four_bytes-size.ensures, le-ltb _ _ c.if-size-gt65536.false, ne_eqb _ _ c.if-size-eq0.false)
    (c.take_body.ensures _)
