-- A run that is kept: the bytes end within it, or go past it.
use mathlib.Core.Path.{refl}
use native.Mathlib.Omega.{arith}
use Rattle.stream_records.specs.Runs.{completes}
use Rattle.stream_records.proofs.Runs.{body_run, goes_within, goes_past, goes_none}
use Rattle.stream_records.proofs.take_body.Goals as goal

pub returns-then-more-left : goal.returns-then-more-left
returns-then-more-left c kind =
    let a = c.args in
    rw c.keep_bytes.ensures
    (goes_within (body_run kind a.read a.left a.room.now) (omega arith) c.all_taken.ensures (omega arith, (omega arith, omega arith)))

pub returns : goal.returns
unfolding completes
returns c kind =
    let a = c.args in
    rw (c.keep_bytes-2.ensures, c.split_at.ensures.front)
    (goes_past (body_run kind a.read a.left a.room.now) (omega arith) (omega arith)
    (goes_none (rw c.split_at.ensures.back at c.complete.ensures) (omega arith) refl (omega arith)))
