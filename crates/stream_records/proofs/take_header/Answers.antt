-- The rest of a header: the bytes end within it, or go past it and on as after it.
use Prim.Native.Nat.{◌+◌}
use mathlib.Core.Path.{◌≡◌}
use native.Mathlib.Omega.{arith}
use lib.ListN.{length, take, drop}
use lib.Seq.{sets}
use Rattle.stream_records.proofs.Runs.{header_run, goes_within, goes_past}
use Rattle.stream_records.proofs.take_header.Goals as goal

pub returns-in-Some : goal.returns-in-Some
returns-in-Some c =
    let a = c.args in
    let parts : (c.in-Some.header.now ≡ take 12 a.bytes.now) × (c.in-Some.rest.now ≡ drop 12 a.bytes.now) × (length c.in-Some.rest.now + 12 ≡ length a.bytes.now) = c.in-Some.ensures.cases in
    let kept : c.keep_header.new.room ≡ sets a.room.now 0 c.in-Some.header.now = c.keep_header.ensures in
    rw c.if-read-eq0.true
    (goes_past (header_run a.kind 0 a.room.now (omega arith)) (omega arith) (omega arith)
    (rw (kept, parts.0, parts.1) at c.after_header.ensures))

pub returns-then-more-left : goal.returns-then-more-left
returns-then-more-left c =
    let a = c.args in
    rw c.keep_bytes.ensures
    (goes_within (header_run a.kind a.read a.room.now (omega arith)) (omega arith) c.all_taken.ensures (omega arith))

pub returns : goal.returns
returns c =
    let a = c.args in
    goes_past (header_run a.kind a.read a.room.now (omega arith)) (omega arith) (omega arith)
    (rw (c.keep_bytes-2.ensures, c.split_at.ensures.front, c.split_at.ensures.back) at c.after_header-2.ensures)
