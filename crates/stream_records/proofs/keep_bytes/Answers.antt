-- So many of the bytes stand in the room; each turn stores one more.
use mathlib.Core.Path.{refl}
use native.Mathlib.Numerals.{add-one}
use lib.Seq.{take-suc, length-take-le}
use Rattle.stream_records.proofs.Runs.{sets_more}
use Rattle.stream_records.proofs.keep_bytes.Goals as goal

pub loop-i-preserved : goal.loop-i-preserved
loop-i-preserved c =
    let a = c.args in
    rw (add-one, take-suc a.bytes.now c.loop-i.i 0 c.loop-i-test.true, sets_more, length-take-le c.loop-i.i a.bytes.now c.loop-i.auto.i-end, ← c.loop-i.invariant) refl
