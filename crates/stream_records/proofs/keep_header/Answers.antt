use mathlib.Core.Path.{◌≡◌, sym, ap, ◌∙◌}
use native.Mathlib.Omega.{arith}
use lib.ListN.{length}
use lib.Seq.{length-take-le}
use Rattle.std.proofs.lemmas.List.Edits.{sets-eq}
use Rattle.stream_records.proofs.keep_header.Goals as goal

pub returns : goal.returns
returns c =
    let a = c.args in
    let long : length a.header ≡ 12 = sym (ap length c.copy_from_slice.ensures.after) ∙ (c.copy_from_slice.ensures.len ∙ length-take-le 12 a.room.now (omega arith)) in
    rw (sets-eq a.header a.room.now 0 (omega arith), c.copy_from_slice.ensures.after, long)
