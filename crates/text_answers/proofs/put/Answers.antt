-- `text_answers::put` meets its contract: a part that is overwritten is its bytes set one after the other.
use Prim.Native.Nat.{◌+◌, ◌-◌}
use mathlib.Core.Path.{refl}
use native.Mathlib.Omega.{arith}
use lib.ListN.{length}
use Rattle.text_answers.proofs.Puts.{sets_part}
use Rattle.text_answers.proofs.put.Goals as goal

pub returns : goal.returns
returns c =
    let a = c.args in
    let end = a.at + length a.bytes.now in
    record { holds = rw c.copy_from_slice.ensures.after (sets_part a.out.now a.at (end - a.at) a.bytes.now (omega arith) (omega arith)); end = refl }
