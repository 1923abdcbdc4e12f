-- The four bytes stand in the place of those that the cut had: `sets`.
use Prim.Native.Nat.{◌+◌, ◌-◌, ◌/◌, ◌%◌, ◌^◌}
use mathlib.Core.Path.{◌≡◌}
use mathlib.Core.List.{[], ◌∷◌, append_assoc}
use native.Mathlib.Omega.{arith}
use lib.Seq.{sets-eq, drop-drop}
use Rattle.rules.specs.Table.{bytes_of}
use Rattle.words.proofs.U8Cell.put_word.Goals as goal

pub returns : goal.returns
unfolding bytes_of
returns c =
    let top : c.args.word / 2 ^ 24 % 2 ^ 8 ≡ c.args.word / 2 ^ 24 = omega arith in
    let four : c.args.at + 4 - c.args.at ≡ 4 = omega arith in
    rw (c.copy_from_slice.ensures.after, c.to_le_bytes.ensures, sets-eq (bytes_of (c.args.word ∷ [])) c.args.list.now c.args.at (omega arith), top, four, append_assoc, drop-drop)
