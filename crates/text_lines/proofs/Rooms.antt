-- What the tests of room tell.
use Prim.Native.Nat.{ℕ, ◌*◌}
use mathlib.Core.Path.{◌≡◌}
use mathlib.Core.Bool.{true}
use mathlib.Core.List.{List}
use lib.ListN.{length}
use lib.Dec.{leb}
use borrow.Author.Tests.{leb-true}
use Rattle.rules.proofs.Members.{both}
use Rattle.text_lines.specs.Lines.{roomy, Room}

-- each part of the test is a fact
pub room_of : {line : List ℕ} {kept ends : ℕ} {out : List ℕ} → roomy line kept ends out ≡ true → Room line kept ends out
unfolding roomy
room_of {line} {kept} {ends} {out} e =
    let parts = both (leb 65 (length line)) _ e in
    let rest = both (leb kept 65) _ parts.1 in
    record {
      line_room = leb-true _ _ parts.0;
      kept_in = leb-true _ _ rest.0;
      out_room = leb-true (ends * 33) (length out) rest.1;
    }
