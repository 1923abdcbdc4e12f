-- A record that is read has room for what is to come.
use Prim.Native.Nat.{ℕ, ◌+◌, ◌≤◌}
use mathlib.Core.Path.{◌≡◌, sym, ◌∙◌}
use mathlib.Core.Bool.{true}
use mathlib.Core.List.{List, [], ◌∷◌}
use Rattle.std.proofs.Common.{rules}
use borrow.Author.Tests.{leb-true}
use lib.Dec.{leb}
use Rattle.rules.proofs.Members.{both}
use Rattle.stream_format.specs.declared.Kind.{Kind}
use Rattle.stream_format.specs.Kept.{read_word, left_word, is_body}
use Rattle.stream_records.proofs.stage_of.Goals as goal

body_room : (kind : Kind) (read left : ℕ) (room : List ℕ) → is_body kind (0 ∷ read ∷ left ∷ []) room ≡ true → (12 ≤ read) × (read + left ≤ 65548)
unfolding is_body read_word left_word
body_room kind read left room e =
    let parts = both (leb 12 read) _ e in
    (leb-true _ _ parts.0, leb-true _ _ (both (leb (read + left) 65548) _ parts.1).0)

pub returns-in-0-3-clause-sound : goal.returns-in-0-3-clause-sound
returns-in-0-3-clause-sound c =
    let room = body_room _ _ _ _ (sym c.is_body.ensures ∙ c.if-is_body.true) in
    (room.0, (search rules, room.1))
