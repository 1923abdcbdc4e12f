-- A record counts with its last byte: whatever byte completes one leaves nothing of it to come.
use Prim.Native.Nat.{ℕ, ◌+◌}
use mathlib.Core.Path.{◌≡◌, refl}
use mathlib.Core.Bool.{Bool, true, false, cond}
use mathlib.Core.List.{List}
use lib.Dec.{ltb, eqb}
use lib.ListN.{set}
use Rattle.stream_format.specs.declared.Kind.{Kind}
use Rattle.stream_format.specs.declared.Stage.{Stage}
use Rattle.stream_format.specs.declared.Stage.TheVariants.{Header, Body, Over, Ended}
use Rattle.stream_format.specs.declared.Event.{Event}
use Rattle.stream_format.specs.declared.Event.TheVariants.{Nothing}
use Rattle.stream_format.specs.Streams.{is_kind, body_size, Framed, framed, to_read, to_step_over, header_read, next_byte}

-- what a byte completes, it leaves with nothing to come
pub record Complete (f : Framed) : Type 0 where
  pub at_its_end : (f.event ≡ Nothing → ⊥) → f.stage ≡ Header 0

either_complete : (b : Bool) {one other : Framed} → Complete one → Complete other → Complete (cond b one other)
either_complete true one other = one
either_complete false one other = other

nothing_complete : (stage : Stage) (room : List ℕ) → Complete (framed stage room Nothing)
nothing_complete stage room = record { at_its_end = λ some. absurd (some refl) }

between_records : (room : List ℕ) (event : Event) → Complete (framed (Header 0) room event)
between_records room event = record { at_its_end = λ some. refl }

header_complete : (kind : Kind) (room : List ℕ) → Complete (header_read kind room)
unfolding header_read to_read to_step_over
header_complete kind room =
    let size = body_size room in
    either_complete (is_kind kind room)
    (either_complete (ltb 65536 size) (nothing_complete _ room) (either_complete (eqb size 0) (between_records room _) (nothing_complete _ room)))
    (either_complete (eqb size 0) (between_records room _) (nothing_complete _ room))

-- So it is with every byte, of a record that is read or stepped over.
pub byte_complete : (kind : Kind) (stage : Stage) (room : List ℕ) (b : ℕ) → Complete (next_byte kind stage room b)
unfolding next_byte
byte_complete kind (Header read) room b = either_complete (ltb (read + 1) 12) (nothing_complete _ _) (header_complete kind (set room read b))
byte_complete kind (Body read left) room b = either_complete (ltb 1 left) (nothing_complete _ _) (between_records _ _)
byte_complete kind (Over left) room b = either_complete (ltb 1 left) (nothing_complete _ room) (between_records room _)
byte_complete kind (Ended number) room b = nothing_complete _ room
