-- `text_lines::feed_chunk` meets its contract: without room the stream stays, and with it the inner call's contract says all.
use mathlib.Core.Bool.{true}
use mathlib.Core.Path.{sym, ◌∙◌}
use Rattle.text_lines.specs.Lines.{feed_chunk}
use Rattle.text_lines.proofs.Rooms.{room_of}
use Rattle.text_lines.proofs.Streams.{lies_going}
use Rattle.text_lines.proofs.feed_chunk.Goals as goal

pub returns-then-not-has_room : goal.returns-then-not-has_room
unfolding feed_chunk
returns-then-not-has_room c = rw (sym c.has_room.ensures ∙ c.if-not-has_room.true) (lies_going true _ _ _ _)

pub feed_into-requires : goal.feed_into-requires
feed_into-requires c =
    room_of (sym c.has_room.ensures ∙ c.if-not-has_room.false)

pub returns : goal.returns
unfolding feed_chunk
returns c =
    rw (sym c.has_room.ensures ∙ c.if-not-has_room.false) c.feed_into.ensures
