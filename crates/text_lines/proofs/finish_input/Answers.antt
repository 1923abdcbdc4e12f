-- `text_lines::finish_input` meets its contract: without room the stream stays; with it nothing is kept, or what is kept is a line that ends.
use mathlib.Core.Path.{◌≡◌, sym, ◌∙◌}
use mathlib.Core.Bool.{true, false}
use native.Mathlib.Omega.{arith}
use borrow.Author.Tests.{ne_eqb}
use lib.Seq.{length-take-le}
use Rattle.std.proofs.Common.{◌≢◌}
use Rattle.text_lines.specs.Lines.{finish, finish_input}
use Rattle.text_lines.proofs.Rooms.{room_of}
use Rattle.text_lines.proofs.Streams.{lies_going, lies_answered}
use Rattle.text_lines.proofs.finish_input.Goals as goal

pub returns-then-not-has_room : goal.returns-then-not-has_room
unfolding finish_input
returns-then-not-has_room c = rw (sym c.has_room.ensures ∙ c.if-not-has_room.true) (lies_going true _ _ _ _)

pub slice_bounds-answer_into-end : goal.slice_bounds-answer_into-end
slice_bounds-answer_into-end c =
    let room = room_of (sym c.has_room.ensures ∙ c.if-not-has_room.false) in
    let a = c.args in
    omega (arith, length-take-le a.kept a.line.now (omega (arith, room.line_room, room.kept_in)))

pub answer_into-written-requires : goal.answer_into-written-requires
answer_into-written-requires c =
    (room_of (sym c.has_room.ensures ∙ c.if-not-has_room.false)).out_room

pub returns-then-unfinished : goal.returns-then-unfinished
unfolding finish_input finish
returns-then-unfinished c =
    let told = sym c.has_room.ensures ∙ c.if-not-has_room.false in
    let some : c.args.kept ≢ 0 = omega (arith, c.if-unfinished.true) in
    rw (told, ne_eqb _ _ some)
    (lies_answered _ (lies_going false _ _ _ _) (room_of told).out_room c.answer_into-written.ensures)

pub returns-else-unfinished : goal.returns-else-unfinished
unfolding finish_input finish
returns-else-unfinished c =
    let none : c.args.kept ≡ 0 = omega (arith, c.if-unfinished.false) in
    rw (sym c.has_room.ensures ∙ c.if-not-has_room.false, none)
    (lies_going false _ _ _ 0)
