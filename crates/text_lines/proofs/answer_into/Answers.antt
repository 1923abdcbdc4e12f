-- `text_lines::answer_into` meets its contract: what the line was read as says which call replies, and that call's contract says how.
use mathlib.Core.Path.{refl, sym}
use Rattle.text_lines.specs.Lines.{reply, line_reply}
use Rattle.text_lines.proofs.Replies.{by_update, by_lookup}
use Rattle.text_lines.proofs.answer_into.Goals as goal

pub returns-in-Some-Add : goal.returns-in-Some-Add
unfolding line_reply reply
returns-in-Some-Add c =
    rw (sym c.in-Some-Add.ensures, c.in-Some-Add.field-0-is)
    (by_update c.add-outcome.ensures c.put_outcome.ensures)

pub returns-in-Some-Drop : goal.returns-in-Some-Drop
unfolding line_reply reply
returns-in-Some-Drop c =
    rw (sym c.in-Some-Drop.ensures, c.in-Some-Drop.field-0-is)
    (by_update c.withdraw-outcome.ensures c.put_outcome-in-Some-Drop.ensures)

pub returns-in-Some-Move : goal.returns-in-Some-Move
unfolding line_reply reply
returns-in-Some-Move c =
    rw (sym c.in-Some-Move.ensures, c.in-Some-Move.field-0-is)
    (by_update c.change-outcome.ensures c.put_outcome-in-Some-Move.ensures)

pub returns-in-Some-Find : goal.returns-in-Some-Find
unfolding line_reply reply
returns-in-Some-Find c =
    rw (sym c.in-Some-Find.ensures, c.in-Some-Find.field-0-is)
    (by_lookup _ c.lookup-found.ensures c.put_found.ensures)

pub returns-in-None : goal.returns-in-None
unfolding line_reply reply
returns-in-None c =
    rw (sym c.in-None.ensures)
    (record { memory_is = refl; put = c.put_unreadable.ensures })
