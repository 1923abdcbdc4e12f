-- `text_lines::answer_line` meets its contract: without room nothing is put, and with it the inner call's contract says all.
use mathlib.Core.Path.{refl, sym, ◌∙◌}
use native.Mathlib.Omega.{arith}
use borrow.Author.Tests.{leb-true}
use Rattle.text_lines.specs.Lines.{answer_fits, answer_line}
use Rattle.text_lines.proofs.answer_line.Goals as goal

pub returns-then-not-has_room_at : goal.returns-then-not-has_room_at
unfolding answer_line
returns-then-not-has_room_at c =
    rw (sym c.has_room_at.ensures ∙ c.if-not-has_room_at.true)
    (record {
      refused_is = refl;
      replied = record {
        memory_is = refl;
        put = record { put = record { holds = refl; end = omega arith }; short = omega arith };
      };
    })

pub answer_into-requires : goal.answer_into-requires
unfolding answer_fits
answer_into-requires c =
    leb-true _ _ (sym c.has_room_at.ensures ∙ c.if-not-has_room_at.false)

pub returns : goal.returns
unfolding answer_line
returns c =
    rw (sym c.has_room_at.ensures ∙ c.if-not-has_room_at.false)
    (record { refused_is = refl; replied = c.answer_into.ensures })
