-- `text_answers::put_refusal` meets its contract: texts put one after the other are one longer text.
use native.Mathlib.Omega.{arith}
use borrow.Author.Tests.{eq-eqb, ne_eqb}
use lib.ListN.{length-append}
use Rattle.text_answers.specs.Texts.{refused_text, update_text}
use Rattle.text_answers.proofs.Puts.{put_both}
use Rattle.text_answers.proofs.put_refusal.Goals as goal

pub returns-then-refusal-eq0 : goal.returns-then-refusal-eq0
unfolding update_text
returns-then-refusal-eq0 c = rw (eq-eqb _ _ c.if-refusal-eq0.true) (record { put = c.put.ensures; short = omega arith })

pub returns : goal.returns
unfolding update_text refused_text
returns c =
    let number = c.put_number-end.ensures in
    rw (ne_eqb _ _ c.if-refusal-eq0.false)
    (record {
      put = put_both c.put-digits.ensures (put_both number.put c.put-2.ensures);
      short = simp length-append (omega arith);
    })
