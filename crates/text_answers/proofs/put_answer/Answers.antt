-- `text_answers::put_answer` meets its contract: texts put one after the other are one longer text.
use native.Mathlib.Omega.{arith}
use borrow.Author.Tests.{eq-eqb, ne_eqb}
use lib.ListN.{length-append}
use Rattle.text_answers.specs.Texts.{route_text, none_text, lookup_text}
use Rattle.text_answers.proofs.Puts.{put_both}
use Rattle.text_answers.proofs.put_answer.Goals as goal

pub returns-then-refusal-ne0 : goal.returns-then-refusal-ne0
unfolding lookup_text
returns-then-refusal-ne0 c = rw (ne_eqb _ _ c.if-refusal-ne0.true) c.put_refusal.ensures

pub returns-then-found : goal.returns-then-found
unfolding lookup_text route_text
returns-then-found c =
    rw (eq-eqb _ _ c.if-refusal-ne0.false, c.if-found.true)
    (record {
      put =
          put_both
          (put_both
          (put_both
          (put_both (put_both c.put_number-gap.ensures.put c.put-length.ensures) c.put_number-second_gap.ensures.put)
          c.put-digits.ensures)
          c.put_number-end.ensures.put)
          c.put.ensures;
      short = simp length-append (omega arith);
    })

pub returns : goal.returns
unfolding lookup_text none_text
returns c =
    rw (eq-eqb _ _ c.if-refusal-ne0.false, c.if-found.false)
    (record {
      put = put_both c.put-digits-2.ensures (put_both c.put_number-end-2.ensures.put c.put-2.ensures);
      short = simp length-append (omega arith);
    })
