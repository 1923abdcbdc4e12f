-- `text_lines::feed_into` meets its contract. The invariant: what lies in lent memory is the stream after the bytes passed, and each of the three ways of a turn is one law of `Streams`.
use mathlib.Core.Bool.{false}
use native.Mathlib.Omega.{arith}
use Rattle.rules.specs.Tools.{fed}
use Rattle.text_lines.specs.Lines.{feed}
use Rattle.text_lines.proofs.Streams.{feed_more, lies_going, lies_ended, lies_kept, lies_left_out}
use Rattle.text_lines.proofs.feed_into.Goals as goal
use Rattle.text_lines.proofs.feed_into.Goals.{then-b-eq10, else-b-eq10+then-count-lt65, else-b-eq10+else-count-lt65}

pub loop-b-init : goal.loop-b-init
unfolding feed fed
loop-b-init c =
    record {
      kept_in = c.requires.kept_in;
      short = omega arith;
      lies = lies_going false _ _ _ _;
    }

pub loop-b-preserved : goal.loop-b-preserved
loop-b-preserved c =
    let now = c.loop-b.invariant in
    elim c.if-b-eq10.branch [
      | then-b-eq10 w ↦
          let a = w.answer_into-written.ensures in
          rw (w.counters-is, w.slots-is, w.line-is, w.out-is, w.count-is, w.written-is) (record {
            kept_in = omega arith;
            short = omega (arith, now.short, a.put.put.end, a.put.short);
            lies = rw (feed_more _ _ _ _ c.loop-b-test.true) (lies_ended _ now.lies w.if-b-eq10.true (omega (arith, now.short, c.requires.out_room)) a);
          })
      | else-b-eq10+then-count-lt65 w ↦
          rw (w.counters-is, w.slots-is, w.line-is, w.out-is, w.count-is, w.written-is) (record {
            kept_in = omega (arith, w.if-count-lt65.true);
            short = omega (arith, now.short);
            lies = rw (feed_more _ _ _ _ c.loop-b-test.true) (lies_kept _ now.lies w.if-b-eq10.false w.if-count-lt65.true);
          })
      | else-b-eq10+else-count-lt65 w ↦
          rw (w.counters-is, w.slots-is, w.line-is, w.out-is, w.count-is, w.written-is) (record {
            kept_in = now.kept_in;
            short = omega (arith, now.short);
            lies = rw (feed_more _ _ _ _ c.loop-b-test.true) (lies_left_out _ now.lies w.if-b-eq10.false w.if-count-lt65.false);
          })
    ]
