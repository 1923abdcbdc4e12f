-- `text_lines::feed_into` meets its contract. The invariant: what lies in lent memory is the stream after the bytes passed, and each of the three ways of a turn is one law of `Streams`.
use Rattle.text_lines.proofs.Streams.{Turn}
use Rattle.text_lines.proofs.feed_into.Given as goal

abbrev pub invariant-loop-b : goal.invariant-loop-b
invariant-loop-b l =
    Turn l.settings l.initial.counters l.initial.slots l.initial.line l.kept l.chunk l.initial.out l.counters l.slots l.line l.out l.count l.written l.b-index
