-- What is left of the chunk does what the whole chunk does: `Going`.
use mathlib.Core.Path.{◌≡◌}
use lib.ListN.{length}
use Rattle.rules.specs.Numbers.{party_number}
use Rattle.settings.specs.Tables.{Same}
use Rattle.stream_format.specs.Streams.{stream, chunk_taken}
use Rattle.stream_format.specs.Chunks.{doing}
use Rattle.stream_chunks.specs.Work.{work}
use Rattle.stream_chunks.proofs.Going.{Going}
use Rattle.stream_chunks.proofs.take_records.Given as goal

abbrev pub invariant-loop-stage : goal.invariant-loop-stage
invariant-loop-stage g l =
    let r = g.R.Reader.reading l.reader (party_number l.party) in
    record {
      same : Same l.fn.table l.table;
      going : Going l.fn.table.settings.all r g.R.Reader.Low l.chunk (chunk_taken r.kind (doing l.fn.table.settings.all r) (stream l.initial.stage l.initial.room (work l.initial.counts l.fn.table.counters.now l.fn.table.slots.now)) l.chunk) l.stage l.room l.counts l.table.counters.now l.table.slots.now l.rest;
      kind_is : l.kind ≡ r.kind;
    }

abbrev pub decreases-loop-stage : goal.decreases-loop-stage
decreases-loop-stage g l = length l.rest
