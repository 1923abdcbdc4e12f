-- The number after the end, then the refusals, then the records: the three ways that a chunk can go.
use Prim.Native.Nat.{ℕ}
use mathlib.Core.Path.{◌≡◌, sym, ◌∙◌}
use mathlib.Core.Bool.{Bool}
use mathlib.Core.List.{List}
use borrow.Author.Rules.{rules}
use Rattle.rules.specs.declared.Settings.{Settings}
use Rattle.rules.specs.Numbers.{party_number}
use Rattle.rules.specs.Table.{Memory, lent}
use Rattle.rules.proofs.Numbers.{accepted_number, refusal_nonzero}
use Rattle.stream_format.specs.declared.Stage.{Stage}
use Rattle.stream_format.specs.declared.Stage.TheVariants.{Ended}
use Rattle.stream_format.specs.Streams.{stream, chunk_taken}
use Rattle.stream_format.specs.Kept.{stage_of, words_of}
use Rattle.stream_format.specs.Chunks.{Reading, doing, chunk_refusal, chunked, stage_number, take_chunk}
use Rattle.stream_chunks.specs.Work.{work}
use Rattle.stream_format.proofs.Taking.{chunk_accepted, after_end, refused, taken}
use Rattle.stream_chunks.proofs.take_chunk.Goals as goal

-- what refuses the chunk
refusal : {C : Type 0} (t : Settings) (m : Memory) (r : Reading C) (party : ℕ) (counts : List ℕ) (chunk : List ℕ) {high tested : Bool} {number : ℕ}
    → r.party ≡ party → r.counts_high (r.counts_of counts) ≡ tested → high ≡ tested → number ≡ chunk_refusal t m party high chunk
    → number ≡ chunk_refusal t m r.party (r.counts_high (r.counts_of counts)) chunk
refusal t m r party counts chunk names asks is given = rw (names, asks, ← is) given

pub returns-in-Ended : goal.returns-in-Ended
returns-in-Ended g c =
    let begun = rw (c.kind.ensures c.args.party) at c.stage_of-begun.ensures.value in
    after_end _ _ _ _ _ _ _ _ (sym begun ∙ c.in-Ended.is)

pub returns-in-Err : goal.returns-in-Err
returns-in-Err g c =
    let a = c.args in
    let other : (number : ℕ) → c.stage_of-begun.result ≡ Ended number → ⊥ = search rules in
    let laws = g.met.R.Reader in
    let begun = rw (c.kind.ensures a.party) at c.stage_of-begun.ensures.value in
    refused _ _ _ _ _ _ _ _ (λ number is. other number (begun ∙ is))
    (refusal _ _ (g.R.Reader.reading a.reader.now a.party) _ a.counts.now _ (laws.names_party a.reader.now a.party) (laws.any_high a.reader.now a.party a.counts.now c.told-counts) c.any_high-high.ensures
    (c.number.ensures ∙ (rw c.in-Err.is at c.refuse_chunk.ensures.refusal)))
    (rw c.number.ensures (refusal_nonzero _))

pub take_records-stage-requires : goal.take_records-stage-requires
take_records-stage-requires g c =
    let a = c.args in
    let laws = g.met.R.Reader in
    let good = chunk_accepted _ _ _ _ _ _ (sym c.refuse_chunk.ensures.refusal ∙ accepted_number c.in-Ok.is) in
    record {
      low = rw (laws.taken_up a.reader.now a.party _ _ c.from-counted.ensures) (laws.begins a.reader.now a.party a.counts.now (sym c.any_high-high.ensures ∙ good.low));
      sound = c.stage_of-begun.ensures.sound;
      chunk_len_bound = good.short;
    }

pub invariant_of-settings : goal.invariant_of-settings
invariant_of-settings g c = record { range = (chunk_accepted _ _ _ _ _ _ (sym c.refuse_chunk.ensures.refusal ∙ accepted_number c.in-Ok.is)).memory.range }

pub invariant_of-table : goal.invariant_of-table
invariant_of-table g c =
    let fit = (chunk_accepted _ _ _ _ _ _ (sym c.refuse_chunk.ensures.refusal ∙ accepted_number c.in-Ok.is)).memory in
    record { counters_fit = record { size = fit.counters_fit }; slots_fit = record { size = fit.slots_fit } }

-- what the records did is all that the chunk does
finished : {C : Type 0} (t : Settings) (r : Reading C) (counters slots counts words room chunk : List ℕ) {begun stage : Stage} {earlier counted : C} {room' counters' slots' : List ℕ}
    → begun ≡ stage_of r.kind words room → ((number : ℕ) → begun ≡ Ended number → ⊥)
    → 0 ≡ chunk_refusal t (lent counters slots) r.party (r.counts_high (r.counts_of counts)) chunk → earlier ≡ r.counts_of counts
    → chunk_taken r.kind (doing t r) (stream begun room (work earlier counters slots)) chunk ≡ stream stage room' (work counted counters' slots')
    → {number : ℕ} {counts' words' : List ℕ} → number ≡ stage_number stage → counts' ≡ r.counts_words counted → words' ≡ words_of stage
    → take_chunk t r (lent counters slots) counts words room chunk ≡ chunked number counts' words' room' counters' slots'
finished t r counters slots counts words room chunk is other good earlier_is did =
    taken t r counters slots counts words room chunk (rw is at other) (sym good) (rw (is, earlier_is) at did)

pub returns : goal.returns
returns g c =
    let a = c.args in
    let laws = g.met.R.Reader in
    let r = g.R.Reader.reading a.reader.now a.party in
    let party : party_number c.in-Ok.party ≡ a.party = c.in-Ok.ensures.known in
    let begun : c.stage_of-begun.result ≡ stage_of r.kind a.words.now a.room.now = rw (c.kind.ensures a.party) at c.stage_of-begun.ensures.value in
    let good : 0 ≡ chunk_refusal a.settings (lent a.counters.now a.slots.now) r.party (r.counts_high (r.counts_of a.counts.now)) a.chunk.now = refusal a.settings (lent a.counters.now a.slots.now) r a.party a.counts.now a.chunk.now (laws.names_party a.reader.now a.party) (laws.any_high a.reader.now a.party a.counts.now c.told-counts) c.any_high-high.ensures c.in-Ok.ensures.refusal in
    let did : chunk_taken r.kind (doing a.settings r) (stream c.stage_of-begun.result a.room.now (work c.from-counted.result a.counters.now a.slots.now)) a.chunk.now ≡ stream c.take_records-stage.result c.take_records-stage.new.room (work c.take_records-stage.new.counts c.take_records-stage.new.table.counters.now c.take_records-stage.new.table.slots.now) = rw party at c.take_records-stage.ensures.taken in
    let all = finished a.settings r a.counters.now a.slots.now a.counts.now a.words.now a.room.now a.chunk.now begun c.in_default.not-Ended good (laws.taken_up a.reader.now a.party a.counts.now c.from-counted.result c.from-counted.ensures) did
    c.number-2.ensures (laws.written a.reader.now a.party c.into.result c.take_records-stage.new.counts c.into.ensures) c.keep_stage.ensures in
    search rules
