-- The records of a stream are those that stand in its file, one after the other: between two records a stream takes the next one
-- whole (crates/stream_format/proofs/Whole.antt), and then stands between two records again or has ended.
use Prim.Native.Nat.{ℕ, zero, suc, ◌+◌, ◌<◌}
use mathlib.Core.Path.{◌≡◌, refl, sym, ap, ◌∙◌}
use mathlib.Core.Bool.{true, cond}
use mathlib.Core.List.{List, [], ◌∷◌, ◌++◌, append-nil, append_assoc}
use native.Mathlib.Omega.{arith}
use lib.ListN.{length, take, drop, length-drop, take-append-drop}
use lib.Seq.{append_snoc, length-take-le}
use lib.Dec.{ltb, eqb}
use lib.Pow.{are_bytes}
use borrow.Author.Tests.{ltb-true, ltb-false}
use Rattle.rules.specs.declared.Settings.{Settings}
use Rattle.rules.specs.Tools.{input_of}
use Rattle.rules.specs.Calls.{Call, run}
use Rattle.stream_format.specs.declared.Stage.TheVariants.{Header, Ended}
use Rattle.stream_format.specs.Streams.{is_kind, body_size, Stream, stream, unless_ended, chunk_taken}
use Rattle.stream_format.specs.Kept.{ended_word, read_word, left_word, is_ended, stage_of}
use Rattle.stream_format.specs.Chunks.{Reading, Chunked}
use Rattle.stream_format.proofs.Cuts.{chunk_append, ended_stays}
use Rattle.stream_promises.proofs.Records.{record_does, whole_taken, fewer_taken, front_size}
use Rattle.promises.specs.History.{SingleCalls}
use Rattle.promises.proofs.Sums.{by_cases}
use Rattle.stream_promises.specs.Noted.{Noted, Read, Over, record_noted, noting, chunk_records, calls_of, Streamed}
use Rattle.stream_promises.specs.Files.{WholeRecords, NoRecord, RecordThen, File, ended_by, noted_of}
use Rattle.stream_promises.proofs.Lawful.{Lawful}
use Rattle.stream_promises.proofs.Whole.{stream_single, stream_counted}

-- ---- Files

-- Whole records one after the other are a file,
pub whole_file : {records : List (List ℕ)} → WholeRecords records → File (input_of records)
whole_file {records} whole = record { records = records; part = []; whole = whole; short = omega arith; are = append-nil (input_of records) }

-- a record before a file
record_before : (bytes more : List ℕ) → length bytes ≡ 12 + body_size bytes → File more → File (bytes ++ more)
unfolding input_of
record_before bytes more sized file = record {
  records = bytes ∷ file.records;
  part = file.part;
  whole = RecordThen sized file.whole;
  short = file.short;
  are = append_assoc bytes (input_of file.records) file.part ∙ ap (λ more. bytes ++ more) file.are;
}

file_below : (most : ℕ) (bytes : List ℕ) → length bytes < most → File bytes
unfolding input_of
file_below zero bytes below = absurd (omega arith)
file_below (suc most) bytes below =
    let size = 12 + body_size bytes in
    by_cases (ltb (length bytes) size)
    (λ short. record { records = []; part = bytes; whole = NoRecord; short = ltb-true (length bytes) size short; are = refl })
    (λ enough.
    let fits = ltb-false (length bytes) size enough in
    let first = length-take-le size bytes fits ∙ sym (ap (λ n. 12 + n) (front_size bytes fits)) in
    let rest = file_below most (drop size bytes) (omega (arith, length-drop size bytes)) in
    rw take-append-drop at (record_before (take size bytes) (drop size bytes) first rest))

-- and so are any bytes.
pub every_file : (bytes : List ℕ) → File bytes
every_file bytes = file_below (suc (length bytes)) bytes (omega arith)

-- ---- Their records

module _ {C : Type 0} (r : Reading C) where
  -- bytes from between two records on
  abbrev noted_from : (room : List ℕ) (so_far : List Noted) (bytes : List ℕ) → Stream (List Noted)
  noted_from room so_far bytes = chunk_taken r.kind (noting r) (stream (Header 0) room so_far) bytes

  -- what a whole record does is noted
  does_noted : (so_far : List Noted) (bytes : List ℕ) → record_does r.kind (noting r) so_far bytes
      ≡ cond (is_kind r.kind bytes)
      (cond (eqb (ended_by r bytes) 0) (record { number = 0; leaves = so_far ++ Read bytes ∷ [] }) (record { number = ended_by r bytes; leaves = so_far }))
      (record { number = 0; leaves = so_far ++ Over ∷ [] })
  unfolding record_does noting record_noted ended_by
  does_noted so_far bytes = by_cases (ltb 65536 (body_size bytes)) (λ over. rw over) (λ fits. rw fits)

  file_from : (part : List ℕ) → length part < 12 + body_size part → (room : List ℕ) → length room ≡ 65548 → (so_far : List Noted) {records : List (List ℕ)} → WholeRecords records
      → (noted_from room so_far (input_of records ++ part)).done ≡ so_far ++ noted_of r records
  unfolding input_of noted_of unless_ended
  file_from part short room long so_far NoRecord = rw (fewer_taken r.kind (noting r) so_far room part long short, append-nil)
  file_from part short room long so_far (RecordThen {bytes} {records} sized rest) =
      let took = whole_taken r.kind (noting r) so_far room bytes long sized in
      let more = input_of records ++ part in
      rw (
        append_assoc bytes (input_of records) part,
        chunk_append r.kind (noting r) (stream (Header 0) room so_far) bytes more,
        took.stands,
        does_noted so_far bytes,
      ) (by_cases (is_kind r.kind bytes)
      (λ its. by_cases (eqb (ended_by r bytes) 0)
      (λ on. rw (its, on) (file_from part short took.room took.long (so_far ++ Read bytes ∷ []) rest ∙ append_snoc so_far (Read bytes) (noted_of r records)))
      (λ over. rw (its, over, over) (ap (λ s. s.done) (ended_stays r.kind (noting r) (stream (Ended (ended_by r bytes)) took.room so_far) refl more) ∙ sym (append-nil so_far))))
      (λ other. rw other (file_from part short took.room took.long (so_far ++ Over ∷ []) rest ∙ append_snoc so_far Over (noted_of r records))))

  -- A stream that begins with words of zero completes the records of its file, whatever its room holds.
  pub file_records : {bytes : List ℕ} (file : File bytes) (room : List ℕ) → length room ≡ 65548
      → chunk_records r (0 ∷ 0 ∷ 0 ∷ []) room bytes ≡ noted_of r file.records
  unfolding chunk_records stage_of is_ended ended_word read_word left_word
  file_records file room long = rw (← file.are) (file_from file.part file.short room long [] file.whole)

-- ---- A file in chunks

module _ {C : Type 0} {r : Reading C} {many : ℕ} {counted : C → List Noted → (answers : List ℕ) → C} (law : Lawful r many counted)
    {t : Settings} {start last : Chunked} {chunks : List (List ℕ)} (streamed : Streamed t r start chunks last)
    (anew : start.words ≡ 0 ∷ 0 ∷ 0 ∷ []) (long : length start.room ≡ 65548) (file : File (input_of chunks)) where
  -- the calls of the file's records, in their order
  abbrev calls : List Call
  calls = calls_of r (noted_of r file.records)

  all_records : chunk_records r start.words start.room (input_of chunks) ≡ noted_of r file.records
  all_records = rw anew (file_records r file start.room long)

  -- However it is cut into chunks, a file is these calls,
  pub file_single : are_bytes start.room ≡ true → are_bytes (input_of chunks) ≡ true → SingleCalls t start.memory calls (run t start.memory calls).answers last.memory
  file_single room_small input_small = rw all_records at (stream_single law streamed room_small input_small)

  -- and its counts are what they come to over its records.
  pub file_counted : r.counts_of last.counts ≡ counted (r.counts_of start.counts) (noted_of r file.records) (run t start.memory calls).answers
  file_counted = rw all_records at (stream_counted law streamed)
