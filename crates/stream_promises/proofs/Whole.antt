-- Chunks taken one after the other are the single calls of all the records that their bytes complete, and count their answers: the
-- bytes are taken as if they had come in one chunk.
use Prim.Native.Nat.{ℕ}
use mathlib.Core.Path.{◌≡◌, refl, sym, ap, ◌∙◌}
use mathlib.Core.Bool.{true, true≢false}
use mathlib.Core.List.{List, [], ◌∷◌}
use mathlib.Core.Logic.{◌⊎◌, inl, inr}
use lib.Pow.{are_bytes}
use Rattle.rules.specs.declared.Settings.{Settings}
use Rattle.rules.specs.Tools.{input_of, fed}
use Rattle.rules.specs.Table.{party_refusal}
use Rattle.rules.specs.Calls.{Call, run}
use Rattle.stream_format.specs.Streams.{chunk_taken}
use Rattle.stream_format.specs.Chunks.{Reading, Chunked, taken_up}
use Rattle.promises.specs.History.{SingleCalls}
use Rattle.promises.proofs.Histories.{made}
use Rattle.stream_promises.specs.Noted.{Noted, chunk_records, calls_of, next_chunk, Streamed, NoMore, Chunk}
use Rattle.stream_promises.proofs.Lawful.{Lawful}
use Rattle.stream_promises.proofs.Cuts.{all_taken}
use Rattle.stream_promises.proofs.Singles.{worked, unrefused_fits, none_noted, bytes_come_to, bytes_words}
use Rattle.stream_promises.proofs.Ways.{by_way}

-- Chunks that complete a record find settings, sizes and party good.
pub all_records_fit : {C : Type 0} {r : Reading C} {many : ℕ} {counted : C → List Noted → (answers : List ℕ) → C} → Lawful r many counted
    → {t : Settings} {start last : Chunked} {chunks : List (List ℕ)} → Streamed t r start chunks last
    → (chunk_records r start.words start.room (input_of chunks) ≡ []) ⊎ (party_refusal t start.memory r.party 0 ≡ 0)
unfolding next_chunk input_of chunk_records chunk_taken fed
all_records_fit law NoMore = inl refl
all_records_fit {r = r} law {t} (Chunk {s} {chunk = chunk} {chunks} good rest) = by_way law t s.memory s.counts s.words s.room chunk
    (λ way. inl (none_noted law t s.memory s.counts s.words s.room (input_of (chunk ∷ chunks)) way.over))
    (λ way. absurd (true≢false (sym way.given ∙ good)))
    (λ way. inr (unrefused_fits t s.memory r.party _ chunk way.good))

module _ {C : Type 0} {r : Reading C} {many : ℕ} {counted : C → List Noted → (answers : List ℕ) → C} (law : Lawful r many counted)
    {t : Settings} {start last : Chunked} {chunks : List (List ℕ)} (streamed : Streamed t r start chunks last) where
  -- all the records that their bytes complete, up to the first one that ends the stream, and their calls
  abbrev records : List Noted
  records = chunk_records r start.words start.room (input_of chunks)

  abbrev calls : List Call
  calls = calls_of r records

  all_come_to : record { counts = r.counts_of last.counts; memory = last.memory }
      ≡ worked r counted t (record { counts = r.counts_of start.counts; memory = start.memory }) records
  unfolding taken_up
  all_come_to = ap (λ s. s.done) (all_taken law t streamed) ∙ bytes_come_to law t start.memory start.counts start.words start.room (input_of chunks)

  -- The table is what these calls leave.
  pub stream_leaves : last.memory ≡ (run t start.memory calls).last
  unfolding worked
  stream_leaves = ap (λ w. w.memory) all_come_to

  -- The chunks are part of a history as these calls are.
  pub stream_single : are_bytes start.room ≡ true → are_bytes (input_of chunks) ≡ true → SingleCalls t start.memory calls (run t start.memory calls).answers last.memory
  stream_single room_small input_small = rw stream_leaves
      (made t start.memory calls (bytes_words law t start.memory start.counts start.words start.room (input_of chunks) room_small input_small))

  -- The counts are what they come to over all these records and answers.
  pub stream_counted : r.counts_of last.counts ≡ counted (r.counts_of start.counts) records (run t start.memory calls).answers
  unfolding worked
  stream_counted = ap (λ w. w.counts) all_come_to
