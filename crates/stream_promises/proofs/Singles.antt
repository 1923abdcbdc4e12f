-- A chunk is its single calls, made one after the other, and counts their answers: it moves as the noting of its records does,
-- whatever the table is, and what it has done is what the calls of the noted records do.
use Prim.Native.Nat.{ℕ}
use mathlib.Core.Path.{◌≡◌, refl, sym, ap, ◌∙◌}
use mathlib.Core.Bool.{Bool, true}
use mathlib.Core.List.{List, [], ◌∷◌, ◌++◌, append-nil, append_assoc}
use mathlib.Core.Logic.{◌⊎◌, inl, inr}
use lib.Dec.{eqb}
use lib.ListN.{length}
use lib.Pow.{are_bytes}
use Rattle.rules.specs.declared.Settings.{Settings}
use Rattle.rules.specs.Table.{Memory, party_refusal}
use Rattle.rules.specs.Calls.{Call, all_word_sized, each, run}
use Rattle.rules.proofs.Calls.{answers_length, run_append}
use Rattle.rules.proofs.Refusals.{passed}
use Rattle.message_format.proofs.Words.{all_then}
use Rattle.stream_format.specs.Streams.{Stream, stream, chunk_taken}
use Rattle.stream_format.specs.Kept.{is_ended, stage_of}
use Rattle.stream_format.specs.Chunks.{Reading, Work, record_done, record_over, doing, chunk_refusal, Chunked, lent_back, taken_up, take_chunk}
use Rattle.stream_format.proofs.Alike.{DoAlike, Alike, chunk_alike}
use Rattle.stream_format.proofs.Bytes.{KeptOfBytes, chunk_bytes}
use Rattle.stream_format.proofs.Cuts.{ended_stays}
use Rattle.stream_format.proofs.Ends.{ended_stage}
use Rattle.promises.specs.History.{SingleCalls}
use Rattle.promises.proofs.Histories.{made}
use Rattle.promises.proofs.Sums.{by_cases}
use Rattle.stream_promises.specs.Noted.{Noted, Read, Over, record_noted, noting, chunk_records, calls_of, untaken, taken_records, taken_calls, SameGiven}
use Rattle.stream_promises.proofs.Lawful.{Lawful}
use Rattle.stream_promises.proofs.Ways.{bytes_taken, taken_meant, by_way}

-- ---- Records one after the other

module _ {C : Type 0} (r : Reading C) where
  calls_read : (records : List Noted) (bytes : List ℕ) → calls_of r (records ++ Read bytes ∷ []) ≡ calls_of r records ++ r.calls bytes
  unfolding calls_of
  calls_read [] bytes = append-nil _
  calls_read (Read first ∷ records) bytes = rw (calls_read records bytes, append_assoc)
  calls_read (Over ∷ records) bytes = calls_read records bytes

  calls_over : (records : List Noted) → calls_of r (records ++ Over ∷ []) ≡ calls_of r records
  unfolding calls_of
  calls_over [] = refl
  calls_over (Read first ∷ records) = rw (calls_over records)
  calls_over (Over ∷ records) = calls_over records

  no_calls_words : all_word_sized (calls_of r []) ≡ true
  unfolding calls_of all_word_sized
  no_calls_words = refl

  -- what the calls of these records make of counts and table
  unfoldable pub worked : (counted : C → List Noted → (answers : List ℕ) → C) → Settings → Work C → (records : List Noted) → Work C
  worked counted t w records =
      let made = run t w.memory (calls_of r records) in
      record { counts = counted w.counts records made.answers; memory = made.last }

run_length : (t : Settings) (m : Memory) (calls : List Call) → length (run t m calls).answers ≡ length calls
unfolding run
run_length t m calls = answers_length _ _ m calls

-- what is not refused finds settings, sizes and party good
pub unrefused_fits : (t : Settings) (m : Memory) (party : ℕ) (high : Bool) (chunk : List ℕ) → chunk_refusal t m party high chunk ≡ 0
    → party_refusal t m party 0 ≡ 0
unfolding chunk_refusal
unrefused_fits t m party high chunk good = (passed _ 18 _ good).1

module _ {C : Type 0} {r : Reading C} {many : ℕ} {counted : C → List Noted → (answers : List ℕ) → C} (law : Lawful r many counted) (t : Settings) where
  abbrev after : Work C → (records : List Noted) → Work C
  after = worked r counted t

  after_none : (m : Memory) (words : List ℕ) → (let w : Work C = record { counts = r.counts_of words; memory = m } in after w [] ≡ w)
  unfolding worked calls_of run each
  after_none m words = ap (λ counts. record { counts = counts; memory = m }) (law.counted_none words)

  -- one record more
  after_read : (w : Work C) (records : List Noted) (bytes : List ℕ)
      → after w (records ++ Read bytes ∷ [])
      ≡ (let so_far = after w records in
      let made = run t so_far.memory (r.calls bytes) in
      record { counts = r.counts_more so_far.counts bytes made.answers; memory = made.last })
  unfolding worked
  after_read w records bytes =
      let so_far = run t w.memory (calls_of r records) in
      let made = run t so_far.last (r.calls bytes) in
      rw (
        calls_read r records bytes,
        run_append t w.memory (calls_of r records) (r.calls bytes),
        law.counted_read w.counts records so_far.answers bytes made.answers (run_length t so_far.last (r.calls bytes)),
      )

  after_over : (w : Work C) (records : List Noted)
      → after w (records ++ Over ∷ []) ≡ (let so_far = after w records in record { counts = r.counts_over so_far.counts; memory = so_far.memory })
  unfolding worked
  after_over w records = rw (calls_over r records, law.counted_over w.counts records (run t w.memory (calls_of r records)).answers)

  -- ---- The noting

  -- what is done moves as the noting of the records does
  moves_alike : (w : Work C) → DoAlike (λ so_far records. so_far ≡ after w records) (doing t r) (noting r)
  unfolding doing noting record_done record_over record_noted
  moves_alike w = record {
    reads = λ {x} {y} same bytes. by_cases (eqb (r.ends_with bytes) 0)
        (λ good. rw good (record { number = refl; leaves = rw same (sym (after_read w y bytes)) }))
        (λ bad. rw bad (record { number = refl; leaves = same }));
    steps_over = λ {x} {y} same. record { number = refl; leaves = rw same (sym (after_over w y)) };
  }

  -- the calls of records that are of bytes are word-sized
  words_noted : KeptOfBytes (λ records. all_word_sized (calls_of r records) ≡ true) (noting r)
  unfolding noting record_noted
  words_noted = record {
    reads = λ records bytes small sized. by_cases (eqb (r.ends_with bytes) 0)
        (λ good. rw (good, calls_read r records bytes) (all_then (calls_of r records) _ sized (law.sized bytes small)))
        (λ bad. rw bad sized);
    steps_over = λ records sized. rw (calls_over r records) sized;
  }

  -- ---- One chunk

  module _ (m : Memory) (counts words room chunk : List ℕ) where
    -- what it is given back and leaves,
    abbrev its : Chunked
    its = take_chunk t r m counts words room chunk

    -- the records that it does,
    abbrev records : List Noted
    records = taken_records r words room chunk its.number

    -- and the calls that a history has of it
    abbrev calls : List Call
    calls = taken_calls r words room chunk its.number

    -- the counts and the table that it starts from
    abbrev entry : Work C
    entry = record { counts = r.counts_of counts; memory = m }

    -- its records as they are noted
    abbrev noted : Stream (List Noted)
    noted = chunk_taken r.kind (noting r) (stream (stage_of r.kind words room) room []) chunk

    as_noted : Alike (λ so_far done. so_far ≡ after entry done) (bytes_taken law t m counts words room chunk) noted
    unfolding taken_up
    as_noted = chunk_alike (moves_alike entry) r.kind (record { stage = refl; room = refl; done = sym (after_none m counts) }) chunk

    -- what its bytes come to, were they taken whatever else is so: what the calls of their records do, which are word-sized
    pub bytes_come_to : (bytes_taken law t m counts words room chunk).done ≡ worked r counted t entry (chunk_records r words room chunk)
    unfolding chunk_records
    bytes_come_to = as_noted.done

    pub bytes_words : are_bytes room ≡ true → are_bytes chunk ≡ true → all_word_sized (calls_of r (chunk_records r words room chunk)) ≡ true
    unfolding chunk_records
    bytes_words room_small chunk_small =
        (chunk_bytes words_noted r.kind (stream (stage_of r.kind words room) room []) (room_small, no_calls_words r) chunk chunk_small).1

    -- after the end no record is done
    pub none_noted : is_ended words ≡ true → chunk_records r words room chunk ≡ []
    unfolding chunk_records
    none_noted over = ap (λ s. s.done) (ended_stays r.kind (noting r) (stream (stage_of r.kind words room) room []) (ended_stage r.kind words room over) chunk)

    none_after_end : is_ended words ≡ true → records ≡ []
    unfolding taken_records
    none_after_end over = by_cases (untaken its.number) (λ bad. rw bad) (λ good. rw good (none_noted over))

    -- the counts and the table that it leaves
    comes_to : record { counts = r.counts_of its.counts; memory = its.memory } ≡ after entry records
    unfolding taken_records lent_back
    comes_to = by_way law t m counts words room chunk
        (λ way. rw (none_after_end way.over, way.left) (sym (after_none m counts)))
        (λ way. rw (way.given, way.left) (sym (after_none m counts)))
        (λ way. rw (way.given, way.left) (rw way.meant bytes_come_to))

    calls_words : are_bytes room ≡ true → are_bytes chunk ≡ true → all_word_sized calls ≡ true
    unfolding taken_calls taken_records
    calls_words room_small chunk_small = by_cases (untaken its.number) (λ bad. rw bad (no_calls_words r)) (λ good. rw good (bytes_words room_small chunk_small))

    -- A chunk that does a record finds settings, sizes and party good.
    pub records_fit : (records ≡ []) ⊎ (party_refusal t m r.party 0 ≡ 0)
    unfolding taken_records
    records_fit = by_way law t m counts words room chunk
        (λ way. inl (none_after_end way.over)) (λ way. inl (rw way.given)) (λ way. inr (unrefused_fits t m r.party _ chunk way.good))

    -- The table is what these calls leave.
    pub chunk_leaves : its.memory ≡ (run t m calls).last
    unfolding worked taken_calls
    chunk_leaves = ap (λ w. w.memory) comes_to

    -- A chunk is part of a history as these calls are.
    pub chunk_single : are_bytes room ≡ true → are_bytes chunk ≡ true → SingleCalls t m calls (run t m calls).answers its.memory
    chunk_single room_small chunk_small = rw chunk_leaves (made t m calls (calls_words room_small chunk_small))

    -- The counts are what they come to over its records and the answers of these calls.
    pub chunk_counted : r.counts_of its.counts ≡ counted (r.counts_of counts) records (run t m calls).answers
    unfolding worked taken_calls
    chunk_counted = ap (λ w. w.counts) comes_to

  -- ---- The same chunk on two tables

  module _ (counts words room chunk : List ℕ) (m m' : Memory)
      (same : let high = r.counts_high (r.counts_of counts) in chunk_refusal t m' r.party high chunk ≡ chunk_refusal t m r.party high chunk) where
    -- what the first gives back and leaves, and what the other does
    abbrev one : Chunked
    one = take_chunk t r m counts words room chunk

    abbrev other : Chunked
    other = take_chunk t r m' counts words room chunk

    -- why it is not taken
    abbrev refusal : ℕ
    refusal = chunk_refusal t m r.party (r.counts_high (r.counts_of counts)) chunk

    same_stage : (bytes_taken law t m' counts words room chunk).stage ≡ (bytes_taken law t m counts words room chunk).stage
    same_stage = (as_noted m' counts words room chunk).stage ∙ sym (as_noted m counts words room chunk).stage

    same_room : (bytes_taken law t m' counts words room chunk).room ≡ (bytes_taken law t m counts words room chunk).room
    same_room = (as_noted m' counts words room chunk).room ∙ sym (as_noted m counts words room chunk).room

    -- Both give it the same number, so that it is the same calls on both.
    pub same_number : other.number ≡ one.number
    unfolding take_chunk lent_back
    same_number = by_cases (is_ended words) (λ over. rw over) (λ on. by_cases (eqb refusal 0)
        (λ good. rw (on, same, good, same_stage))
        (λ bad. rw (on, same, bad)))

    module _ (answers : let calls = taken_calls r words room chunk one.number in (run t m' calls).answers ≡ (run t m calls).answers) where
      same_counts : r.counts_of other.counts ≡ r.counts_of one.counts
      same_counts = rw (same_number, answers) at (chunk_counted m' counts words room chunk) ∙ sym (chunk_counted m counts words room chunk)

      -- Where these calls are given the same answers, all is given back and left the same, but for the table.
      pub same_given : SameGiven other one
      unfolding take_chunk lent_back
      same_given = by_cases (is_ended words) (λ over. rw over (record { number = refl; counts = refl; words = refl; room = refl })) (λ on. by_cases (eqb refusal 0)
          (λ good.
          let sums = rw (on, same, good) at same_counts in
          let Counts-same = sym (taken_meant law t m' counts words room chunk) ∙ sums ∙ taken_meant law t m counts words room chunk in
          rw (on, same, good) (record { number = rw same_stage; counts = ap r.counts_words Counts-same; words = rw same_stage; room = same_room }))
          (λ bad. rw (on, same, bad) (record { number = refl; counts = refl; words = refl; room = refl })))
