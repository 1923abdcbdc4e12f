-- However a stream is cut into chunks, table, counts and final number are the same: a chunk that is taken does what its bytes do,
-- and what is kept between two chunks means the very stream that the first one left. All the chunks are of one reading, so of one
-- party.
use Prim.Native.Nat.{ℕ}
use mathlib.Core.Path.{◌≡◌, refl, sym, ap, ap₂, ◌∙◌}
use mathlib.Core.Bool.{true, false, cond, true≢false}
use mathlib.Core.List.{List, [], ◌∷◌, ◌++◌, append-nil}
use Rattle.rules.specs.declared.Settings.{Settings}
use Rattle.rules.specs.Tools.{input_of, fed}
use Rattle.stream_format.specs.declared.Stage.TheVariants.{Ended}
use Rattle.stream_format.specs.Streams.{Stream, stream, chunk_taken}
use Rattle.stream_format.specs.Kept.{is_ended, ended_number, words_of}
use Rattle.stream_format.specs.Chunks.{Reading, Work, doing, Chunked, stage_number, lent_back, taken_up, as_it_was}
use Rattle.stream_format.proofs.Cuts.{chunk_append, ended_stays}
use Rattle.stream_format.proofs.Ends.{end_at, end_by_stage, ended_stage}
use Rattle.stream_format.proofs.Regular.{Regular, words_mean}
use Rattle.promises.proofs.Sums.{by_cases}
use Rattle.stream_promises.specs.Noted.{Noted, untaken, next_chunk, Streamed, NoMore, Chunk, SameStream}
use Rattle.stream_promises.proofs.Lawful.{Meant, Lawful}
use Rattle.stream_promises.proofs.Ways.{Ends, ends_small, by_way, taken_regular, taken_meant}

-- ---- What is kept

module _ {C : Type 0} (r : Reading C) where
  -- the stream that the next chunk goes on from
  abbrev goes_from : Chunked → Stream (Work C)
  goes_from s = taken_up r s.memory s.counts s.words s.room

  -- a stream that a call leaves: it is regular, and its counts are what their words mean
  abbrev Left : Stream (Work C) → Type 0
  Left s = Regular Ends r.kind s.stage s.room × Meant r s.done.counts

  -- what is lent back means the stream
  means_it : (s : Stream (Work C)) → Left s → goes_from (lent_back r s) ≡ s
  unfolding lent_back taken_up
  means_it s left =
      ap₂ (λ stage counts. stream stage s.room (record { counts = counts; memory = s.done.memory }))
      (words_mean ends_small r.kind s.stage s.room left.0) left.1

  -- and says whether it has ended
  says_ended : (s : Stream (Work C)) → Left s → is_ended (words_of s.stage) ≡ true → s.stage ≡ Ended (ended_number (words_of s.stage))
  says_ended s left over =
      sym (words_mean ends_small r.kind s.stage s.room left.0) ∙ ended_stage r.kind (words_of s.stage) s.room over

module _ {C : Type 0} {r : Reading C} {many : ℕ} {counted : C → List Noted → (answers : List ℕ) → C} (law : Lawful r many counted) (t : Settings) where
  -- bytes taken one after the other
  abbrev on_from : Stream (Work C) → List ℕ → Stream (Work C)
  on_from = chunk_taken r.kind (doing t r)

  -- what any number of bytes would leave if a chunk looked at nothing else
  unfoldable unchecked : Chunked → (bytes : List ℕ) → Chunked
  unchecked s bytes = cond (is_ended s.words) (as_it_was (ended_number s.words) s.memory s.counts s.words s.room) (lent_back r (on_from (goes_from r s) bytes))

  next_unchecked : (s : Chunked) (chunk : List ℕ) → untaken (next_chunk t r s chunk).number ≡ false → next_chunk t r s chunk ≡ unchecked s chunk
  unfolding next_chunk unchecked
  next_unchecked s chunk good = by_way law t s.memory s.counts s.words s.room chunk
      (λ way. way.left ∙ rw way.over)
      (λ way. absurd (true≢false (sym way.given ∙ good)))
      (λ way. way.left ∙ rw way.on)

  -- bytes leave a stream as a call does
  taken_left : (s : Chunked) (bytes : List ℕ) → is_ended s.words ≡ false → Left r (on_from (goes_from r s) bytes)
  taken_left s bytes on = (
    taken_regular law t s.memory s.counts s.words s.room bytes on,
    taken_meant law t s.memory s.counts s.words s.room bytes,
  )

  -- what is left means what the bytes come to
  unchecked_means : (s : Chunked) (bytes : List ℕ) → goes_from r (unchecked s bytes) ≡ on_from (goes_from r s) bytes
  unfolding unchecked taken_up
  unchecked_means s bytes = by_cases (is_ended s.words)
      (λ over. rw over (sym (ended_stays r.kind (doing t r) (goes_from r s) (ended_stage r.kind s.words s.room over) bytes)))
      (λ on. rw on (means_it r _ (taken_left s bytes on)))

  -- ---- One chunk after the other

  -- a stream that was lent back goes on from there
  lent_on : (s : Stream (Work C)) → Left r s → (bytes : List ℕ) → unchecked (lent_back r s) bytes ≡ lent_back r (on_from s bytes)
  unfolding unchecked lent_back stage_number
  lent_on s left bytes = by_cases (is_ended (words_of s.stage))
      (λ over.
      let ended = says_ended r s left over in
      rw (over, ended_stays r.kind (doing t r) s ended bytes)
      (ap (λ number. as_it_was number s.done.memory (r.counts_words s.done.counts) (words_of s.stage) s.room) (sym (ap stage_number ended))))
      (λ on. rw on (ap (λ from. lent_back r (on_from from bytes)) (means_it r s left)))

  unchecked_append : (s : Chunked) (bytes more : List ℕ) → unchecked (unchecked s bytes) more ≡ unchecked s (bytes ++ more)
  unfolding unchecked
  unchecked_append s bytes more = by_cases (is_ended s.words)
      (λ over. rw (over, over))
      (λ on. rw on (lent_on _ (taken_left s bytes on) more ∙ ap (lent_back r) (sym (chunk_append r.kind (doing t r) (goes_from r s) bytes more))))

  -- The bytes of the chunks are taken one after the other.
  pub all_taken : {s last : Chunked} {chunks : List (List ℕ)} → Streamed t r s chunks last → goes_from r last ≡ on_from (goes_from r s) (input_of chunks)
  unfolding input_of chunk_taken fed
  all_taken NoMore = refl
  all_taken (Chunk {s} {chunk = chunk} {chunks} good rest) =
      all_taken rest ∙ ap (λ from. on_from from (input_of chunks)) (ap (goes_from r) (next_unchecked s chunk good) ∙ unchecked_means s chunk)
      ∙ sym (chunk_append r.kind (doing t r) (goes_from r s) chunk (input_of chunks))

  module _ (s : Chunked) (chunk : List ℕ) (good : untaken (next_chunk t r s chunk).number ≡ false) where
    -- what follows a chunk that was taken is as one with it,
    next_more : (more : List ℕ) → unchecked (next_chunk t r s chunk) more ≡ unchecked s (chunk ++ more)
    next_more more = rw (next_unchecked s chunk good) (unchecked_append s chunk more)

    -- and after it nothing is left to do
    settles : unchecked (next_chunk t r s chunk) [] ≡ next_chunk t r s chunk
    settles = next_more [] ∙ rw (append-nil chunk, next_unchecked s chunk good)

  settled_as_one : {s last : Chunked} {chunks : List (List ℕ)} → unchecked s [] ≡ s → Streamed t r s chunks last → last ≡ unchecked s (input_of chunks)
  unfolding input_of
  settled_as_one settled NoMore = sym settled
  settled_as_one settled (Chunk {s} {chunk = chunk} {chunks} good rest) = settled_as_one (settles s chunk good) rest ∙ next_more s chunk good (input_of chunks)

  -- chunks are as one, if there is one at all
  as_one : {s last : Chunked} {chunk : List ℕ} {chunks : List (List ℕ)} → Streamed t r s (chunk ∷ chunks) last → last ≡ unchecked s (input_of (chunk ∷ chunks))
  unfolding input_of
  as_one (Chunk {s} {chunk = chunk} {chunks} good rest) = settled_as_one (settles s chunk good) rest ∙ next_more s chunk good (input_of chunks)

  module _ {start last last' : Chunked} where
    -- However the input is cut, table, counts and room are left the same, and the end gives the same number.
    pub any_cut : {chunks chunks' : List (List ℕ)} → input_of chunks ≡ input_of chunks' → Streamed t r start chunks last → Streamed t r start chunks' last'
        → SameStream r last last'
    unfolding taken_up
    any_cut same one other =
        let stream_same : goes_from r last ≡ goes_from r last' = all_taken one ∙ ap (on_from (goes_from r start)) same ∙ sym (all_taken other) in
        record {
          memory = ap (λ s. s.done.memory) stream_same;
          counts = ap (λ s. s.done.counts) stream_same;
          room = ap (λ s. s.room) stream_same;
          end = end_by_stage r.kind last.words last.room ∙ ap (λ s. end_at s.stage) stream_same ∙ sym (end_by_stage r.kind last'.words last'.room);
        }

    -- With a chunk at least on either side all that is given back and left is the same, the words too.
    pub any_cut_whole : {chunk chunk' : List ℕ} {chunks chunks' : List (List ℕ)} → input_of (chunk ∷ chunks) ≡ input_of (chunk' ∷ chunks')
        → Streamed t r start (chunk ∷ chunks) last → Streamed t r start (chunk' ∷ chunks') last' → last ≡ last'
    any_cut_whole same one other = as_one one ∙ ap (unchecked start) same ∙ sym (as_one other)
