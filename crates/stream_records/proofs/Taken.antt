-- A chunk, record by record: its bytes are taken up to the next complete record, what that one does is done, and the rest
-- follows.
use Prim.Native.Nat.{ℕ}
use mathlib.Core.Path.{◌≡◌, refl, sym, ap, ◌∙◌}
use mathlib.Core.Bool.{false, false≢true}
use mathlib.Core.List.{List, [], ◌∷◌}
use Rattle.rules.specs.Tools.{fed}
use Rattle.stream_format.specs.declared.Kind.{Kind}
use Rattle.stream_format.specs.declared.Stage.{Stage}
use Rattle.stream_format.specs.declared.Event.{Event}
use Rattle.stream_format.specs.declared.Event.TheVariants.{Nothing, Record, Stepped}
use Rattle.stream_format.specs.Streams.{framed, next_byte, Doing, Stream, stream, completed, byte_taken, chunk_taken}
use Rattle.stream_records.specs.declared.Next.{Next}
use Rattle.stream_records.specs.Runs.{Cut, completes, up_to_record, GoesFrom}

-- where no record is complete all the bytes are taken
all_taken : (kind : Kind) (stage : Stage) (room : List ℕ) (event : Event) (bytes : List ℕ)
    → completes (up_to_record kind (framed stage room event) bytes).after.event ≡ false → (up_to_record kind (framed stage room event) bytes).rest ≡ []
unfolding up_to_record completes
all_taken kind stage room event [] none = refl
all_taken kind stage room Nothing (b ∷ bytes) none =
    let f = next_byte kind stage room b in
    all_taken kind f.stage f.room f.event bytes none
all_taken kind stage room (Record size) (b ∷ bytes) none = absurd (false≢true (sym none))
all_taken kind stage room Stepped (b ∷ bytes) none = absurd (false≢true (sym none))

module _ {X : Type 0} (kind : Kind) (doing : Doing X) (x : X) where
  -- what the last byte completed is done, and then the rest of the bytes is taken
  unfoldable done_then : Cut → Stream X
  done_then cut =
      chunk_taken kind doing (completed doing x cut.after.stage cut.after.room cut.after.event) cut.rest

  -- after a byte that may have completed a record
  taken_after : (stage : Stage) (room : List ℕ) (event : Event) (bytes : List ℕ)
      → chunk_taken kind doing (completed doing x stage room event) bytes ≡ done_then (up_to_record kind (framed stage room event) bytes)
  unfolding done_then chunk_taken fed byte_taken completed up_to_record completes
  taken_after stage room event [] = refl
  taken_after stage room Nothing (b ∷ bytes) =
      let f = next_byte kind stage room b in
      taken_after f.stage f.room f.event bytes
  taken_after stage room (Record size) (b ∷ bytes) = refl
  taken_after stage room Stepped (b ∷ bytes) = refl

  module _ {stage : Stage} {room bytes : List ℕ} {next : Next} {room' : List ℕ} (goes : GoesFrom kind stage room bytes next room') where
    -- What bytes do: what is complete after those that are taken is done, and what the rest does follows.
    pub goes_taken : chunk_taken kind doing (stream stage room x) bytes
        ≡ chunk_taken kind doing (completed doing x next.stage room' next.event) next.rest.now
    unfolding done_then completed
    goes_taken = taken_after stage room Nothing bytes ∙ ap done_then goes.cut

    -- the chunk ends inside a record
    pub goes_no_further : next.event ≡ Nothing → chunk_taken kind doing (stream stage room x) bytes ≡ stream next.stage room' x
    unfolding chunk_taken fed completed completes
    goes_no_further nothing =
        let rest : next.rest.now ≡ [] = rw goes.cut at (all_taken kind stage room Nothing bytes (rw (goes.cut, nothing))) in
        goes_taken ∙ rw (rest, nothing)
