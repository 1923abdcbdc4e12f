-- Two streams move alike, whatever their records do, as long as every record ends both or neither: one induction over the
-- bytes.
use Prim.Native.Nat.{ℕ}
use mathlib.Core.Path.{◌≡◌, refl}
use mathlib.Core.List.{List, [], ◌∷◌}
use Rattle.rules.specs.Tools.{fed}
use Rattle.stream_format.specs.declared.Kind.{Kind}
use Rattle.stream_format.specs.declared.Stage.{Stage}
use Rattle.stream_format.specs.declared.Event.{Event}
use Rattle.stream_format.specs.declared.Event.TheVariants.{Nothing, Record, Stepped}
use Rattle.stream_format.specs.Streams.{Done, Doing, Stream, unless_ended, completed, byte_taken, chunk_taken}

-- ---- What it is to be alike

-- two records done end the stream with the same number, and what they leave is related
pub record DoneAlike {X Y : Type 0} (related : X → Y → Type 0) (one : Done X) (other : Done Y) : Type 0 where
  pub number : one.number ≡ other.number
  pub leaves : related one.leaves other.leaves

-- so does every record, done to what is related
pub record DoAlike {X Y : Type 0} (related : X → Y → Type 0) (one : Doing X) (other : Doing Y) : Type 0 where
  pub reads : {x : X} {y : Y} → related x y → (bytes : List ℕ) → DoneAlike related (one.reads x bytes) (other.reads y bytes)
  pub steps_over : {x : X} {y : Y} → related x y → DoneAlike related (one.steps_over x) (other.steps_over y)

-- two streams have the same stage and room, and what they have done is related
pub record Alike {X Y : Type 0} (related : X → Y → Type 0) (one : Stream X) (other : Stream Y) : Type 0 where
  pub stage : one.stage ≡ other.stage
  pub room : one.room ≡ other.room
  pub done : related one.done other.done

-- ---- So they stay

module _ {X Y : Type 0} {related : X → Y → Type 0} {one : Doing X} {other : Doing Y} (alike : DoAlike related one other) where
  unless_ended_alike : (stage : Stage) (room : List ℕ) {d : Done X} {e : Done Y} → DoneAlike related d e
      → Alike related (unless_ended stage room d) (unless_ended stage room e)
  unfolding unless_ended
  unless_ended_alike stage room same = record { stage = rw same.number; room = refl; done = same.leaves }

  completed_alike : {x : X} {y : Y} → related x y → (stage : Stage) (room : List ℕ) (event : Event)
      → Alike related (completed one x stage room event) (completed other y stage room event)
  unfolding completed
  completed_alike same stage room Nothing = record { stage = refl; room = refl; done = same }
  completed_alike same stage room (Record size) = unless_ended_alike stage room (alike.reads same _)
  completed_alike same stage room Stepped = unless_ended_alike stage room (alike.steps_over same)

  byte_alike : (kind : Kind) {s : Stream X} {s' : Stream Y} → Alike related s s' → (b : ℕ)
      → Alike related (byte_taken kind one s b) (byte_taken kind other s' b)
  unfolding byte_taken
  byte_alike kind same b = rw (same.stage, same.room) (completed_alike same.done _ _ _)

  -- After any chunk they are alike.
  pub chunk_alike : (kind : Kind) {s : Stream X} {s' : Stream Y} → Alike related s s' → (chunk : List ℕ)
      → Alike related (chunk_taken kind one s chunk) (chunk_taken kind other s' chunk)
  unfolding chunk_taken fed
  chunk_alike kind {s = s} {s' = s'} same [] = same
  chunk_alike kind {s = s} {s' = s'} same (b ∷ chunk) =
      chunk_alike kind {s = byte_taken kind one s b} {s' = byte_taken kind other s' b} (byte_alike kind same b) chunk
