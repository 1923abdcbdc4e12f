-- What a chunk and the end of a stream give back fits: a stream is ended by 14, by the number of a record, by 17 or
-- by 0, and the words that are lent mean a number of sixteen bits.
use Prim.Native.Nat.{ℕ, ◌+◌}
use mathlib.Core.Bool.{Bool, true, false, cond, ◌||◌}
use mathlib.Core.List.{List, [], ◌∷◌}
use native.Mathlib.Omega.{arith}
use lib.Dec.{ltb, eqb, lit<}
use lib.ListN.{length, set}
use Rattle.rules.specs.declared.Settings.{Settings}
use Rattle.rules.specs.Tools.{fed}
use Rattle.rules.specs.Table.{Memory, refuse}
use Rattle.stream_format.specs.declared.Kind.{Kind}
use Rattle.stream_format.specs.declared.Stage.{Stage}
use Rattle.stream_format.specs.declared.Stage.TheVariants.{Header, Body, Over, Ended}
use Rattle.stream_format.specs.declared.Event.{Event}
use Rattle.stream_format.specs.declared.Event.TheVariants.{Nothing, Record, Stepped}
use Rattle.stream_format.specs.Streams.{is_kind, body_size, Framed, to_read, to_step_over, header_read, next_byte, Done, Doing, Stream, unless_ended, completed, byte_taken, chunk_taken}
use Rattle.stream_format.specs.Kept.{left_word, is_ended, ended_number, is_body, stage_of, inside_record, End, end_number, end_stream}
use Rattle.stream_format.specs.Chunks.{Reading, Work, record_done, record_over, doing, chunk_refusal, stage_number, Chunked, lent_back, taken_up, take_chunk}
use Rattle.import_format.specs.Routes.{record_good}
use Rattle.import_format.specs.Importing.{importing, import_chunk}
use Rattle.replay_format.specs.Messages.{record_bad}
use Rattle.replay_format.specs.Replaying.{replaying, replay_chunk}
use Rattle.c_numbers.specs.Fitting.{RefusalFits}
use Rattle.c_numbers.proofs.Fitting.{party_fits}

-- what holds of both holds of either
either : {X : Type 0} (P : X → Type 0) (b : Bool) {x y : X} → P x → P y → P (cond b x y)
either P true one other = one
either P false one other = other

-- ---- A stream

-- a stage of a stream that goes on, or has ended by a number that fits
data StageFits : Stage → Type 0 where
  HeaderFits : {read : ℕ} → StageFits (Header read)
  BodyFits : {read left : ℕ} → StageFits (Body read left)
  OverFits : {left : ℕ} → StageFits (Over left)
  EndedFits : {number : ℕ} → RefusalFits number → StageFits (Ended number)

number_fits : {stage : Stage} → StageFits stage → RefusalFits (stage_number stage)
unfolding stage_number
number_fits HeaderFits = omega arith
number_fits BodyFits = omega arith
number_fits OverFits = omega arith
number_fits (EndedFits fits) = fits

abbrev ByteFits : Framed → Type 0
ByteFits f = StageFits f.stage

header_fits : (kind : Kind) (room : List ℕ) → ByteFits (header_read kind room)
unfolding header_read to_read to_step_over
header_fits kind room =
    let size = body_size room in
    either ByteFits (is_kind kind room)
    (either ByteFits (ltb 65536 size) (EndedFits (lit< tt)) (either ByteFits (eqb size 0) HeaderFits BodyFits))
    (either ByteFits (eqb size 0) HeaderFits OverFits)

byte_fits : (kind : Kind) (stage : Stage) (room : List ℕ) (byte : ℕ) → StageFits stage → ByteFits (next_byte kind stage room byte)
unfolding next_byte
byte_fits kind (Header read) room b fits = either ByteFits (ltb (read + 1) 12) HeaderFits (header_fits kind (set room read b))
byte_fits kind (Body read left) room b fits = either ByteFits (ltb 1 left) BodyFits HeaderFits
byte_fits kind (Over left) room b fits = either ByteFits (ltb 1 left) OverFits HeaderFits
byte_fits kind (Ended number) room b fits = fits

-- a stream whose records end it by numbers that fit
module _ {X : Type 0} (kind : Kind) (doing : Doing X)
    (reads_fits : (x : X) (bytes : List ℕ) → RefusalFits (doing.reads x bytes).number) (steps_fits : (x : X) → RefusalFits (doing.steps_over x).number) where
  unless_fits : (stage : Stage) (room : List ℕ) (d : Done X) → StageFits stage → RefusalFits d.number → StageFits (unless_ended stage room d).stage
  unfolding unless_ended
  unless_fits stage room d fits number = either StageFits (eqb d.number 0) fits (EndedFits number)

  completed_fits : (x : X) (stage : Stage) (room : List ℕ) (event : Event) → StageFits stage → StageFits (completed doing x stage room event).stage
  unfolding completed
  completed_fits x stage room Nothing fits = fits
  completed_fits x stage room (Record size) fits = unless_fits stage room _ fits (reads_fits x _)
  completed_fits x stage room Stepped fits = unless_fits stage room _ fits (steps_fits x)

  taken_fits : (s : Stream X) (chunk : List ℕ) → StageFits s.stage → StageFits (chunk_taken kind doing s chunk).stage
  unfolding chunk_taken fed byte_taken
  taken_fits s [] fits = fits
  taken_fits s (b ∷ chunk) fits =
      taken_fits (byte_taken kind doing s b) chunk (completed_fits s.done _ _ _ (byte_fits kind s.stage s.room b fits))

-- ---- What is kept of it

ended_fits : (words : List ℕ) → RefusalFits (ended_number words)
unfolding ended_number
ended_fits words = omega arith

kept_fits : (kind : Kind) (words room : List ℕ) → StageFits (stage_of kind words room)
unfolding stage_of
kept_fits kind words room =
    either StageFits (is_ended words) (EndedFits (ended_fits words))
    (either StageFits (eqb (left_word words) 0) HeaderFits (either StageFits (is_body kind words room) BodyFits OverFits))

-- The number of an end fits,
pub end_fits : (words : List ℕ) → RefusalFits (end_stream words).number
unfolding end_stream end_number
end_fits words =
    either (λ (u : End). RefusalFits u.number) (is_ended words) (ended_fits words)
    (either RefusalFits (inside_record words) (lit< tt) (lit< tt))

-- ---- A chunk

-- where the records end it by numbers that fit
module _ {C : Type 0} (t : Settings) (r : Reading C) (fits : (bytes : List ℕ) → RefusalFits (r.ends_with bytes)) where
  record_fits : (w : Work C) (bytes : List ℕ) → RefusalFits (record_done t r w bytes).number
  unfolding record_done
  record_fits w bytes = either (λ (d : Done (Work C)). RefusalFits d.number) (eqb (r.ends_with bytes) 0) (lit< tt) (fits bytes)

  over_fits : (w : Work C) → RefusalFits (record_over r w).number
  unfolding record_over
  over_fits w = lit< tt

  chunk_fits : (m : Memory) (counts words room chunk : List ℕ) → RefusalFits (take_chunk t r m counts words room chunk).number
  unfolding take_chunk lent_back doing taken_up chunk_refusal refuse
  chunk_fits m counts words room chunk =
      let high = r.counts_high (r.counts_of counts) in
      either (λ (u : Chunked). RefusalFits u.number) (is_ended words) (ended_fits words)
      (either (λ (u : Chunked). RefusalFits u.number) (eqb (chunk_refusal t m r.party high chunk) 0)
      (number_fits (taken_fits r.kind (doing t r) record_fits over_fits (taken_up r m counts words room) chunk (kept_fits r.kind words room)))
      (either RefusalFits (ltb 65536 (length chunk) || high) (lit< tt) (party_fits t m r.party)))

-- and that of a chunk of a dump,
pub import_fits : (t : Settings) (m : Memory) (party : ℕ) (hops counts words room chunk : List ℕ) → RefusalFits (import_chunk t m party hops counts words room chunk).number
unfolding import_chunk importing
import_fits t m party hops = chunk_fits t (importing party hops) (λ bytes. either RefusalFits (record_good bytes) (lit< tt) (lit< tt)) m

-- and of a day.
pub replay_fits : (t : Settings) (m : Memory) (party : ℕ) (hops tally words room chunk : List ℕ) → RefusalFits (replay_chunk t m party hops tally words room chunk).number
unfolding replay_chunk replaying
replay_fits t m party hops = chunk_fits t (replaying party hops) (λ bytes. either RefusalFits (record_bad bytes) (lit< tt) (lit< tt)) m
