-- What a record of a day did, past the checks of a chunk, and how far the figures are after it.
use Rattle.std.specs.Prelude.{ℕ, ◌*◌, ◌≡◌, List, Option, None, IfSome, Result, Ok, Err, IfOk}
use Rattle.rules.specs.declared.Settings.{Settings}
use Rattle.rules.specs.declared.Refusal.{Refusal}
use Rattle.rules.specs.Numbers.{refusal_number}
use Rattle.message_calls.specs.declared.Counts.{Counts}
use Rattle.message_calls.specs.Walks.{Low as CountsLow}
use Rattle.stream_format.specs.Streams.{Done}
use Rattle.stream_format.specs.Chunks.{Work, record_done}
use Rattle.stream_chunks.specs.Work.{work, done}
use Rattle.replay_format.specs.declared.Tally.{Tally}
use Rattle.replay_format.specs.Replaying.{replaying}
use Rattle.replay_tally.specs.Steps.{record_added, Low}

-- a record that is seen and not applied
abbrev pub only_seen : Result (Option Counts) Refusal
only_seen = Ok None

-- what an answer means: the number of a record and what it leaves, where earlier is the tally before it
unfoldable pub replayed_to : (earlier : Tally) → Result (Option Counts) Refusal → (counters slots : List ℕ) → Done (Work Tally)
replayed_to earlier (Ok applied) counters slots = done 0 (record_added earlier applied) counters slots
replayed_to earlier (Err e) counters slots = done (refusal_number e) earlier counters slots

-- what a record did, whatever was tallied before it; what is noted of it are the figures of one record
pub record RecordReplayed (t : Settings) (party : ℕ) (hops bytes counters slots : List ℕ) (answer : Result (Option Counts) Refusal) (counters' slots' : List ℕ) : Type 0 where
  pub done : (earlier : Tally) → record_done t (replaying party hops) (work earlier counters slots) bytes ≡ replayed_to earlier answer counters' slots'
  pub few : IfOk answer (λ applied. IfSome applied (λ counts. CountsLow counts 4096))

-- how far the figures may be after so many bytes of a chunk
pub record LowAfter (tally : Tally) (bytes : ℕ) : Type 0 where
  pub low : Low tally (4096 * bytes)
