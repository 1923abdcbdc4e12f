-- What a call gives back to a C program and leaves it, as the rules have it.
use Rattle.std.specs.Prelude.{ℕ, ◌*◌, ◌^◌, List, ◌≡◌}
use Rattle.rules.specs.Table.{Outcome, lent, Listed}
use Rattle.difference_rules.specs.Comparing.{Compared, differences_number}
use Rattle.message_format.specs.Reading.{Read, report_number}
use Rattle.stream_format.specs.Kept.{End, ended_as}
use Rattle.stream_format.specs.Chunks.{Chunked, chunked}

-- what an update gives back and leaves: refusal·2^48, the counters and the slots
pub record Crossed (u : Outcome) (answer : ℕ) (counters slots : List ℕ) : Type 0 where
  pub number : answer ≡ u.refusal * 2 ^ 48
  pub memory : lent counters slots ≡ u.memory

-- what a list of addresses gives back and leaves: refusal·2^48, and the bytes of the results
pub record ListCrossed (l : Listed) (answer : ℕ) (bytes : List ℕ) : Type 0 where
  pub number : answer ≡ l.refusal * 2 ^ 48
  pub results : bytes ≡ l.results

-- what a comparison gives back and leaves: refusal·2^48 + count, and the bytes of the list
pub record ComparisonCrossed (u : Compared) (answer : ℕ) (bytes : List ℕ) : Type 0 where
  pub number : answer ≡ differences_number u.answer
  pub list : bytes ≡ u.list

-- what a message gives back and leaves: refusal·2^48 + refused·2^12 + accepted, the counters and the slots
pub record MessageCrossed (u : Read) (answer : ℕ) (counters slots : List ℕ) : Type 0 where
  pub number : answer ≡ report_number u.report
  pub memory : lent counters slots ≡ u.memory

-- what a chunk of a dump or of a day gives back and leaves: refusal·2^48, the counts, the stream's words and room, the counters
-- and the slots
pub record ChunkCrossed (u : Chunked) (answer : ℕ) (counts words room counters slots : List ℕ) : Type 0 where
  pub number : answer ≡ u.number * 2 ^ 48
  pub leaves : chunked u.number counts words room counters slots ≡ u

-- what the end of a stream gives back and leaves: refusal·2^48, and the stream's words
pub record EndCrossed (u : End) (answer : ℕ) (words : List ℕ) : Type 0 where
  pub number : answer ≡ u.number * 2 ^ 48
  pub leaves : ended_as u.number words ≡ u
