-- From what a call ensures to what crosses to C: one law for every update, one for what is lent to be written alone, and one
-- each for a comparison, a message, a chunk and the end of a stream.
use Prim.Native.Nat.{ℕ, ◌*◌, ◌^◌}
use mathlib.Core.Path.{◌≡◌, refl}
use mathlib.Core.List.{List}
use Rattle.rules.specs.Table.{Outcome, left, Listed, answered}
use Rattle.difference_rules.specs.Comparing.{Differences, Compared, compared, differences_number}
use Rattle.message_format.specs.Reading.{Report, Read, reported, report_number}
use Rattle.stream_format.specs.Kept.{End, ended_as}
use Rattle.stream_format.specs.Chunks.{Chunked, chunked}
use Rattle.c_numbers.specs.Fitting.{RefusalFits, CountsFit}
use Rattle.gateway.specs.Crossing.{Crossed, ListCrossed, ComparisonCrossed, MessageCrossed, ChunkCrossed, EndCrossed}

module _ {u : Outcome} {refusal : ℕ} {counters slots : List ℕ} (ensured : u ≡ left refusal counters slots) where
  pub crossed : {answer : ℕ} → answer ≡ refusal * 2 ^ 48 → Crossed u answer counters slots
  crossed number = rw ensured (record { number = number; memory = refl })

module _ {l : Listed} {refusal : ℕ} {results : List ℕ} (ensured : l ≡ answered refusal results) where
  pub list_crossed : {answer : ℕ} → answer ≡ refusal * 2 ^ 48 → ListCrossed l answer results
  list_crossed number = rw ensured (record { number = number; results = refl })

module _ {u : Compared} {given : Differences} {list : List ℕ} (ensured : u ≡ compared given list) where
  pub comparison_crossed : {answer : ℕ} → answer ≡ differences_number given → ComparisonCrossed u answer list
  comparison_crossed number = rw ensured (record { number = number; list = refl })

module _ {u : Read} {report : Report} {counters slots : List ℕ} (ensured : u ≡ reported report counters slots) where
  pub counts_fit_above : CountsFit u.report → CountsFit report
  counts_fit_above fits = rw ensured at fits

  pub message_crossed : {answer : ℕ} → answer ≡ report_number report → MessageCrossed u answer counters slots
  message_crossed number = rw ensured (record { number = number; memory = refl })

module _ {u : Chunked} {number : ℕ} {counts words room counters slots : List ℕ} (ensured : u ≡ chunked number counts words room counters slots) where
  pub chunk_fits_above : RefusalFits u.number → RefusalFits number
  chunk_fits_above fits = rw ensured at fits

  pub chunk_crossed : {answer : ℕ} → answer ≡ number * 2 ^ 48 → ChunkCrossed u answer counts words room counters slots
  chunk_crossed given = rw ensured (record { number = given; leaves = refl })

module _ {u : End} {number : ℕ} {words : List ℕ} (ensured : u ≡ ended_as number words) where
  pub end_fits_above : RefusalFits u.number → RefusalFits number
  end_fits_above fits = rw ensured at fits

  pub end_crossed : {answer : ℕ} → answer ≡ number * 2 ^ 48 → EndCrossed u answer words
  end_crossed given = rw ensured (record { number = given; leaves = refl })
