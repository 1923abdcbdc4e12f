-- The counts, and the table as two lists.
use Rattle.std.specs.Prelude.{ℕ, List}
use Rattle.rules.specs.Table.{lent}
use Rattle.stream_format.specs.Streams.{Done}
use Rattle.stream_format.specs.Chunks.{Work}

abbrev pub work : {C : Type 0} → C → (counters slots : List ℕ) → Work C
work counts counters slots = record { counts = counts; memory = lent counters slots }

-- what a record did, as it is given back and left
abbrev pub done : {C : Type 0} → (number : ℕ) → C → (counters slots : List ℕ) → Done (Work C)
done number counts counters slots = record { number = number; leaves = work counts counters slots }
