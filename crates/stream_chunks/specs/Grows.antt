-- How far counts go while the records of a chunk are done.
use Rattle.std.specs.Prelude.{ℕ, ◌+◌, ◌≤◌, List}
use Rattle.rules.specs.declared.Settings.{Settings}
use Rattle.stream_format.specs.Chunks.{Reading, Work, record_done}

-- How far the counts may be after so many bytes of a chunk, `Low`: a record takes one byte at least, so with a record more they
-- are no further than with a byte more.
pub record Grows {C : Type 0} (t : Settings) (r : Reading C) (Low : C → ℕ → Type 0) : Type 0 where
  -- there may be more
  pub within : {counts : C} {bytes most : ℕ} → Low counts bytes → bytes ≤ most → Low counts most
  -- a record is read
  pub reads : (w : Work C) (record_bytes : List ℕ) {bytes : ℕ} → Low w.counts bytes → Low (record_done t r w record_bytes).leaves.counts (bytes + 1)
  -- a record is stepped over
  pub steps_over : {counts : C} {bytes : ℕ} → Low counts bytes → Low (r.counts_over counts) (bytes + 1)
