-- How far the counts of an import may be.
use Rattle.std.specs.Prelude.{ℕ, ◌+◌, ◌≤◌}
use Rattle.import_format.specs.declared.ImportCounts.{ImportCounts}

-- no count has passed so many more than 4,000,000,000
pub record Low (counts : ImportCounts) (more : ℕ) : Type 0 where
  pub accepted_low : counts.accepted ≤ 4000000000 + more
  pub refused_low : counts.refused ≤ 4000000000 + more
  pub hopless_low : counts.hopless ≤ 4000000000 + more
