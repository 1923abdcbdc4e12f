-- The tally as the code steps it: from what was counted of a record's routes, under the numbers that they can be given.
use Rattle.std.specs.Prelude.{ℕ, ◌+◌, ◌≤◌, false, [], ◌∷◌, get_or, Option, None, Some, IfSome}
use Rattle.message_calls.specs.declared.Counts.{Counts}
use Rattle.replay_format.specs.declared.Tally.{Tally}
use Rattle.replay_format.specs.Replaying.{tally_more}

-- one record more, with these counts
unfoldable pub tally_added : Tally → (applied : ℕ) → Counts → Tally
tally_added earlier applied counts =
    let r = earlier.refused in
    record {
      seen = earlier.seen + 1;
      applied = earlier.applied + applied;
      accepted = earlier.accepted + counts.accepted;
      refused =
          get_or r 0 0 ∷ get_or r 1 0 ∷ get_or r 2 0 ∷ get_or r 3 0 ∷ get_or r 4 0 ∷ get_or r 5 0 ∷ get_or r 6 0
          ∷ (get_or r 7 0 + counts.unstored) ∷ (get_or r 8 0 + counts.full) ∷ (get_or r 9 0 + counts.above)
          ∷ (get_or r 10 0 + counts.below) ∷ (get_or r 11 0 + counts.odd)
          ∷ get_or r 12 0 ∷ get_or r 13 0 ∷ get_or r 14 0 ∷ get_or r 15 0 ∷ get_or r 16 0 ∷ get_or r 17 0 ∷ get_or r 18 0 ∷ get_or r 19 0
          ∷ [];
    }

-- the same of what a record did: it is only seen, or its UPDATE is applied with these counts
unfoldable pub record_added : Tally → (applied : Option Counts) → Tally
record_added earlier None = tally_more earlier false []
record_added earlier (Some counts) = tally_added earlier 1 counts

-- every figure is at most so many above 4,000,000,000
pub record Low (tally : Tally) (more : ℕ) : Type 0 where
  pub seen_low : tally.seen ≤ 4000000000 + more
  pub applied_low : tally.applied ≤ 4000000000 + more
  pub accepted_low : tally.accepted ≤ 4000000000 + more
  pub refused_low : (number : ℕ) → get_or tally.refused number 0 ≤ 4000000000 + more

-- a record's counts are of one message: none has more routes than bytes
pub record OfOne (counts : Counts) : Type 0 where
  pub accepted_few : counts.accepted ≤ 4096
  pub unstored_few : counts.unstored ≤ 4096
  pub full_few : counts.full ≤ 4096
  pub above_few : counts.above ≤ 4096
  pub below_few : counts.below ≤ 4096
  pub odd_few : counts.odd ≤ 4096

-- every figure has room for what is added
pub record Addable (tally : Tally) (applied : ℕ) (counts : Counts) : Type 0 where
  pub low : Low tally 268435456
  pub one : applied ≤ 1
  pub few : OfOne counts

-- the same for what a record did
pub record RecordAddable (tally : Tally) (applied : Option Counts) : Type 0 where
  pub low : Low tally 268435456
  pub few : IfSome applied OfOne
