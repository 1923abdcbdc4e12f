-- What the inner steps of a call may count on once its first checks have passed.
use Rattle.std.specs.Prelude.{ℕ, ◌≤◌, ◌≡◌, true, List, length}
use Rattle.rules.specs.declared.Settings.{Settings}
use Rattle.rules.specs.Table.{in_range, counters_size, slots_size}

-- settings in range and one of the 32 lengths that have a filter and buckets
pub record Ready (t : Settings) (L : ℕ) : Type 0 where
  pub range : in_range t ≡ true
  pub low : 1 ≤ L
  pub high : L ≤ 32

-- the counters of these settings
pub record Counters (t : Settings) (counters : List ℕ) : Type 0 where
  pub size : length counters ≡ counters_size t

-- the slots of these settings
pub record Slots (t : Settings) (slots : List ℕ) : Type 0 where
  pub size : length slots ≡ slots_size t
