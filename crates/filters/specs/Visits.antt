-- Where a counter lies, and what an update asks of the counters at some places and does to them.
use Rattle.std.specs.Prelude.{◌≡◌, ℕ, ◌+◌, ◌-◌, ◌/◌, ◌^◌, ◌<◌, Bool, List, nat_lt, slice_index}
use Rattle.rules.specs.declared.Settings.{Settings}
use Rattle.rules.specs.Tools.{any, count}
use Rattle.rules.specs.Table.{filter_bits, counter_place, counters_size, passes_15, runs_short}
use Rattle.filters.specs.declared.Step.{Step}
use Rattle.filters.specs.declared.Step.TheVariants.{Raise, Lower}

-- a place is that of the counter that g numbers, and is one of the counters'
pub record Placed (t : Settings) (L g place : ℕ) : Type 0 where
  pub there : place ≡ counter_place t L (g / 2 ^ (32 - filter_bits t L))
  pub inside : place < counters_size t

-- a counter cannot take so many steps: it would pass 15, or it is less than they are
abbrev pub cannot : Step → (counter hits : ℕ) → Bool
cannot Raise counter hits = nat_lt 15 (counter + hits)
cannot Lower counter hits = nat_lt counter hits

-- the number that says so of some counter: 9 to an add, which raises, and 10 to a withdrawal, which lowers
abbrev pub step_number : Step → ℕ
step_number Raise = 9
step_number Lower = 10

-- a counter after one step
abbrev pub stepped : Step → (counter : ℕ) → ℕ
stepped Raise counter = counter + 1
stepped Lower counter = counter - 1

-- the counter at i cannot take its hits: as many steps as i has among these places
abbrev pub cannot_at : Step → (counters places : List ℕ) (i : ℕ) → Bool
cannot_at step counters places i = cannot step (slice_index counters i) (count i places)

-- some counter at these places cannot
unfoldable pub some_cannot : Step → (counters places : List ℕ) → Bool
some_cannot step counters places = any (cannot_at step counters places) places

-- some counter of p at length L cannot, as the rules say it
abbrev pub cannot_step : Step → Settings → (counters : List ℕ) (p L : ℕ) → Bool
cannot_step Raise t counters p L = passes_15 t counters p L
cannot_step Lower t counters p L = runs_short t counters p L
