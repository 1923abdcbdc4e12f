-- A table as a value: its memory by the definitions, and that it is still the one that was lent.
use Rattle.std.specs.Prelude.{◌≡◌}
use Rattle.rules.specs.Table.{Memory, lent}
use Rattle.settings.specs.declared.Table.{Table}

-- the memory of a table
abbrev pub memory_of : Table → Memory
memory_of table = lent table.counters.now table.slots.now

-- a table over the same lists, with the same settings
pub record Same (before after : Table) : Type 0 where
  pub settings : after.settings ≡ before.settings
  pub counters : after.counters.ghost_name ≡ before.counters.ghost_name
  pub slots : after.slots.ghost_name ≡ before.slots.ghost_name
