-- What is known of a table: its memory fits its settings, and from step to step it stays the one that was lent.
use Prim.Native.Nat.{ℕ}
use mathlib.Core.Path.{refl, ◌∙◌}
use mathlib.Core.List.{List}
use Rattle.rules.specs.Ready.{Counters, Slots}
use Rattle.rules.proofs.Refusals.{Fitted}
use Rattle.settings.specs.declared.InRange.{InRange}
use Rattle.settings.specs.declared.Table.{Table}
use Rattle.settings.specs.Tables.{Same}

pub lent_fitted : (t : InRange) {counters slots : List ℕ} → Counters t.all counters → Slots t.all slots → Fitted t.all counters slots
lent_fitted t counters slots = record { range = t.range; counters_fit = counters.size; slots_fit = slots.size }

pub table_fitted : (table : Table) → Fitted table.settings.all table.counters.now table.slots.now
table_fitted table = lent_fitted table.settings table.counters_fit table.slots_fit

pub same_yet : {table : Table} → Same table table
same_yet = record { settings = refl; counters = refl; slots = refl }

pub same_on : {before between after : Table} → Same before between → Same between after → Same before after
same_on one other =
    record { settings = other.settings ∙ one.settings; counters = other.counters ∙ one.counters; slots = other.slots ∙ one.slots }
