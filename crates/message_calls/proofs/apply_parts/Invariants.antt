-- The calls that are left do what all of them do: of the parts from one on, `Turning`, and within a part, `Going`.
use Prim.Native.Nat.{◌+◌, ◌-◌}
use lib.ListN.{drop}
use Rattle.rules.specs.Numbers.{party_number}
use Rattle.settings.specs.Tables.{memory_of, Same}
use Rattle.message_calls.proofs.Going.{Turning, Going}
use Rattle.message_calls.proofs.apply_parts.Given as goal

abbrev pub invariant-loop-task : goal.invariant-loop-task
invariant-loop-task l =
    Same l.fn.table l.table
    × Turning l.fn.table.settings.all (party_number l.party) l.message (memory_of l.fn.table) l.task-items l.task-index l.counts (memory_of l.table)

abbrev pub invariant-loop-read : goal.invariant-loop-read
invariant-loop-read l =
    Same l.fn.table l.table
    × Going l.fn.table.settings.all (party_number l.party) l.message (memory_of l.fn.table) l.task-items (drop (l.task-index + 1) l.task-items) l.task l.rest l.counts (memory_of l.table)

abbrev pub decreases-loop-read : goal.decreases-loop-read
decreases-loop-read l = l.rest.end - l.rest.at
