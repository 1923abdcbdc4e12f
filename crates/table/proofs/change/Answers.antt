-- What the checks refuse the rules refuse; a change that passes them ends as the rules say.
use mathlib.Core.Path.{sym}
use Rattle.std.proofs.lemmas.Result.{err_from_is_err_and}
use Rattle.rules.proofs.Numbers.{refused_number}
use Rattle.rules.proofs.Refusals.{hop_passing, handed_on, hop_passed}
use Rattle.rules.proofs.Updates.{change_refused}
use Rattle.updates.proofs.Checks.{checked}
use Rattle.table.proofs.change.Goals as goal

pub returns-in_err-party : goal.returns-in_err-party
returns-in_err-party c =
    let handed = err_from_is_err_and c.from_residual.result c.from_residual.ensures.1 in
    change_refused _ _ _ _ _ _ (refused_number handed.1) _ (handed_on (hop_passing _ _ _ _ _ _) handed c.in_err-party.ensures.refusal _)

pub invariant_of-settings : goal.invariant_of-settings
invariant_of-settings c = record { range = (hop_passed _ _ _ _ _ _ _ 0 (sym c.in_ok-party.ensures.refusal)).0.route.memory.range }

pub change_checked-requires : goal.change_checked-requires
change_checked-requires c =
    let route = (hop_passed _ _ _ _ _ _ _ 0 (sym c.in_ok-party.ensures.refusal)).0.route in
    record { checked = checked route; counters = record { size = route.memory.counters_fit }; slots = record { size = route.memory.slots_fit } }
