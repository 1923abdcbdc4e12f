-- What the checks refuse the rules refuse; a withdrawal that passes them ends as the rules say.
use mathlib.Core.Path.{sym}
use Rattle.std.proofs.lemmas.Result.{err_from_is_err_and}
use Rattle.rules.proofs.Numbers.{refused_number}
use Rattle.rules.proofs.Refusals.{route_passing, handed_on, route_passed}
use Rattle.rules.proofs.Updates.{withdraw_refused}
use Rattle.updates.proofs.Checks.{checked}
use Rattle.table.proofs.withdraw.Goals as goal

pub returns-in_err-party : goal.returns-in_err-party
returns-in_err-party c =
    let handed = err_from_is_err_and c.from_residual.result c.from_residual.ensures.1 in
    withdraw_refused _ _ _ _ _ _ (refused_number handed.1) (handed_on (route_passing _ _ _ _ _) handed c.in_err-party.ensures.refusal _)

pub invariant_of-settings : goal.invariant_of-settings
invariant_of-settings c = record { range = (route_passed _ _ _ _ _ _ 0 (sym c.in_ok-party.ensures.refusal)).0.memory.range }

pub invariant_of-table : goal.invariant_of-table
invariant_of-table c =
    let fit = (route_passed _ _ _ _ _ _ 0 (sym c.in_ok-party.ensures.refusal)).0.memory in
    record { counters_fit = record { size = fit.counters_fit }; slots_fit = record { size = fit.slots_fit } }

pub withdraw_checked-requires : goal.withdraw_checked-requires
withdraw_checked-requires c =
    checked (route_passed _ _ _ _ _ _ 0 (sym c.in_ok-party.ensures.refusal)).0
