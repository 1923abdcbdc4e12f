-- At length 0 the party's default is emptied; else the search of the bucket answers, and each of its answers means what it
-- means to the rules' withdraw.
use Rattle.std.proofs.Common.{◌∙◌, sym, ap₂}
use Rattle.rules.specs.Table.{left}
use Rattle.rules.specs.Meaning.{place_withdrawn}
use Rattle.rules.proofs.Meaning.{withdraw_at_0, withdraw_by_place, default_alone}
use Rattle.rules.proofs.Numbers.{refused_number, accepted_number, passed_on}
use Rattle.rules.proofs.Refusals.{fitted_ready, fitted_slots, refused_by, accepted_by}
use Rattle.buckets.proofs.Ends.{held_lent}
use Rattle.settings.proofs.Tables.{table_fitted}
use Rattle.updates.proofs.Checks.{route_fitted}
use Rattle.updates.proofs.withdraw_checked.Goals as goal

pub returns-then-length-eq0-clause-done : goal.returns-then-length-eq0-clause-done
returns-then-length-eq0-clause-done c =
    withdraw_at_0 (route_fitted (table_fitted c.args.table.now) c.args.party c.requires) c.if-length-eq0.true ∙ default_alone _ _ _ _ _ c.change_default.ensures

pub returns-in_default-clause-done : goal.returns-in_default-clause-done
unfolding place_withdrawn
returns-in_default-clause-done c =
    withdraw_by_place (route_fitted (table_fitted c.args.table.now) c.args.party c.requires) c.if-length-eq0.false (sym c.in_default.is ∙ c.search_table-held.ensures)

pub returns-in_err-step_counters-clause-done : goal.returns-in_err-step_counters-clause-done
unfolding place_withdrawn
returns-in_err-step_counters-clause-done c =
    withdraw_by_place (route_fitted (table_fitted c.args.table.now) c.args.party c.requires) c.if-length-eq0.false (sym c.in-At.is ∙ c.search_table-held.ensures)
    ∙ refused_by _ _ _ c.step_counters.ensures.refusal (refused_number c.in_err-step_counters.was)
    ∙ ap₂ (λ number counters. left number counters c.args.table.now.slots.now) (passed_on _ c.in_err-step_counters.was c.from_residual.ensures.1) (sym c.in_err-step_counters.ensures.err)

pub put_slot-requires : goal.put_slot-requires
put_slot-requires c =
    held_lent _ _ (fitted_slots (route_fitted (table_fitted c.args.table.now) c.args.party c.requires)) _ _ _ (fitted_ready (route_fitted (table_fitted c.args.table.now) c.args.party c.requires) c.if-length-eq0.false) (sym c.search_table-held.ensures ∙ c.in-At.is)

pub returns-clause-done : goal.returns-clause-done
unfolding place_withdrawn
returns-clause-done c =
    withdraw_by_place (route_fitted (table_fitted c.args.table.now) c.args.party c.requires) c.if-length-eq0.false (sym c.in-At.is ∙ c.search_table-held.ensures)
    ∙ accepted_by _ _ _ c.step_counters.ensures.refusal (accepted_number c.in_ok-step_counters.was)
    ∙ ap₂ (left 0) (sym c.in_ok-step_counters.ensures.ok) (sym c.put_slot.ensures)
