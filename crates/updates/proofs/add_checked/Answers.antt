-- At length 0 the party's default is marked; else the search of the bucket answers, and each of its answers means what it
-- means to the rules' add.
use Rattle.std.proofs.Common.{◌∙◌, sym, ap, ap₂}
use Rattle.rules.specs.declared.Place.TheVariants.{Absent}
use Rattle.rules.specs.Table.{left, with_slot}
use Rattle.rules.specs.Meaning.{place_added}
use Rattle.rules.proofs.Meaning.{add_at_0, add_by_place}
use Rattle.rules.proofs.Numbers.{refused_number, accepted_number, passed_on}
use Rattle.rules.proofs.Refusals.{fitted_ready, fitted_slots, refused_by, accepted_by}
use Rattle.buckets.proofs.Ends.{held_lent, free_lent}
use Rattle.settings.proofs.Tables.{table_fitted}
use Rattle.updates.proofs.Checks.{add_fitted, route_fitted}
use Rattle.updates.proofs.add_checked.Goals as goal

pub returns-then-length-eq0-clause-done : goal.returns-then-length-eq0-clause-done
returns-then-length-eq0-clause-done c =
    add_at_0 (add_fitted (table_fitted c.args.table.now) c.args.party c.requires.checked c.ranges.hop.fits c.requires.not_odd) c.if-length-eq0.true ∙ ap (left 0 _) (sym (rw c.mark_of-mark.ensures at c.put_default.ensures))

pub put_slot-requires : goal.put_slot-requires
put_slot-requires c =
    held_lent _ _ (fitted_slots (route_fitted (table_fitted c.args.table.now) c.args.party c.requires.checked)) _ _ _ (fitted_ready (route_fitted (table_fitted c.args.table.now) c.args.party c.requires.checked) c.if-length-eq0.false) (sym c.search_table-place.ensures ∙ c.in-At.is)

pub returns-in_default-clause-done : goal.returns-in_default-clause-done
unfolding place_added
returns-in_default-clause-done c =
    add_by_place (add_fitted (table_fitted c.args.table.now) c.args.party c.requires.checked c.ranges.hop.fits c.requires.not_odd) c.if-length-eq0.false (ap Absent (sym c.in_default.is) ∙ sym c.in-Absent.is ∙ c.search_table-place.ensures)

pub returns-in_err-step_counters-in-Absent-clause-done : goal.returns-in_err-step_counters-in-Absent-clause-done
unfolding place_added
returns-in_err-step_counters-in-Absent-clause-done c =
    add_by_place (add_fitted (table_fitted c.args.table.now) c.args.party c.requires.checked c.ranges.hop.fits c.requires.not_odd) c.if-length-eq0.false (ap Absent (sym c.in-Some.is) ∙ sym c.in-Absent.is ∙ c.search_table-place.ensures)
    ∙ refused_by _ _ _ c.step_counters.ensures.refusal (refused_number c.in_err-step_counters-in-Absent.was)
    ∙ ap₂ (λ number counters. left number counters c.args.table.now.slots.now) (passed_on _ c.in_err-step_counters-in-Absent.was c.from_residual.ensures.1) (sym c.in_err-step_counters-in-Absent.ensures.err)

pub put_slot-requires-in-Absent : goal.put_slot-requires-in-Absent
put_slot-requires-in-Absent c =
    free_lent _ _ (fitted_slots (route_fitted (table_fitted c.args.table.now) c.args.party c.requires.checked)) _ _ _ (fitted_ready (route_fitted (table_fitted c.args.table.now) c.args.party c.requires.checked) c.if-length-eq0.false) (sym c.search_table-place.ensures ∙ c.in-Absent.is ∙ ap Absent c.in-Some.is)

pub returns-in-At-clause-done : goal.returns-in-At-clause-done
unfolding place_added
returns-in-At-clause-done c =
    add_by_place (add_fitted (table_fitted c.args.table.now) c.args.party c.requires.checked c.ranges.hop.fits c.requires.not_odd) c.if-length-eq0.false (sym c.in-At.is ∙ c.search_table-place.ensures)
    ∙ ap (left 0 _) (sym (c.put_slot.ensures ∙ ap (with_slot _ _ _) c.mark_of-mark.ensures))

pub returns-in_ok-step_counters-in-Absent-clause-done : goal.returns-in_ok-step_counters-in-Absent-clause-done
unfolding place_added
returns-in_ok-step_counters-in-Absent-clause-done c =
    add_by_place (add_fitted (table_fitted c.args.table.now) c.args.party c.requires.checked c.ranges.hop.fits c.requires.not_odd) c.if-length-eq0.false (ap Absent (sym c.in-Some.is) ∙ sym c.in-Absent.is ∙ c.search_table-place.ensures)
    ∙ accepted_by _ _ _ c.step_counters.ensures.refusal (accepted_number c.in_ok-step_counters-in-Absent.was)
    ∙ ap₂ (left 0) (sym c.in_ok-step_counters-in-Absent.ensures.ok) (sym (c.put_slot-in-Absent.ensures ∙ ap (with_slot _ _ _) c.mark_of-mark.ensures))
