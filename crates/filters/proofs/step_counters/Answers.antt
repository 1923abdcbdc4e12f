-- The K places that stand first in the array are the counters', and each counter can take its hits where no number is given.
use Rattle.std.proofs.Common.{length-take-le, sym, ◌∙◌}
use Rattle.std.proofs.lemmas.Result.{err_from_is_err_and}
use Rattle.rules.proofs.Numbers.{accepted_number}
use Rattle.settings.proofs.Readiness.{ready}
use Rattle.filters.proofs.Visits.{can_step, places_lent, all_there, cannot_at_them}
use Rattle.filters.proofs.step_counters.Goals as goal

pub slice_bounds-all-end : goal.slice_bounds-all-end
slice_bounds-all-end c = all_there _ _ _ _ c.places_of-all.ensures

pub slice_bounds-places-end : goal.slice_bounds-places-end
slice_bounds-places-end c = sym (length-take-le _ _ (all_there _ _ _ _ c.places_of-all.ensures))

pub refuse_step-requires-clause-inside : goal.refuse_step-requires-clause-inside
refuse_step-requires-clause-inside c = rw c.places_of-all.ensures (places_lent c.args.p (ready c.args.settings.now c.args.length) c.requires)

pub returns-in_err-refuse_step-clause-refusal : goal.returns-in_err-refuse_step-clause-refusal
returns-in_err-refuse_step-clause-refusal c =
    let p = err_from_is_err_and c.from_residual.result c.from_residual.ensures.1 in
    rw (p.1, p.2, ← cannot_at_them _ _ _ _ _, ← c.places_of-all.ensures) c.in_err-refuse_step.ensures

pub step_each-requires-clause-inside : goal.step_each-requires-clause-inside
step_each-requires-clause-inside c = rw c.places_of-all.ensures (places_lent c.args.p (ready c.args.settings.now c.args.length) c.requires)

pub step_each-requires-clause-places_value : goal.step_each-requires-clause-places_value
step_each-requires-clause-places_value c = can_step _ _ c.refuse_step.ensures (accepted_number c.in_ok-refuse_step.was)

pub returns-clause-refusal : goal.returns-clause-refusal
returns-clause-refusal c =
    rw (← cannot_at_them _ _ _ _ _, ← c.places_of-all.ensures) (sym (accepted_number c.in_ok-refuse_step.was) ∙ c.refuse_step.ensures)
