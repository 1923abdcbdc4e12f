-- The checks are those of the rules, and past them the sizes fit.
use mathlib.Core.Path.{◌∙◌, sym, refl, ap}
use native.Mathlib.Omega.{arith}
use Rattle.std.proofs.lemmas.Result.{err_from_is_err_and}
use Rattle.rules.specs.Table.{lent, lookup_list, answered}
use Rattle.rules.proofs.Numbers.{refused_number}
use Rattle.rules.proofs.Refusals.{list_passing, handed_on}
use Rattle.rules.proofs.Lists.{list_passed, refused_list, accepted_list}
use Rattle.table.proofs.lookup_list.Goals as goal

pub returns-in_err-party : goal.returns-in_err-party
unfolding lookup_list
returns-in_err-party c =
    let m = lent c.args.counters.now c.args.slots.now in
    let handed = err_from_is_err_and c.from_residual.result c.from_residual.ensures.1 in
    refused_list _ _ _ (handed_on (list_passing _ _ _ _ _) handed (c.in_err-party.ensures.refusal m refl refl) _) (refused_number handed.1)

pub invariant_of-settings : goal.invariant_of-settings
invariant_of-settings c =
    let a = c.args in
    record { range = (list_passed _ _ _ a.counters.now a.slots.now a.party 0 (sym (c.in_ok-party.ensures.refusal (lent a.counters.now a.slots.now) refl refl))).0.memory.range }

pub invariant_of-filters : goal.invariant_of-filters
invariant_of-filters c =
    let a = c.args in
    record { sized = record { size = (list_passed _ _ _ a.counters.now a.slots.now a.party 0 (sym (c.in_ok-party.ensures.refusal (lent a.counters.now a.slots.now) refl refl))).0.memory.counters_fit } }

pub answer_list-requires : goal.answer_list-requires
answer_list-requires c =
    let a = c.args in
    let passed = list_passed _ _ _ a.counters.now a.slots.now a.party 0 (sym (c.in_ok-party.ensures.refusal (lent a.counters.now a.slots.now) refl refl)) in
    record { slots = record { size = passed.0.memory.slots_fit }; whole = omega arith; results_len = passed.1 }

pub returns : goal.returns
unfolding lookup_list
returns c =
    let m = lent c.args.counters.now c.args.slots.now in
    accepted_list _ _ _ (c.in_ok-party.ensures.refusal m refl refl) refl
    ∙ ap (answered 0) (rw (← c.in_ok-party.ensures.known) (sym c.answer_list.ensures))
