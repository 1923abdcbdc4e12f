-- The checks are those of the rules, past them the sizes fit, and the list is long enough or not.
use mathlib.Core.Path.{refl, sym}
use Rattle.std.proofs.lemmas.Result.{err_from_is_err_and}
use Rattle.rules.proofs.Numbers.{refusal_nonzero}
use Rattle.difference_calls.proofs.Ends.{tables_passed, stops, runs_out, passes}
use Rattle.difference_calls.proofs.compare.Goals as goal

pub returns-in_err-party-clause-refusal : goal.returns-in_err-party-clause-refusal
returns-in_err-party-clause-refusal g c =
    let p = err_from_is_err_and c.from_residual.result c.from_residual.ensures.1 in
    rw (p.1, p.2) (stops _ _ _ _ _ _ _ c.in_err-party.ensures.refusal (refusal_nonzero _))

pub invariant_of-first : goal.invariant_of-first
invariant_of-first g c =
    let f = tables_passed _ _ _ _ _ _ _ _ (sym c.in_ok-party.ensures.refusal) in
    record { range = f.0.range }

pub invariant_of-second : goal.invariant_of-second
invariant_of-second g c =
    let f = tables_passed _ _ _ _ _ _ _ _ (sym c.in_ok-party.ensures.refusal) in
    record { range = f.1.memory.range }

pub invariant_of-first-2 : goal.invariant_of-first-2
invariant_of-first-2 g c =
    let f = tables_passed _ _ _ _ _ _ _ _ (sym c.in_ok-party.ensures.refusal) in
    record { sized = record { size = f.0.slots_fit } }

pub invariant_of-second-2 : goal.invariant_of-second-2
invariant_of-second-2 g c =
    let f = tables_passed _ _ _ _ _ _ _ _ (sym c.in_ok-party.ensures.refusal) in
    record { sized = record { size = f.1.memory.slots_fit } }

pub returns-then-list-WIDE-clause-refusal : goal.returns-then-list-WIDE-clause-refusal
returns-then-list-WIDE-clause-refusal g c =
    runs_out _ _ _ _ _ _ _ c.in_ok-party.ensures.refusal refl
    (rw (← c.in_ok-party.ensures.known, ← c.count_differences-count.ensures, ← c.WIDE.ensures) c.if-list-WIDE.true)

pub returns-clause-refusal : goal.returns-clause-refusal
returns-clause-refusal g c =
    passes _ _ _ _ _ _ _ c.in_ok-party.ensures.refusal refl
    (rw (← c.in_ok-party.ensures.known, ← c.count_differences-count.ensures, ← c.WIDE.ensures) c.if-list-WIDE.false)
