-- 1, 2 and 15 come first, and past them a message is its update: laws of proofs/Whole.antt.
use mathlib.Core.Path.{sym}
use borrow.Author.Rules.{rules}
use native.Mathlib.Omega.{arith}
use Rattle.std.proofs.lemmas.Result.{err_from_is_err_and}
use Rattle.rules.proofs.Refusals.{party_passed}
use Rattle.message_calls.proofs.Whole.{party_refused, update_told}
use Rattle.message_calls.proofs.apply_message.Goals as goal

pub returns-in_err-party : goal.returns-in_err-party
returns-in_err-party c = grind (arith, party_refused)

pub invariant_of-settings : goal.invariant_of-settings
invariant_of-settings c = record { range = (party_passed _ _ _ _ 0 (sym c.in_ok-party.ensures.refusal)).0.memory.range }

pub invariant_of-table : goal.invariant_of-table
invariant_of-table c =
    let fit = (party_passed _ _ _ _ 0 (sym c.in_ok-party.ensures.refusal)).0.memory in
    record { counters_fit = record { size = fit.counters_fit }; slots_fit = record { size = fit.slots_fit } }

pub returns-in_err-counts : goal.returns-in_err-counts
returns-in_err-counts c =
    let p = err_from_is_err_and c.from_residual-in_err-counts.result c.from_residual-in_err-counts.ensures.1 in
    let told = update_told _ _ _ _ _ (sym c.in_ok-party.ensures.refusal) (rw c.in_ok-party.ensures.known at c.in_err-counts.ensures.done) in
    rw (p.1, p.2) (search rules)

pub returns : goal.returns
returns c =
    let told = update_told _ _ _ _ _ (sym c.in_ok-party.ensures.refusal) (rw c.in_ok-party.ensures.known at c.in_ok-counts.ensures.done) in
    search rules
