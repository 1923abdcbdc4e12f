-- What the record holds, and then what its UPDATE was answered, carries each return: laws of proofs/Records.antt.
use mathlib.Core.Path.{◌≡◌, refl, sym, ◌∙◌}
use borrow.Author.Rules.{rules}
use Rattle.std.specs.Prelude.{None, Some, Ok, Err}
use Rattle.rules.specs.declared.Refusal.TheVariants.{Hopless}
use Rattle.rules.proofs.Numbers.{party_low}
use Rattle.rules.proofs.Refusals.{fits}
use Rattle.settings.proofs.Tables.{table_fitted}
use Rattle.replay_readers.specs.Held.{record_held}
use Rattle.replay_readers.proofs.Records.{held_told}
use Rattle.replay_calls.proofs.Records.{its_message, other_done, short_done, update_applied, update_hopless, update_fault}
use Rattle.replay_calls.proofs.replay_record.Goals as goal

pub returns-in_err-at-clause-done : goal.returns-in_err-at-clause-done
returns-in_err-at-clause-done c =
    let given : c.from_residual.result ≡ Err c.in_err-at.field-0.0 = search rules in
    rw given (short_done _ _ _ _ _ _ (sym c.read_record.ensures ∙ c.in_err-at.was) refl)

pub returns-in_default-clause-done : goal.returns-in_default-clause-done
returns-in_default-clause-done c =
    let none : c.read_record.result ≡ Ok None = rw c.in_default.is at c.in_ok-at.was in
    other_done _ _ _ _ _ _ (sym c.read_record.ensures ∙ none) refl

pub slice_bounds-apply_update-count : goal.slice_bounds-apply_update-count
slice_bounds-apply_update-count c =
    let some : c.read_record.result ≡ Ok (Some c.in-Some.at) = rw c.in-Some.is at c.in_ok-at.was in
    (held_told c.args.bytes.now (sym c.read_record.ensures ∙ some)).inside

pub slice_bounds-apply_update-start : goal.slice_bounds-apply_update-start
slice_bounds-apply_update-start c =
    let some : c.read_record.result ≡ Ok (Some c.in-Some.at) = rw c.in-Some.is at c.in_ok-at.was in
    (held_told c.args.bytes.now (sym c.read_record.ensures ∙ some)).inside

pub returns-in-Ok-clause-done : goal.returns-in-Ok-clause-done
returns-in-Ok-clause-done c =
    let some : c.read_record.result ≡ Ok (Some c.in-Some.at) = rw c.in-Some.is at c.in_ok-at.was in
    let update : record_held c.args.bytes.now ≡ Ok (Some c.in-Some.at) = sym c.read_record.ensures ∙ some in
    update_applied _ _ _ _ _ _ update
    (fits _ _ _ (table_fitted c.args.table.now) 0)
    (party_low _)
    (rw (c.in-Ok.is, its_message _ update) at c.apply_update.ensures.done)

pub returns-in-Err-Hopless-clause-done : goal.returns-in-Err-Hopless-clause-done
returns-in-Err-Hopless-clause-done c =
    let some : c.read_record.result ≡ Ok (Some c.in-Some.at) = rw c.in-Some.is at c.in_ok-at.was in
    let update : record_held c.args.bytes.now ≡ Ok (Some c.in-Some.at) = sym c.read_record.ensures ∙ some in
    update_hopless _ _ _ _ _ _ update (rw (c.in-Err-Hopless.is, c.in-Err-Hopless.field-0-is, its_message _ update) at c.apply_update.ensures.done)

pub returns-in-Err-clause-done : goal.returns-in-Err-clause-done
returns-in-Err-clause-done c =
    let some : c.read_record.result ≡ Ok (Some c.in-Some.at) = rw c.in-Some.is at c.in_ok-at.was in
    let update : record_held c.args.bytes.now ≡ Ok (Some c.in-Some.at) = sym c.read_record.ensures ∙ some in
    let other : c.in-Err.refusal ≡ Hopless → ⊥ = search rules in
    update_fault _ _ _ _ _ _ update other (rw (c.in-Err.is, its_message _ update) at c.apply_update.ensures.done)
