-- What was read of the record tells what it did: laws of proofs/Records.antt.
use mathlib.Core.Path.{◌≡◌, sym, ◌∙◌}
use borrow.Author.Rules.{rules}
use Rattle.std.specs.Prelude.{None, Some, Ok, Err}
use Rattle.import_readers.proofs.Records.{route_told}
use Rattle.import_calls.proofs.Records.{route_done, hopless_done, fault_done}
use Rattle.import_calls.proofs.ImporterReader3.read.Goals as goal

pub returns-in_err-route-clause-done : goal.returns-in_err-route-clause-done
returns-in_err-route-clause-done c =
    let given : c.from_residual.result ≡ Err c.in_err-route.field-0.0 = search rules in
    rw given (fault_done _ _ _ _ _ _ _ (sym c.read_record.ensures ∙ c.in_err-route.was))

pub add_announced-outcome-requires : goal.add_announced-outcome-requires
add_announced-outcome-requires c =
    let read : c.read_record.result ≡ Ok (Some c.in-Some.route) = rw c.in-Some.is at c.in_ok-route.was in
    let told = route_told _ _ (sym c.read_record.ensures ∙ read) in
    record { high = told.high; tight = told.tight }

pub returns-in-Some-clause-done : goal.returns-in-Some-clause-done
returns-in-Some-clause-done c =
    let read : c.read_record.result ≡ Ok (Some c.in-Some.route) = rw c.in-Some.is at c.in_ok-route.was in
    route_done _ _ _ _ _ _ _ (sym c.read_record.ensures ∙ read) c.add_announced-outcome.ensures.done c.count_route.ensures

pub returns-in-None-clause-done : goal.returns-in-None-clause-done
returns-in-None-clause-done c =
    let read : c.read_record.result ≡ Ok None = rw c.in-None.is at c.in_ok-route.was in
    hopless_done _ _ _ _ _ _ _ (sym c.read_record.ensures ∙ read) c.count_hopless.ensures
