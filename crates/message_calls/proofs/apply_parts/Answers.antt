-- Each step is a law of proofs/Going.antt.
use mathlib.Core.Path.{refl, sym, ap, ◌∙◌}
use native.Mathlib.Omega.{arith}
use Rattle.std.specs.Prelude.{Ok}
use Rattle.settings.proofs.Tables.{same_yet, same_on}
use Rattle.message_calls.specs.Walks.{accepted_as}
use Rattle.message_calls.proofs.Going.{both_lie, both_same, begins, goes, all_done, room_yet, goes_less, goes_on, checked, turns, no_fault}
use Rattle.message_calls.proofs.apply_parts.Goals as goal

pub loop-task-init : goal.loop-task-init
loop-task-init c = (same_yet, begins _ _ _ _ _ (grind arith) (both_lie c.requires c.args.hop))

pub loop-read-init : goal.loop-read-init
loop-read-init c = (c.loop-task.invariant.0, goes _ _ _ _ _ c.loop-task.invariant.1 _ c.loop-task-test.true)

pub returns-in_err-read-clause-done : goal.returns-in_err-read-clause-done
returns-in_err-read-clause-done c = absurd (no_fault _ _ _ _ _ c.loop-read.invariant.1 (sym c.in_err-read.ensures))

pub apply-outcome-requires : goal.apply-outcome-requires
apply-outcome-requires c =
    let read_so = sym c.in_ok-read.ensures ∙ ap Ok c.in-Some.is in
    checked _ _ _ _ _ c.loop-read.invariant.1 read_so

pub with-counts-requires : goal.with-counts-requires
with-counts-requires c =
    room_yet _ _ _ _ _ c.loop-read.invariant.1 (sym c.in_ok-read.ensures ∙ ap Ok c.in-Some.is) c.requires.short

pub loop-read-smaller : goal.loop-read-smaller
loop-read-smaller c = goes_less _ _ _ _ _ c.loop-read.invariant.1 (sym c.in_ok-read.ensures ∙ ap Ok c.in-Some.is)

pub loop-read-preserved : goal.loop-read-preserved
loop-read-preserved c =
    let same = c.loop-read.invariant.0 in (
      same_on same c.apply-outcome.ensures.same,
      goes_on _ _ _ _ _ c.loop-read.invariant.1 (sym c.in_ok-read.ensures ∙ ap Ok c.in-Some.is) (rw same.settings at c.apply-outcome.ensures.done) c.with-counts.ensures,
    )

pub loop-task-preserved : goal.loop-task-preserved
loop-task-preserved c =
    (c.loop-read.invariant.0, turns _ _ _ _ _ c.loop-read.invariant.1 _ refl (sym c.in_ok-read.ensures ∙ ap Ok c.in_default.is))

pub returns-clause-done : goal.returns-clause-done
returns-clause-done c =
    ap accepted_as (rw (both_same _ _ _ _ _) (all_done _ _ _ _ _ c.loop-task.invariant.1 c.loop-task-test.false))
