-- Each difference is counted, and put after those before it where there is room, until none is left: `Counted`. A number of 32 bits
-- counts them: `few`.
use native.Mathlib.Omega.{arith}
use mathlib.Core.Path.{◌∙◌}
use Rattle.rules.specs.Numbers.{party_number}
use Rattle.difference_rules.proofs.Few.{few}
use Rattle.difference_calls.proofs.Listing.{counted_none, listed_count, counted_put, counted_more, counted_over, counted_all}
use Rattle.difference_calls.proofs.list_differences.Goals as goal
use Rattle.difference_calls.proofs.list_differences.Goals.{then-i-room, else-i-room}

pub loop-found-init : goal.loop-found-init
loop-found-init g c =
    let t = c.new-found-items.ensures.tables in
    rw (c.into_iter-found-iterator.ensures.into_iter_gives, t.0, t.1, t.2, c.new-found-items.ensures.all)
    (counted_none g.T.Cell.cells g.T.Cell.WIDE g.met.T.Cell.cells_none g.met.T.Cell.cells_append g.met.T.Cell.cells_length _ _)

pub overflow_add-i : goal.overflow_add-i
overflow_add-i g c =
    let a = c.args in
    let one = listed_count g.T.Cell.cells g.T.Cell.WIDE g.met.T.Cell.cells_none g.met.T.Cell.cells_append g.met.T.Cell.cells_length _ _ c.loop-found.invariant c.in-Some.ensures.steps in
    omega (arith, one, few _ (g.T.Cell.words a.first.now.slots.now) _ (g.T.Cell.words a.second.now.slots.now) (party_number a.party) a.first.now.settings.now.range a.second.now.settings.now.range)

pub loop-found-preserved : goal.loop-found-preserved
loop-found-preserved g c =
    let so_far = c.loop-found.invariant in
    let first = c.in-Some.ensures.steps in
    elim c.if-i-room.branch [
      | then-i-room w ↦
          counted_put g.T.Cell.cells g.T.Cell.WIDE g.met.T.Cell.cells_none g.met.T.Cell.cells_append g.met.T.Cell.cells_length _ _
          so_far first (w.list-is ∙ w.put.ensures ∙ rw w.WIDE-then-i-room.ensures)
      | else-i-room w ↦
          rw w.list-is (counted_more g.T.Cell.cells g.T.Cell.WIDE g.met.T.Cell.cells_none g.met.T.Cell.cells_append g.met.T.Cell.cells_length _ _
          so_far first g.met.T.Cell.some_cells (rw c.WIDE.ensures at w.if-i-room.false))
    ]

pub returns-clause-count : goal.returns-clause-count
returns-clause-count g c =
    counted_all g.T.Cell.cells g.T.Cell.WIDE g.met.T.Cell.cells_none g.met.T.Cell.cells_append g.met.T.Cell.cells_length _ _ (rw c.in-None.ensures.steps.0 at c.loop-found.invariant)

pub overflow_cast-result : goal.overflow_cast-result
overflow_cast-result g c =
    let a = c.args in
    record { fits = omega (arith, returns-clause-count g c, few _ (g.T.Cell.words a.first.now.slots.now) _ (g.T.Cell.words a.second.now.slots.now) (party_number a.party) a.first.now.settings.now.range a.second.now.settings.now.range) }

pub returns-clause-listed : goal.returns-clause-listed
returns-clause-listed g c =
    counted_over g.T.Cell.cells g.T.Cell.WIDE g.met.T.Cell.cells_none g.met.T.Cell.cells_append g.met.T.Cell.cells_length _ _
    (rw c.in-None.ensures.steps.0 at c.loop-found.invariant)
