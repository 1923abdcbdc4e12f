-- The differences before the i-th were counted, and put if there is room for all, and the others are left: `Counted`.
use Rattle.rules.specs.Numbers.{party_number}
use Rattle.difference_rules.specs.Comparing.{has, between}
use Rattle.difference_steps.specs.Walking.{left}
use Rattle.difference_calls.proofs.Listing.{Counted}
use Rattle.difference_calls.proofs.list_differences.Given as goal

abbrev pub invariant-loop-found : goal.invariant-loop-found
invariant-loop-found g l =
    let words = g.T.Cell.words in
    let now = l.found-iterator in
    Counted g.T.Cell.cells g.T.Cell.WIDE (between l.fn.first.settings.now.all (words l.fn.first.slots.now) l.fn.second.settings.now.all (words l.fn.second.slots.now) (party_number l.fn.party)) l.initial.list
    (left (has now.first.now.settings.now.all (words now.first.now.slots.now) (party_number now.party)) (has now.second.now.settings.now.all (words now.second.now.slots.now) (party_number now.party)) now.length now.walk)
    l.i l.list
