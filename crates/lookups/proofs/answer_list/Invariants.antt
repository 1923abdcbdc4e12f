-- The first i addresses are answered: `Listing`.
use Rattle.rules.specs.Table.{lent}
use Rattle.rules.specs.Numbers.{party_number}
use Rattle.lookups.proofs.Listing.{Listing}
use Rattle.lookups.proofs.answer_list.Given as goal

abbrev pub invariant-loop-i : goal.invariant-loop-i
invariant-loop-i g l =
    Listing g.T.Cell.cells l.filters.settings.now.all (lent l.filters.counters.now (g.T.Cell.words l.slots)) (party_number l.party) (g.T.Cell.words l.addresses) l.initial.results l.results l.i
