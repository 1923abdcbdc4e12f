-- Two invariants carry it, `Between` of the lengths and `Below` of the slots, on the words as they are lent.
use Rattle.rules.specs.Numbers.{party_number}
use Rattle.buckets.proofs.Searching.{Between, Below}
use Rattle.buckets.proofs.Stored.search_buckets.Given as goal

abbrev pub invariant-loop-s : goal.invariant-loop-s
invariant-loop-s g l = Below l.settings.all (g.T.Cell.words l.self.slots.now) (party_number l.party) l.turn.p l.turn.length l.found l.s

abbrev pub invariant-lengths : goal.invariant-lengths
invariant-lengths g l = Between l.settings.all (g.T.Cell.words l.self.slots.now) (party_number l.party) l.address l.lengths l.found l.left l.probes

abbrev pub decreases-lengths : goal.decreases-lengths
decreases-lengths g l = l.left
