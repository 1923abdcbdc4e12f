-- The loop's invariant carries it: `Met`, of the slots below s.
use Rattle.rules.specs.Numbers.{party_number}
use Rattle.buckets.proofs.Passes.{Met}
use Rattle.buckets.proofs.Stored.search_bucket.Given as goal

abbrev pub invariant-loop-s : goal.invariant-loop-s
invariant-loop-s g l = Met l.fn.self.settings.now.all (g.T.Cell.words l.slots) (party_number l.party) l.p l.length.number l.vacancy l.s
