-- What lies ahead is what the slots before `slot` have: `Lies` of `told_below`.
use Rattle.rules.specs.Numbers.{party_number}
use Rattle.difference_search.specs.Next.{Lies}
use Rattle.difference_search.proofs.Passing.{told_below}
use Rattle.difference_search.proofs.next_prefix.Given as goal

abbrev pub invariant-loop-slot : goal.invariant-loop-slot
invariant-loop-slot g l =
    Lies (told_below l.stored.settings.now.all (g.T.Cell.words l.stored.slots.now) (party_number l.party) l.fn.length l.slot) l.from l.ahead
