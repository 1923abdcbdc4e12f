-- The words so far are put: `Put`.
use Rattle.words.proofs.Stores.{Put}
use Rattle.words.proofs.put_words.Given as goal

abbrev pub invariant-loop-i : goal.invariant-loop-i
invariant-loop-i g l = Put g.T.Cell.cells l.initial.list l.at l.words l.list l.i
