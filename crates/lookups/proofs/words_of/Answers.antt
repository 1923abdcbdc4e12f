-- The words of the answer, where there is a route and where there is none.
use Rattle.rules.specs.Table.{answer_words, one_if}
use Rattle.lookups.proofs.words_of.Goals as goal

pub returns-in-Some : goal.returns-in-Some
unfolding answer_words one_if
returns-in-Some c = rw c.in-Some.is

pub returns-in-None : goal.returns-in-None
unfolding answer_words one_if
returns-in-None c = rw c.in-None.is
