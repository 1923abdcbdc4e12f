-- The answer is the one of the rules, field by field; a mark of the party's is no lower than its first.
use Rattle.rules.specs.Table.{own, route_answer, hop_of}
use Rattle.rules.proofs.Members.{within_true}
use Rattle.lookup_answers.proofs.answer_route.Goals as goal

pub overflow_sub-result : goal.overflow_sub-result
unfolding own
overflow_sub-result c = rw c.first_mark.ensures (within_true _ _ _ c.requires).0

pub returns : goal.returns
unfolding route_answer hop_of
returns c = rw c.first_mark.ensures
