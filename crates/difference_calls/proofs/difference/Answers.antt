-- The comparison's two clauses are the two parts of what is given back and left: `as_listed`.
use Rattle.difference_rules.specs.Comparing.{difference, difference_words, between}
use Rattle.difference_rules.proofs.Few.{four_words}
use Rattle.difference_calls.proofs.Ends.{as_listed}
use Rattle.difference_calls.proofs.difference.Goals as goal

pub returns : goal.returns
unfolding difference
returns c =
    let a = c.args in
    let ds = between a.first a.slots.now a.second a.slots2.now a.party in
    as_listed _ _ (difference_words ds) _ _ _ (rw (four_words ds) c.compare.ensures.refusal) c.compare.ensures.listed
