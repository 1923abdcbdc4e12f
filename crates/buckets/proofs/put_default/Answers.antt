-- The last two words are the parties' defaults'.
use native.Mathlib.Omega.{arith}
use Rattle.rules.proofs.Numbers.{party_low}
use Rattle.buckets.proofs.Slots.{two_words, last_words}
use Rattle.buckets.proofs.put_default.Goals as goal

pub overflow_sub-word : goal.overflow_sub-word
overflow_sub-word c = two_words _ _ c.requires

pub bounds-slots-word : goal.bounds-slots-word
bounds-slots-word c = rw c.number.ensures (omega (arith, two_words _ _ c.requires, party_low c.args.party))

pub returns : goal.returns
returns c = rw (c.number.ensures, last_words _ _ c.requires)
