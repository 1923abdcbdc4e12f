-- The last two words are the parties' defaults'.
use native.Mathlib.Omega.{arith}
use Rattle.rules.specs.Table.{default_mark}
use Rattle.rules.proofs.Numbers.{party_low}
use Rattle.buckets.proofs.Slots.{two_words, last_words}
use Rattle.buckets.proofs.default_mark.Goals as goal

pub overflow_sub-word_count : goal.overflow_sub-word_count
overflow_sub-word_count g c = rw c.word_count.ensures (two_words _ _ c.requires)

pub word_at-requires : goal.word_at-requires
word_at-requires g c =
    rw (c.word_count.ensures, c.number.ensures) (omega (arith, two_words _ _ c.requires, party_low c.args.party))

pub returns : goal.returns
unfolding default_mark
returns g c = rw (c.word_at.ensures, c.word_count.ensures, c.number.ensures, last_words _ _ c.requires)
