-- The subtype says how many bytes an AS number has.
use borrow.Author.Tests.{ne_eqb}
use Rattle.replay_format.specs.Messages.{family_from, as_size}
use Rattle.replay_readers.proofs.family_from.Goals as goal

pub returns-then-two_bytes-eq1 : goal.returns-then-two_bytes-eq1
unfolding family_from as_size
returns-then-two_bytes-eq1 c = rw (← c.two_bytes.ensures, c.if-two_bytes-eq1.true)

pub returns-else-two_bytes-eq1 : goal.returns-else-two_bytes-eq1
unfolding family_from as_size
returns-else-two_bytes-eq1 c = rw (← c.two_bytes.ensures, ne_eqb _ _ c.if-two_bytes-eq1.false)
