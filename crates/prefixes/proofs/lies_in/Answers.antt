-- The two tests of the code are the two of `lies_in`.
use borrow.Author.Tests.{le-leb, lt-leb}
use Rattle.rules.specs.Table.{lies_in}
use Rattle.prefixes.proofs.lies_in.Goals as goal

pub returns-then-from-length : goal.returns-then-from-length
unfolding lies_in
returns-then-from-length c = simp (le-leb _ _ c.if-from-length.true, c.prefix_of.ensures)

pub returns-else-from-length : goal.returns-else-from-length
unfolding lies_in
returns-else-from-length c = simp (lt-leb _ _ c.if-from-length.false)
