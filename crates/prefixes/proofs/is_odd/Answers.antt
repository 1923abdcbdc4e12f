-- Each half of the code's test is one of `odd_prefix`.
use mathlib.Core.Path.{◌∙◌, sym}
use Rattle.rules.specs.Table.{odd_prefix}
use Rattle.prefixes.proofs.is_odd.Goals as goal

pub returns-then-lies_in : goal.returns-then-lies_in
unfolding odd_prefix
returns-then-lies_in c = rw (c.if-lies_in.true, sym c.lies_in.ensures ∙ c.if-lies_in.true)

pub returns-else-lies_in : goal.returns-else-lies_in
unfolding odd_prefix
returns-else-lies_in c = rw (sym c.lies_in.ensures ∙ c.if-lies_in.false) c.lies_in-else-lies_in.ensures
