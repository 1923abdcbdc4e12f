-- The code's test is that of the rules.
use Rattle.rules.specs.Table.{refuse, unless_refused, with_default}
use Rattle.rules.specs.Meaning.{default_changed}
use Rattle.updates.proofs.change_default.Goals as goal

pub returns-then-not-is_own : goal.returns-then-not-is_own
unfolding default_changed unless_refused refuse
returns-then-not-is_own c = rw (← c.default_mark.ensures, ← c.is_own.ensures, c.if-not-is_own.true)

pub returns : goal.returns
unfolding default_changed unless_refused refuse with_default
returns c =
    rw (← c.default_mark.ensures, ← c.is_own.ensures, c.if-not-is_own.false, c.put_default.ensures)
