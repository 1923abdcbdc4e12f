-- The branch is on the mark, as in the rules.
use mathlib.Core.Path.{◌∙◌, sym}
use Rattle.rules.specs.Table.{default_answer, route_answer}
use Rattle.lookup_answers.proofs.answer_default.Goals as goal

pub returns-then-is_own : goal.returns-then-is_own
unfolding default_answer route_answer
returns-then-is_own c = c.answer_route.ensures ∙ simp (sym c.is_own.ensures ∙ c.if-is_own.true)

pub returns : goal.returns
unfolding default_answer
returns c = simp (sym c.is_own.ensures ∙ c.if-is_own.false)
