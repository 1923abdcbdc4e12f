-- What is met comes first of what is left, if it is a difference; and where nothing lies ahead, the next length's is left.
use mathlib.Core.Path.{sym, ap, ◌∙◌}
use native.Mathlib.Omega.{arith}
use lib.ListN.{length}
use Rattle.difference_walks.proofs.Walking.{noted, not_noted, near_low, is_underway, left_more, left_longer, left_done}
use Rattle.difference_walks.proofs.DifferencesIterator.next.Goals as goal

pub returns-then-found-clause-steps : goal.returns-then-found-clause-steps
returns-then-found-clause-steps g c =
    let inv = c.loop-prefix.invariant in
    let below = rw c.in-Some.ensures at c.met-found.ensures.prefix_bound in
    let on = c.passed-self.ensures in
    sym inv.1 ∙ left_more _ _ inv.0 below on ∙ rw c.met-found.ensures.met (noted _ _ (rw c.met-found.ensures.met at c.if-found.true))

pub returns-then-found-clause-goes : goal.returns-then-found-clause-goes
returns-then-found-clause-goes g c =
    let inv = c.loop-prefix.invariant in
    let on = c.passed-self.ensures in
    let underway = is_underway on inv.0.high in
    record {
      on = λ ends. (underway, ends, (let one_more = ap length (returns-then-found-clause-steps g c) in omega (arith, one_more)));
      keeps = underway;
      rests = λ ends. tt;
    }

pub loop-prefix-smaller-else-found : goal.loop-prefix-smaller-else-found
loop-prefix-smaller-else-found g c =
    let inv = c.loop-prefix.invariant in
    let below = rw c.in-Some.ensures at c.met-found.ensures.prefix_bound in
    let on = c.passed-self.ensures in
    omega (arith, below, near_low on)

pub loop-prefix-preserved-else-found : goal.loop-prefix-preserved-else-found
loop-prefix-preserved-else-found g c =
    let inv = c.loop-prefix.invariant in
    let below = rw c.in-Some.ensures at c.met-found.ensures.prefix_bound in
    let on = c.passed-self.ensures in (
      is_underway on inv.0.high,
      sym (left_more _ _ inv.0 below on ∙ not_noted _ _ (rw c.met-found.ensures.met at c.if-found.false)) ∙ inv.1,
    )

pub loop-prefix-preserved : goal.loop-prefix-preserved
loop-prefix-preserved g c =
    let inv = c.loop-prefix.invariant in
    let on = c.begin-self.ensures in (
      is_underway on (omega (arith, c.if-self-lt32.true)),
      sym (left_longer _ _ inv.0 (omega (arith, c.in-None.ensures)) c.if-self-lt32.true on) ∙ inv.1,
    )

pub returns-in-None-2-clause-steps : goal.returns-in-None-2-clause-steps
returns-in-None-2-clause-steps g c =
    let inv = c.loop-prefix.invariant in
    let none = left_done _ _ inv.0 (omega (arith, c.in-None.ensures)) c.if-self-lt32.false in
    (sym inv.1 ∙ none, none)
