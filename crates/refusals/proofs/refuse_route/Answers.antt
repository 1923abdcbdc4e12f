-- Each way out has the checks before it; those of the memory and the party are passed on by `party_passing`.
use mathlib.Core.Path.{refl, sym, ◌∙◌}
use borrow.Author.Tests.{lt-ltb, le-ltb, ne_eqb}
use Rattle.std.proofs.lemmas.Result.{err_from_is_err_and}
use Rattle.rules.specs.Table.{route_refusal, refuse, loose}
use Rattle.rules.proofs.Refusals.{party_passing, party_passed, route_fits, handed_on, let_by}
use Rattle.refusals.proofs.refuse_route.Goals as goal

pub returns-in_err-whose-clause-refusal : goal.returns-in_err-whose-clause-refusal
unfolding route_refusal
returns-in_err-whose-clause-refusal c = handed_on (party_passing _ _ _) (err_from_is_err_and _ c.from_residual.ensures.1) c.in_err-whose.ensures.refusal _

pub returns-then-length-gt32-clause-refusal : goal.returns-then-length-gt32-clause-refusal
unfolding route_refusal refuse
returns-then-length-gt32-clause-refusal c =
    sym (let_by (party_passing _ _ _) c.in_ok-whose.ensures.refusal refl _ ∙ simp (lt-ltb _ _ c.if-length-gt32.true))

pub returns-then-prefix_of-p-clause-refusal : goal.returns-then-prefix_of-p-clause-refusal
unfolding route_refusal refuse loose
returns-then-prefix_of-p-clause-refusal c =
    sym
    (let_by (party_passing _ _ _) c.in_ok-whose.ensures.refusal refl _
    ∙ simp (le-ltb _ _ c.if-length-gt32.false, ne_eqb _ _ (λ e. c.if-prefix_of-p.true (c.prefix_of.ensures ∙ e))))

pub returns-clause-refusal : goal.returns-clause-refusal
unfolding route_refusal refuse loose
returns-clause-refusal c =
    let fitted = (party_passed _ _ _ _ 0 (sym c.in_ok-whose.ensures.refusal)).0 in
    sym
    (route_fits _ _ _ _ _ _ (record {
      memory = fitted.memory;
      known = fitted.known;
      high = c.if-length-gt32.false;
      tight = sym c.prefix_of.ensures ∙ c.if-prefix_of-p.false;
    }) 0)
