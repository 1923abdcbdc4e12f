-- 5 comes after the checks of the route, which are passed on by `route_passing`.
use mathlib.Core.Path.{refl, ◌∙◌, sym}
use Rattle.std.proofs.lemmas.Result.{err_from_is_err_and}
use Rattle.rules.proofs.Refusals.{route_passing, handed_on, let_by}
use Rattle.refusals.proofs.refuse_hop.Goals as goal

pub returns-in_err-refuse_route-clause-refusal : goal.returns-in_err-refuse_route-clause-refusal
returns-in_err-refuse_route-clause-refusal c = handed_on (route_passing _ _ _ _ _) (err_from_is_err_and _ c.from_residual.ensures.1) c.in_err-refuse_route.ensures.refusal _

pub returns-in_err-refuse_high-clause-refusal : goal.returns-in_err-refuse_high-clause-refusal
returns-in_err-refuse_high-clause-refusal c =
    let p = err_from_is_err_and c.from_residual-in_err-refuse_high.result c.from_residual-in_err-refuse_high.ensures.1 in
    rw (p.1, p.2) (c.in_err-refuse_high.ensures.refusal ∙ sym (let_by (route_passing _ _ _ _ _) c.in_ok-refuse_route.ensures.refusal refl _))
