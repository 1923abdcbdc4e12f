-- 11 and then 5 come after the checks of the route, which are passed on by `route_passing`.
use Prim.Native.Nat.{ℕ}
use mathlib.Core.Path.{◌≡◌, refl, ◌∙◌, sym}
use lib.Dec.{ltb}
use Rattle.std.proofs.lemmas.Result.{err_from_is_err_and}
use Rattle.rules.specs.declared.Settings.{Settings}
use Rattle.rules.specs.Table.{Memory, refuse, odd_prefix, party_refusal, add_checks, route_refusal}
use Rattle.rules.proofs.Refusals.{route_passing, handed_on, let_by}
use Rattle.refusals.proofs.refuse_add.Goals as goal

-- an add whose party and route pass 1, 2, 15, 3 and 4
goes_on : (t : Settings) (m : Memory) (party p L hop : ℕ) → 0 ≡ route_refusal t m party p L 0
    → party_refusal t m party (add_checks p L hop 0) ≡ refuse (odd_prefix p L) 11 (refuse (ltb 65535 hop) 5 0)
unfolding route_refusal
goes_on t m party p L hop good = let_by (route_passing t m party p L) good refl _

pub returns-in_err-whose-clause-refusal : goal.returns-in_err-whose-clause-refusal
unfolding route_refusal
returns-in_err-whose-clause-refusal c = handed_on (route_passing _ _ _ _ _) (err_from_is_err_and _ c.from_residual.ensures.1) c.in_err-whose.ensures.refusal _

pub returns-then-is_odd-clause-refusal : goal.returns-then-is_odd-clause-refusal
unfolding refuse
returns-then-is_odd-clause-refusal c = sym (goes_on _ _ _ _ _ _ c.in_ok-whose.ensures.refusal ∙ rw (sym c.is_odd.ensures ∙ c.if-is_odd.true))

pub returns-in_err-refuse_high-clause-refusal : goal.returns-in_err-refuse_high-clause-refusal
unfolding refuse
returns-in_err-refuse_high-clause-refusal c =
    let p = err_from_is_err_and c.from_residual-in_err-refuse_high.result c.from_residual-in_err-refuse_high.ensures.1 in
    rw (p.1, p.2)
    (sym (goes_on _ _ _ _ _ _ c.in_ok-whose.ensures.refusal ∙ rw (sym c.is_odd.ensures ∙ c.if-is_odd.false) (sym c.in_err-refuse_high.ensures.refusal)))

pub returns-clause-refusal : goal.returns-clause-refusal
unfolding refuse
returns-clause-refusal c =
    sym (goes_on _ _ _ _ _ _ c.in_ok-whose.ensures.refusal ∙ rw (sym c.is_odd.ensures ∙ c.if-is_odd.false) (sym c.in_ok-refuse_high.ensures.refusal))
