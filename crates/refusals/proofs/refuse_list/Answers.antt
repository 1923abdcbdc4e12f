-- The checks of the memory and the party are passed on by `party_passing`; then the sizes of the two lists.
use Prim.Native.Nat.{ℕ, ◌*◌, ◌<◌}
use mathlib.Core.Path.{◌≡◌, refl, sym, ◌∙◌}
use mathlib.Core.Bool.{Bool, true, false}
use native.Mathlib.Omega.{arith}
use lib.Dec.{eqb}
use borrow.Author.Tests.{eqb-true, eqb-false}
use Rattle.std.specs.Prelude.{Option, Some, None}
use Rattle.std.specs.Option.{SomeIff, option_eq}
use Rattle.std.proofs.lemmas.Result.{err_from_is_err_and}
use Rattle.rules.specs.Table.{refuse, fourfold, list_refusal}
use Rattle.rules.proofs.Lists.{fourfold_so, fourfold_not}
use Rattle.rules.proofs.Refusals.{party_passing, handed_on, let_by}
use Rattle.refusals.proofs.refuse_list.Goals as goal

-- four to an address, where the product may have no room
four : (addresses results : ℕ) (product : Option ℕ) → results < 18446744073709551616 → SomeIff product (addresses * 4 < 18446744073709551616) (addresses * 4)
    → option_eq eqb product (Some results) ≡ fourfold addresses results
four addresses results (Some n) room (low, same) = go (eqb n results) refl
  where
    go : (b : Bool) → eqb n results ≡ b → b ≡ fourfold addresses results
    go true e = sym (fourfold_so addresses results (omega (arith, same, eqb-true n results e)))
    go false e = sym (fourfold_not addresses results (λ is. eqb-false n results e (omega (arith, same, is))))
four addresses results None room high = sym (fourfold_not addresses results (λ is. high (omega (arith, is, room))))

pub returns-in_err-whose-clause-refusal : goal.returns-in_err-whose-clause-refusal
unfolding list_refusal
returns-in_err-whose-clause-refusal c m counters slots =
    handed_on (party_passing _ m _) (err_from_is_err_and _ c.from_residual.ensures.1) (c.in_err-whose.ensures.refusal m counters slots) _

pub returns-then-ne-clause-refusal : goal.returns-then-ne-clause-refusal
unfolding list_refusal refuse
returns-then-ne-clause-refusal c m counters slots =
    let four_each = four _ _ _ c.ranges.results.fits c.checked_mul.ensures in
    sym
    (let_by (party_passing _ m _) (c.in_ok-whose.ensures.refusal m counters slots) refl _
    ∙ rw (← four_each, sym c.ne.ensures ∙ c.if-ne.true))

pub returns-clause-refusal : goal.returns-clause-refusal
unfolding list_refusal refuse
returns-clause-refusal c m counters slots =
    let four_each = four _ _ _ c.ranges.results.fits c.checked_mul.ensures in
    sym
    (let_by (party_passing _ m _) (c.in_ok-whose.ensures.refusal m counters slots) refl _
    ∙ rw (← four_each, sym c.ne.ensures ∙ c.if-ne.false))
