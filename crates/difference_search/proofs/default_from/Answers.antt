-- At length 0 a table has its default and nothing else.
use native.Mathlib.Omega.{arith}
use mathlib.Core.Path.{◌≡◌, sym}
use Rattle.difference_search.proofs.Passing.{default_none, default_next}
use Rattle.difference_search.proofs.default_from.Goals as goal

pub returns-then-from-gt0 : goal.returns-then-from-gt0
returns-then-from-gt0 g c = default_none _ _ _ c.requires (λ e. absurd (omega (arith, e, c.if-from-gt0.true)))

pub returns-in_err-mark : goal.returns-in_err-mark
returns-in_err-mark g c =
    rw c.from_residual.ensures (default_none _ _ _ c.requires (λ e. sym (rw c.default_mark-held.ensures at c.in_err-mark.ensures)))

pub returns : goal.returns
returns g c =
    let first : c.args.from ≡ 0 = omega (arith, c.if-from-gt0.false) in
    rw first (default_next _ _ _ (rw c.default_mark-held.ensures at c.in_ok-mark.ensures.0) c.in_ok-mark.ensures.1)
