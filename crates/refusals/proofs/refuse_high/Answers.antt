-- The hop is one of 16 bits exactly where the test of `refuse` lets it by.
use Prim.Native.Nat.{ℕ, ◌<◌}
use mathlib.Core.Path.{◌≡◌, ap, ◌∙◌}
use native.Mathlib.Omega.{arith}
use lib.Dec.{ltb}
use borrow.Author.Tests.{lt-ltb, le-ltb}
use Rattle.std.specs.Prelude.{Result, Ok, Err}
use Rattle.std.specs.Result.{OkIff, result_or}
use Rattle.rules.specs.declared.Refusal.TheVariants.{HighHop}
use Rattle.rules.specs.Numbers.{number_given}
use Rattle.rules.specs.Table.{refuse}
use Rattle.refusals.proofs.refuse_high.Goals as goal

given : {E : Type 0} (hop : ℕ) (read : Result ℕ E) → OkIff read (hop < 65536) hop → number_given (result_or read (Err HighHop)) ≡ refuse (ltb 65535 hop) 5 0
unfolding refuse
given hop (Ok x) (low, same) = rw (le-ltb 65535 hop (omega (arith, low)))
given hop (Err e) high = rw (lt-ltb 65535 hop (omega (arith, high)))

pub returns-clause-refusal : goal.returns-clause-refusal
returns-clause-refusal c = ap number_given c.or.ensures ∙ given _ _ c.try_from.ensures
