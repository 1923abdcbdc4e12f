-- The test is that of the rules.
use mathlib.Core.Path.{◌≡◌}
use Prim.Native.Nat.{◌+◌}
use native.Mathlib.Omega.{arith}
use borrow.Author.Rules.{rules}
use Rattle.rules.specs.Tools.{within}
use Rattle.rules.specs.Table.{first_mark, own}
use Rattle.rules.proofs.Numbers.{party_low}
use Rattle.buckets.proofs.is_own.Goals as goal

pub overflow_add-first : goal.overflow_add-first
unfolding first_mark
overflow_add-first c = omega (arith, c.first_mark-first.ensures, party_low c.args.party)

pub returns : goal.returns
unfolding own within
returns c =
    let first = c.first_mark-first.result in
    let test : c.contains.result ≡ within first (first + 65535) c.args.mark = search rules in
    rw (← c.first_mark-first.ensures) test
