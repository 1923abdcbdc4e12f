-- One range is both parties' marks: party 1's begin where party 0's end.
use Prim.Native.Nat.{ℕ}
use mathlib.Core.Path.{◌≡◌, refl, ◌∙◌}
use mathlib.Core.Bool.{Bool, true, false}
use native.Mathlib.Omega.{arith}
use borrow.Author.Rules.{rules}
use lib.Dec.{leb}
use borrow.Author.Tests.{le-leb, lt-leb, leb-true, leb-false}
use Rattle.rules.specs.Tools.{within}
use Rattle.rules.specs.Table.{first_mark, own, occupied}
use Rattle.buckets.proofs.is_occupied.Goals as goal

one_range : (mark : ℕ) → within 1 131072 mark ≡ occupied mark
unfolding occupied own first_mark within
one_range mark = go (leb 1 mark) refl (leb mark 65536) refl
  where
    go : (some : Bool) → leb 1 mark ≡ some → (first : Bool) → leb mark 65536 ≡ first → within 1 131072 mark ≡ occupied mark
    go false none first f = rw (none, lt-leb 65537 mark (omega (arith, leb-false 1 mark none)))
    go true some true f = rw (some, f, le-leb mark 131072 (omega (arith, leb-true mark 65536 f)))
    go true some false f = rw (some, f, le-leb 65537 mark (omega (arith, leb-false mark 65536 f)))

pub returns : goal.returns
unfolding within
returns c = let test : c.contains.result ≡ within 1 131072 c.args.mark = search rules in test ∙ one_range c.args.mark
