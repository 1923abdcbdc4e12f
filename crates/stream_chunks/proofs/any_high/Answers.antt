-- The chain asks each word.
use Prim.Native.Nat.{ℕ}
use mathlib.Core.Path.{◌≡◌, refl, ap, ◌∙◌}
use mathlib.Core.Bool.{Bool, ◌||◌}
use mathlib.Core.List.{List, [], ◌∷◌}
use borrow.Author.Rules.{rules}
use borrow.Author.Tests.{tests}
use lib.Dec.{ltb}
use Rattle.std.specs.List.{list_any}
use Rattle.std.proofs.lemmas.Iterator.{YieldsList-from_slice}
use Rattle.std.proofs.lemmas.Iterator.Search.{any_from_yields_List}
use Rattle.rules.specs.Tools.{any}
use Rattle.stream_chunks.proofs.any_high.Goals as goal

same_any : (test : ℕ → Bool) (xs : List ℕ) → list_any test xs ≡ any test xs
unfolding any
same_any test [] = refl
same_any test (x ∷ xs) = ap (λ rest. test x || rest) (same_any test xs)

pub returns : goal.returns
returns c =
    any_from_yields_List (ltb 4000000000) _ _ _ c.any.ensures.ran (YieldsList-from_slice _ c.iter.ensures.rest) (λ x b q k. search (rules, tests))
    ∙ same_any (ltb 4000000000) c.args.counts.now
