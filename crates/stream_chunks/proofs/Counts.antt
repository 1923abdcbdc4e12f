-- Words none of which is high.
use Prim.Native.Nat.{ℕ, zero, suc, ◌+◌, ◌≤◌}
use mathlib.Core.Path.{◌≡◌}
use mathlib.Core.Bool.{false}
use mathlib.Core.List.{List, [], ◌∷◌}
use native.Mathlib.Omega.{arith}
use lib.Dec.{ltb}
use lib.ListN.{get_or}
use borrow.Author.Tests.{ltb-false}
use Rattle.rules.specs.Tools.{any}
use Rattle.stream_format.proofs.Taking.{neither}

-- what stands at any place is at most 4,000,000,000, and beyond the last one there is 0
pub low_at : (words : List ℕ) → any (ltb 4000000000) words ≡ false → (place : ℕ) → get_or words place 0 ≤ 4000000000 + 0
unfolding any
low_at [] none place = omega arith
low_at (word ∷ words) none zero = omega (arith, ltb-false _ _ (neither (ltb 4000000000 word) _ none).0)
low_at (word ∷ words) none (suc place) = low_at words (neither (ltb 4000000000 word) _ none).1 place
