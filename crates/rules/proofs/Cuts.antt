-- Numbers taken one after the other: wherever a list is cut, the second part goes on from what the first one has left.
use Prim.Native.Nat.{ℕ}
use mathlib.Core.Path.{◌≡◌, refl}
use mathlib.Core.List.{List, [], ◌∷◌, ◌++◌}
use Rattle.rules.specs.Tools.{fed}

pub fed_append : {S : Type 0} (next : S → ℕ → S) (s : S) (numbers more : List ℕ) → fed next s (numbers ++ more) ≡ fed next (fed next s numbers) more
unfolding fed
fed_append next s [] more = refl
fed_append next s (x ∷ numbers) more = fed_append next (next s x) numbers more
