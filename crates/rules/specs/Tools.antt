-- Small tools in which the rules are written; none of them knows of routes.
use Rattle.std.specs.Prelude.{ℕ, zero, suc, ◌+◌, Bool, true, false, cond, ◌&&◌, ◌||◌, List, [], ◌∷◌, ◌++◌, leb, eqb}
use Rattle.std.proofs.Math.Option.{Option, some, none}

-- n is low, high or between them
unfoldable pub within : (low high n : ℕ) → Bool
within low high n = leb low n && leb n high

-- the test holds at each number of the list
unfoldable pub all : (ℕ → Bool) → List ℕ → Bool
all test [] = true
all test (x ∷ xs) = test x && all test xs

-- the test holds at some number of the list
unfoldable pub any : (ℕ → Bool) → List ℕ → Bool
any test [] = false
any test (x ∷ xs) = test x || any test xs

-- how often x stands in the list
unfoldable pub count : ℕ → List ℕ → ℕ
count x [] = 0
count x (y ∷ ys) = cond (eqb x y) 1 0 + count x ys

-- those numbers of the list at which the test holds, in their order
unfoldable pub those : (ℕ → Bool) → List ℕ → List ℕ
those test [] = []
those test (x ∷ xs) = cond (test x) (x ∷ those test xs) (those test xs)

-- what is there, or else the other
abbrev pub or_else : Option ℕ → Option ℕ → Option ℕ
or_else (some x) other = some x
or_else none other = other

-- the lowest number below n at which the test holds, if there is one
unfoldable pub lowest : (ℕ → Bool) → ℕ → Option ℕ
lowest test zero = none
lowest test (suc n) = or_else (lowest test n) (cond (test n) (some n) none)

-- the numbers of a list taken one after the other, each by what the one before it has left
unfoldable pub fed : {S : Type 0} → (next : S → ℕ → S) → S → List ℕ → S
fed next s [] = s
fed next s (x ∷ xs) = fed next (next s x) xs

-- the input of which these are the chunks
unfoldable pub input_of : (chunks : List (List ℕ)) → List ℕ
input_of [] = []
input_of (chunk ∷ chunks) = chunk ++ input_of chunks
