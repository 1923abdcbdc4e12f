-- What a walk over two tables keeps: what lies ahead in each at one length, and the differences that are left.
use Rattle.std.specs.Prelude.{ℕ, ◌+◌, ◌-◌, ◌^◌, ◌≤◌, cond, List, [], ◌∷◌, ◌++◌, min, eqb, Option, Some, None}
use Rattle.difference_rules.specs.declared.Difference.{Difference}
use Rattle.difference_rules.specs.Comparing.{Side, numbers_from, differences_from, differences_at}
use Rattle.difference_search.specs.declared.Ahead.{Ahead}
use Rattle.difference_search.specs.Next.{lying, Lies}
use Rattle.difference_steps.specs.declared.Walk.{Walk}

-- ---- What lies ahead

-- what lies ahead in each of the two from p on, at length L
pub record Walking (first second : Side) (L p : ℕ) (walk : Walk) : Type 0 where
  pub in_first : Lies (λ q. first q L) p walk.first
  pub in_second : Lies (λ q. second q L) p walk.second

-- the nearer of two prefixes that lie ahead; 2^32 where there is none
abbrev pub nearer_of : Option Ahead → Option Ahead → ℕ
nearer_of (Some one) (Some other) = min one.prefix other.prefix
nearer_of (Some one) None = one.prefix
nearer_of None (Some other) = other.prefix
nearer_of None None = 2 ^ 32

abbrev pub nearest_of : Walk → ℕ
nearest_of walk = nearer_of walk.first walk.second

-- the mark that a table has at p, which is not beyond what lies ahead in it
unfoldable pub mark_there : Option Ahead → (p : ℕ) → ℕ
mark_there ahead p = cond (eqb (lying ahead).prefix p) (lying ahead).mark 0

-- what the two have at the nearer prefix
abbrev pub met : Walk → (L : ℕ) → Difference
met walk L =
    let p = nearest_of walk in
    record { length = L; prefix = p; first = mark_there walk.first p; second = mark_there walk.second p }

-- what lies ahead in a table once q is passed, wherever the way began
abbrev pub Passed : (has : (p : ℕ) → ℕ) (q : ℕ) (ahead next : Option Ahead) → Type 0
Passed has q ahead next = (p : ℕ) → Lies has p ahead → p ≤ q → q ≤ (lying ahead).prefix → Lies has (q + 1) next

-- ---- What is left

-- the walk is at a length, and goes on at the nearer prefix
pub record Underway (first second : Side) (L : ℕ) (walk : Walk) : Type 0 where
  pub high : L ≤ 32
  pub ahead : Walking first second L (nearest_of walk) walk

-- the differences from there on, at this length and then at the longer ones
unfoldable pub left : (first second : Side) (L : ℕ) (walk : Walk) → List Difference
left first second L walk =
    differences_from first second L (nearest_of walk) (2 ^ 32 - nearest_of walk) ++ differences_at first second (numbers_from (L + 1) (32 - L))

-- what is noted of what was met: nothing where both have the same
unfoldable pub as_difference : Difference → List Difference
as_difference d = cond (eqb d.first d.second) [] (d ∷ [])
