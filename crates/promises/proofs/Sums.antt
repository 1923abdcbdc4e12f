-- Sums over routes: what a list of routes comes to under every weight is all that the promises need of it.
use Prim.Native.Nat.{ℕ, zero, suc, ◌+◌, ◌≤◌, ◌<◌}
use mathlib.Core.Path.{◌≡◌, refl, sym, ap, ◌∙◌}
use mathlib.Core.Bool.{Bool, true, false, cond, ◌||◌}
use mathlib.Core.List.{List, [], ◌∷◌, Memᴰ}
use native.Mathlib.Omega.{arith}
use Rattle.promises.specs.History.{Route}
use Rattle.promises.specs.Demands.{sum, number, exists, Reordered, Nothing, First, Swapped, Again}

-- a Bool's cases, with the equation
pub by_cases {ℓ} : {A : Type ℓ} (b : Bool) → (b ≡ true → A) → (b ≡ false → A) → A
by_cases true yes_case no_case = yes_case refl
by_cases false yes_case no_case = no_case refl

-- ---- Sums

pub sum_reordered : (weight : Route → ℕ) {one other : List Route} → Reordered one other → sum weight one ≡ sum weight other
unfolding sum
sum_reordered weight Nothing = refl
sum_reordered weight (First r same) = ap (λ (n : ℕ). weight r + n) (sum_reordered weight same)
sum_reordered weight (Swapped r q routes) = omega arith
sum_reordered weight (Again one other) = sum_reordered weight one ∙ sum_reordered weight other

-- a stored route's own weight is part of the sum
pub weight_within : (weight : Route → ℕ) {r : Route} {routes : List Route} → Memᴰ r routes → weight r ≤ sum weight routes
unfolding sum
weight_within weight (Memᴰ.head {xs = routes} e) = rw e (omega arith)
weight_within weight (Memᴰ.tail m) = let inner = weight_within weight m in omega arith

-- a sum that is not zero has a route that weighs something
pub some_weighs : (weight : Route → ℕ) (routes : List Route) → 0 < sum weight routes → (r : Route) × Memᴰ r routes × (0 < weight r)
unfolding sum
some_weighs weight [] h = absurd (omega arith)
some_weighs weight (r ∷ routes) h = go (weight r) refl (some_weighs weight routes)
  where
    go : (w : ℕ) → weight r ≡ w → (0 < sum weight routes → (q : Route) × Memᴰ q routes × (0 < weight q)) → (q : Route) × Memᴰ q (r ∷ routes) × (0 < weight q)
    go zero e rest = let q = rest (omega arith) in (q.0, Memᴰ.tail q.1, q.2)
    go (suc w) e rest = (r, Memᴰ.head refl, omega arith)

pub none_weighs : (weight : Route → ℕ) (routes : List Route) → ((r : Route) → Memᴰ r routes → weight r ≡ 0) → sum weight routes ≡ 0
unfolding sum
none_weighs weight [] h = refl
none_weighs weight (r ∷ routes) h =
    rw (h r (Memᴰ.head refl), none_weighs weight routes (λ q m. h q (Memᴰ.tail m)))

-- what weighs under a test passes it
pub weighs_passes : (b : Bool) (n : ℕ) → 0 < cond b n 0 → b ≡ true
weighs_passes true n h = refl
weighs_passes false n h = absurd (omega arith)

-- ---- Tests over routes

pub exists_there : (test : Route → Bool) {r : Route} {routes : List Route} → Memᴰ r routes → test r ≡ true → exists test routes ≡ true
unfolding exists
exists_there test (Memᴰ.head e) h = rw (← e, h)
exists_there test (Memᴰ.tail {x = q} m) h = rw (exists_there test m h) (either (test q))
  where
    either : (b : Bool) → b || true ≡ true
    either true = refl
    either false = refl

pub exists_one : (test : Route → Bool) (routes : List Route) → exists test routes ≡ true → (r : Route) × Memᴰ r routes × (test r ≡ true)
unfolding exists
exists_one test [] h = absurd (mathlib.Core.Bool.false≢true h)
exists_one test (r ∷ routes) h = go (test r) refl h (exists_one test routes)
  where
    go : (b : Bool) → test r ≡ b → b || exists test routes ≡ true
        → (exists test routes ≡ true → (q : Route) × Memᴰ q routes × (test q ≡ true)) → (q : Route) × Memᴰ q (r ∷ routes) × (test q ≡ true)
    go true e k rest = (r, Memᴰ.head refl, e)
    go false e k rest = let q = rest k in (q.0, Memᴰ.tail q.1, q.2)

-- none passes exactly where the number is zero
pub exists_none : (test : Route → Bool) (routes : List Route) → exists test routes ≡ false → (r : Route) → Memᴰ r routes → test r ≡ false
exists_none test routes h r m =
    by_cases (test r) (λ e. absurd (mathlib.Core.Bool.true≢false (sym (exists_there test m e) ∙ h))) (λ e. e)

pub none_exists : (test : Route → Bool) (routes : List Route) → ((r : Route) → Memᴰ r routes → test r ≡ false) → exists test routes ≡ false
none_exists test routes h = by_cases (exists test routes)
    (λ e. let q = exists_one test routes e in absurd (mathlib.Core.Bool.true≢false (sym q.2 ∙ h q.0 q.1))) (λ e. e)

-- ---- Routes that pass

-- where none passes, those that pass weigh nothing
pub none_pass : (test : Route → Bool) (weight : Route → ℕ) (routes : List Route) → number test routes ≡ 0
    → sum (λ q. cond (test q) (weight q) 0) routes ≡ 0
unfolding sum number
none_pass test weight [] few = refl
none_pass test weight (r ∷ routes) few = go (test r) (few) (none_pass test weight routes)
  where
    go : (b : Bool) → cond b 1 0 + number test routes ≡ 0 → (number test routes ≡ 0 → sum (λ q. cond (test q) (weight q) 0) routes ≡ 0)
        → cond b (weight r) 0 + sum (λ q. cond (test q) (weight q) 0) routes ≡ 0
    go true h rest = absurd (omega arith)
    go false h rest = let k = rest (omega arith) in omega arith

-- where at most one passes, those that pass weigh as much as that one
pub only_one : (test : Route → Bool) (weight : Route → ℕ) {r : Route} {routes : List Route} → Memᴰ r routes → test r ≡ true
    → number test routes ≤ 1 → sum (λ q. cond (test q) (weight q) 0) routes ≡ weight r
unfolding sum number
only_one test weight {r} (Memᴰ.head {x = q} {xs = routes} e) h few =
    let passes : test q ≡ true = rw (← e) h in
    let rest = none_pass test weight routes (let fewer : 1 + number test routes ≤ 1 = rw passes at few in omega arith) in
    rw (passes, rest, e) (omega arith)
only_one test weight {r} (Memᴰ.tail {x = q} {xs = routes} m) h few =
    let inner = weight_within (λ q. cond (test q) 1 0) m in
    let counted : 1 ≤ number test routes = rw h at inner in
    go (test q) few counted (only_one test weight m h)
  where
    go : (b : Bool) → cond b 1 0 + number test routes ≤ 1 → 1 ≤ number test routes
        → (number test routes ≤ 1 → sum (λ q. cond (test q) (weight q) 0) routes ≡ weight r)
        → cond b (weight q) 0 + sum (λ q. cond (test q) (weight q) 0) routes ≡ weight r
    go true h one rest = absurd (omega arith)
    go false h one rest = let k = rest (omega arith) in omega arith
