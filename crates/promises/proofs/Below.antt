-- Sums over the numbers below n, each by induction on n.
use Prim.Native.Nat.{ℕ, zero, suc, ◌+◌, ◌≤◌, ◌<◌}
use mathlib.Core.Path.{◌≡◌, refl, sym, ◌∙◌}
use mathlib.Core.Bool.{cond}
use mathlib.Core.List.{List, [], ◌∷◌}
use mathlib.Core.Logic.{◌⊎◌, inl, inr, ◌≢◌}
use native.Mathlib.Nat.{eq-or-lt_of_le, le_of_suc-le-suc}
use native.Mathlib.Omega.{arith}
use lib.Dec.{eqb}
use lib.ListN.{length}
use borrow.Author.Tests.{eq-eqb, ne_eqb}
use Rattle.rules.specs.Tools.{count}
use Rattle.promises.specs.Demands.{below}
use Rattle.rules.proofs.Members.{Among, among_head, among_tail}

pub below_agree : (weight other : ℕ → ℕ) (n : ℕ) → ((s : ℕ) → s < n → weight s ≡ other s) → below weight n ≡ below other n
unfolding below
below_agree weight other zero same = refl
below_agree weight other (suc n) same = rw (below_agree weight other n (λ s h. same s (omega arith)), same n (omega arith))

pub below_zero : (n : ℕ) → below (λ s. 0) n ≡ 0
unfolding below
below_zero zero = refl
below_zero (suc n) = rw (below_zero n)

pub below_add : (a b : ℕ → ℕ) (n : ℕ) → below (λ s. a s + b s) n ≡ below a n + below b n
unfolding below
below_add a b zero = refl
below_add a b (suc n) = omega (arith, below_add a b n)

-- each number of a list is counted at its own place
below_one : (x n : ℕ) → x < n → below (λ s. cond (eqb s x) 1 0) n ≡ 1
unfolding below
below_one x zero h = absurd (omega arith)
below_one x (suc n) h = go (eq-or-lt_of_le (le_of_suc-le-suc h)) (below_one x n)
  where
    go : (x ≡ n) ⊎ (x < n) → (x < n → below (λ s. cond (eqb s x) 1 0) n ≡ 1) → below (λ s. cond (eqb s x) 1 0) n + cond (eqb n x) 1 0 ≡ 1
    go (inl e) rest =
        rw (below_agree (λ s. cond (eqb s x) 1 0) (λ s. 0) n (λ s l. rw (ne_eqb s x (omega arith))), below_zero n, eq-eqb n x (sym e))
    go (inr l) rest = rw (rest l, ne_eqb n x (omega arith))

pub below_count : (xs : List ℕ) (n : ℕ) → ((x : ℕ) → Among x xs → x < n) → below (λ s. count s xs) n ≡ length xs
unfolding count
below_count [] n h = below_zero n
below_count (x ∷ xs) n h =
    below_add (λ s. cond (eqb s x) 1 0) (λ s. count s xs) n
    ∙ rw (below_one x n (h x (among_head x xs)), below_count xs n (λ y m. h y (among_tail y x xs m))) (omega arith)

-- where only u differs, the sums differ by what u weighs
pub below_but_one : (weight other : ℕ → ℕ) (n u : ℕ) → u < n → ((s : ℕ) → s < n → s ≢ u → weight s ≡ other s)
    → below weight n + other u ≡ below other n + weight u
unfolding below
below_but_one weight other zero u h same = absurd (omega arith)
below_but_one weight other (suc n) u h same = go (eq-or-lt_of_le (le_of_suc-le-suc h)) (λ l. below_but_one weight other n u l (λ s k. same s (omega arith)))
  where
    go : (u ≡ n) ⊎ (u < n) → (u < n → below weight n + other u ≡ below other n + weight u)
        → below weight n + weight n + other u ≡ below other n + other n + weight u
    go (inl e) rest =
        let others : below weight n ≡ below other n = below_agree weight other n (λ s k. same s (omega arith) (omega arith)) in
        rw (e, others) (omega arith)
    go (inr l) rest = let inner = rest l in let last : weight n ≡ other n = same n (omega arith) (omega arith) in omega arith

-- what one weighs is part of the sum
pub one_below : (weight : ℕ → ℕ) (n s : ℕ) → s < n → weight s ≤ below weight n
unfolding below
one_below weight zero s h = absurd (omega arith)
one_below weight (suc n) s h = go (eq-or-lt_of_le (le_of_suc-le-suc h)) (one_below weight n s)
  where
    go : (s ≡ n) ⊎ (s < n) → (s < n → weight s ≤ below weight n) → weight s ≤ below weight n + weight n
    go (inl e) rest = rw e (omega arith)
    go (inr l) rest = let inner = rest l in omega arith

pub none_below_weighs : (weight : ℕ → ℕ) (n : ℕ) → ((s : ℕ) → s < n → weight s ≡ 0) → below weight n ≡ 0
unfolding below
none_below_weighs weight zero h = refl
none_below_weighs weight (suc n) h = rw (none_below_weighs weight n (λ s l. h s (omega arith)), h n (omega arith))

-- where each weighs one, the sum is n; where each weighs at most one, it is at most n
pub each_below : (weight : ℕ → ℕ) (n : ℕ) → ((s : ℕ) → s < n → weight s ≡ 1) → below weight n ≡ n
unfolding below
each_below weight zero h = refl
each_below weight (suc n) h = rw (each_below weight n (λ s l. h s (omega arith)), h n (omega arith)) (omega arith)

pub at_most_below : (weight : ℕ → ℕ) (n : ℕ) → ((s : ℕ) → weight s ≤ 1) → below weight n ≤ n
unfolding below
at_most_below weight zero h = omega arith
at_most_below weight (suc n) h = omega (arith, at_most_below weight n h, h n)

pub less_below : (weight : ℕ → ℕ) (n u : ℕ) → ((s : ℕ) → weight s ≤ 1) → u < n → weight u ≡ 0 → below weight n < n
unfolding below
less_below weight zero u h l z = absurd (omega arith)
less_below weight (suc n) u h l z = go (eq-or-lt_of_le (le_of_suc-le-suc l)) (λ k. less_below weight n u h k z)
  where
    go : (u ≡ n) ⊎ (u < n) → (u < n → below weight n < n) → below weight n + weight n < suc n
    go (inl e) rest = let last : weight n ≡ 0 = rw (← e) z in omega (arith, at_most_below weight n h)
    go (inr k) rest = omega (arith, rest k, h n)
