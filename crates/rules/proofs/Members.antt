-- The tools of the rules as facts about what stands in a list: each law is one induction over the list.
use Prim.Native.Nat.{ℕ, zero, suc, ◌+◌, ◌≤◌, ◌<◌}
use mathlib.Core.Path.{◌≡◌, refl, sym, ap, ◌∙◌}
use mathlib.Core.Bool.{Bool, true, false, cond, not, ◌&&◌, ◌||◌, true≢false, false≢true, and-true, and_assoc}
use mathlib.Core.List.{List, [], ◌∷◌, ◌++◌, map}
use mathlib.Core.Logic.{◌⊎◌, inl, inr}
use native.Mathlib.Nat.{not-suc-le-zero, le_of_suc-le-suc, zero-add}
use native.Mathlib.Omega.{arith}
use lib.Dec.{leb, ltb, eqb}
use lib.ListN.{length, get_or, take}
use borrow.Author.Tests.{leb-true, eqb-true, eqb-false, lt-ltb, eq-eqb, ne_eqb, not-true, not-false}
use Rattle.rules.specs.Tools.{within, all, any, count}

-- x stands in the list
abbrev pub Among : (x : ℕ) (xs : List ℕ) → Type 0
Among x xs = 1 ≤ count x xs

pub both : (a b : Bool) → a && b ≡ true → (a ≡ true) × (b ≡ true)
both true b h = (refl, h)
both false b h = absurd (false≢true h)

-- a number that is within its limits is at least the low one and at most the high one
pub within_true : (low high n : ℕ) → within low high n ≡ true → (low ≤ n) × (n ≤ high)
unfolding within
within_true low high n h = let parts = both (leb low n) (leb n high) h in (leb-true low n parts.0, leb-true n high parts.1)

pub among_none : (x : ℕ) → Among x [] → ⊥
unfolding count
among_none x h = not-suc-le-zero h

pub among_head : (x : ℕ) (xs : List ℕ) → Among x (x ∷ xs)
unfolding count
among_head x xs = rw (eq-eqb x x refl) (omega arith)

pub among_tail : (x y : ℕ) (xs : List ℕ) → Among x xs → Among x (y ∷ xs)
unfolding count
among_tail x y xs h = omega arith

pub among_cases : (x y : ℕ) (xs : List ℕ) → Among x (y ∷ xs) → (x ≡ y) ⊎ Among x xs
unfolding count
among_cases x y xs h = go (eqb x y) refl h
  where
    go : (b : Bool) → eqb x y ≡ b → 1 ≤ cond b 1 0 + count x xs → (x ≡ y) ⊎ Among x xs
    go true e h = inl (eqb-true x y e)
    go false e h = inr (omega arith)

-- what stands in a mapped list comes from the list
pub among_map : (f : ℕ → ℕ) (xs : List ℕ) (y : ℕ) → Among y (map f xs) → (x : ℕ) × Among x xs × (y ≡ f x)
among_map f [] y h = absurd (among_none y h)
among_map f (x ∷ xs) y h = go (among_cases y (f x) (map f xs) h) (among_map f xs y)
  where
    go : (y ≡ f x) ⊎ Among y (map f xs) → (Among y (map f xs) → (z : ℕ) × Among z xs × (y ≡ f z)) → (z : ℕ) × Among z (x ∷ xs) × (y ≡ f z)
    go (inl e) later = (x, among_head x xs, e)
    go (inr m) later = let z = later m in (z.0, among_tail z.0 x xs z.1, z.2)

-- a map that keeps numbers apart keeps how often each stands in the list
pub count_map : (f : ℕ → ℕ) → ((x y : ℕ) → f x ≡ f y → x ≡ y) → (x : ℕ) (xs : List ℕ) → count (f x) (map f xs) ≡ count x xs
unfolding count
count_map f apart x [] = refl
count_map f apart x (y ∷ ys) = go (eqb x y) refl (count_map f apart x ys)
  where
    go : (b : Bool) → eqb x y ≡ b → count (f x) (map f ys) ≡ count x ys → cond (eqb (f x) (f y)) 1 0 + count (f x) (map f ys) ≡ cond (eqb x y) 1 0 + count x ys
    go true e same = rw (e, eq-eqb (f x) (f y) (ap f (eqb-true x y e)), same)
    go false e same = rw (e, ne_eqb (f x) (f y) (λ (e' : f x ≡ f y). eqb-false x y e (apart x y e')), same)

pub count_append : (x : ℕ) (xs more : List ℕ) → count x (xs ++ more) ≡ count x xs + count x more
unfolding count
count_append x [] more = sym (zero-add (count x more))
count_append x (y ∷ ys) more = omega (arith, count_append x ys more)

-- no number stands in a list more often than the list is long
pub count_few : (x : ℕ) (xs : List ℕ) → count x xs ≤ length xs
unfolding count
count_few x [] = omega arith
count_few x (y ∷ ys) = go (eqb x y) (count_few x ys)
  where
    go : (b : Bool) → count x ys ≤ length ys → cond b 1 0 + count x ys ≤ length (y ∷ ys)
    go true rest = omega arith
    go false rest = omega arith

-- all holds: the test holds at each that stands in the list
pub all_true : (test : ℕ → Bool) (xs : List ℕ) → all test xs ≡ true → (x : ℕ) → Among x xs → test x ≡ true
unfolding all
all_true test [] h x m = absurd (among_none x m)
all_true test (y ∷ ys) h x m = go (both (test y) (all test ys) h) (among_cases x y ys m) (λ rest. all_true test ys rest x)
  where
    go : (test y ≡ true) × (all test ys ≡ true) → (x ≡ y) ⊎ Among x ys → (all test ys ≡ true → Among x ys → test x ≡ true) → test x ≡ true
    go h (inl e) later = ap test e ∙ h.0
    go h (inr m) later = later h.1 m

-- so a number at which it fails stands nowhere in it
pub count_none : (test : ℕ → Bool) (xs : List ℕ) → all test xs ≡ true → (x : ℕ) → test x ≡ false → count x xs ≡ 0
count_none test xs h x fails = go (count x xs) (all_true test xs h x)
  where
    go : (n : ℕ) → (1 ≤ n → test x ≡ true) → n ≡ 0
    go zero there = refl
    go (suc n) there = absurd (true≢false (sym (there (omega arith)) ∙ fails))

-- and at each place of it
pub all_at : (test : ℕ → Bool) (xs : List ℕ) (i : ℕ) → all test xs ≡ true → i < length xs → test (get_or xs i 0) ≡ true
unfolding all
all_at test [] i h less = absurd (not-suc-le-zero less)
all_at test (x ∷ xs) zero h less = (both (test x) (all test xs) h).0
all_at test (x ∷ xs) (suc i) h less = all_at test xs i (both (test x) (all test xs) h).1 (le_of_suc-le-suc less)

-- and so at one more of them
pub all_more : (test : ℕ → Bool) (xs : List ℕ) (i : ℕ) → i < length xs → all test (take (suc i) xs) ≡ all test (take i xs) && test (get_or xs i 0)
unfolding all
all_more test [] i less = absurd (not-suc-le-zero less)
all_more test (x ∷ xs) zero less = and-true (test x)
all_more test (x ∷ xs) (suc i) less = ap (λ (b : Bool). test x && b) (all_more test xs i (le_of_suc-le-suc less)) ∙ sym (and_assoc (test x) (all test (take i xs)) (test (get_or xs i 0)))

pub all_made : (test : ℕ → Bool) (xs : List ℕ) → ((x : ℕ) → Among x xs → test x ≡ true) → all test xs ≡ true
unfolding all
all_made test [] h = refl
all_made test (y ∷ ys) h = rw (h y (among_head y ys)) (all_made test ys (λ x m. h x (among_tail x y ys m)))

-- all fails: there is one at which the test fails
pub all_false : (test : ℕ → Bool) (xs : List ℕ) → all test xs ≡ false → (x : ℕ) × Among x xs × (test x ≡ false)
unfolding all
all_false test [] h = absurd (true≢false h)
all_false test (y ∷ ys) h = go (test y) refl h (all_false test ys)
  where
    go : (b : Bool) → test y ≡ b → b && all test ys ≡ false → (all test ys ≡ false → (x : ℕ) × Among x ys × (test x ≡ false))
        → (x : ℕ) × Among x (y ∷ ys) × (test x ≡ false)
    go false e h later = (y, among_head y ys, e)
    go true e h later = let z = later h in (z.0, among_tail z.0 y ys z.1, z.2)

-- a test holds at some number exactly if the opposite does not hold at all of them
any_all : (test : ℕ → Bool) (xs : List ℕ) → any test xs ≡ not (all (λ x. not (test x)) xs)
unfolding any all
any_all test [] = refl
any_all test (x ∷ xs) = go (test x) (any_all test xs)
  where
    go : (b : Bool) → any test xs ≡ not (all (λ x. not (test x)) xs) → b || any test xs ≡ not (not b && all (λ x. not (test x)) xs)
    go true e = refl
    go false e = e

-- any fails: the test fails at each that stands in the list
pub any_false : (test : ℕ → Bool) (xs : List ℕ) → any test xs ≡ false → (x : ℕ) → Among x xs → test x ≡ false
any_false test xs h x m = not-true (test x) (all_true (λ y. not (test y)) xs (not-false (all (λ y. not (test y)) xs) (sym (any_all test xs) ∙ h)) x m)

pub any_none : (test : ℕ → Bool) (xs : List ℕ) → ((x : ℕ) → Among x xs → test x ≡ false) → any test xs ≡ false
any_none test xs h = any_all test xs ∙ ap not (all_made (λ y. not (test y)) xs (λ x m. ap not (h x m)))

pub any_made : (test : ℕ → Bool) (xs : List ℕ) (x : ℕ) → Among x xs → test x ≡ true → any test xs ≡ true
any_made test xs x m h = go (any test xs) refl
  where
    go : (b : Bool) → any test xs ≡ b → b ≡ true
    go true e = refl
    go false e = sym (any_false test xs e x m) ∙ h

-- two tests that agree on what stands in the list
pub all_agree : (test other : ℕ → Bool) (xs : List ℕ) → ((x : ℕ) → Among x xs → test x ≡ other x) → all test xs ≡ all other xs
unfolding all
all_agree test other [] same = refl
all_agree test other (x ∷ xs) same = rw (same x (among_head x xs), all_agree test other xs (λ y m. same y (among_tail y x xs m)))

pub any_agree : (test other : ℕ → Bool) (xs : List ℕ) → ((x : ℕ) → Among x xs → test x ≡ other x) → any test xs ≡ any other xs
any_agree test other xs same =
    any_all test xs ∙ ap not (all_agree (λ x. not (test x)) (λ x. not (other x)) xs (λ x m. ap not (same x m))) ∙ sym (any_all other xs)

-- a test on a mapped list
pub all_map : (f : ℕ → ℕ) (test : ℕ → Bool) (xs : List ℕ) → all test (map f xs) ≡ all (λ x. test (f x)) xs
unfolding all
all_map f test [] = refl
all_map f test (x ∷ xs) = ap (λ (b : Bool). test (f x) && b) (all_map f test xs)

pub any_map : (f : ℕ → ℕ) (test : ℕ → Bool) (xs : List ℕ) → any test (map f xs) ≡ any (λ x. test (f x)) xs
any_map f test xs = any_all test (map f xs) ∙ ap not (all_map f (λ x. not (test x)) xs) ∙ sym (any_all (λ x. test (f x)) xs)

-- to be equal to some number of the list is to stand in it
pub any_count : (x : ℕ) (xs : List ℕ) → any (eqb x) xs ≡ ltb 0 (count x xs)
unfolding any count
any_count x [] = refl
any_count x (y ∷ ys) = go (eqb x y) (any_count x ys)
  where
    go : (b : Bool) → any (eqb x) ys ≡ ltb 0 (count x ys) → b || any (eqb x) ys ≡ ltb 0 (cond b 1 0 + count x ys)
    go true e = sym (lt-ltb 0 (1 + count x ys) (omega arith))
    go false e = e ∙ ap (λ (n : ℕ). ltb 0 n) (sym (zero-add (count x ys)))
