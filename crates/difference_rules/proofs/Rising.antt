-- Lists whose members stand in an order: what keeps the order, and that order and members make the list.
use Prim.Native.Nat.{ℕ, zero, suc, ◌+◌, ◌≤◌, ◌<◌}
use mathlib.Core.Path.{◌≡◌, refl, sym, ap, ap₂, ◌∙◌}
use mathlib.Core.Bool.{Bool, true, false, cond, ◌&&◌}
use mathlib.Core.List.Memᴰ
use mathlib.Core.List.{List, [], ◌∷◌, ◌++◌, map, Memᴰ}
use mathlib.Core.Logic.{◌↔◌, ◌⊎◌, inl, inr}
use native.Mathlib.Nat.{le_refl, le_of_suc-le-suc}
use native.Mathlib.Omega.{arith}
use lib.Dec.{ltb}
use lib.ListN.{length, get_or, length-append}
use borrow.Author.Tests.{ltb-true, ltb-false, lt-ltb}
use Rattle.rules.specs.Tools.{those}
use Rattle.rules.proofs.Members.{both}
use Rattle.difference_rules.specs.Comparing.{numbers_from}

-- ---- Members

-- a list that has no member is empty
pub no_members : {A : Type 0} (xs : List A) → ((x : A) → Memᴰ x xs → ⊥) → xs ≡ []
no_members [] none = refl
no_members (x ∷ xs) none = absurd (none x (Memᴰ.head refl))

-- a member stands at some place, and what stands at a place is a member
pub place_of : {A : Type 0} (other : A) {x : A} {xs : List A} → Memᴰ x xs → (i : ℕ) × (i < length xs) × (get_or xs i other ≡ x)
place_of other (Memᴰ.head e) = (0, omega arith, sym e)
place_of other (Memᴰ.tail m) = let later = place_of other m in (suc later.0, omega arith, later.2)

pub at_place : {A : Type 0} (other : A) (xs : List A) (i : ℕ) → i < length xs → Memᴰ (get_or xs i other) xs
at_place other [] i inside = absurd (omega arith)
at_place other (x ∷ xs) zero inside = Memᴰ.head refl
at_place other (x ∷ xs) (suc i) inside = Memᴰ.tail (at_place other xs i (le_of_suc-le-suc inside))

-- the members of those at which a test holds are the members at which it holds
pub those_from : (test : ℕ → Bool) {n : ℕ} (xs : List ℕ) → Memᴰ n (those test xs) → Memᴰ n xs × (test n ≡ true)
unfolding those
those_from test [] m = absurd (Memᴰ.not-nil m)
those_from test {n} (x ∷ xs) m = go (test x) refl m (those_from test xs)
  where
    later : Memᴰ n xs × (test n ≡ true) → Memᴰ n (x ∷ xs) × (test n ≡ true)
    later rest = (Memᴰ.tail rest.0, rest.1)

    here : test x ≡ true → (n ≡ x) ⊎ Memᴰ n (those test xs) → (Memᴰ n (those test xs) → Memᴰ n xs × (test n ≡ true)) → Memᴰ n (x ∷ xs) × (test n ≡ true)
    here holds (inl e) rest = (Memᴰ.head e, ap test e ∙ holds)
    here holds (inr m) rest = later (rest m)

    go : (b : Bool) → test x ≡ b → Memᴰ n (cond b (x ∷ those test xs) (those test xs)) → (Memᴰ n (those test xs) → Memᴰ n xs × (test n ≡ true)) → Memᴰ n (x ∷ xs) × (test n ≡ true)
    go true holds m rest = here holds (Memᴰ.cases_cons m) rest
    go false fails m rest = later (rest m)

pub those_there : (test : ℕ → Bool) {n : ℕ} {xs : List ℕ} → Memᴰ n xs → test n ≡ true → Memᴰ n (those test xs)
unfolding those
those_there test {n} (Memᴰ.head {x = x} {xs = xs} e) holds = rw (ap test (sym e) ∙ holds) (Memᴰ.head e)
those_there test {n} (Memᴰ.tail {x = x} {xs = xs} m) holds = go (test x) (those_there test m holds)
  where
    go : (b : Bool) → Memᴰ n (those test xs) → Memᴰ n (cond b (x ∷ those test xs) (those test xs))
    go true rest = Memᴰ.tail rest
    go false rest = rest

-- so many numbers from n up are those that are n or more, and fewer above it
pub numbers_there : (n many k : ℕ) → k < many → Memᴰ (n + k) (numbers_from n many)
unfolding numbers_from
numbers_there n zero k inside = absurd (omega arith)
numbers_there n (suc many) zero inside = Memᴰ.head {x = n} (omega arith)
numbers_there n (suc many) (suc k) inside = Memᴰ.tail (Memᴰ.cast (omega arith) (numbers_there (n + 1) many k (omega arith)))

pub numbers_within : (n many : ℕ) {k : ℕ} → Memᴰ k (numbers_from n many) → (n ≤ k) × (k < n + many)
unfolding numbers_from
numbers_within n zero m = absurd (Memᴰ.not-nil m)
numbers_within n (suc many) {k} m = go (Memᴰ.cases_cons m) (numbers_within (n + 1) many)
  where
    go : (k ≡ n) ⊎ Memᴰ k (numbers_from (n + 1) many) → (Memᴰ k (numbers_from (n + 1) many) → (n + 1 ≤ k) × (k < n + 1 + many)) → (n ≤ k) × (k < n + suc many)
    go (inl e) rest = omega arith
    go (inr m) rest = let inner = rest m in omega arith

-- ---- Order

-- each member stands before all that come after it
pub data Ordered {A : Type 0} (Before : A → A → Type 0) : List A → Type 0 where
  Nothing : Ordered Before []
  Then : {x : A} {xs : List A} → ((y : A) → Memᴰ y xs → Before x y) → Ordered Before xs → Ordered Before (x ∷ xs)

module _ {A : Type 0} {Before : A → A → Type 0} where
  pub parts : {x : A} {xs : List A} → Ordered Before (x ∷ xs) → ((y : A) → Memᴰ y xs → Before x y) × Ordered Before xs
  parts (Then first rest) = (first, rest)

  -- two ordered lists, where all of the one stands before all of the other
  pub ordered_append : {xs ys : List A} → Ordered Before xs → Ordered Before ys → ((x y : A) → Memᴰ x xs → Memᴰ y ys → Before x y)
      → Ordered Before (xs ++ ys)
  ordered_append Nothing others between = others
  ordered_append {ys = ys} (Then {x = x} {xs = xs} first rest) others between =
      Then (λ y m. go y (Memᴰ.append_cases xs m)) (ordered_append rest others (λ a b one other. between a b (Memᴰ.tail one) other))
    where
      go : (y : A) → Memᴰ y xs ⊎ Memᴰ y ys → Before x y
      go y (inl m) = first y m
      go y (inr m) = between x y (Memᴰ.head refl) m

  -- an order is that of the places
  pub by_places : (other : A) {xs : List A} → Ordered Before xs → (i j : ℕ) → i < j → j < length xs → Before (get_or xs i other) (get_or xs j other)
  by_places other Nothing i j lower inside = absurd (omega arith)
  by_places other (Then first rest) i zero lower inside = absurd (omega arith)
  by_places other (Then {xs = xs} first rest) zero (suc j) lower inside = first (get_or xs j other) (at_place other xs j (le_of_suc-le-suc inside))
  by_places other (Then first rest) (suc i) (suc j) lower inside = by_places other rest i j (le_of_suc-le-suc lower) (le_of_suc-le-suc inside)

  pub from_places : (other : A) (xs : List A) → ((i j : ℕ) → i < j → j < length xs → Before (get_or xs i other) (get_or xs j other)) → Ordered Before xs
  from_places other [] rising = Nothing
  from_places other (x ∷ xs) rising =
      Then {xs = xs} (λ y m. let at = place_of other m in subst' at.2 (rising 0 (suc at.0) (omega arith) (omega (arith, at.1))))
      (from_places other xs (λ i j lower inside. rising (suc i) (suc j) (omega arith) (omega arith)))
    where
      subst' : {y z : A} → y ≡ z → Before x y → Before x z
      subst' e before = rw (sym e) before

-- what is left of an ordered list is ordered, and so is what a list becomes member by member, if its order does
pub those_ordered : (test : ℕ → Bool) {Before : ℕ → ℕ → Type 0} {xs : List ℕ} → Ordered Before xs → Ordered Before (those test xs)
unfolding those
those_ordered test Nothing = Nothing
those_ordered test {Before} (Then {x = x} {xs = xs} first rest) = go (test x) (those_ordered test rest)
  where
    go : (b : Bool) → Ordered Before (those test xs) → Ordered Before (cond b (x ∷ those test xs) (those test xs))
    go true inner = Then (λ y m. first y (those_from test xs m).0) inner
    go false inner = inner

pub map_ordered : {A B : Type 0} (f : A → B) {One : A → A → Type 0} {Other : B → B → Type 0} → ((x y : A) → One x y → Other (f x) (f y))
    → {xs : List A} → Ordered One xs → Ordered Other (map f xs)
map_ordered f carries Nothing = Nothing
map_ordered f {Other = Other} carries (Then {x = x} {xs = xs} first rest) =
    Then {x = f x} {xs = map f xs} (λ y m. let from = Memᴰ.of_map f xs m in rw (sym from.2) (carries x from.0 (first from.0 from.1))) (map_ordered f carries rest)

pub numbers_ordered : (n many : ℕ) → Ordered ◌<◌ (numbers_from n many)
unfolding numbers_from
numbers_ordered n zero = Nothing
numbers_ordered n (suc many) = Then {x = n} {xs = numbers_from (n + 1) many} (λ k m. omega (arith, numbers_within (n + 1) many m)) (numbers_ordered (n + 1) many)

-- ---- Order and members make the list

module _ {A : Type 0} {Before : A → A → Type 0} (never_both : (x y : A) → Before x y → Before y x → ⊥) where
  pub same_ordered : {xs ys : List A} → Ordered Before xs → Ordered Before ys → ((x : A) → Memᴰ x xs ↔ Memᴰ x ys) → xs ≡ ys
  same_ordered {ys = ys} Nothing others same = sym (no_members ys (λ y m. Memᴰ.not-nil ((same y).1 m)))
  same_ordered (Then {x = x} {xs = xs} first rest) Nothing same = absurd (Memᴰ.not-nil ((same x).0 (Memᴰ.head refl)))
  same_ordered (Then {x = x} {xs = xs} first rest) (Then {x = y} {xs = ys} other_first others) same =
      ap₂ ◌∷◌ heads (same_ordered rest others (λ z. (λ m. down z m (Memᴰ.cases_cons ((same z).0 (Memᴰ.tail m))), λ m. up z m (Memᴰ.cases_cons ((same z).1 (Memᴰ.tail m))))))
    where
      meet : (x ≡ y) ⊎ Memᴰ x ys → (y ≡ x) ⊎ Memᴰ y xs → x ≡ y
      meet (inl e) other = e
      meet (inr m) (inl e) = sym e
      meet (inr m) (inr k) = absurd (never_both x y (first y k) (other_first x m))

      heads : x ≡ y
      heads = meet (Memᴰ.cases_cons ((same x).0 (Memᴰ.head refl))) (Memᴰ.cases_cons ((same y).1 (Memᴰ.head refl)))

      down : (z : A) → Memᴰ z xs → (z ≡ y) ⊎ Memᴰ z ys → Memᴰ z ys
      down z m (inl e) = let self : Before x x = first x (Memᴰ.cast (heads ∙ sym e) m) in absurd (never_both x x self self)
      down z m (inr k) = k

      up : (z : A) → Memᴰ z ys → (z ≡ x) ⊎ Memᴰ z xs → Memᴰ z xs
      up z m (inl e) = let self : Before y y = other_first y (Memᴰ.cast (sym heads ∙ sym e) m) in absurd (never_both y y self self)
      up z m (inr k) = k

-- ---- How many there are

pub those_few : (test : ℕ → Bool) (xs : List ℕ) → length (those test xs) ≤ length xs
unfolding those
those_few test [] = le_refl 0
those_few test (x ∷ xs) = go (test x) (those_few test xs)
  where
    go : (b : Bool) → length (those test xs) ≤ length xs → length (cond b (x ∷ those test xs) (those test xs)) ≤ suc (length xs)
    go true later = omega arith
    go false later = omega arith

-- where two tests never hold at once, those of both are no more
both_few : (one other : ℕ → Bool) → ((x : ℕ) → one x ≡ true → other x ≡ true → ⊥) → (xs : List ℕ) → length (those one xs) + length (those other xs) ≤ length xs
unfolding those
both_few one other never [] = le_refl 0
both_few one other never (x ∷ xs) = go (one x) refl (other x) refl (both_few one other never xs)
  where
    go : (a : Bool) → one x ≡ a → (b : Bool) → other x ≡ b → length (those one xs) + length (those other xs) ≤ length xs
        → length (cond a (x ∷ those one xs) (those one xs)) + length (cond b (x ∷ those other xs) (those other xs)) ≤ suc (length xs)
    go true h true i later = absurd (never x h i)
    go true h false i later = omega arith
    go false h true i later = omega arith
    go false h false i later = omega arith

pub numbers_length : (n many : ℕ) → length (numbers_from n many) ≡ many
unfolding numbers_from
numbers_length n zero = refl
numbers_length n (suc many) = ap suc (numbers_length (n + 1) many)

-- ---- Numbers put in order

-- the numbers of a list that are lower than x, then x, and then those that are higher
abbrev placed : (x : ℕ) (xs : List ℕ) → List ℕ
placed x xs = those (λ y. ltb y x) xs ++ x ∷ those (λ y. ltb x y) xs

-- the numbers of a list, rising, each once
unfoldable pub in_order : List ℕ → List ℕ
in_order [] = []
in_order (x ∷ xs) = placed x (in_order xs)

placed_there : {p x : ℕ} (xs : List ℕ) → (p ≡ x) ⊎ Memᴰ p xs → Memᴰ p (placed x xs)
placed_there {p} {x} xs (inl here) = Memᴰ.append_right (those (λ y. ltb y x) xs) (Memᴰ.head here)
placed_there {p} {x} xs (inr m) = go (ltb p x) refl (ltb x p) refl
  where
    go : (a : Bool) → ltb p x ≡ a → (b : Bool) → ltb x p ≡ b → Memᴰ p (placed x xs)
    go true lower b e = Memᴰ.append_left (x ∷ those (λ y. ltb x y) xs) (those_there (λ y. ltb y x) m lower)
    go false e true higher = Memᴰ.append_right (those (λ y. ltb y x) xs) (Memᴰ.tail (those_there (λ y. ltb x y) m higher))
    go false e false f = Memᴰ.append_right (those (λ y. ltb y x) xs) (Memᴰ.head (omega (arith, ltb-false p x e, ltb-false x p f)))

placed_ordered : (x : ℕ) {xs : List ℕ} → Ordered ◌<◌ xs → Ordered ◌<◌ (placed x xs)
placed_ordered x {xs} rises =
    ordered_append (those_ordered (λ y. ltb y x) rises) (Then {x = x} higher (those_ordered (λ y. ltb x y) rises))
    (λ y z one other. between y z (ltb-true y x (those_from (λ y. ltb y x) xs one).1) (Memᴰ.cases_cons other))
  where
    higher : (z : ℕ) → Memᴰ z (those (λ y. ltb x y) xs) → x < z
    higher z m = ltb-true x z (those_from (λ y. ltb x y) xs m).1

    between : (y z : ℕ) → y < x → (z ≡ x) ⊎ Memᴰ z (those (λ y. ltb x y) xs) → y < z
    between y z lower (inl e) = omega arith
    between y z lower (inr m) = omega (arith, higher z m)

placed_few : (x : ℕ) (xs : List ℕ) → length (placed x xs) ≤ suc (length xs)
placed_few x xs = simp length-append (omega (arith, both_few (λ y. ltb y x) (λ y. ltb x y) (λ y lower higher. omega (arith, ltb-true y x lower, ltb-true x y higher)) xs))

-- nothing is lost, the list rises, and it is no longer than before
in_order_there : {p : ℕ} {xs : List ℕ} → Memᴰ p xs → Memᴰ p (in_order xs)
unfolding in_order
in_order_there (Memᴰ.head {x = x} {xs = xs} e) = placed_there (in_order xs) (inl e)
in_order_there (Memᴰ.tail {x = x} {xs = xs} m) = placed_there (in_order xs) (inr (in_order_there m))

in_order_ordered : (xs : List ℕ) → Ordered ◌<◌ (in_order xs)
unfolding in_order
in_order_ordered [] = Nothing
in_order_ordered (x ∷ xs) = placed_ordered x (in_order_ordered xs)

pub in_order_few : (xs : List ℕ) → length (in_order xs) ≤ length xs
unfolding in_order
in_order_few [] = le_refl 0
in_order_few (x ∷ xs) = omega (arith, placed_few x (in_order xs), in_order_few xs)

-- Those numbers below n at which a test holds, found in a list that has them all: the list is put in order and cut down.
pub those_found : (test : ℕ → Bool) (n : ℕ) (xs : List ℕ) → ((p : ℕ) → p < n → test p ≡ true → Memᴰ p xs)
    → those test (numbers_from 0 n) ≡ those (λ p. ltb p n && test p) (in_order xs)
those_found test n xs there =
    same_ordered (λ x y lower higher. omega arith) (those_ordered test (numbers_ordered 0 n)) (those_ordered (λ p. ltb p n && test p) (in_order_ordered xs)) (λ p. (found p, only p))
  where
    found : (p : ℕ) → Memᴰ p (those test (numbers_from 0 n)) → Memᴰ p (those (λ p. ltb p n && test p) (in_order xs))
    found p m =
        let from = those_from test (numbers_from 0 n) m in
        let less : p < n = omega (arith, numbers_within 0 n from.0) in
        those_there (λ p. ltb p n && test p) (in_order_there (there p less from.1)) (rw (lt-ltb p n less) from.1)

    only : (p : ℕ) → Memᴰ p (those (λ p. ltb p n && test p) (in_order xs)) → Memᴰ p (those test (numbers_from 0 n))
    only p m =
        let holds = both (ltb p n) (test p) (those_from (λ p. ltb p n && test p) (in_order xs) m).1 in
        those_there test (Memᴰ.cast (omega arith) (numbers_there 0 n p (ltb-true p n holds.0))) holds.1
