-- What holds of the differences of any two sides, whatever they are: they are all listed and nothing else is, the list rises,
-- and that makes it this list and no other.
use Prim.Native.Nat.{ℕ, ◌+◌, ◌^◌, ◌≤◌, ◌<◌}
use mathlib.Core.Path.{◌≡◌, refl, sym, ap, ◌∙◌}
use mathlib.Core.Bool.{true}
use mathlib.Core.List.Memᴰ
use mathlib.Core.List.{List, [], ◌∷◌, map, Memᴰ}
use mathlib.Core.Logic.{◌↔◌, ◌≢◌, ◌⊎◌, inl, inr}
use native.Mathlib.Nat.{zero-add}
use native.Mathlib.Omega.{arith}
use lib.Dec.{ltb, eqb}
use lib.ListN.{length}
use borrow.Author.Tests.{ltb-true, ltb-false, eqb-true, eqb-false, ne_eqb, not-true}
use Rattle.rules.specs.Tools.{those}
use Rattle.difference_rules.specs.declared.Difference.{Difference}
use Rattle.difference_rules.specs.Comparing.{Side, numbers_from, differ, difference_at, differences_from, differences_of, differences_at, differences}
use Rattle.difference_rules.proofs.Rising.{no_members, those_from, those_there, numbers_there, numbers_within, Ordered, Nothing, Then, ordered_append, by_places, from_places, those_ordered, map_ordered, numbers_ordered, same_ordered}
use Rattle.promises.proofs.Sums.{by_cases}
use Rattle.difference_promises.specs.Differing.{Appears, place, Alike, Differs, Before, Rising, exchange}

-- what comes before another is not of its length and prefix,
pub not_alike : (d e : Difference) → Before d e → d.length ≡ e.length → d.prefix ≡ e.prefix → ⊥
not_alike d e (inl shorter) same_length same_prefix = omega arith
not_alike d e (inr lower) same_length same_prefix = omega arith

-- and does not come after it too
never_both : (d e : Difference) → Before d e → Before e d → ⊥
never_both d e (inl shorter) (inl longer) = omega arith
never_both d e (inl shorter) (inr lower) = omega arith
never_both d e (inr higher) (inl longer) = omega arith
never_both d e (inr higher) (inr lower) = omega arith

module _ (first second : Side) where
  -- their differences
  abbrev ds : List Difference
  ds = differences first second

  -- ---- Of one length

  -- among so many numbers from n up: where they differ is listed, nothing else is, and what is listed rises
  differs_there : (L p : ℕ) → first p L ≢ second p L → differ first second L p ≡ true
  unfolding differ
  differs_there L p apart = rw (ne_eqb (first p L) (second p L) apart)

  from_there : (L n many k : ℕ) → k < many → first (n + k) L ≢ second (n + k) L → Appears (difference_at first second L (n + k)) (differences_from first second L n many)
  unfolding differences_from
  from_there L n many k inside apart =
      Memᴰ.map (difference_at first second L) (those_there (differ first second L) (numbers_there n many k inside) (differs_there L (n + k) apart))

  from_only : (L n many : ℕ) (d : Difference) → Appears d (differences_from first second L n many)
      → (p : ℕ) × (p < n + many) × (first p L ≢ second p L) × (difference_at first second L p ≡ d)
  unfolding differences_from differ
  from_only L n many d m =
      let from = Memᴰ.of_map (difference_at first second L) (those (differ first second L) (numbers_from n many)) m in
      let found = those_from (differ first second L) (numbers_from n many) from.1 in
      (from.0, (numbers_within n many found.0).1, eqb-false _ _ (not-true _ found.1), from.2)

  from_ordered : (L n many : ℕ) → Ordered Before (differences_from first second L n many)
  unfolding differences_from
  from_ordered L n many = map_ordered (difference_at first second L) (λ p q lower. inr (refl, lower)) (those_ordered (differ first second L) (numbers_ordered n many))

  -- and so among all numbers of 32 bits
  of_there : (L p : ℕ) → p < 2 ^ 32 → first p L ≢ second p L → Appears (difference_at first second L p) (differences_of first second L)
  unfolding differences_of
  of_there L p word apart =
      rw (zero-add p) at (from_there L 0 (2 ^ 32) p word (rw (zero-add p) apart))

  of_only : (L : ℕ) (d : Difference) → Appears d (differences_of first second L) → L ≤ 32 → (d.length ≡ L) × Differs first second d
  unfolding differences_of
  of_only L d m high =
      let from = from_only L 0 (2 ^ 32) d m in
      (ap (λ e. e.length) (sym from.3), rw (← from.3) (record { high = high; word = from.1; first_had = refl; second_had = refl; apart = from.2 }))

  -- ---- At each of these lengths

  -- what is listed of one of the lengths is listed, nothing else is, and where the lengths rise the list does
  at_there : {L : ℕ} {lengths : List ℕ} → Memᴰ L lengths → (d : Difference) → Appears d (differences_of first second L) → Appears d (differences_at first second lengths)
  unfolding differences_at
  at_there (Memᴰ.head {x = M} {xs = lengths} e) d m = Memᴰ.append_left (differences_at first second lengths) (rw e at m)
  at_there (Memᴰ.tail {x = M} {xs = lengths} among) d m = Memᴰ.append_right (differences_of first second M) (at_there among d m)

  at_only : (lengths : List ℕ) (d : Difference) → Appears d (differences_at first second lengths) → ((L : ℕ) → Memᴰ L lengths → L ≤ 32)
      → Memᴰ d.length lengths × Differs first second d
  unfolding differences_at
  at_only [] d m high = absurd (Memᴰ.not-nil m)
  at_only (L ∷ lengths) d m high = go (Memᴰ.append_cases (differences_of first second L) m) (at_only lengths d)
    where
      go : Appears d (differences_of first second L) ⊎ Appears d (differences_at first second lengths)
          → (Appears d (differences_at first second lengths) → ((M : ℕ) → Memᴰ M lengths → M ≤ 32) → Memᴰ d.length lengths × Differs first second d)
          → Memᴰ d.length (L ∷ lengths) × Differs first second d
      go (inl here) later = let its = of_only L d here (high L (Memᴰ.head refl)) in (Memᴰ.head its.0, its.1)
      go (inr there) later = let its = later there (λ M among. high M (Memᴰ.tail among)) in (Memᴰ.tail its.0, its.1)

  at_ordered : {lengths : List ℕ} → Ordered ◌<◌ lengths → ((L : ℕ) → Memᴰ L lengths → L ≤ 32) → Ordered Before (differences_at first second lengths)
  unfolding differences_at differences_of
  at_ordered Nothing high = Nothing
  at_ordered (Then {x = L} {xs = lengths} shorter rest) high =
      let later : (M : ℕ) → Memᴰ M lengths → M ≤ 32 = λ M among. high M (Memᴰ.tail among) in
      ordered_append (from_ordered L 0 (2 ^ 32)) (at_ordered rest later)
      (λ d e m k. inl (omega (arith, (of_only L d m (high L (Memᴰ.head refl))).0, shorter e.length (at_only lengths e k later).0)))

  -- ---- All of them

  -- the lengths are those up to 32
  lengths_within : (L : ℕ) → Memᴰ L (numbers_from 0 33) → L ≤ 32
  lengths_within L among = omega (arith, numbers_within 0 33 among)

  -- they stand in order
  ordered : Ordered Before ds
  unfolding differences
  ordered = at_ordered (numbers_ordered 0 33) lengths_within

  -- Every difference is listed, with what the two have there.
  pub every_difference : (L p : ℕ) → L ≤ 32 → p < 2 ^ 32 → first p L ≢ second p L → Appears (difference_at first second L p) ds
  unfolding differences
  every_difference L p high word apart = at_there (rw (zero-add L) at (numbers_there 0 33 L (omega arith))) (difference_at first second L p) (of_there L p word apart)

  -- Nothing else is listed: the two differ where a listed difference says, and have there what it says.
  pub nothing_else : (d : Difference) → Appears d ds → Differs first second d
  unfolding differences
  nothing_else d m = (at_only (numbers_from 0 33) d m lengths_within).1

  -- So the members of the list are exactly the differences.
  pub exactly : (d : Difference) → Appears d ds ↔ Differs first second d
  exactly d = (nothing_else d, listed)
    where
      listed : Differs first second d → Appears d ds
      listed its = Memᴰ.cast (λ i. record { length = d.length; prefix = d.prefix; first = its.first_had i; second = its.second_had i })
          (every_difference d.length d.prefix its.high its.word (λ e. its.apart (its.first_had ∙ e ∙ sym its.second_had)))

  -- The list rises: by length, and at one length by prefix.
  pub rising : Rising ds
  rising = by_places _ ordered

  -- No length and prefix stand in it twice, and so no difference does.
  pub once : (i j : ℕ) → i < length ds → j < length ds → (place ds i).length ≡ (place ds j).length → (place ds i).prefix ≡ (place ds j).prefix → i ≡ j
  once i j inside also same_length same_prefix = by_cases (ltb i j)
      (λ lower. absurd (not_alike (place ds i) (place ds j) (rising i j (ltb-true i j lower) also) same_length same_prefix))
      (λ up. by_cases (ltb j i)
      (λ higher. absurd (not_alike (place ds j) (place ds i) (rising j i (ltb-true j i higher) inside) (sym same_length) (sym same_prefix)))
      (λ down. omega (arith, ltb-false i j up, ltb-false j i down)))

-- These make the list: one that rises and whose members are exactly the differences is no other.
pub no_other_list : (first second : Side) (list : List Difference) → Rising list → ((d : Difference) → Appears d list ↔ Differs first second d) → list ≡ differences first second
no_other_list first second list rises members = same_ordered never_both (from_places _ list rises) (ordered first second)
    (λ d. (λ m. (exactly first second d).1 ((members d).0 m), λ m. (members d).1 ((exactly first second d).0 m)))

-- The other way round, the same places differ, each told the other way round.
pub exchanged : (first second : Side) → differences second first ≡ map exchange (differences first second)
exchanged first second = sym (no_other_list second first (map exchange (differences first second)) rises members)
  where
    rises : Rising (map exchange (differences first second))
    rises = by_places {Before = Before} _ (map_ordered exchange (λ d e before. before) (ordered first second))

    turned : (d : Difference) (one other : Side) → Differs one other d → Differs other one (exchange d)
    turned d one other its = record { high = its.high; word = its.word; first_had = its.second_had; second_had = its.first_had; apart = λ e. its.apart (sym e) }

    members : (d : Difference) → Appears d (map exchange (differences first second)) ↔ Differs second first d
    members d = (
      λ m. let from = Memᴰ.of_map exchange (differences first second) m in rw (← from.2) (turned from.0 first second (nothing_else first second from.0 from.1)),
      λ its. Memᴰ.map exchange {a = exchange d} ((exactly first second (exchange d)).1 (turned d second first its)),
    )

-- Two sides that are alike at every length and prefix differ nowhere,
pub alike_none : (first second : Side) → Alike first second → differences first second ≡ []
alike_none first second alike = no_members (differences first second) (λ d m.
    let its = nothing_else first second d m in
    its.apart (its.first_had ∙ alike d.length d.prefix its.high its.word ∙ sym its.second_had))

-- and two that differ nowhere are alike.
pub none_alike : (first second : Side) → differences first second ≡ [] → Alike first second
none_alike first second none L p high word = by_cases (eqb (first p L) (second p L)) (eqb-true _ _)
    (λ apart. absurd (Memᴰ.not-nil (rw none at (every_difference first second L p high word (eqb-false _ _ apart)))))
