-- A walk over two sides: up to the nearer prefix they agree, what it meets there is what they have there, and what is left after
-- it is left from what is met next on.
use Prim.Native.Nat.{ℕ, suc, ◌+◌, ◌-◌, ◌^◌, ◌≤◌, ◌<◌}
use mathlib.Core.Path.{◌≡◌, refl, sym, ap, ◌∙◌}
use mathlib.Core.Bool.{Bool, true, false, cond}
use mathlib.Core.List.{List, [], ◌∷◌, ◌++◌, append_assoc}
use native.Mathlib.Omega.{arith}
use lib.Dec.{eqb}
use borrow.Author.Tests.{eqb-true, eqb-false, eq-eqb, ne_eqb}
use Rattle.std.specs.Prelude.{Option, Some, None}
use Rattle.difference_rules.specs.declared.Difference.{Difference}
use Rattle.difference_rules.specs.Comparing.{Side, numbers_from, differ, difference_at, differences_from, differences_of, differences_at, differences}
use Rattle.difference_search.specs.declared.Ahead.{Ahead}
use Rattle.difference_search.specs.Next.{lying, Next, Lies}
use Rattle.difference_search.proofs.Passing.{lies_next}
use Rattle.difference_steps.specs.declared.Walk.{Walk}
use Rattle.difference_steps.specs.Walking.{Walking, Underway, nearer_of, nearest_of, mark_there, met, Passed, left, as_difference}
use Rattle.difference_walks.proofs.Parts.{Agree, passed, left_met, none_left}

-- the nearer prefix is beyond neither, and whatever is beyond neither is not beyond it
record Nearer (one other : Option Ahead) : Type 0 where
  by_first : nearer_of one other ≤ (lying one).prefix
  by_second : nearer_of one other ≤ (lying other).prefix
  reached : (p : ℕ) → p ≤ (lying one).prefix → p ≤ (lying other).prefix → p ≤ nearer_of one other

nearer : (has others : (p : ℕ) → ℕ) (p : ℕ) (one other : Option Ahead) → Lies has p one → Lies others p other → Nearer one other
nearer has others p (Some one) (Some other) l m =
    record { by_first = omega arith; by_second = omega arith; reached = λ q a b. omega arith }
nearer has others p (Some one) None l m =
    record { by_first = omega arith; by_second = omega (arith, l.1); reached = λ q a b. a }
nearer has others p None (Some other) l m =
    record { by_first = omega (arith, m.1); by_second = omega arith; reached = λ q a b. b }
nearer has others p None None l m = record { by_first = omega arith; by_second = omega arith; reached = λ q a b. a }

onward : (has : (p : ℕ) → ℕ) (p q : ℕ) (ahead : Ahead) → p ≤ q → q ≤ ahead.prefix → Next has p ahead → Next has q ahead
onward has p q ahead low reach n = record { low = reach; high = n.high; none_before = λ i l h. n.none_before i (omega arith) h; there = n.there; end = n.end }

-- what lies ahead of a prefix lies ahead of those that it is not behind
further : (has : (p : ℕ) → ℕ) (p q : ℕ) (o : Option Ahead) → p ≤ q → q ≤ (lying o).prefix → Lies has p o → Lies has q o
further has p q (Some ahead) low reach l = (onward has p q ahead low reach l.0, l.1)
further has p q None low reach l = onward has p q (lying None) low reach l

-- the mark at a prefix that is not beyond what lies ahead
mark_so : {has : (p : ℕ) → ℕ} {p : ℕ} (ahead : Option Ahead) → Next has p (lying ahead) → (q : ℕ) → p ≤ q → q ≤ (lying ahead).prefix → q < 2 ^ 32
    → mark_there ahead q ≡ has q
unfolding mark_there
mark_so {has} {p} ahead n q low high small = go (eqb (lying ahead).prefix q) refl
  where
    go : (b : Bool) → eqb (lying ahead).prefix q ≡ b → cond b (lying ahead).mark 0 ≡ has q
    go true e = let at = eqb-true (lying ahead).prefix q e in (n.there (omega arith)).0 ∙ rw at
    go false e = let off = eqb-false (lying ahead).prefix q e in sym (n.none_before q low (omega arith))

module _ {first second : Side} {L p : ℕ} {walk : Walk} (w : Walking first second L p walk) where
  near : Nearer walk.first walk.second
  near = nearer (λ q. first q L) (λ q. second q L) p walk.first walk.second w.in_first w.in_second

  in_one : Next (λ q. first q L) p (lying walk.first)
  in_one = lies_next walk.first w.in_first

  in_other : Next (λ q. second q L) p (lying walk.second)
  in_other = lies_next walk.second w.in_second

  -- the nearer prefix is not behind
  pub near_low : p ≤ nearest_of walk
  near_low = near.reached p in_one.low in_other.low

  pub near_high : nearest_of walk ≤ 2 ^ 32
  near_high = let n = near in omega (arith, n.by_first, in_one.high)

  -- up to it the two agree, so that nothing is left there
  agree : Agree first second L p (nearest_of walk)
  unfolding differ
  agree i l h =
      let n = near in
      rw (in_one.none_before i l (omega (arith, n.by_first)), in_other.none_before i l (omega (arith, n.by_second)))

  from_near : differences_from first second L p (2 ^ 32 - p) ≡ differences_from first second L (nearest_of walk) (2 ^ 32 - nearest_of walk)
  from_near =
      let gap = nearest_of walk - p in
      let low = near_low in
      let high = near_high in
      let whole : 2 ^ 32 - p ≡ gap + (2 ^ 32 - nearest_of walk) = omega arith in
      let there : p + gap ≡ nearest_of walk = omega arith in
      rw whole (passed first second L p gap (2 ^ 32 - nearest_of walk) (rw (sym there) at agree) ∙ rw there)

  -- what is met is what they have there
  met_so : nearest_of walk < 2 ^ 32 → met walk L ≡ difference_at first second L (nearest_of walk)
  met_so h =
      let n = near in
      rw (mark_so walk.first in_one (nearest_of walk) near_low n.by_first h, mark_so walk.second in_other (nearest_of walk) near_low n.by_second h)

  -- it is underway where it is
  pub is_underway : L ≤ 32 → Underway first second L walk
  is_underway high =
      let n = near in
      let low = near_low in
      record {
        high = high;
        ahead = record {
          in_first = further (λ q. first q L) p (nearest_of walk) walk.first low n.by_first w.in_first;
          in_second = further (λ q. second q L) p (nearest_of walk) walk.second low n.by_second w.in_second;
        };
      }

  -- past the nearer prefix in both
  pub walk_on : {q : ℕ} {one two : Option Ahead} → q ≡ nearest_of walk → Passed (λ i. first i L) q walk.first one → Passed (λ i. second i L) q walk.second two
      → Walking first second L (nearest_of walk + 1) (record { first = one; second = two })
  walk_on e on other =
      let n = near in
      let low = near_low in
      rw (← e)
      (record {
        in_first = on p w.in_first (omega arith) (omega (arith, n.by_first));
        in_second = other p w.in_second (omega arith) (omega (arith, n.by_second));
      })

-- ---- What is left

module _ (first second : Side) where
  -- before anything is met, all differences are
  pub left_begun : {walk : Walk} → Walking first second 0 0 walk → left first second 0 walk ≡ differences first second
  unfolding left differences differences_of differences_at numbers_from
  left_begun {walk} w = ap (λ ds. ds ++ differences_at first second (numbers_from 1 32)) (sym (from_near w))

  module _ {L : ℕ} {walk : Walk} (w : Underway first second L walk) where
    -- what is met comes first, and then what is left past it
    pub left_more : {next : Walk} → nearest_of walk < 2 ^ 32 → Walking first second L (nearest_of walk + 1) next
        → left first second L walk ≡ as_difference (met walk L) ++ left first second L next
    unfolding left
    left_more h on =
        rw (
          left_met first second (2 ^ 32) L (nearest_of walk) (nearest_of walk) (omega arith) h (λ i l b. absurd (omega arith)),
          ← met_so w.ahead h,
          from_near on,
          append_assoc,
        )

    -- where nothing lies ahead, the longer lengths are left
    pub left_longer : {next : Walk} → 2 ^ 32 ≤ nearest_of walk → L < 32 → Walking first second (L + 1) 0 next → left first second L walk ≡ left first second (L + 1) next
    unfolding left differences_of differences_at numbers_from
    left_longer h short on =
        let many : 32 - L ≡ suc (32 - (L + 1)) = omega arith in
        let done : 2 ^ 32 - nearest_of walk ≡ 0 = omega arith in
        rw (done, none_left first second L (nearest_of walk), many, ← from_near on)

    -- and after the last of them none
    pub left_done : 2 ^ 32 ≤ nearest_of walk → 32 ≤ L → left first second L walk ≡ []
    unfolding left differences_at numbers_from
    left_done h long =
        let done : 2 ^ 32 - nearest_of walk ≡ 0 = omega arith in
        let over : 32 - L ≡ 0 = omega arith in
        rw (done, none_left first second L (nearest_of walk), over)

-- ---- What is noted

-- a difference is noted, and what is the same in both is not
pub noted : (d : Difference) (rest : List Difference) → (d.first ≡ d.second → ⊥) → as_difference d ++ rest ≡ d ∷ rest
unfolding as_difference
noted d rest other = rw (ne_eqb d.first d.second other)

pub not_noted : (d : Difference) (rest : List Difference) → d.first ≡ d.second → as_difference d ++ rest ≡ rest
unfolding as_difference
not_noted d rest same = rw (eq-eqb d.first d.second same)
