-- The differences of two sides, taken apart: past the numbers at which they agree, at one number, and by lengths.
use Prim.Native.Nat.{ℕ, zero, suc, ◌+◌, ◌-◌, ◌^◌, ◌≤◌, ◌<◌}
use mathlib.Core.Path.{◌≡◌, refl, ap, ◌∙◌}
use mathlib.Core.Bool.{Bool, true, false, cond, not}
use mathlib.Core.List.{List, [], ◌∷◌, ◌++◌, map, append_assoc, append-nil}
use native.Mathlib.Nat.{add-zero, zero-add, suc-add, le_refl}
use native.Mathlib.Omega.{arith}
use lib.Dec.{eqb}
use Rattle.rules.specs.Tools.{those}
use Rattle.difference_rules.specs.declared.Difference.{Difference}
use Rattle.difference_rules.specs.Comparing.{Side, numbers_from, differ, difference_at, differences_from, differences_of, differences_at, differences}
use Rattle.difference_steps.specs.Walking.{as_difference}

-- numbers at which a test fails are passed
those_passed : (test : ℕ → Bool) (p gap many : ℕ) → ((i : ℕ) → p ≤ i → i < p + gap → test i ≡ false)
    → those test (numbers_from p (gap + many)) ≡ those test (numbers_from (p + gap) many)
unfolding those numbers_from
those_passed test p zero many f = rw (zero-add, add-zero)
those_passed test p (suc gap) many f =
    rw (suc-add, f p (omega arith) (omega arith))
    (those_passed test (p + 1) gap many (λ i l h. f i (omega arith) (omega arith)) ∙ ap (λ (n : ℕ). those test (numbers_from n many)) (omega arith))

-- the numbers of a stretch are those of its two parts
numbers_split : (n one other : ℕ) → numbers_from n (one + other) ≡ numbers_from n one ++ numbers_from (n + one) other
unfolding numbers_from
numbers_split n zero other = rw (zero-add, add-zero)
numbers_split n (suc one) other =
    rw (suc-add, numbers_split (n + 1) one other) (ap (λ (m : ℕ). n ∷ (numbers_from (n + 1) one ++ numbers_from m other)) (omega arith))

module _ (first second : Side) where
  -- the two agree at each number from p up to q
  abbrev pub Agree : (L p q : ℕ) → Type 0
  Agree L p q = (i : ℕ) → p ≤ i → i < q → differ first second L i ≡ false

  -- numbers at which they agree are passed, no number has none, and of the first number is noted what they have there
  pub passed : (L p gap many : ℕ) → Agree L p (p + gap) → differences_from first second L p (gap + many) ≡ differences_from first second L (p + gap) many
  unfolding differences_from
  passed L p gap many f = ap (map (difference_at first second L)) (those_passed (differ first second L) p gap many f)

  pub none_left : (L p : ℕ) → differences_from first second L p 0 ≡ []
  unfolding differences_from those numbers_from
  none_left L p = refl

  one_noted : (L p many : ℕ) → differences_from first second L p (suc many) ≡ as_difference (difference_at first second L p) ++ differences_from first second L (p + 1) many
  unfolding differences_from those numbers_from differ as_difference
  one_noted L p many = go (eqb (first p L) (second p L))
    where
      rest : List ℕ
      rest = those (differ first second L) (numbers_from (p + 1) many)

      go : (same : Bool) → map (difference_at first second L) (cond (not same) (p ∷ rest) rest)
          ≡ cond same [] (difference_at first second L p ∷ []) ++ map (difference_at first second L) rest
      go true = refl
      go false = refl

  -- where they agree from p up to q, what is left from p on is what is noted at q, and what is left after it
  pub left_met : (n L p q : ℕ) → p ≤ q → q < n → Agree L p q
      → differences_from first second L p (n - p) ≡ as_difference (difference_at first second L q) ++ differences_from first second L (q + 1) (n - (q + 1))
  left_met n L p q low high f =
      let more = n - (q + 1) in
      let reach : n - p ≡ (q - p) + suc more = omega arith in
      let there : p + (q - p) ≡ q = omega arith in
      rw reach (passed L p (q - p) (suc more) (λ i l h. f i l (omega arith)) ∙ rw there (one_noted L q more))

  -- where they agree from p on, nothing is left
  pub left_none : (n L p : ℕ) → Agree L p n → differences_from first second L p (n - p) ≡ []
  left_none n L p f = rw (← add-zero (n - p)) (passed L p (n - p) 0 (λ i l h. f i l (omega arith)) ∙ none_left L (p + (n - p)))

  -- lengths after lengths
  at_append : (one other : List ℕ) → differences_at first second (one ++ other) ≡ differences_at first second one ++ differences_at first second other
  unfolding differences_at
  at_append [] other = refl
  at_append (L ∷ one) other = rw (at_append one other, append_assoc)

  -- the differences of a length stand between those of the lengths before it and those of the lengths after it; no length has none
  pub lengths_split : (n many more : ℕ) → differences_at first second (numbers_from n (many + suc more))
      ≡ differences_at first second (numbers_from n many) ++ (differences_of first second (n + many) ++ differences_at first second (numbers_from (n + many + 1) more))
  unfolding differences_at numbers_from
  lengths_split n many more = rw (numbers_split n many (suc more), at_append)

  pub lengths_none : (n : ℕ) → differences_at first second (numbers_from n 0) ≡ []
  unfolding differences_at numbers_from
  lengths_none n = refl

  -- the differences of the lengths from 1 on, up to L
  abbrev pub up_to : (L : ℕ) → List Difference
  up_to L = differences_at first second (numbers_from 1 L)

  -- where they agree at length 0 but for the number 0, all differences are what is noted there, and those from length 1 on
  pub default_first : Agree 0 1 (2 ^ 32) → differences first second ≡ as_difference (difference_at first second 0 0) ++ up_to 32
  unfolding differences differences_of
  default_first f =
      lengths_split 0 0 32
      ∙ rw (lengths_none 0, left_met (2 ^ 32) 0 0 0 (le_refl 0) (omega arith) (λ i l h. absurd (omega arith)), left_none (2 ^ 32) 0 1 f, append-nil)
