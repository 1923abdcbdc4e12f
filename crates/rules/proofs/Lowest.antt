-- Laws of `lowest`: what a search from 0 up knows before, at and after the number that it finds.
use Prim.Native.Nat.{ℕ, zero, suc, ◌+◌, ◌≤◌, ◌<◌}
use native.Mathlib.Numerals.{add-one}
use native.Mathlib.Omega.{arith}
use native.Mathlib.Nat.{eq-or-lt_of_le, le_of_suc-le-suc}
use mathlib.Core.Path.{◌≡◌, refl, ◌∙◌}
use mathlib.Core.Bool.{Bool, true, false, cond}
use mathlib.Core.Option.{Option, some, none, none-ne-some, some-ne-none, some-injective}
use mathlib.Core.Logic.{◌⊎◌, inl, inr}
use Rattle.rules.specs.Tools.{lowest, or_else}

-- s is the lowest number below n at which the test holds
pub record Lowest (test : ℕ → Bool) (n s : ℕ) : Type 0 where
  pub within : s < n
  pub passes : test s ≡ true
  pub first : (i : ℕ) → i < s → test i ≡ false

module _ (test : ℕ → Bool) where
  -- a search that has found nothing below i, and nothing at i, has found nothing below i + 1
  pub lowest_on : (i : ℕ) → lowest test i ≡ none → test i ≡ false → lowest test (i + 1) ≡ none
  unfolding lowest
  lowest_on i h f = rw (add-one, h, f)

  -- a search that has found nothing below i, and finds i, has found the lowest of any n above
  pub lowest_here : (n i : ℕ) → i < n → lowest test i ≡ none → test i ≡ true → lowest test n ≡ some i
  unfolding lowest
  lowest_here zero i l h t = absurd (omega arith)
  lowest_here (suc n) i l h t = go (eq-or-lt_of_le (le_of_suc-le-suc l)) (λ b. lowest_here n i b h t)
    where
      go : (i ≡ n) ⊎ (i < n) → (i < n → lowest test n ≡ some i) → or_else (lowest test n) (cond (test n) (some n) none) ≡ some i
      go (inl e) ih = rw (← e, h, t)
      go (inr b) ih = rw (ih b)

  -- nothing is found exactly if the test fails at each number below
  pub lowest_none : (n : ℕ) → ((i : ℕ) → i < n → test i ≡ false) → lowest test n ≡ none
  unfolding lowest
  lowest_none zero f = refl
  lowest_none (suc n) f = rw (lowest_none n (λ i l. f i (omega arith)), f n (omega arith))

  last_none : (n : ℕ) → lowest test (suc n) ≡ none → (lowest test n ≡ none) × (test n ≡ false)
  unfolding lowest
  last_none n h = go (lowest test n) (test n) refl refl h
    where
      go : (o : Option ℕ) (b : Bool) → lowest test n ≡ o → test n ≡ b → or_else o (cond b (some n) none) ≡ none → (lowest test n ≡ none) × (test n ≡ false)
      go (some s) b eo eb e = absurd (some-ne-none s e)
      go none true eo eb e = absurd (some-ne-none n e)
      go none false eo eb e = (eo, eb)

  pub none_below : (n : ℕ) → lowest test n ≡ none → (i : ℕ) → i < n → test i ≡ false
  none_below zero h i l = absurd (omega arith)
  none_below (suc n) h i l = go (eq-or-lt_of_le (le_of_suc-le-suc l)) (none_below n (last_none n h).0 i)
    where
      go : (i ≡ n) ⊎ (i < n) → (i < n → test i ≡ false) → test i ≡ false
      go (inl e) ih = rw e (last_none n h).1
      go (inr b) ih = ih b

  -- a search that has found nothing has found nothing of any n before
  pub none_before : (m n : ℕ) → n ≤ m → lowest test m ≡ none → lowest test n ≡ none
  none_before m n l h = lowest_none n (λ i b. none_below m h i (omega arith))

  -- what is found is the lowest
  pub some_lowest : (n s : ℕ) → lowest test n ≡ some s → Lowest test n s
  unfolding lowest
  some_lowest zero s h = absurd (none-ne-some s h)
  some_lowest (suc n) s h = go (lowest test n) (test n) refl refl (some_lowest n s) h
    where
      go : (o : Option ℕ) (b : Bool) → lowest test n ≡ o → test n ≡ b → (lowest test n ≡ some s → Lowest test n s)
          → or_else o (cond b (some n) none) ≡ some s → Lowest test (suc n) s
      go (some r) b eo eb ih e =
          let below = ih (eo ∙ e) in
          record { within = omega arith; passes = below.passes; first = below.first }
      go none true eo eb ih e =
          let last = some-injective n s e in
          record {
            within = omega arith;
            passes = rw (← last) eb;
            first = λ i l. none_below n eo i (omega arith);
          }
      go none false eo eb ih e = absurd (none-ne-some s e)
