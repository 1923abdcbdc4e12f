-- Double hashing one step at a time: the places that are left to visit are the next one and those after it.
use Rattle.std.proofs.Common.{◌≡◌, ℕ, suc, ◌+◌, ◌-◌, ◌*◌, ◌/◌, ◌%◌, ◌^◌, ◌<◌, ◌≤◌, List, [], ◌∷◌, ◌++◌, map, length, take, set, sym, ap, ◌∙◌, append-nil, add-one, arith, length-set, take-suc-set}
use Rattle.std.proofs.lemmas.List.{take_all}
use lib.Seq.{append_snoc}
use Rattle.rules.specs.declared.Settings.{Settings}
use Rattle.rules.specs.Table.{wrap, steps, filter_bits, positions, counter_place, counter_places}
use Rattle.filters.specs.Visits.{Placed}

-- where the counters lie that are left to visit after so many steps, where g numbers the next one and grows by `growth`
pub places_left : Settings → (L growth step g : ℕ) → List ℕ
places_left t L growth step g =
    map (counter_place t L) (map (λ g. g / 2 ^ (32 - filter_bits t L)) (steps (t.k - step) g growth))

module _ (t : Settings) (L growth : ℕ) where
  -- before the first step all are left
  pub all_left : (p : ℕ) {g : ℕ} → growth ≡ wrap (t.b * p) → g ≡ wrap (t.a * p) → counter_places t p L ≡ places_left t L growth 0 g
  unfolding counter_places positions steps places_left
  all_left p by first =
      let many : t.k - 0 ≡ t.k = omega arith in
      rw (many, by, first)

  -- a step visits the place of g and leaves those of g grown
  pub one_left : (step : ℕ) {g place next : ℕ} → step < t.k → Placed t L g place → next ≡ (g + growth) % 2 ^ 32
      → places_left t L growth step g ≡ place ∷ places_left t L growth (step + 1) next
  unfolding steps wrap places_left
  one_left step less at next =
      let many : t.k - step ≡ suc (t.k - (step + 1)) = omega arith in
      rw (many, at.there, next)

  -- so the first place is that of the first number, and the rest are left after it
  pub first_left : (p : ℕ) {g place next : ℕ} → growth ≡ wrap (t.b * p) → g ≡ wrap (t.a * p) → 0 < t.k → Placed t L g place
      → next ≡ (g + growth) % 2 ^ 32 → counter_places t p L ≡ place ∷ places_left t L growth 1 next
  first_left p by first some at next = all_left p by first ∙ one_left 0 some at next

  -- after the last step none is left
  pub none_left : (step g : ℕ) → t.k ≤ step → places_left t L growth step g ≡ []
  unfolding steps places_left
  none_left step g done =
      let many : t.k - step ≡ 0 = omega arith in
      rw many

-- a list of K numbers, of which the first so many are the places of the steps so far
pub record Written (t : Settings) (p L growth : ℕ) (at : List ℕ) (step g : ℕ) : Type 0 where
  pub size : length at ≡ t.k
  pub ends : counter_places t p L ≡ take step at ++ places_left t L growth step g

module _ {t : Settings} {p L growth step g : ℕ} {at : List ℕ} (w : Written t p L growth at step g) where
  -- a place is written behind those before it
  pub one_written : {place next : ℕ} → step < length at → Placed t L g place → next ≡ (g + growth) % 2 ^ 32
      → Written t p L growth (set at step place) (step + 1) next
  one_written {place} {next} inside there grown =
      let less : step < t.k = omega (arith, w.size) in
      record {
        size = length-set at step place ∙ w.size;
        ends =
            w.ends
            ∙ ap (λ (l : List ℕ). take step at ++ l) (one_left t L growth step less there grown)
            ∙ rw (add-one step, take-suc-set at step place inside) (sym (append_snoc (take step at) place (places_left t L growth (suc step) next)));
      }

  -- after the last step they are the places
  pub all_written : length at ≤ step → at ≡ counter_places t p L
  all_written done =
      sym (take_all step at done)
      ∙ sym (w.ends ∙ ap (λ (l : List ℕ). take step at ++ l) (none_left t L growth step g (omega (arith, w.size))) ∙ append-nil (take step at))
