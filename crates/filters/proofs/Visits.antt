-- Places of an array visited one at a time, what a visit does to their counts and counters, and what callers know of them.
use Rattle.std.proofs.Common.{◌≡◌, ℕ, zero, suc, ◌+◌, ◌-◌, ◌<◌, ◌≤◌, Bool, true, false, cond, eqb, List, [], ◌∷◌, length, get_or, take, drop, set, All, sym, refl, ap, ◌∙◌, le_of_suc-le-suc, not-suc-le-zero, zero-add, arith, length-set, length-take, get_or-set_other, get_or-set_same, ltb-false, le-ltb, eq-eqb, ne_eqb, eqb-true}
use Rattle.std.specs.List.{count_by}
use Rattle.std.proofs.lemmas.List.{drop_more, drop_all}
use Rattle.std.proofs.lemmas.List.Recursion.{is_count_by}
use Rattle.std.proofs.lemmas.List.Elements.{All-from_get_or}
use borrow.Author.Tests.{eqb-false}
use Rattle.rules.specs.declared.Settings.{Settings}
use Rattle.rules.specs.Tools.{count}
use Rattle.rules.specs.Table.{counter_places, hits, refuse, passes_15, runs_short, step_each}
use Rattle.rules.specs.Ready.{Ready, Counters}
use Rattle.rules.proofs.Members.{Among, among_head, among_tail, any_false, any_none}
use Rattle.rules.proofs.Placing.{counter_fits, places_length, places_inside}
use Rattle.filters.specs.declared.Step.{Step}
use Rattle.filters.specs.declared.Step.TheVariants.{Raise, Lower}
use Rattle.filters.specs.Visits.{cannot, stepped, cannot_at, some_cannot, cannot_step, step_number}

-- ---- Counts

-- a number stands once more in a list that begins with it
pub count_same : {i x : ℕ} (l : List ℕ) → x ≡ i → count i (x ∷ l) ≡ 1 + count i l
unfolding count
count_same {i} {x} l same = rw (same, eq-eqb i i refl)

-- and no more often in one that begins with another
pub count_other : {i x : ℕ} (l : List ℕ) → (x ≡ i → ⊥) → count i (x ∷ l) ≡ count i l
unfolding count
count_other {i} {x} l other = rw (ne_eqb i x (λ e. other (sym e))) (omega arith)

-- it is std's count
pub counts : (i : ℕ) (l : List ℕ) → count i l ≡ count_by (λ x. eqb x i) l
unfolding count
counts i = is_count_by (count i) (λ x. eqb x i) refl (λ x xs. go x xs (eqb x i) refl)
  where
    go : (x : ℕ) (xs : List ℕ) (same : Bool) → eqb x i ≡ same → cond (eqb i x) 1 0 + count i xs ≡ cond same (1 + count i xs) (count i xs)
    go x xs true same = rw (eqb-true x i same, eq-eqb i i refl)
    go x xs false same = rw (ne_eqb i x (λ e. eqb-false x i same (sym e))) (zero-add (count i xs))

-- what stands at an index stands in the list
among_getD : (l : List ℕ) (i : ℕ) → i < length l → Among (get_or l i 0) l
among_getD [] i h = absurd (not-suc-le-zero h)
among_getD (x ∷ l) zero h = among_head x l
among_getD (x ∷ l) (suc i) h = among_tail (get_or l i 0) x l (among_getD l i (le_of_suc-le-suc h))

-- ---- Steps

-- a counter that can take some steps can take the first
can_first : (step : Step) (n m : ℕ) → cannot step n (1 + m) ≡ false → cannot step n 1 ≡ false
can_first Raise n m h = le-ltb 15 (n + 1) (omega (arith, ltb-false 15 (n + (1 + m)) h))
can_first Lower n m h = le-ltb n 1 (omega (arith, ltb-false n (1 + m) h))

-- and then the others
can_others : (step : Step) (n m : ℕ) → cannot step n (1 + m) ≡ false → cannot step (stepped step n) m ≡ false
can_others Raise n m h = le-ltb 15 (n + 1 + m) (omega (arith, ltb-false 15 (n + (1 + m)) h))
can_others Lower n m h = le-ltb (n - 1) m (omega (arith, ltb-false n (1 + m) h))

-- Counters that can take their hits at these places, of which i is the next one.
module _ (step : Step) (counters rest : List ℕ) (i : ℕ) (fits : some_cannot step counters (i ∷ rest) ≡ false) where
  -- the next counter can take its hits
  here : cannot step (get_or counters i 0) (1 + count i rest) ≡ false
  unfolding some_cannot
  here =
      rw (count_same {i = i} rest refl)
      at (any_false (cannot_at step counters (i ∷ rest)) (i ∷ rest) fits i (among_head i rest))

  -- and after its step the counters can take the hits that are left
  later : i < length counters → some_cannot step (set counters i (stepped step (get_or counters i 0))) rest ≡ false
  unfolding some_cannot
  later inside = any_none (cannot_at step after rest) rest (λ j m. go j m (eqb j i) refl)
    where
      after : List ℕ
      after = set counters i (stepped step (get_or counters i 0))

      go : (j : ℕ) → Among j rest → (same : Bool) → eqb j i ≡ same → cannot step (get_or after j 0) (count j rest) ≡ false
      go j m true same =
          rw (eqb-true j i same, get_or-set_same counters i (stepped step (get_or counters i 0)) 0 inside)
          (can_others step (get_or counters i 0) (count i rest) here)
      go j m false same =
          let other = eqb-false j i same in
          rw (get_or-set_other counters i j (stepped step (get_or counters i 0)) 0 other)
          (rw (count_other rest (λ e. other (sym e)))
          at (any_false (cannot_at step counters (i ∷ rest)) (i ∷ rest) fits j (among_tail j i rest m)))

-- counters on the way from those at entry, stepped at i of the places
pub record Stepping (step : Step) (places entry counters : List ℕ) (i : ℕ) : Type 0 where
  pub size : length counters ≡ length entry
  pub ends : step_each (stepped step) entry places ≡ step_each (stepped step) counters (drop i places)
  pub fits : some_cannot step counters (drop i places) ≡ false

module _ {step : Step} {places entry counters : List ℕ} {i : ℕ} (s : Stepping step places entry counters i) where
  -- the next counter can take one step
  pub can_take : i < length places → cannot step (get_or counters (get_or places i 0) 0) 1 ≡ false
  can_take less = can_first step _ _ (here step counters _ _ (rw (drop_more places i 0 less) at s.fits))

  -- and takes it
  pub one_taken : {n : ℕ} → i < length places → get_or places i 0 < length counters → n ≡ stepped step (get_or counters (get_or places i 0) 0)
      → Stepping step places entry (set counters (get_or places i 0) n) (i + 1)
  unfolding step_each
  one_taken less inside is =
      let next = drop_more places i 0 less in
      rw is (record {
        size = length-set counters (get_or places i 0) (stepped step (get_or counters (get_or places i 0) 0)) ∙ s.size;
        ends = s.ends ∙ ap (step_each (stepped step) counters) next;
        fits = later step counters _ _ (rw next at s.fits) inside;
      })

  -- after the last of them the counters are as they should be
  pub all_taken : length places ≤ i → counters ≡ step_each (stepped step) entry places
  unfolding step_each
  all_taken done = sym (s.ends ∙ ap (step_each (stepped step) counters) (drop_all i places done))

-- ---- The places of a prefix

-- where no number is given, every counter can take its hits
pub can_step : (step : Step) (cannot : Bool) {r : ℕ} → r ≡ refuse cannot (step_number step) 0 → r ≡ 0 → cannot ≡ false
unfolding refuse
can_step step false given none = refl
can_step Raise true given none = absurd (omega arith)
can_step Lower true given none = absurd (omega arith)

-- they are the counters'
pub places_lent : {t : Settings} (p : ℕ) {L : ℕ} {counters : List ℕ} → Ready t L → Counters t counters → All (λ i. i < length counters) (counter_places t p L)
places_lent {t} p {L} {counters} ready sized =
    All-from_get_or (λ i. i < length counters) (counter_places t p L) 0 (λ i less.
    rw sized.size (counter_fits t L _ ready (places_inside t p L ready _ (among_getD (counter_places t p L) i less))))

-- and an array that begins with them has K of them
pub all_there : (t : Settings) (p L : ℕ) (all : List ℕ) → take t.k all ≡ counter_places t p L → t.k ≤ length all
all_there t p L all are = omega (arith, length-take t.k all, ap length are, places_length t p L)

-- some counter at them cannot take its hits where the rules say so
pub cannot_at_them : (step : Step) (t : Settings) (counters : List ℕ) (p L : ℕ) → some_cannot step counters (counter_places t p L) ≡ cannot_step step t counters p L
unfolding some_cannot passes_15 runs_short hits
cannot_at_them Raise t counters p L = refl
cannot_at_them Lower t counters p L = refl
