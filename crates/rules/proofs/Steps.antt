-- What stepping counters does to each of them, and what the three tests on counters say: one law over the step, and one over the test.
use Prim.Native.Nat.{ℕ, ◌+◌, ◌-◌, ◌<◌}
use mathlib.Core.Path.{◌≡◌, refl, sym, ap, ◌∙◌}
use mathlib.Core.Bool.{Bool, true, false, cond}
use mathlib.Core.List.{List, [], ◌∷◌}
use native.Mathlib.Nat.{add-zero, sub-zero, zero-add}
use native.Mathlib.Omega.{arith}
use lib.Dec.{eqb, ltb}
use lib.ListN.{length, get_or, set, length-set}
use lib.Seq.{get_or-set_same, get_or-set_other, lt-length-set}
use borrow.Author.Tests.{eqb-true, eqb-false}
use Rattle.rules.specs.declared.Settings.{Settings}
use Rattle.rules.specs.Tools.{all, any, count}
use Rattle.rules.specs.Table.{positions, counter_place, counter_places, hits, passes_15, runs_short, step_each, claims}
use Rattle.rules.proofs.Members.{any_map, all_map}
use Rattle.rules.proofs.Placing.{hits_at}

-- ---- Stepping

pub step_each_length : (step : ℕ → ℕ) (counters places : List ℕ) → length (step_each step counters places) ≡ length counters
unfolding step_each
step_each_length step counters [] = refl
step_each_length step counters (i ∷ places) =
    step_each_length step (set counters i (step (get_or counters i 0))) places ∙ simp length-set

-- a counter is stepped as often as its place stands in the list, where `times n many` is n stepped so many times
stepped : (step : ℕ → ℕ) (times : ℕ → ℕ → ℕ) → ((n : ℕ) → times n 0 ≡ n) → ((n many : ℕ) → times (step n) many ≡ times n (1 + many))
    → (counters places : List ℕ) (i : ℕ) → i < length counters
    → get_or (step_each step counters places) i 0 ≡ times (get_or counters i 0) (count i places)
unfolding step_each count
stepped step times none more counters [] i h = sym (none (get_or counters i 0))
stepped step times none more counters (y ∷ places) i h =
    stepped step times none more after places i (lt-length-set counters y (step (get_or counters y 0)) h) ∙ go (eqb i y) refl
  where
    after : List ℕ
    after = set counters y (step (get_or counters y 0))

    go : (b : Bool) → eqb i y ≡ b → times (get_or after i 0) (count i places) ≡ times (get_or counters i 0) (cond b 1 0 + count i places)
    go true e =
        let here : i ≡ y = eqb-true i y e in
        ap (λ (x : ℕ). times x (count i places)) (rw (← here) (get_or-set_same counters i (step (get_or counters i 0)) 0 h)) ∙ more (get_or counters i 0) (count i places)
    go false e =
        ap (λ (x : ℕ). times x (count i places)) (get_or-set_other counters y i (step (get_or counters y 0)) 0 (eqb-false i y e))
        ∙ ap (λ (x : ℕ). times (get_or counters i 0) x) (sym (zero-add (count i places)))

-- an add raises each counter by its hits
pub step_up : (counters places : List ℕ) (i : ℕ) → i < length counters
    → get_or (step_each (λ n. n + 1) counters places) i 0 ≡ get_or counters i 0 + count i places
step_up = stepped (λ n. n + 1) ◌+◌ add-zero (λ n many. omega arith)

-- a withdraw lowers it by them, and stops at zero
pub step_down : (counters places : List ℕ) (i : ℕ) → i < length counters
    → get_or (step_each (λ n. n - 1) counters places) i 0 ≡ get_or counters i 0 - count i places
step_down = stepped (λ n. n - 1) ◌-◌ sub-zero (λ n many. omega arith)

module _ (t : Settings) (counters : List ℕ) (p L : ℕ) where
  -- the tests by position
  pub passes_15_at : passes_15 t counters p L ≡ any (λ j. ltb 15 (get_or counters (counter_place t L j) 0 + count j (positions t p L))) (positions t p L)
  unfolding passes_15 counter_places
  passes_15_at = any_map (counter_place t L) (λ i. ltb 15 (get_or counters i 0 + hits t p L i)) (positions t p L) ∙ simp hits_at

  pub runs_short_at : runs_short t counters p L ≡ any (λ j. ltb (get_or counters (counter_place t L j) 0) (count j (positions t p L))) (positions t p L)
  unfolding runs_short counter_places
  runs_short_at = any_map (counter_place t L) (λ i. ltb (get_or counters i 0) (hits t p L i)) (positions t p L) ∙ simp hits_at

  pub claims_at : claims t counters p L ≡ all (λ j. ltb 0 (get_or counters (counter_place t L j) 0)) (positions t p L)
  unfolding claims counter_places
  claims_at = all_map (counter_place t L) (λ i. ltb 0 (get_or counters i 0)) (positions t p L)
