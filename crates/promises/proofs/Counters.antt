-- The counters after a history: each is how often the stored routes of its length land on its position, and every update keeps that.
use Prim.Native.Nat.{ℕ, zero, suc, ◌+◌, ◌-◌, ◌*◌, ◌^◌, ◌<◌}
use mathlib.Core.Path.{◌≡◌, refl, sym, ap, ap₂, ◌∙◌}
use mathlib.Core.Bool.{Bool, true, false, cond, ◌&&◌, ◌||◌}
use mathlib.Core.List.{List, [], ◌∷◌, Memᴰ}
use mathlib.Core.Option.{Option, some, none}
use native.Mathlib.Nat.{zero-add, mul-add, mul-one, mul-zero}
use native.Mathlib.Omega.{arith}
use lib.Dec.{eqb, ltb}
use lib.ListN.{length, get_or, replicate, length-replicate, get_or-replicate}
use borrow.Author.Tests.{eqb-true, eqb-false, eq-eqb, ne_eqb, lt-ltb, le-ltb}
use Rattle.rules.specs.declared.Settings.{Settings}
use Rattle.rules.specs.Tools.{any, count}
use Rattle.rules.specs.Table.{prefix, positions, filter_bits, counters_size, counter_place, counter_places, hits, step_each, passes_15, runs_short, claims}
use Rattle.rules.specs.Ready.{Ready}
use Rattle.rules.proofs.Members.{all_agree, any_agree, any_none, any_count}
use Rattle.rules.proofs.Placing.{positions_length, positions_lt, place_inside, counter_fits, hits_at, hits_other}
use Rattle.rules.proofs.Steps.{step_each_length, step_up, step_down, passes_15_at, runs_short_at, claims_at}
use Rattle.promises.specs.History.{Route, about}
use Rattle.promises.specs.Demands.{sum, number, exists, landings, overflows, marks, covered, below, filter_sum}
use Rattle.promises.proofs.Below.{below_agree, below_zero, below_add, below_count}
use Rattle.promises.proofs.Sums.{by_cases, weight_within}
use Rattle.promises.proofs.Paper.{Paper, worth, worth_nothing, about_true}

-- how often a route of length L lands on position j
abbrev pub lands : Settings → (L j : ℕ) → Route → ℕ
lands t L j r = cond (eqb r.length L) (count j (positions t r.prefix L)) 0

-- each counter of a length is what the routes of that length land on it
pub record CountersKept (t : Settings) (routes : List Route) (counters : List ℕ) : Type 0 where
  pub size : length counters ≡ counters_size t
  pub at : (L j : ℕ) → Ready t L → j < 2 ^ filter_bits t L → get_or counters (counter_place t L j) 0 ≡ landings t routes L j

-- a position's counter is one of the counters
place_fits : (t : Settings) (size L j : ℕ) → size ≡ counters_size t → Ready t L → j < 2 ^ filter_bits t L → counter_place t L j < size
place_fits t size L j e ready h = rw e (counter_fits t L (counter_place t L j) ready (place_inside t L j h))

-- what p at length L hits of length M's position j is what its route lands there
hits_lands : (t : Settings) (L M p j : ℕ) → Ready t L → Ready t M → j < 2 ^ filter_bits t M
    → count (counter_place t M j) (counter_places t p L) ≡ cond (eqb L M) (count j (positions t p M)) 0
unfolding hits
hits_lands t L M p j of_l of_m h = by_cases (eqb L M) same other
  where
    same : eqb L M ≡ true → count (counter_place t M j) (counter_places t p L) ≡ cond (eqb L M) (count j (positions t p M)) 0
    same e = rw (e, eqb-true L M e) (hits_at t p M j)

    other : eqb L M ≡ false → count (counter_place t M j) (counter_places t p L) ≡ cond (eqb L M) (count j (positions t p M)) 0
    other e = rw e (hits_other t L M p (counter_place t M j) of_l of_m (place_inside t M j h) (eqb-false L M e))

-- ---- What keeps the counters

-- zeros are the counters of no route
pub kept_none : (t : Settings) (n : ℕ) → n ≡ counters_size t → CountersKept t [] (replicate n 0)
unfolding landings sum
kept_none t n size = record {
  size = length-replicate n 0 ∙ size;
  at = λ L j ready h. get_or-replicate n (counter_place t L j) 0 0 (place_fits t n L j size ready h);
}

module _ {t : Settings} {routes after : List Route} {counters : List ℕ} (party p L : ℕ) (kept : CountersKept t routes counters) where
  -- an add raises its positions
  pub kept_added : (hop : ℕ) → Ready t L → Paper party p L none (some hop) routes after
      → CountersKept t after (step_each (λ n. n + 1) counters (counter_places t p L))
  unfolding landings worth
  kept_added hop ready paper = record {
    size = step_each_length (λ n. n + 1) counters (counter_places t p L) ∙ kept.size;
    at = λ M j of_m h.
        step_up counters (counter_places t p L) (counter_place t M j) (place_fits t (length counters) M j kept.size of_m h)
        ∙ rw (kept.at M j of_m h, hits_lands t L M p j ready of_m h) (omega (arith, paper (lands t M j)));
  }

  -- a withdrawal lowers its positions
  pub kept_withdrawn : (hop : ℕ) → Ready t L → Paper party p L (some hop) none routes after
      → CountersKept t after (step_each (λ n. n - 1) counters (counter_places t p L))
  unfolding landings worth
  kept_withdrawn hop ready paper = record {
    size = step_each_length (λ n. n - 1) counters (counter_places t p L) ∙ kept.size;
    at = λ M j of_m h.
        step_down counters (counter_places t p L) (counter_place t M j) (place_fits t (length counters) M j kept.size of_m h)
        ∙ rw (kept.at M j of_m h, hits_lands t L M p j ready of_m h) (omega (arith, paper (lands t M j)));
  }

  -- what lands nowhere else changes no counter
  pub kept_unmoved : (old new : Option ℕ) → Paper party p L old new routes after
      → ((M j : ℕ) → Ready t M → worth (lands t M j) party p L old ≡ worth (lands t M j) party p L new) → CountersKept t after counters
  unfolding landings
  kept_unmoved old new paper same = record {
    size = kept.size;
    at = λ M j of_m h. kept.at M j of_m h ∙ omega (arith, paper (lands t M j), same M j of_m);
  }

-- the default lands nowhere
pub default_lands : (t : Settings) (party p M j : ℕ) (o : Option ℕ) → Ready t M → worth (lands t M j) party p 0 o ≡ 0
default_lands t party p M j o of_m = worth_nothing (lands t M j) party p 0 o (λ hop. rw (ne_eqb 0 M (omega arith)))

-- ---- What the tests on counters say of the routes

-- some route of length L lands on j
landed : (t : Settings) (routes : List Route) (L j : ℕ) → ltb 0 (landings t routes L j) ≡ exists (marks t L j) routes
unfolding landings sum exists marks
landed t [] L j = refl
landed t (r ∷ routes) L j = go (eqb r.length L) (landed t routes L j)
  where
    other : (n m : ℕ) → ltb 0 (n + m) ≡ ltb 0 n || ltb 0 m
    other zero m = ap (λ (x : ℕ). ltb 0 x) (zero-add m)
    other (suc n) m = lt-ltb 0 (suc n + m) (omega arith) ∙ rw (lt-ltb 0 (suc n) (omega arith))

    go : (b : Bool) → ltb 0 (landings t routes L j) ≡ exists (marks t L j) routes
        → ltb 0 (cond b (count j (positions t r.prefix L)) 0 + landings t routes L j)
        ≡ b && any (eqb j) (positions t r.prefix L) || exists (marks t L j) routes
    go true e = other (count j (positions t r.prefix L)) (landings t routes L j) ∙ rw (any_count, e)
    go false e = other 0 (landings t routes L j) ∙ e

module _ (t : Settings) (routes : List Route) (counters : List ℕ) (kept : CountersKept t routes counters) (L : ℕ) (ready : Ready t L) where
  -- the filter claims exactly the prefixes whose positions stored routes of that length cover
  pub claims_covered : (address : ℕ) → claims t counters (prefix address L) L ≡ covered t routes address L
  unfolding covered
  claims_covered address =
      claims_at t counters (prefix address L) L
      ∙ all_agree (λ j. ltb 0 (get_or counters (counter_place t L j) 0)) (λ j. exists (marks t L j) routes) (positions t (prefix address L) L) (λ j m.
      ap (λ (n : ℕ). ltb 0 n) (kept.at L j ready (positions_lt t (prefix address L) L ready j m)) ∙ landed t routes L j)

  -- a counter would pass 15 exactly if the landings would
  pub passes_overflows : (p : ℕ) → passes_15 t counters p L ≡ overflows t routes p L
  unfolding overflows
  passes_overflows p =
      passes_15_at t counters p L
      ∙ any_agree (λ j. ltb 15 (get_or counters (counter_place t L j) 0 + count j (positions t p L))) (λ j. ltb 15 (landings t routes L j + count j (positions t p L))) (positions t p L) (λ j m.
      ap (λ (n : ℕ). ltb 15 (n + count j (positions t p L))) (kept.at L j ready (positions_lt t p L ready j m)))

  -- no counter runs short of a stored route
  pub never_short : (party p : ℕ) {r : Route} → Memᴰ r routes → about party p L r ≡ true → runs_short t counters p L ≡ false
  unfolding landings
  never_short party p {r} member own =
      let is = about_true party p L r own in
      runs_short_at t counters p L
      ∙ any_none (λ j. ltb (get_or counters (counter_place t L j) 0) (count j (positions t p L))) (positions t p L) (λ j m.
      le-ltb (get_or counters (counter_place t L j) 0) (count j (positions t p L))
      (rw (kept.at L j ready (positions_lt t p L ready j m)) (rw (is.1, is.2, eq-eqb L L refl) at (weight_within (lands t L j) member))))

-- ---- What the counters of a length sum to

landings_sum : (t : Settings) (routes : List Route) (L : ℕ) → Ready t L
    → below (λ j. landings t routes L j) (2 ^ filter_bits t L) ≡ t.k * number (λ r. eqb r.length L) routes
unfolding landings number sum
landings_sum t [] L ready = below_zero (2 ^ filter_bits t L) ∙ sym (mul-zero t.k)
landings_sum t (r ∷ routes) L ready =
    below_add (λ j. lands t L j r) (λ j. landings t routes L j) (2 ^ filter_bits t L)
    ∙ ap₂ (λ (x y : ℕ). x + y) (own (eqb r.length L)) (landings_sum t routes L ready)
    ∙ sym (mul-add t.k (cond (eqb r.length L) 1 0) (number (λ r. eqb r.length L) routes))
  where
    own : (b : Bool) → below (λ j. cond b (count j (positions t r.prefix L)) 0) (2 ^ filter_bits t L) ≡ t.k * cond b 1 0
    own true =
        below_count (positions t r.prefix L) (2 ^ filter_bits t L) (positions_lt t r.prefix L ready)
        ∙ positions_length t r.prefix L ∙ sym (mul-one t.k)
    own false = below_zero (2 ^ filter_bits t L) ∙ sym (mul-zero t.k)

-- K for each route of that length
pub filter_sum_kept : (t : Settings) (routes : List Route) (counters : List ℕ) → CountersKept t routes counters → (L : ℕ) → Ready t L
    → filter_sum t counters L ≡ t.k * number (λ r. eqb r.length L) routes
unfolding filter_sum
filter_sum_kept t routes counters kept L ready =
    below_agree (λ j. get_or counters (counter_place t L j) 0) (λ j. landings t routes L j) (2 ^ filter_bits t L) (λ j h. kept.at L j ready h)
    ∙ landings_sum t routes L ready
