-- What an accepted call changes on paper: the party's route of p and L had one hop, if any, and has another now, if any.
use Prim.Native.Nat.{ℕ, ◌+◌, ◌≤◌}
use mathlib.Core.Path.{◌≡◌, refl, sym, ap, ◌∙◌}
use mathlib.Core.Bool.{Bool, true, false, cond, ◌&&◌, ◌||◌, true≢false}
use mathlib.Core.List.Memᴰ
use mathlib.Core.List.{List, [], ◌∷◌}
use mathlib.Core.Option.{Option, some, none}
use mathlib.Core.Logic.{◌⊎◌, inl, inr}
use native.Mathlib.Omega.{arith}
use lib.Dec.{eqb}
use borrow.Author.Tests.{eqb-true, eq-eqb}
use Rattle.rules.proofs.Members.{both}
use Rattle.promises.specs.History.{Route, of_party, routes_of, about, without, route, with_hop}
use Rattle.promises.specs.Demands.{Stored, sum, number, exists}
use Rattle.promises.proofs.Sums.{by_cases, exists_one, only_one}

-- what the party's route of p and L weighs, if it has a hop
unfoldable pub worth : (weight : Route → ℕ) (party p L : ℕ) → Option ℕ → ℕ
worth weight party p L none = 0
worth weight party p L (some hop) = weight (route party p L hop)

-- on paper the party's route of p and L had one hop, if any, and has another now, if any
abbrev pub Paper : (party p L : ℕ) (old new : Option ℕ) (before after : List Route) → Type 0
Paper party p L old new before after = (weight : Route → ℕ) → sum weight after + worth weight party p L old ≡ sum weight before + worth weight party p L new

pub worth_nothing : (weight : Route → ℕ) (party p L : ℕ) (o : Option ℕ) → ((hop : ℕ) → weight (route party p L hop) ≡ 0) → worth weight party p L o ≡ 0
unfolding worth
worth_nothing weight party p L none h = refl
worth_nothing weight party p L (some hop) h = h hop

-- what is withdrawn is what the paper loses
pub sum_without : (party p L : ℕ) (weight : Route → ℕ) (routes : List Route)
    → sum weight (without party p L routes) + sum (λ r. cond (about party p L r) (weight r) 0) routes ≡ sum weight routes
unfolding sum without
sum_without party p L weight [] = refl
sum_without party p L weight (r ∷ routes) = go (about party p L r) (sum_without party p L weight routes)
  where
    go : (b : Bool) → sum weight (without party p L routes) + sum (λ r. cond (about party p L r) (weight r) 0) routes ≡ sum weight routes
        → sum weight (cond b (without party p L routes) (r ∷ without party p L routes))
        + (cond b (weight r) 0 + sum (λ r. cond (about party p L r) (weight r) 0) routes)
        ≡ weight r + sum weight routes
    go true e = omega arith
    go false e = omega arith

pub sum_with_hop : (party p L hop : ℕ) (weight : Route → ℕ) (routes : List Route)
    → sum weight (with_hop party p L hop routes) + sum (λ r. cond (about party p L r) (weight r) 0) routes
    ≡ sum weight routes + sum (λ r. cond (about party p L r) (weight (route party p L hop)) 0) routes
unfolding sum with_hop
sum_with_hop party p L hop weight [] = refl
sum_with_hop party p L hop weight (r ∷ routes) = go (about party p L r) (sum_with_hop party p L hop weight routes)
  where
    go : (b : Bool)
        → sum weight (with_hop party p L hop routes) + sum (λ r. cond (about party p L r) (weight r) 0) routes
        ≡ sum weight routes + sum (λ r. cond (about party p L r) (weight (route party p L hop)) 0) routes
        → weight (cond b (route party p L hop) r) + sum weight (with_hop party p L hop routes)
        + (cond b (weight r) 0 + sum (λ r. cond (about party p L r) (weight r) 0) routes)
        ≡ weight r + sum weight routes
        + (cond b (weight (route party p L hop)) 0 + sum (λ r. cond (about party p L r) (weight (route party p L hop)) 0) routes)
    go true e = omega arith
    go false e = omega arith

-- a route is about its own party, prefix and length
pub own_about : (party p L hop : ℕ) → about party p L (route party p L hop) ≡ true
unfolding about of_party
own_about party p L hop = rw (eq-eqb party party refl, eq-eqb p p refl, eq-eqb L L refl)

-- what it is to be the party's and about p and L
pub about_true : (party p L : ℕ) (r : Route) → about party p L r ≡ true → (r.party ≡ party) × (r.prefix ≡ p) × (r.length ≡ L)
unfolding about of_party
about_true party p L r h =
    let parts = both (eqb r.party party) (eqb r.prefix p && eqb r.length L) h in
    let rest = both (eqb r.prefix p) (eqb r.length L) parts.1 in
    (eqb-true r.party party parts.0, eqb-true r.prefix p rest.0, eqb-true r.length L rest.1)

-- and the other way
pub about_made : (party p L : ℕ) (r : Route) → r.party ≡ party → r.prefix ≡ p → r.length ≡ L → about party p L r ≡ true
unfolding about of_party
about_made party p L r its_party its_prefix its_length = rw (eq-eqb _ _ its_party, eq-eqb _ _ its_prefix, eq-eqb _ _ its_length)

-- a route of this party, prefix and length, by its hop
pub route_of : {party p L : ℕ} (r : Route) → r.party ≡ party → r.prefix ≡ p → r.length ≡ L → route party p L r.hop ≡ r
route_of r at_party at_prefix at_length = λ i. record { party = sym at_party i; prefix = sym at_prefix i; length = sym at_length i; hop = r.hop }

-- the party's stored route about p and L, by its hop
pub stored_route : (party p L : ℕ) (routes : List Route) → exists (about party p L) routes ≡ true → (hop : ℕ) × Stored (route party p L hop) routes
stored_route party p L routes there =
    let r = exists_one (about party p L) routes there in
    let its = about_true party p L r.0 r.2 in
    (r.0.hop, Memᴰ.cast (route_of r.0 its.0 its.1 its.2) r.1)

-- without what is not there all stays
pub without_none : (party p L : ℕ) (routes : List Route) → exists (about party p L) routes ≡ false → without party p L routes ≡ routes
unfolding without exists
without_none party p L [] absent = refl
without_none party p L (r ∷ routes) absent = go (about party p L r) absent (without_none party p L routes)
  where
    go : (b : Bool) → b || exists (about party p L) routes ≡ false → (exists (about party p L) routes ≡ false → without party p L routes ≡ routes)
        → cond b (without party p L routes) (r ∷ without party p L routes) ≡ r ∷ routes
    go true e rest = absurd (true≢false e)
    go false e rest = ap (λ others. r ∷ others) (rest e)

-- an add has a route where there was none
pub paper_added : (party p L hop : ℕ) (routes : List Route) → exists (about party p L) routes ≡ false
    → Paper party p L none (some hop) routes (route party p L hop ∷ without party p L routes)
unfolding worth sum
paper_added party p L hop routes absent weight = rw (without_none party p L routes absent) (omega arith)

-- a withdrawal has none where there was a route, the party's only one of that prefix and length
pub paper_withdrawn : (party p L hop : ℕ) {routes : List Route} → Stored (route party p L hop) routes → number (about party p L) routes ≤ 1
    → Paper party p L (some hop) none routes (without party p L routes)
unfolding worth
paper_withdrawn party p L hop {routes} stored once weight =
    let gone = rw (only_one (about party p L) weight stored (own_about party p L hop) once) at (sum_without party p L weight routes) in
    omega arith

-- an add has another hop where there was one
pub paper_replaced : (party p L old hop : ℕ) {routes : List Route} → Stored (route party p L old) routes → number (about party p L) routes ≤ 1
    → Paper party p L (some old) (some hop) routes (route party p L hop ∷ without party p L routes)
unfolding worth sum
paper_replaced party p L old hop stored once weight = omega (arith, paper_withdrawn party p L old stored once weight)

-- and so a change
pub paper_changed : (party p L old hop : ℕ) {routes : List Route} → Stored (route party p L old) routes → number (about party p L) routes ≤ 1
    → Paper party p L (some old) (some hop) routes (with_hop party p L hop routes)
unfolding worth
paper_changed party p L old hop {routes} stored once weight =
    rw (only_one (about party p L) weight stored (own_about party p L old) once, only_one (about party p L) (λ q. weight (route party p L hop)) stored (own_about party p L old) once)
    at (sum_with_hop party p L hop weight routes)

-- ---- The party's own routes

-- a route stands among them exactly if it is stored and the party's
pub own_stored : (party : ℕ) {r : Route} (routes : List Route) → Stored r (routes_of party routes) → Stored r routes × (r.party ≡ party)
unfolding routes_of of_party
own_stored party [] there = absurd (Memᴰ.not-nil there)
own_stored party {r} (q ∷ routes) there = by_cases (eqb q.party party)
    (λ its. go (Memᴰ.cases_cons (rw its at there)) (eqb-true _ _ its) (own_stored party routes))
    (λ other. let rest = own_stored party routes (rw other at there) in (Memᴰ.tail rest.0, rest.1))
  where
    go : (r ≡ q) ⊎ Stored r (routes_of party routes) → q.party ≡ party → (Stored r (routes_of party routes) → Stored r routes × (r.party ≡ party))
        → Stored r (q ∷ routes) × (r.party ≡ party)
    go (inl e) its later = (Memᴰ.head e, ap (λ x. x.party) e ∙ its)
    go (inr m) its later = let rest = later m in (Memᴰ.tail rest.0, rest.1)

pub stored_own : (party : ℕ) {r : Route} {routes : List Route} → Stored r routes → r.party ≡ party → Stored r (routes_of party routes)
unfolding routes_of of_party
stored_own party (Memᴰ.head {x = q} e) its = rw (eq-eqb q.party party (sym (ap (λ x. x.party) e) ∙ its)) (Memᴰ.head e)
stored_own party {r} (Memᴰ.tail {x = q} {xs = routes} m) its = go (eqb q.party party) (stored_own party m its)
  where
    go : (b : Bool) → Stored r (routes_of party routes) → Stored r (cond b (q ∷ routes_of party routes) (routes_of party routes))
    go true rest = Memᴰ.tail rest
    go false rest = rest
