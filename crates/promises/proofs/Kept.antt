-- What ties a table to its stored routes; all that the promises say of memory follows from it.
use Prim.Native.Nat.{ℕ, ◌^◌, ◌≤◌, ◌<◌}
use mathlib.Core.Path.{◌≡◌, refl}
use mathlib.Core.Bool.{Bool, true, false, cond, not, ◌&&◌}
use mathlib.Core.List.{List}
use native.Mathlib.Omega.{arith}
use lib.Dec.{eqb, leb, ltb}
use borrow.Author.Tests.{eqb-true, ltb-true, leb-true, not-true}
use Rattle.rules.specs.declared.Settings.{Settings}
use Rattle.rules.specs.Table.{in_range, prefix, odd_prefix, Memory}
use Rattle.rules.specs.Ready.{Ready}
use Rattle.rules.proofs.Members.{both}
use Rattle.promises.specs.History.{Route, about}
use Rattle.promises.specs.Demands.{Stored, number, landings}
use Rattle.promises.proofs.Sums.{weight_within}
use Rattle.promises.proofs.Buckets.{SlotsKept}
use Rattle.promises.proofs.Counters.{CountersKept}

-- a route as the checks let it in
unfoldable pub fit : Route → Bool
fit r =
    leb r.party 1
    && (leb r.length 32
    && (eqb (prefix r.prefix r.length) r.prefix
    && (not (odd_prefix r.prefix r.length) && (leb r.hop 65535 && ltb r.prefix (2 ^ 32)))))

-- memory and stored routes belong together
pub record Kept (t : Settings) (routes : List Route) (m : Memory) : Type 0 where
  pub range : in_range t ≡ true
  pub slots : SlotsKept t routes m.slots
  pub counters : CountersKept t routes m.counters
  pub small : (L j : ℕ) → Ready t L → landings t routes L j ≤ 15
  pub all_fit : number (λ r. not (fit r)) routes ≡ 0
  pub once : (party p L : ℕ) → number (about party p L) routes ≤ 1

-- what fit says
pub record Fit (r : Route) : Type 0 where
  pub known : r.party ≤ 1
  pub high : r.length ≤ 32
  pub tight : prefix r.prefix r.length ≡ r.prefix
  pub not_odd : odd_prefix r.prefix r.length ≡ false
  pub hop_high : r.hop ≤ 65535
  pub word : r.prefix < 2 ^ 32

pub fit_says : (r : Route) → fit r ≡ true → Fit r
unfolding fit
fit_says r h =
    let zero = both (leb r.party 1) _ h in
    let one = both (leb r.length 32) _ zero.1 in
    let two = both (eqb (prefix r.prefix r.length) r.prefix) _ one.1 in
    let three = both (not (odd_prefix r.prefix r.length)) _ two.1 in
    let four = both (leb r.hop 65535) _ three.1 in
    record {
      known = leb-true _ _ zero.0;
      high = leb-true _ _ one.0;
      tight = eqb-true _ _ two.0;
      not_odd = not-true _ three.0;
      hop_high = leb-true _ _ four.0;
      word = ltb-true _ _ four.1;
    }

pub fits : {t : Settings} {routes : List Route} {m : Memory} → Kept t routes m → (r : Route) → Stored r routes → Fit r
unfolding number
fits {routes = routes} kept r there = fit_says r (go (fit r) (weight_within (λ q. cond (not (fit q)) 1 0) there))
  where
    go : (b : Bool) → cond (not b) 1 0 ≤ number (λ q. not (fit q)) routes → b ≡ true
    go true h = refl
    go false h = absurd (omega (arith, kept.all_fit))

-- every hop is valid
pub hops : {t : Settings} {routes : List Route} {m : Memory} → Kept t routes m → (r : Route) → Stored r routes → r.hop ≤ 65535
hops kept r there = (fits kept r there).hop_high

-- a length from 1 on is ready, under settings in range
abbrev pub ready : {t : Settings} {L : ℕ} → in_range t ≡ true → 1 ≤ L → L ≤ 32 → Ready t L
ready range low high = record { range = range; low = low; high = high }
