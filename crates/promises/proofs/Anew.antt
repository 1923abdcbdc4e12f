-- Part of what a table stores is stored with room for the rest: every condition on routes is a sum, and a part's sums are no more than the whole's.
use Prim.Native.Nat.{ℕ, ◌+◌, ◌^◌, ◌≤◌, ◌<◌}
use mathlib.Core.Path.{◌≡◌, refl, sym, ◌∙◌}
use mathlib.Core.Bool.{Bool, true, false, cond, not}
use mathlib.Core.List.{List, [], ◌∷◌}
use native.Mathlib.Nat.{add-zero}
use native.Mathlib.Omega.{arith}
use lib.Dec.{eqb, ltb}
use borrow.Author.Tests.{eq-eqb, ne_eqb, lt-ltb, le-ltb}
use Rattle.rules.specs.declared.Settings.{Settings}
use Rattle.rules.specs.Tools.{all, count}
use Rattle.rules.specs.Table.{positions, bucket, Memory}
use Rattle.rules.specs.Ready.{Ready}
use Rattle.rules.proofs.Members.{any_none}
use Rattle.rules.specs.Calls.{Call, Add, word_sized, each}
use Rattle.promises.specs.History.{Route, of_party, written, noted, about}
use Rattle.promises.specs.Demands.{sum, number, exists, beside, crowded, landings, overflows, add_number, number_given, paper, adds}
use Rattle.promises.proofs.Sums.{weight_within, none_exists}
use Rattle.promises.proofs.Paper.{without_none}
use Rattle.promises.proofs.Buckets.{in_bucket, in_default, beside_few}
use Rattle.promises.proofs.Counters.{lands}
use Rattle.promises.proofs.Kept.{Kept, Fit, fit, fit_says, ready}
use Rattle.promises.proofs.Numbers.{add_accepted}

-- the same routes, as far as any weight tells
abbrev pub Same : (one other : List Route) → Type 0
Same one other = (weight : Route → ℕ) → sum weight one ≡ sum weight other

-- they are the same to the table
pub kept_same : {t : Settings} {routes others : List Route} {m : Memory} → Same routes others → Kept t routes m → Kept t others m
unfolding number landings
kept_same {t} same kept = record {
  range = kept.range;
  slots = record {
    size = kept.slots.size;
    buckets = λ p L ready weight. kept.slots.buckets p L ready weight ∙ same (in_bucket t weight p L);
    default = λ party known weight. kept.slots.default party known weight ∙ same (in_default weight party);
  };
  counters = record {
    size = kept.counters.size;
    at = λ L j ready h. kept.counters.at L j ready h ∙ same (lands t L j);
  };
  small = λ L j ready. rw (same (lands t L j)) at (kept.small L j ready);
  all_fit = sym (same (λ r. cond (not (fit r)) 1 0)) ∙ kept.all_fit;
  once = λ party p L. rw (same (λ r. cond (about party p L r) 1 0)) at (kept.once party p L);
}

-- some routes and some more are these routes
abbrev pub Parted : (some more routes : List Route) → Type 0
Parted some more routes = (weight : Route → ℕ) → sum weight some + sum weight more ≡ sum weight routes

-- none is there where the number is zero
none_there : (test : Route → Bool) (routes : List Route) → number test routes ≡ 0 → exists test routes ≡ false
unfolding number
none_there test routes zero_there = none_exists test routes (λ r there. go (test r) (weight_within (λ q. cond (test q) 1 0) there))
  where
    go : (b : Bool) → cond b 1 0 ≤ number test routes → b ≡ false
    go true h = absurd (omega arith)
    go false h = refl

module _ {t : Settings} {routes : List Route} {m : Memory} (kept : Kept t routes m) (some more : List Route) (r : Route) (parted : Parted some (r ∷ more) routes) where
  -- what the part and the next route weigh is at most what all weigh
  weight_part : (weight : Route → ℕ) → sum weight some + weight r ≤ sum weight routes
  unfolding sum
  weight_part weight = omega (arith, parted weight)

  pub next_fit : Fit r
  unfolding number
  next_fit = fit_says r (go (fit r) (weight_part (λ q. cond (not (fit q)) 1 0)))
    where
      go : (b : Bool) → number (λ q. not (fit q)) some + cond (not b) 1 0 ≤ number (λ q. not (fit q)) routes → b ≡ true
      go true h = refl
      go false h = absurd (omega (arith, kept.all_fit))

  absent : exists (about r.party r.prefix r.length) some ≡ false
  unfolding number about of_party
  absent = none_there (about r.party r.prefix r.length) some
      (let part = rw (eq-eqb r.party r.party refl, eq-eqb r.prefix r.prefix refl, eq-eqb r.length r.length refl) at (weight_part (λ q. cond (about r.party r.prefix r.length q) 1 0)) in
      omega (arith, part, kept.once r.party r.prefix r.length))

  of_length : 1 ≤ r.length → Ready t r.length
  of_length low = ready kept.range low next_fit.high

  pub vacancy : 1 ≤ r.length → crowded t some r.prefix r.length ≡ false
  unfolding number crowded beside
  vacancy low =
      let part = rw (eq-eqb r.length r.length refl, eq-eqb (bucket t r.prefix) (bucket t r.prefix) refl) at (weight_part (λ q. cond (beside t r.prefix r.length q) 1 0)) in
      ne_eqb _ _ (λ (e : number (beside t r.prefix r.length) some ≡ t.s). omega (arith, part, beside_few kept.slots r.prefix r.length (of_length low)))

  room : 1 ≤ r.length → overflows t some r.prefix r.length ≡ false
  unfolding overflows landings
  room low = any_none (λ j. ltb 15 (landings t some r.length j + count j (positions t r.prefix r.length))) (positions t r.prefix r.length) (λ j among.
      let part = rw (eq-eqb r.length r.length refl) at (weight_part (lands t r.length j)) in
      le-ltb 15 (landings t some r.length j + count j (positions t r.prefix r.length)) (omega (arith, part, kept.small r.length j (of_length low))))

  -- so the next one, with any valid hop, meets none of the conditions
  pub next_accepted : (hop : ℕ) → hop ≤ 65535 → add_number t some r.party r.prefix r.length hop ≡ 0
  next_accepted hop high = add_accepted (record {
    valid = record { known = next_fit.known; high = next_fit.high; tight = next_fit.tight };
    not_odd = next_fit.not_odd;
    hop_high = high;
    vacancy = λ absent. vacancy;
    room = λ absent. room;
  })

  -- the call that adds it
  abbrev call : Call
  call = Add r.party r.prefix r.length r.hop

  zero_given : number_given t some call ≡ 0
  unfolding number_given
  zero_given = next_accepted r.hop next_fit.hop_high

  noted_down : noted call (number_given t some call) some ≡ r ∷ some
  unfolding noted written
  noted_down = rw (zero_given, without_none r.party r.prefix r.length some absent)

-- ---- Added anew

-- what is left to add is accepted on paper, and then all is there
pub record Anew (t : Settings) (there more routes : List Route) : Type 0 where
  pub accepted : all (λ n. eqb n 0) (paper t there (adds more)).answers ≡ true
  pub same : Same (paper t there (adds more)).last routes

pub sized : (r : Route) → r.prefix < 2 ^ 32 → word_sized (Add r.party r.prefix r.length r.hop) ≡ true
unfolding word_sized
sized r word = lt-ltb r.prefix (2 ^ 32) word

pub anew : {t : Settings} {routes : List Route} {m : Memory} → Kept t routes m → (there more : List Route) → Parted there more routes → Anew t there more routes
unfolding paper each adds all sum
anew kept there [] parted = record { accepted = refl; same = λ weight. sym (add-zero (sum weight there)) ∙ parted weight }
anew {t} kept there (r ∷ more) parted =
    let rest = anew kept (r ∷ there) more (λ weight. omega (arith, parted weight)) in
    record {
      accepted = rw (noted_down kept there more r parted, zero_given kept there more r parted) rest.accepted;
      same = λ weight. rw (noted_down kept there more r parted, sum) (rest.same weight);
    }
