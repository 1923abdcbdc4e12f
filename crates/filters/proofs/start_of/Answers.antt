-- What is summed is the filters of the shorter lengths, which fit: `filter_fits`.
use Rattle.std.proofs.Common.{◌≡◌, ℕ, ◌+◌, ◌-◌, ◌^◌, ◌<◌, ◌≤◌, List, [], ◌∷◌, take, All, length-take, get_or-take, sym, refl, ap, ◌∙◌, arith, rules}
use Rattle.std.specs.List.{sum_by}
use Rattle.std.proofs.lemmas.List.Sums.{sum_by-cons}
use Rattle.std.proofs.lemmas.List.Elements.{All-from_get_or}
use Rattle.std.proofs.lemmas.Iterator.{YieldsList-from_slice}
use Rattle.std.proofs.lemmas.Iterator.Adapters.{serves_from_places}
use Rattle.rules.specs.declared.Settings.{Settings}
use Rattle.rules.specs.Table.{filters_size, filter_start}
use Rattle.rules.specs.Ready.{Ready}
use Rattle.rules.proofs.Placing.{bits_listed, filter_bits_high, filter_fits, counters_few}
use Rattle.settings.proofs.Readiness.{ready}
use Rattle.filters.proofs.start_of.Goals as goal

-- the filters of a list have together as many counters as the sum has
summed : (d : List ℕ) → filters_size d ≡ sum_by (λ D. 2 ^ D) d
unfolding filters_size
summed [] = refl
summed (D ∷ d) = rw (sum_by-cons (λ D. 2 ^ D) D d) (ap (λ (n : ℕ). 2 ^ D + n) (summed d))

module _ (t : Settings) (L : ℕ) (its : Ready t L) where
  few : All (λ D. D ≤ 11) (take (L - 1) t.d)
  few = All-from_get_or (λ D. D ≤ 11) (take (L - 1) t.d) 0 (λ i less.
      let before : i < L - 1 = omega (arith, length-take (L - 1) t.d) in
      rw (get_or-take (L - 1) t.d i 0 before, bits_listed t i) (filter_bits_high t (i + 1) (record { range = its.range; low = omega arith; high = omega (arith, its.high) })))

  fits : sum_by (λ D. 2 ^ D) (take (L - 1) t.d) < 2 ^ 32
  unfolding filter_start
  fits = omega (arith, summed (take (L - 1) t.d), filter_fits t L its, counters_few t its.range)

pub sum-requires-clause-can : goal.sum-requires-clause-can
sum-requires-clause-can c =
    let each : All (λ D. D ≤ 11) (take (c.args.length.number - 1) c.args.settings.now.all.d) = few _ _ (ready c.args.settings.now c.args.length) in (
      tt,
      serves_from_places (YieldsList-from_slice (take (c.args.length.number - 1) c.args.settings.now.all.d) cc) (λ x q k. search rules) (λ x k less is.
          let small : x.now ≤ 11 = omega (arith, is, each k x.now less) in search rules),
    )

pub sum-requires-clause-fits : goal.sum-requires-clause-fits
sum-requires-clause-fits c =
    let each : All (λ D. D ≤ 11) (take (c.args.length.number - 1) c.args.settings.now.all.d) = few _ _ (ready c.args.settings.now c.args.length) in
    let all : sum_by (λ D. 2 ^ D) (take (c.args.length.number - 1) c.args.settings.now.all.d) < 2 ^ 32 = fits _ _ (ready c.args.settings.now c.args.length) in
    search rules

pub returns : goal.returns
unfolding filter_start
returns c =
    let all : c.sum.result ≡ sum_by (λ D. 2 ^ D) (take (c.args.length.number - 1) c.args.settings.now.all.d) = search rules in
    all ∙ sym (summed _)
