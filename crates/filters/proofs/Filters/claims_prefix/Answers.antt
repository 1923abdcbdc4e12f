-- While no counter was zero, the claim hangs on the places that are left.
use Rattle.std.proofs.Common.{◌*◌, sym, refl, ap, ◌∙◌, pos_of_ne-zero, lt-ltb}
use Rattle.rules.specs.Tools.{all}
use Rattle.rules.specs.Table.{wrap, claims}
use Rattle.rules.proofs.Placing.{ranges}
use Rattle.filters.proofs.Hashing.{first_left, one_left, none_left}
use Rattle.filters.proofs.Filters.claims_prefix.Invariants.{nonzero}
use Rattle.filters.proofs.Filters.claims_prefix.Goals as goal

pub returns-then-counters-first-eq0 : goal.returns-then-counters-first-eq0
unfolding claims nonzero all
returns-then-counters-first-eq0 c =
    let a = c.args in
    let next = first_left a.self.now.settings.now.all a.length.number (wrap (a.self.now.settings.now.all.b * a.p)) a.p refl c.product-once.ensures (ranges _ c.args.self.now.settings.now.range).k_low c.place_of-first.ensures refl in
    sym (ap (nonzero a.self.now.counters.now) next ∙ rw c.if-counters-first-eq0.true)

pub loop-init : goal.loop-init
unfolding claims nonzero all
loop-init c =
    let a = c.args in
    let next = first_left a.self.now.settings.now.all a.length.number _ a.p c.growth_of-growth.ensures c.product-once.ensures (ranges _ c.args.self.now.settings.now.range).k_low c.place_of-first.ensures c.grow-g.ensures in
    (refl, ap (nonzero a.self.now.counters.now) next ∙ rw (lt-ltb 0 _ (pos_of_ne-zero c.if-counters-first-eq0.false)))

pub loop-preserved : goal.loop-preserved
unfolding nonzero all
loop-preserved c =
    let next = one_left _ _ _ _ c.loop-test.true c.place_of-place.ensures c.grow-g-in-loop.ensures in (
      c.loop.invariant.0,
      c.loop.invariant.1 ∙ ap (nonzero c.args.self.now.counters.now) next ∙ rw (lt-ltb 0 _ (pos_of_ne-zero c.if-counters-place-eq0.false)),
    )

pub returns-after-loop : goal.returns-after-loop
unfolding nonzero all
returns-after-loop c =
    let last = none_left _ _ _ _ _ c.loop-test.false in
    c.loop.invariant.0 ∙ sym (c.loop.invariant.1 ∙ ap (nonzero c.args.self.now.counters.now) last)

pub returns-then-counters-place-eq0 : goal.returns-then-counters-place-eq0
unfolding nonzero all
returns-then-counters-place-eq0 c =
    let next = one_left _ _ _ _ c.loop-test.true c.place_of-place.ensures refl in
    sym (c.loop.invariant.1 ∙ ap (nonzero c.args.self.now.counters.now) next ∙ rw c.if-counters-place-eq0.true)
