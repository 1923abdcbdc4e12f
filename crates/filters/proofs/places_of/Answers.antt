-- The places are those written so far and those that are left: `one_written`.
use Rattle.std.proofs.Common.{sym, ◌∙◌, length-take-le, take_at, arith}
use Rattle.rules.proofs.Placing.{ranges}
use Rattle.filters.proofs.Hashing.{all_left, one_written, all_written}
use Rattle.filters.proofs.places_of.Goals as goal

pub slice_bounds-places-end : goal.slice_bounds-places-end
slice_bounds-places-end c = (ranges _ c.args.settings.now.range).k_high

pub slice_bounds-place-items-end : goal.slice_bounds-place-items-end
slice_bounds-place-items-end c = sym (length-take-le _ _ (ranges _ c.args.settings.now.range).k_high)

pub loop-place-init : goal.loop-place-init
loop-place-init c =
    let a = c.args in
    record {
      size = length-take-le _ _ (ranges _ c.args.settings.now.range).k_high;
      ends = all_left a.settings.now.all a.length.number _ a.p c.growth_of-growth.ensures c.product-g.ensures;
    }

pub loop-place-preserved : goal.loop-place-preserved
loop-place-preserved c = one_written c.loop-place.invariant (omega (arith, c.loop-place-test.true, c.loop-place.auto)) c.place_of.ensures c.grow-g.ensures

pub returns : goal.returns
returns c =
    let w = c.loop-place.invariant in
    take_at _ _ _ w.size ∙ all_written w (omega (arith, c.loop-place-test.false, c.loop-place.auto))
