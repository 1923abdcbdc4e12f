-- The top bits of g number a counter of the filter, and the counters are few: `number_fits` and `counters_few`.
use Rattle.std.proofs.Common.{◌≡◌, ◌+◌, refl, ◌∙◌, arith}
use Rattle.rules.specs.Table.{filter_bits, counter_place}
use Rattle.rules.proofs.Placing.{bits_at, filter_bits_high, number_fits, counters_few}
use Rattle.settings.proofs.Readiness.{ready}
use Rattle.filters.specs.Visits.{Placed}
use Rattle.filters.proofs.place_of.Goals as goal

pub top_bits-requires : goal.top_bits-requires
top_bits-requires c =
    omega (arith, c.from-bits.ensures, bits_at c.args.settings.now.all c.args.length.number, filter_bits_high _ _ (ready c.args.settings.now c.args.length))

sum : (c : goal.After-top_bits) → let a = c.args in Placed a.settings.now.all a.length.number a.g (a.start + c.top_bits.result)
unfolding counter_place
sum c =
    let start = c.before in
    let bits : c.from-bits.result ≡ filter_bits start.args.settings.now.all start.args.length.number = c.from-bits.ensures ∙ bits_at _ _ in
    rw (start.requires, c.top_bits.ensures, bits) (record { there = refl; inside = number_fits _ _ _ (ready start.args.settings.now start.args.length) start.ranges.g.fits })

pub overflow_add-result : goal.overflow_add-result
overflow_add-result c = omega (arith, (sum c).inside, counters_few _ c.args.settings.now.range)

pub returns : goal.returns
returns c = sum c
