-- The number is that of the rules; settings in range keep it small, so that nothing wraps.
use mathlib.Core.Path.{sym}
use native.Mathlib.Nat.{add-zero}
use native.Mathlib.Omega.{arith}
use Rattle.rules.specs.Table.{slot_number}
use Rattle.rules.proofs.Placing.{ranges}
use Rattle.settings.proofs.Readiness.{ready}
use Rattle.buckets.proofs.Slots.{before_whole, bucket_small, first_small}
use Rattle.buckets.proofs.first_slot.Goals as goal

pub bucket_of-bucket-requires : goal.bucket_of-bucket-requires
bucket_of-bucket-requires c = (ranges _ c.args.settings.now.range).e_high

pub overflow_shl-earlier : goal.overflow_shl-earlier
overflow_shl-earlier c = omega (arith, ranges _ c.args.settings.now.range)

pub overflow_add-result : goal.overflow_add-result
overflow_add-result c =
    let start = c.before in
    let small = bucket_small _ start.args.p _ (ready start.args.settings.now start.args.length) in
    rw (before_whole _ 0 _ (ready start.args.settings.now start.args.length), c.bucket_of-bucket.ensures) (omega arith)

pub overflow_mul-result : goal.overflow_mul-result
overflow_mul-result c =
    let start = c.before in
    let small = first_small _ start.args.p _ (ready start.args.settings.now start.args.length) in
    rw (before_whole _ 0 _ (ready start.args.settings.now start.args.length), c.bucket_of-bucket.ensures) (omega arith)

pub returns : goal.returns
unfolding slot_number
returns c =
    rw (before_whole _ 0 _ (ready c.args.settings.now c.args.length), c.bucket_of-bucket.ensures) (sym (add-zero _))
