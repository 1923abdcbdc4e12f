-- The bucket is the product's top bits, by what the two callees ensure.
use mathlib.Core.Path.{◌∙◌, ap}
use Prim.Native.Nat.{ℕ, ◌-◌, ◌/◌, ◌^◌}
use Rattle.rules.specs.Table.{bucket}
use Rattle.hashes.proofs.bucket_of.Goals as goal

pub returns : goal.returns
unfolding bucket
returns c = c.top_bits.ensures ∙ ap (λ (g : ℕ). g / 2 ^ (32 - c.args.settings.e)) c.product.ensures
