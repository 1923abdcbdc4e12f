-- 64 times 2^E times S fits, since E and S are at most 8.
use Prim.Native.Nat.{◌*◌, ◌%◌, ◌^◌, ◌≤◌}
use mathlib.Core.Path.{◌≡◌}
use mathlib.Core.Bool.{true}
use native.Mathlib.Nat.{mod-eq_of_lt, mul-le-mul}
use native.Mathlib.Omega.{arith}
use lib.Pow.{pow_mono}
use Rattle.rules.specs.declared.Settings.{Settings}
use Rattle.rules.proofs.Placing.{ranges}
use Rattle.rules.specs.Table.{in_range, slots_size}
use Rattle.settings.proofs.slots_asked.Goals as goal

module _ (t : Settings) (ready : in_range t ≡ true) where
  shifted : 64 * 2 ^ t.e % 2 ^ 64 ≡ 64 * 2 ^ t.e
  shifted = mod-eq_of_lt (omega (arith, pow_mono (ranges t ready).e_high))

  bounded : 64 * 2 ^ t.e * t.s ≤ 131072
  bounded = mul-le-mul {n₂ = 16384} (omega (arith, pow_mono (ranges t ready).e_high)) (ranges t ready).s_high

pub overflow_shl-result : goal.overflow_shl-result
overflow_shl-result c = omega (arith, ranges _ c.args.settings.now.range)

pub overflow_mul-result : goal.overflow_mul-result
overflow_mul-result c = let t = c.before in rw (shifted _ t.args.settings.now.range) (omega (arith, bounded _ t.args.settings.now.range))

pub overflow_add-result : goal.overflow_add-result
overflow_add-result c = let t = c.before in rw (shifted _ t.args.settings.now.range) (omega (arith, bounded _ t.args.settings.now.range))

pub returns : goal.returns
unfolding slots_size
returns c = rw (shifted _ c.args.settings.now.range)
