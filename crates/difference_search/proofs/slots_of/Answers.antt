-- Settings in range keep the number small, so that nothing wraps.
use native.Mathlib.Omega.{arith}
use Rattle.rules.proofs.Placing.{ranges}
use Rattle.difference_search.proofs.slots_of.Goals as goal

pub overflow_shl-result : goal.overflow_shl-result
overflow_shl-result c = omega (arith, ranges _ c.args.settings.now.range)
