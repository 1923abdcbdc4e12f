-- The figures are a list of 20: what stands at each place of it is computed.
use mathlib.Core.Path.{◌≡◌}
use native.Mathlib.Omega.{arith}
use lib.ListN.{length}
use Rattle.replay_format.proofs.Tallies.{elements}
use Rattle.replay_tally.specs.Steps.{tally_added}
use Rattle.replay_tally.proofs.step.Goals as goal

pub returns : goal.returns
unfolding tally_added
returns c =
    let long : length c.args.earlier.refused ≡ 20 = omega arith in
    rw (← elements 20 c.args.earlier.refused long)
