-- The number and the memory are those of the table's call.
use mathlib.Core.Path.{◌∙◌}
use Rattle.c_calls.proofs.Whole.{clear_alike}
use Rattle.gateway.proofs.Crossings.{crossed}
use Rattle.gateway.proofs.gateway_clear.Goals as goal

pub returns : goal.returns
returns c =
    let call = c.before in
    crossed (clear_alike _ call.settings_of.ensures _ ∙ call.clear.ensures) c.number_of_outcome.ensures
