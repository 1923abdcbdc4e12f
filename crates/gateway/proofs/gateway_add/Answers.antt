-- The number and the memory are those of the table's call.
use mathlib.Core.Path.{◌∙◌}
use Rattle.c_calls.proofs.Whole.{add_alike}
use Rattle.gateway.proofs.Crossings.{crossed}
use Rattle.gateway.proofs.gateway_add.Goals as goal

pub returns : goal.returns
returns c =
    let call = c.before in
    crossed (add_alike _ call.settings_of-settings.ensures _ _ _ _ _ ∙ call.add.ensures) c.number_of_outcome.ensures
