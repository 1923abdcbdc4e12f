-- The number and the results are those of the list.
use mathlib.Core.Path.{◌∙◌}
use Rattle.c_calls.proofs.Whole.{list_alike}
use Rattle.gateway.proofs.Crossings.{list_crossed}
use Rattle.gateway.proofs.gateway_lookup_list.Goals as goal

pub returns : goal.returns
returns c =
    let call = c.before in
    list_crossed (list_alike _ call.settings_of-settings.ensures _ _ _ _ _ ∙ call.lookup_list.ensures) c.number_of_outcome.ensures
