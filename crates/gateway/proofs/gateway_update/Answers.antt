-- The number and the memory are those of the message.
use mathlib.Core.Path.{◌∙◌}
use Rattle.c_calls.proofs.Whole.{message_alike}
use Rattle.c_numbers.proofs.Fitting.{message_fits}
use Rattle.gateway.proofs.Crossings.{counts_fit_above, message_crossed}
use Rattle.gateway.proofs.gateway_update.Goals as goal

pub number_of_report-requires : goal.number_of_report-requires
number_of_report-requires c = counts_fit_above c.apply_message.ensures (message_fits _ _ _ _ _)

pub returns : goal.returns
returns c =
    let call = c.before in
    message_crossed (message_alike _ call.settings_of-settings.ensures _ _ _ _ ∙ call.apply_message.ensures) c.number_of_report.ensures
