-- The number and the list are those of the comparison.
use mathlib.Core.Path.{◌∙◌}
use Rattle.c_calls.proofs.Whole.{first_alike, second_alike}
use Rattle.gateway.proofs.Crossings.{comparison_crossed}
use Rattle.gateway.proofs.gateway_list_differences.Goals as goal

pub returns : goal.returns
returns c =
    let call = c.before in
    let made = call.before in
    comparison_crossed
    (first_alike _ made.settings_of-first.ensures _ _ _ _ _ _ _ ∙ second_alike _ made.settings_of-second.ensures _ _ _ _ _ _ _ ∙ call.difference_in_bytes.ensures)
    c.number_of_word.ensures.count
