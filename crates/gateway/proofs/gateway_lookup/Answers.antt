-- The number is that of the answer.
use mathlib.Core.Path.{◌∙◌, ap}
use Rattle.rules.specs.Table.{answer_number, c_lookup}
use Rattle.c_calls.proofs.Whole.{lookup_alike}
use Rattle.c_numbers.proofs.Fitting.{lookup_fits}
use Rattle.gateway.proofs.gateway_lookup.Goals as goal

pub number_of_answer-requires : goal.number_of_answer-requires
number_of_answer-requires c = rw c.lookup.ensures (lookup_fits _ _ _ _)

pub returns : goal.returns
unfolding c_lookup
returns c = rw (lookup_alike _ c.settings_of-settings.ensures) (c.number_of_answer.ensures ∙ ap answer_number c.lookup.ensures)
