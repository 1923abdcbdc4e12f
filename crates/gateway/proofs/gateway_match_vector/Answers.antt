-- The number is that of the vector.
use mathlib.Core.Path.{◌∙◌, ap}
use Rattle.rules.specs.Table.{vector_number, c_match_vector}
use Rattle.c_calls.proofs.Whole.{vector_alike}
use Rattle.gateway.proofs.gateway_match_vector.Goals as goal

pub returns : goal.returns
unfolding c_match_vector
returns c = rw (vector_alike _ c.settings_of-settings.ensures) (c.number_of_word.ensures.vector ∙ ap vector_number c.match_vector.ensures)
