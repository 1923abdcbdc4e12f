-- `text_lines::has_room_at` meets its contract: what is left from the position on is compared.
use native.Mathlib.Omega.{arith}
use Rattle.std.proofs.lemmas.Bool.Decides.{nat_tests}
use Rattle.text_lines.specs.Lines.{answer_fits}
use Rattle.text_lines.proofs.has_room_at.Goals as goal

pub returns : goal.returns
unfolding answer_fits
returns c = grind (arith, nat_tests)
