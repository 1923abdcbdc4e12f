-- `text_lines::has_room` meets its contract: the tests stand in the order of `roomy`, and a quotient stands for the product, which might not fit.
use native.Mathlib.Omega.{arith}
use Rattle.std.proofs.lemmas.Bool.Decides.{nat_tests}
use Rattle.text_lines.specs.Lines.{roomy}
use Rattle.text_lines.proofs.has_room.Goals as goal

pub returns-then-kept-le65 : goal.returns-then-kept-le65
unfolding roomy
returns-then-kept-le65 c = grind (arith, nat_tests)

pub returns-else-kept-le65 : goal.returns-else-kept-le65
unfolding roomy
returns-else-kept-le65 c = grind (arith, nat_tests)
