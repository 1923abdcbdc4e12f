-- `text_requests::fit_shape` meets its contract. The invariant: the whole shape's answer is that of the items still to come, from where the line is read to.
use mathlib.Core.Path.{◌≡◌}
use lib.ListN.{drop}
use Rattle.text_requests.specs.Shapes.{items, fit_shape}
use Rattle.text_requests.proofs.fit_shape.Given as goal

abbrev pub invariant-loop-item : goal.invariant-loop-item
invariant-loop-item l = fit_shape l.shape l.line ≡ items (drop l.item-index l.shape) l.line l.at l.numbers
