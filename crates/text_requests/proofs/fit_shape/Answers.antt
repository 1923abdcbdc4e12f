-- `text_requests::fit_shape` meets its contract. The invariant: the whole shape's answer is that of the items still to come, from where the line is read to.
use mathlib.Core.Path.{sym}
use Rattle.text_requests.specs.Shapes.{no_numbers, fit_shape}
use Rattle.text_requests.proofs.Items.{items_more, items_end}
use Rattle.text_requests.proofs.fit_shape.Goals as goal

pub loop-item-init : goal.loop-item-init
unfolding fit_shape no_numbers
loop-item-init c =
    let none = c.default-numbers.ensures in
    rw (none.0, none.1.0, none.1.1)

pub returns-in_err-numbers : goal.returns-in_err-numbers
returns-in_err-numbers c =
    let a = c.args in
    let l = c.loop-item in
    let told = sym c.in_err-numbers.ensures in
    simp (c.from_residual.ensures, l.invariant, items_more a.shape.now a.line.now l.item-index l.at l.numbers c.loop-item-test.true, told)

pub loop-item-preserved : goal.loop-item-preserved
loop-item-preserved c =
    let a = c.args in
    let l = c.loop-item in
    let told = sym c.in_ok-numbers.ensures in
    simp (l.invariant, items_more a.shape.now a.line.now l.item-index l.at l.numbers c.loop-item-test.true, told)

pub returns : goal.returns
returns c =
    let a = c.args in
    let l = c.loop-item in
    simp (c.then_some.ensures, l.invariant, items_end a.shape.now a.line.now l.item-index l.at l.numbers c.loop-item-test.false)
