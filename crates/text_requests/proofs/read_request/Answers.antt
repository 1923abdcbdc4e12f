-- `text_requests::read_request` meets its contract: each shape that did not fit goes to the next one, and the first that fits names the call.
use mathlib.Core.Path.{sym}
use borrow.Author.Tests.{lt-ltb, le-ltb}
use Rattle.text_requests.specs.Shapes.{request}
use Rattle.text_requests.proofs.read_request.Goals as goal

pub returns-then-line-gt64 : goal.returns-then-line-gt64
unfolding request
returns-then-line-gt64 c = simp (lt-ltb _ _ c.if-line-gt64.true)

pub returns-in-Some : goal.returns-in-Some
unfolding request
returns-in-Some c =
    simp
    (le-ltb _ _ c.if-line-gt64.false, sym c.in-Some.ensures)

pub returns-in-Some-fit_shape : goal.returns-in-Some-fit_shape
unfolding request
returns-in-Some-fit_shape c =
    simp
    (le-ltb _ _ c.if-line-gt64.false, sym c.in_default.ensures, sym c.in-Some-fit_shape.ensures)

pub returns-in-Some-fit_shape-2 : goal.returns-in-Some-fit_shape-2
unfolding request
returns-in-Some-fit_shape-2 c =
    simp
    (le-ltb _ _ c.if-line-gt64.false, sym c.in_default.ensures, sym c.in_default-fit_shape.ensures, sym c.in-Some-fit_shape-2.ensures)

pub returns-in_err-found : goal.returns-in_err-found
unfolding request
returns-in_err-found c =
    simp
    (c.from_residual.ensures, le-ltb _ _ c.if-line-gt64.false, sym c.in_default.ensures, sym c.in_default-fit_shape.ensures, sym c.in_default-fit_shape-2.ensures, sym c.in_err-found.ensures)

pub returns : goal.returns
unfolding request
returns c =
    simp
    (le-ltb _ _ c.if-line-gt64.false, sym c.in_default.ensures, sym c.in_default-fit_shape.ensures, sym c.in_default-fit_shape-2.ensures, sym c.in_ok-found.ensures)
