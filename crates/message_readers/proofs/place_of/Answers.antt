-- The part that is searched is the list's first 65,536.
use mathlib.Core.Path.{sym}
use native.Mathlib.Omega.{arith}
use Rattle.std.proofs.lemmas.List.{take_all, length-take-le}
use Rattle.message_readers.proofs.place_of.Goals as goal
use Rattle.message_readers.proofs.place_of.Goals.{then-hops-gt65536, else-hops-gt65536}

pub slice_bounds-near-end : goal.slice_bounds-near-end
slice_bounds-near-end c = sym (length-take-le _ _ (grind (arith, c.if-hops-gt65536.true)))

pub returns : goal.returns
returns c =
    elim c.if-hops-gt65536.branch [
      | then-hops-gt65536 w ↦ simp (c.first_place.ensures, w.near-is)
      | else-hops-gt65536 w ↦ simp (c.first_place.ensures, w.near-is, take_all 65536 c.args.hops.now (grind (arith, w.if-hops-gt65536.false)))
    ]
