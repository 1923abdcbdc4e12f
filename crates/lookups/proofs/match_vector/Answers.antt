-- A refusal stops it, and past the checks the vector is that of the rules.
use mathlib.Core.Path.{refl, sym}
use borrow.Author.Tests.{ne_eqb}
use Rattle.std.proofs.lemmas.Result.{err_from_is_err_and}
use Rattle.rules.specs.Table.{lent, match_vector}
use Rattle.rules.proofs.Numbers.{refusal_nonzero}
use Rattle.rules.proofs.Refusals.{memory_passed}
use Rattle.lookups.proofs.match_vector.Goals as goal

pub returns-in_err-refuse_sizes : goal.returns-in_err-refuse_sizes
unfolding match_vector
returns-in_err-refuse_sizes g c =
    let p = err_from_is_err_and c.from_residual.result c.from_residual.ensures.1 in
    let m = lent c.args.counters.now (g.T.Cell.words c.args.slots.now) in
    rw (p.1, p.2, ← c.in_err-refuse_sizes.ensures m refl (sym c.word_count.ensures), ne_eqb _ _ (refusal_nonzero c.in_err-refuse_sizes.field-0.0))

pub invariant_of-settings : goal.invariant_of-settings
invariant_of-settings g c =
    let m = lent c.args.counters.now (g.T.Cell.words c.args.slots.now) in
    record { range = (memory_passed _ _ _ _ (sym (c.in_ok-refuse_sizes.ensures m refl (sym c.word_count.ensures)))).0.range }

pub invariant_of-vector_of : goal.invariant_of-vector_of
invariant_of-vector_of g c =
    let m = lent c.args.counters.now (g.T.Cell.words c.args.slots.now) in
    record { sized = record { size = (memory_passed _ _ _ _ (sym (c.in_ok-refuse_sizes.ensures m refl (sym c.word_count.ensures)))).0.counters_fit } }

pub returns : goal.returns
unfolding match_vector
returns g c =
    let m = lent c.args.counters.now (g.T.Cell.words c.args.slots.now) in
    rw (← c.in_ok-refuse_sizes.ensures m refl (sym c.word_count.ensures), c.vector_of.ensures)
