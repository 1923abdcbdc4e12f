-- The checks of the first table are passed on by `memory_passing` to those of the second.
use mathlib.Core.Path.{◌∙◌, sym, refl}
use Rattle.std.proofs.lemmas.Result.{err_from_is_err_and}
use Rattle.rules.specs.Table.{lent}
use Rattle.rules.proofs.Numbers.{refusal_nonzero}
use Rattle.rules.proofs.Refusals.{memory_passing, stopped, let_by}
use Rattle.difference_calls.proofs.refuse_tables.Goals as goal

pub returns-in_err-refuse_sizes-clause-refusal : goal.returns-in_err-refuse_sizes-clause-refusal
returns-in_err-refuse_sizes-clause-refusal g c =
    let p = err_from_is_err_and c.from_residual.result c.from_residual.ensures.1 in
    let m = lent c.args.counters.now (g.T.Cell.words c.args.slots.now) in
    rw (p.1, p.2) (stopped (memory_passing _ m) (c.in_err-refuse_sizes.ensures m refl (sym c.word_count.ensures)) (refusal_nonzero _) _)

pub returns-clause-refusal : goal.returns-clause-refusal
returns-clause-refusal g c =
    let m = lent c.args.counters.now (g.T.Cell.words c.args.slots.now) in
    let n = lent c.args.counters2.now (g.T.Cell.words c.args.slots2.now) in
    c.refuse_party_sizes.ensures.refusal n refl (sym c.word_count-2.ensures)
    ∙ sym (let_by (memory_passing _ m) (c.in_ok-refuse_sizes.ensures m refl (sym c.word_count.ensures)) refl _)
