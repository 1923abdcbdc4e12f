-- A refusal stops it, and past the checks the place in which the search ends answers.
use mathlib.Core.Path.{refl, sym, ◌∙◌}
use Rattle.std.proofs.lemmas.Result.{err_from_is_err_and}
use Rattle.rules.specs.Table.{lent}
use Rattle.rules.proofs.Answers.{by_vector}
use Rattle.rules.proofs.Refusals.{party_passed}
use Rattle.lookup_answers.proofs.Lookups.{stopped}
use Rattle.lookups.proofs.lookup.Goals as goal

pub returns-in_err-whose : goal.returns-in_err-whose
returns-in_err-whose g c =
    let p = err_from_is_err_and c.from_residual.result c.from_residual.ensures.1 in
    let m = lent c.args.counters.now (g.T.Cell.words c.args.slots.now) in
    rw (p.1, p.2) (stopped _ m _ _ _ (c.in_err-whose.ensures.refusal m refl (sym c.word_count.ensures)))

pub invariant_of-settings : goal.invariant_of-settings
invariant_of-settings g c =
    let m = lent c.args.counters.now (g.T.Cell.words c.args.slots.now) in
    record { range = (party_passed _ _ _ _ _ (sym (c.in_ok-whose.ensures.refusal m refl (sym c.word_count.ensures)))).0.memory.range }

pub invariant_of-vector_of : goal.invariant_of-vector_of
invariant_of-vector_of g c =
    let m = lent c.args.counters.now (g.T.Cell.words c.args.slots.now) in
    record { sized = record { size = (party_passed _ _ _ _ _ (sym (c.in_ok-whose.ensures.refusal m refl (sym c.word_count.ensures)))).0.memory.counters_fit } }

pub invariant_of-stored : goal.invariant_of-stored
invariant_of-stored g c =
    let m = lent c.args.counters.now (g.T.Cell.words c.args.slots.now) in
    record { sized = record { size = (party_passed _ _ _ _ _ (sym (c.in_ok-whose.ensures.refusal m refl (sym c.word_count.ensures)))).0.memory.slots_fit } }

pub returns : goal.returns
returns g c =
    let m = lent c.args.counters.now (g.T.Cell.words c.args.slots.now) in
    let fitted = party_passed _ _ _ _ _ (sym (c.in_ok-whose.ensures.refusal m refl (sym c.word_count.ensures))) in
    c.answer_address.ensures ∙ rw c.in_ok-whose.ensures.known (sym (by_vector _ _ _ _ _ _ fitted.0 c.vector_of-claimed.ensures))
