-- The checks are those of the rules, and past them the sizes fit.
use mathlib.Core.Path.{◌∙◌, sym, refl, ap}
use native.Mathlib.Nat.{suc-ne-zero}
use native.Mathlib.Omega.{arith}
use lib.ListN.{length}
use borrow.Author.Tests.{eq-eqb, ne_eqb}
use Rattle.std.proofs.lemmas.Result.{err_from_is_err_and}
use Rattle.rules.specs.Table.{lent, words, refuse, answered, c_list_refusal, c_lookup_list}
use Rattle.rules.proofs.Numbers.{refused_number}
use Rattle.rules.proofs.Refusals.{list_passing, handed_on, let_by}
use Rattle.rules.proofs.Lists.{list_passed, refused_list, accepted_list}
use Rattle.words.proofs.Words.{count_whole}
use Rattle.c_calls.proofs.lookup_list.Goals as goal

pub returns-in_err-whose : goal.returns-in_err-whose
unfolding c_lookup_list c_list_refusal
returns-in_err-whose c =
    let m = lent c.args.counters.now (words c.args.slots.now) in
    let handed = err_from_is_err_and c.from_residual.result c.from_residual.ensures.1 in
    refused_list _ _ _
    (handed_on (list_passing _ _ _ _ _) handed (c.in_err-whose.ensures.refusal m refl (sym c.word_count.ensures)) _)
    (refused_number handed.1)

pub returns-then-addresses-ne0 : goal.returns-then-addresses-ne0
unfolding c_lookup_list c_list_refusal refuse
returns-then-addresses-ne0 c =
    let m = lent c.args.counters.now (words c.args.slots.now) in
    refused_list _ _ _
    (sym (let_by (list_passing _ _ _ _ _) (c.in_ok-whose.ensures.refusal m refl (sym c.word_count.ensures)) refl _ ∙ simp (ne_eqb _ _ c.if-addresses-ne0.true)))
    (suc-ne-zero 17)

pub invariant_of-settings : goal.invariant_of-settings
invariant_of-settings c =
    let a = c.args in
    let passed = list_passed (length a.addresses.now) (length a.results.now) a.settings.now a.counters.now (words a.slots.now) a.party 0 (sym (c.in_ok-whose.ensures.refusal (lent a.counters.now (words a.slots.now)) refl (sym c.word_count.ensures))) in
    record { range = passed.0.memory.range }

pub invariant_of-filters : goal.invariant_of-filters
invariant_of-filters c =
    let a = c.args in
    let passed = list_passed (length a.addresses.now) (length a.results.now) a.settings.now a.counters.now (words a.slots.now) a.party 0 (sym (c.in_ok-whose.ensures.refusal (lent a.counters.now (words a.slots.now)) refl (sym c.word_count.ensures))) in
    record { sized = record { size = passed.0.memory.counters_fit } }

pub answer_list-requires : goal.answer_list-requires
answer_list-requires c =
    let a = c.args in
    let passed = list_passed (length a.addresses.now) (length a.results.now) a.settings.now a.counters.now (words a.slots.now) a.party 0 (sym (c.in_ok-whose.ensures.refusal (lent a.counters.now (words a.slots.now)) refl (sym c.word_count.ensures))) in
    record {
      slots = record { size = passed.0.memory.slots_fit };
      whole = omega (arith, count_whole a.addresses.now c.if-addresses-ne0.false, c.if-addresses-ne0.false);
      results_len = passed.1;
    }

pub returns : goal.returns
unfolding c_lookup_list c_list_refusal refuse
returns c =
    let m = lent c.args.counters.now (words c.args.slots.now) in
    accepted_list _ _ _
    (sym (let_by (list_passing _ _ _ _ _) (c.in_ok-whose.ensures.refusal m refl (sym c.word_count.ensures)) refl _ ∙ simp (eq-eqb _ _ c.if-addresses-ne0.false)))
    refl
    ∙ ap (answered 0) (rw (← c.in_ok-whose.ensures.known) (sym c.answer_list.ensures))
