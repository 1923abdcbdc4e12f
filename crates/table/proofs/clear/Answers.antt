-- The checks are those of the rules, and each list is filled with zeros.
use mathlib.Core.Path.{◌∙◌, sym, refl, ap₂}
use Rattle.std.proofs.lemmas.Result.{err_from_is_err_and}
use Rattle.rules.specs.Table.{clear, zeroed, left}
use Rattle.rules.proofs.Numbers.{refused_number}
use Rattle.rules.proofs.Refusals.{memory_passing, handed_on, refused_by, accepted_by}
use Rattle.table.proofs.clear.Goals as goal

pub returns-in_err-refuse_memory : goal.returns-in_err-refuse_memory
unfolding clear
returns-in_err-refuse_memory c =
    let handed = err_from_is_err_and c.from_residual.result c.from_residual.ensures.1 in
    refused_by _ _ _ (handed_on (memory_passing _ _) handed c.in_err-refuse_memory.ensures _) (refused_number handed.1)

pub returns : goal.returns
unfolding clear zeroed
returns c = accepted_by _ _ _ c.in_ok-refuse_memory.ensures refl
    ∙ ap₂ (left 0) (sym (c.fill.ensures.after (λ y e. e))) (sym (c.fill-2.ensures.after (λ y e. e)))
