-- The word's bytes are there, and it is made of them.
use mathlib.Core.Path.{sym, ◌∙◌}
use native.Mathlib.Omega.{arith}
use Rattle.words.proofs.Words.{reaches, word_is}
use Rattle.words.proofs.U8Cell.word_at.Goals as goal

pub overflow_mul-at : goal.overflow_mul-at
overflow_mul-at c = omega (arith, reaches _ _ c.requires)

pub bounds-list-at : goal.bounds-list-at
bounds-list-at c = omega (arith, reaches _ _ c.requires)

pub overflow_add-at : goal.overflow_add-at
overflow_add-at c = omega (arith, reaches _ _ c.requires)

pub bounds-list-at-2 : goal.bounds-list-at-2
bounds-list-at-2 c = omega (arith, reaches _ _ c.requires)

pub overflow_add-at-2 : goal.overflow_add-at-2
overflow_add-at-2 c = omega (arith, reaches _ _ c.requires)

pub bounds-list-at-3 : goal.bounds-list-at-3
bounds-list-at-3 c = omega (arith, reaches _ _ c.requires)

pub overflow_add-at-3 : goal.overflow_add-at-3
overflow_add-at-3 c = omega (arith, reaches _ _ c.requires)

pub bounds-list-at-4 : goal.bounds-list-at-4
bounds-list-at-4 c = omega (arith, reaches _ _ c.requires)

pub returns : goal.returns
returns c = c.from_le_bytes.ensures ∙ sym (word_is _ _ c.requires)
