-- The code's test is whether the bytes are whole words.
use mathlib.Core.Path.{sym}
use Rattle.words.proofs.Words.{count_whole, count_none}
use Rattle.words.proofs.U8Cell.word_count.Goals as goal

pub returns-then-list-ne0 : goal.returns-then-list-ne0
returns-then-list-ne0 c = sym (count_none _ c.if-list-ne0.true)

pub returns : goal.returns
returns c = sym (count_whole _ c.if-list-ne0.false)
