-- `text_answers::put_found` meets its contract: what is put is said by the numbers that the lookup gives.
use borrow.Author.Tests.{ne_eqb}
use Rattle.rules.specs.Table.{refused}
use Rattle.rules.proofs.Numbers.{refusal_nonzero}
use Rattle.text_answers.specs.Texts.{lookup_text}
use Rattle.text_answers.proofs.put_found.Goals as goal

pub returns-in-Err : goal.returns-in-Err
unfolding lookup_text refused
returns-in-Err c = rw (c.in-Err.is, ne_eqb _ _ (refusal_nonzero c.in-Err.refusal)) c.put_outcome.ensures
