-- Each return is a law of proofs/Headers.antt.
use mathlib.Core.Path.{sym, ◌∙◌}
use native.Mathlib.Omega.{arith}
use Rattle.message_format.specs.Format.{byte}
use Rattle.message_readers.proofs.Headers.{not_sized, unmarked, by_type}
use Rattle.message_readers.proofs.header_good.Goals as goal
use Rattle.message_readers.proofs.header_good.Goals.{then-not-contains-via-then-not-contains, then-not-contains-via-else-not-contains+then-not-all_ones}

pub returns-then-not-contains : goal.returns-then-not-contains
returns-then-not-contains c =
    elim c.then-not-contains.branch [
      | then-not-contains-via-then-not-contains w ↦ sym (not_sized _ (λ low high. grind arith))
      | then-not-contains-via-else-not-contains+then-not-all_ones w ↦ sym (unmarked _ (grind arith) (grind arith) (sym w.all_ones.ensures ∙ w.if-not-all_ones.true))
    ]

pub returns-then-two_bytes-message : goal.returns-then-two_bytes-message
unfolding byte
returns-then-two_bytes-message c =
    sym (by_type _ (grind arith) (grind arith) (sym c.all_ones.ensures ∙ c.if-not-all_ones.false) (sym c.two_bytes.ensures ∙ c.if-two_bytes-message.true))
