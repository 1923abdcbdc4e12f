-- The contract leaves one result: two that meet it on the same arguments give back the same report or refusal and leave the
-- same bytes and words.
use mathlib.Core.Path.{◌≡◌, sym, ap, ◌∙◌}
use contract.Lifetimes.{Lfts}
use Rattle.message_format.proofs.Reports.{same_report}
use Rattle.message_calls.proofs.apply_message.Reads as apply_message

pub apply_message_determined : (κs : Lfts 4) (a : _) (r q : _) (s e : _) → apply_message.Post κs a r s → apply_message.Post κs a q e
    → (r ≡ q) × ((s.1.0.now ≡ e.1.0.now) × (s.1.1.0.now ≡ e.1.1.0.now))
apply_message_determined κs a r q s e one other =
    let same = sym one ∙ other in
    (same_report r q (ap (λ u. u.report) same), (ap (λ u. u.memory.counters) same, ap (λ u. u.memory.slots) same))
