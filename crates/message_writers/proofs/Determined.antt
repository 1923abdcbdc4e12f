-- The contract leaves one result: two that meet it on the same arguments give back the same and leave the same bytes.
use mathlib.Core.Path.{◌≡◌, sym, ap, ◌∙◌}
use contract.Lifetimes.{Lfts}
use Rattle.rules.proofs.Numbers.{same_outcome}
use Rattle.message_writers.proofs.write_withdrawal.Reads as write_withdrawal

pub write_withdrawal_determined : (κs : Lfts 1) (a : _) (r q : _) (s e : _) → write_withdrawal.Post κs a r s → write_withdrawal.Post κs a q e
    → (r ≡ q) × (s.1.1.0.now ≡ e.1.1.0.now)
write_withdrawal_determined κs a r q s e one other =
    let same = sym one ∙ other in
    (same_outcome r q (ap (λ l. l.refusal) same), ap (λ l. l.results) same)
