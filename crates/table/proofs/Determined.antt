-- Each call's contract leaves one result: two that meet it on the same arguments give back the same and leave
-- the same bytes and words.
use mathlib.Core.Path.{◌≡◌, sym, ap, ◌∙◌}
use mathlib.Core.List.{List}
use Prim.Native.Nat.{ℕ}
use contract.Lifetimes.{Lfts}
use Rattle.std.specs.Prelude.{Result}
use Rattle.rules.specs.declared.Refusal.{Refusal}
use Rattle.rules.specs.Numbers.{number_given}
use Rattle.rules.specs.Table.{Outcome, left}
use Rattle.rules.proofs.Numbers.{same_outcome, same_vector, same_answer}
use Rattle.table.proofs.clear.Reads as clear
use Rattle.table.proofs.add.Reads as add
use Rattle.table.proofs.withdraw.Reads as withdraw
use Rattle.table.proofs.change.Reads as change
use Rattle.table.proofs.match_vector.Reads as match_vector
use Rattle.table.proofs.lookup.Reads as lookup
use Rattle.table.proofs.lookup_list.Reads as lookup_list

-- an update that is left so, and so, is left alike
alike : (u : Outcome) {r q : Result (Unit {0}) Refusal} {counters bytes slots words : List ℕ} → u ≡ left (number_given r) counters slots
    → u ≡ left (number_given q) bytes words → (r ≡ q) × ((counters ≡ bytes) × (slots ≡ words))
alike u {r = r} {q = q} one other =
    let same = sym one ∙ other in
    (same_outcome r q (ap (λ v. v.refusal) same), (ap (λ v. v.memory.counters) same, ap (λ v. v.memory.slots) same))

pub clear_determined : (κs : Lfts 2) (a : _) (r q : _) (s e : _) → clear.Post κs a r s → clear.Post κs a q e
    → (r ≡ q) × ((s.1.0.now ≡ e.1.0.now) × (s.1.1.0.now ≡ e.1.1.0.now))
clear_determined κs a r q s e one other = alike _ {r = r} {q = q} one other

pub add_determined : (κs : Lfts 2) (a : _) (r q : _) (s e : _) → add.Post κs a r s → add.Post κs a q e
    → (r ≡ q) × ((s.1.0.now ≡ e.1.0.now) × (s.1.1.0.now ≡ e.1.1.0.now))
add_determined κs a r q s e one other = alike _ {r = r} {q = q} one other

pub withdraw_determined : (κs : Lfts 2) (a : _) (r q : _) (s e : _) → withdraw.Post κs a r s → withdraw.Post κs a q e
    → (r ≡ q) × ((s.1.0.now ≡ e.1.0.now) × (s.1.1.0.now ≡ e.1.1.0.now))
withdraw_determined κs a r q s e one other = alike _ {r = r} {q = q} one other

pub change_determined : (κs : Lfts 2) (a : _) (r q : _) (s e : _) → change.Post κs a r s → change.Post κs a q e
    → (r ≡ q) × ((s.1.0.now ≡ e.1.0.now) × (s.1.1.0.now ≡ e.1.1.0.now))
change_determined κs a r q s e one other = alike _ {r = r} {q = q} one other

pub match_vector_determined : (κs : Lfts 2) (a : _) (r q : _) (s e : _) → match_vector.Post κs a r s → match_vector.Post κs a q e → r ≡ q
match_vector_determined κs a r q s e one other = same_vector r q (one ∙ sym other)

pub lookup_determined : (κs : Lfts 2) (a : _) (r q : _) (s e : _) → lookup.Post κs a r s → lookup.Post κs a q e → r ≡ q
lookup_determined κs a r q s e one other = same_answer r q (one ∙ sym other)

pub lookup_list_determined : (κs : Lfts 4) (a : _) (r q : _) (s e : _) → lookup_list.Post κs a r s → lookup_list.Post κs a q e
    → (r ≡ q) × (s.1.1.1.1.1.0.now ≡ e.1.1.1.1.1.0.now)
lookup_list_determined κs a r q s e one other =
    let same = sym one ∙ other in
    (same_outcome r q (ap (λ l. l.refusal) same), ap (λ l. l.results) same)
