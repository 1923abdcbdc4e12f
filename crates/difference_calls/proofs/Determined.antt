-- Each call's contract leaves one result: two that meet it on the same arguments give back the same answer and leave the
-- same list.
use Prim.Native.Nat.{ℕ}
use mathlib.Core.Path.{◌≡◌, sym, ap, ◌∙◌}
use mathlib.Core.List.{List}
use contract.Lifetimes.{Lfts}
use Rattle.std.specs.Prelude.{Result}
use Rattle.rules.specs.declared.Refusal.{Refusal}
use Rattle.difference_rules.specs.Comparing.{Compared, compared, differences_given}
use Rattle.difference_rules.proofs.Checks.{same_given}
use Rattle.difference_calls.proofs.difference.Reads as difference
use Rattle.difference_calls.proofs.difference_in_bytes.Reads as difference_in_bytes

-- a comparison that ends so, and so, ends alike
alike : (u : Compared) (r q : Result ℕ Refusal) {list other : List ℕ} → u ≡ compared (differences_given r) list → u ≡ compared (differences_given q) other → (r ≡ q) × (list ≡ other)
alike u r q one other =
    let same = sym one ∙ other in
    (same_given r q (ap (λ (v : Compared). v.answer) same), ap (λ (v : Compared). v.list) same)

pub difference_determined : (κs : Lfts 5) (a : _) (r q : _) (s e : _) → difference.Post κs a r s → difference.Post κs a q e
    → (r ≡ q) × (s.1.1.1.1.1.1.1.0.now ≡ e.1.1.1.1.1.1.1.0.now)
difference_determined κs a r q s e one other = alike _ r q one other

pub difference_in_bytes_determined : (κs : Lfts 5) (a : _) (r q : _) (s e : _) → difference_in_bytes.Post κs a r s → difference_in_bytes.Post κs a q e
    → (r ≡ q) × (s.1.1.1.1.1.1.1.0.now ≡ e.1.1.1.1.1.1.1.0.now)
difference_in_bytes_determined κs a r q s e one other = alike _ r q one other
