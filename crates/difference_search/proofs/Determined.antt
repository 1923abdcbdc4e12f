-- The contract of a pass leaves one result: there is one least prefix.
use Prim.Native.Nat.{ℕ, ◌^◌, ◌≤◌}
use mathlib.Core.Path.{◌≡◌, refl, sym, ap, ◌∙◌}
use mathlib.Core.Bool.{Bool, true, false}
use native.Mathlib.Nat.{le_antisymm}
use native.Mathlib.Omega.{arith}
use lib.Dec.{ltb}
use borrow.Author.Tests.{ltb-true, ltb-false}
use Rattle.std.specs.Prelude.{Option, Some, None}
use Rattle.difference_search.specs.declared.Ahead.{Ahead}
use Rattle.difference_search.specs.Next.{Next, Lies}

-- of two that are both the least, neither lies beyond the other
no_further : {has : (p : ℕ) → ℕ} {from : ℕ} {one other : Ahead} → Next has from one → Next has from other → one.prefix ≤ other.prefix
no_further {one} {other} a b = go (ltb other.prefix one.prefix) refl
  where
    go : (t : Bool) → ltb other.prefix one.prefix ≡ t → one.prefix ≤ other.prefix
    go true e =
        let nearer = ltb-true other.prefix one.prefix e in
        let found = b.there (omega (arith, a.high)) in
        absurd (omega (arith, found.0, found.1, a.none_before other.prefix b.low nearer))
    go false e = ltb-false other.prefix one.prefix e

-- so they are the same, and the mark is the one that the table has there, or 0
next_determined : {has : (p : ℕ) → ℕ} {from : ℕ} {one other : Ahead} → Next has from one → Next has from other → one ≡ other
next_determined {has} {one} {other} a b = λ k. record { prefix = prefix k; mark = mark (ltb one.prefix (2 ^ 32)) refl k }
  where
    prefix : one.prefix ≡ other.prefix
    prefix = le_antisymm (no_further a b) (no_further b a)

    mark : (t : Bool) → ltb one.prefix (2 ^ 32) ≡ t → one.mark ≡ other.mark
    mark true e =
        let below = ltb-true one.prefix (2 ^ 32) e in
        (a.there below).0 ∙ ap has prefix ∙ sym (b.there (omega (arith, prefix))).0
    mark false e =
        let past = ltb-false one.prefix (2 ^ 32) e in
        a.end (omega (arith, a.high)) ∙ sym (b.end (omega (arith, prefix, a.high)))

-- and so is what lies ahead, or that nothing does
pub lies_determined : (has : (p : ℕ) → ℕ) (from : ℕ) (one other : Option Ahead) → Lies has from one → Lies has from other → one ≡ other
lies_determined has from (Some one) (Some other) a b = ap Some (next_determined a.0 b.0)
lies_determined has from None None a b = refl
lies_determined has from (Some one) None a b = absurd (let e = ap (λ (x : Ahead). x.prefix) (next_determined a.0 b) in omega (arith, e, a.1))
lies_determined has from None (Some other) a b = absurd (let e = ap (λ (x : Ahead). x.prefix) (next_determined a b.0) in omega (arith, e, b.1))
