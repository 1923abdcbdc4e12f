-- The contract of a turn leaves one result: a number has one highest bit.
use Prim.Native.Nat.{ℕ, ◌-◌, ◌^◌, ◌≤◌}
use mathlib.Core.Path.{◌≡◌, refl, sym, ap, ◌∙◌}
use mathlib.Core.Bool.{Bool, true, false}
use native.Mathlib.Nat.{le_antisymm}
use native.Mathlib.Omega.{arith}
use lib.Dec.{ltb}
use lib.Pow.{pow_mono}
use borrow.Author.Tests.{ltb-true, ltb-false}
use Rattle.rules.specs.declared.Settings.{Settings}
use Rattle.rules.specs.Table.{prefix}
use Rattle.buckets.specs.declared.Turn.{Turn}
use Rattle.buckets.specs.Turns.{Highest, Turned}

no_higher : {v L M : ℕ} → Highest v L → Highest v M → M ≤ L
no_higher {v} {L} {M} one other = go (ltb L M) refl
  where
    go : (b : Bool) → ltb L M ≡ b → M ≤ L
    go true e = absurd (omega (arith, pow_mono {i = L} {j = M - 1} (omega (arith, ltb-true L M e)), one.passed, other.reached))
    go false e = omega (arith, ltb-false L M e)

pub turn_of_determined : {t : Settings} {address lengths : ℕ} {one other : Turn} → Turned t address lengths one → Turned t address lengths other → one ≡ other
turn_of_determined {t} {address} {lengths} {one} {other} a b =
    let L : one.length ≡ other.length = le_antisymm (no_higher b.longest a.longest) (no_higher a.longest b.longest) in
    let p : one.p ≡ other.p = a.own ∙ ap (prefix address) L ∙ sym b.own in
    let first : one.first ≡ other.first = a.from ∙ rw (p, L) (sym b.from) in
    let left : one.left ≡ other.left = a.rest ∙ ap (λ (n : ℕ). lengths - 2 ^ (n - 1)) L ∙ sym b.rest in
    λ k. record { p = p k; length = L k; first = first k; left = left k }
