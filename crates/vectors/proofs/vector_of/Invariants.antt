-- Prefix, bit and filter go down with the length: `prefix_next` and `filter_next`.
use Prim.Native.Nat.{ℕ, suc, ◌-◌, ◌%◌, ◌^◌}
use mathlib.Core.Path.{◌≡◌}
use mathlib.Core.Bool.{Bool}
use mathlib.Core.List.{List}
use Rattle.rules.specs.declared.Settings.{Settings}
use Rattle.rules.specs.Table.{prefix, filter_start, claims}
use Rattle.rules.proofs.Vectors.{filled}
use Rattle.vectors.proofs.vector_of.Given as goal

abbrev pub claimed : Settings → List ℕ → (address L : ℕ) → Bool
claimed t counters address L = claims t counters (prefix address L) L

-- what stands where the turn of a length comes; length 0 comes after the last one, and its bit is past the 32
pub record Turn (t : Settings) (counters : List ℕ) (address vector p bit start length : ℕ) : Type 0 where
  pub cut : p ≡ prefix address length
  pub its_bit : bit ≡ 2 ^ (32 - length) % 2 ^ 32
  pub ends : start ≡ filter_start t (suc length)
  pub so_far : vector ≡ filled (claimed t counters address) length

abbrev pub invariant-loop-number : goal.invariant-loop-number
invariant-loop-number l = Turn l.filters.settings.now.all l.filters.counters.now l.address l.vector l.p l.bit l.start l.number
