-- The list is read from its front: what was read is good so far, and its powers are summed.
use Prim.Native.Nat.{ℕ, ◌*◌, ◌%◌, ◌^◌, ◌≤◌}
use mathlib.Core.Path.{◌≡◌}
use mathlib.Core.Bool.{Bool}
use mathlib.Core.List.{List, map}
use lib.ListN.{take}
use Rattle.rules.specs.Tools.{within, all}
use Rattle.rules.specs.Table.{filters_size}
use Rattle.settings.proofs.filters_asked.Given as goal

-- the list as the shift takes it: what of each D is below 16
abbrev pub shifts : List ℕ → List ℕ
shifts d = map (λ D. D % 16) d

pub record SoFar (d : List ℕ) (good : Bool) (counters i : ℕ) : Type 0 where
  pub few : i ≤ 32
  pub each : good ≡ all (within 4 11) (take i d)
  pub sum : counters ≡ filters_size (take i (shifts d))
  pub fits : counters ≤ i * 2 ^ 15

abbrev pub invariant-loop-d : goal.invariant-loop-d
invariant-loop-d l = SoFar l.fn.settings.d l.good l.counters l.d-index
