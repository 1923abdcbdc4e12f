-- Leading zeros pick the top bit, and that bit is taken.
use Prim.Native.Nat.{ℕ, suc, ◌-◌, ◌^◌, ◌<◌}
use mathlib.Core.Path.{◌≡◌}
use native.Mathlib.Numerals.{unary_clauses}
use native.Mathlib.Omega.{arith}
use lib.Count.{count_leading_zeros, leading_top}
use Rattle.rules.proofs.Vectors.{one_bit}
use Rattle.buckets.specs.Turns.{Highest}
use Rattle.buckets.proofs.turn_of.Goals as goal

longest_is : (v : ℕ) → (v ≡ 0 → ⊥) → v < 2 ^ 32 → Highest v (32 - count_leading_zeros 32 v)
longest_is v claimed fits =
    let top = leading_top 32 v (omega arith) fits in
    let same : 32 - count_leading_zeros 32 v ≡ suc top.0 = omega arith in
    rw same (record { low = omega arith; high = omega arith; reached = simp unary_clauses top.2; passed = top.3 })

pub overflow_sub-left-2 : goal.overflow_sub-left-2
overflow_sub-left-2 c =
    let longest = longest_is c.args.lengths c.requires (omega arith) in
    rw (one_bit _ longest.low longest.high) longest.reached

pub returns : goal.returns
returns c =
    let longest = longest_is c.args.lengths c.requires (omega arith) in
    record {
      longest = longest;
      own = c.prefix_of-p.ensures;
      from = c.first_slot-first.ensures;
      rest = rw (one_bit _ longest.low longest.high);
    }
