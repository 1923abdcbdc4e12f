-- A record is the calls of one message at most, and a message has no more of them than bytes.
use Prim.Native.Nat.{ℕ, ◌≤◌}
use mathlib.Core.Path.{◌≡◌, refl}
use mathlib.Core.Bool.{Bool, true, false, cond}
use mathlib.Core.List.{List, []}
use native.Mathlib.Omega.{arith}
use lib.ListN.{length}
use borrow.Author.Tests.{eqb-true}
use Rattle.rules.proofs.Members.{both}
use Rattle.message_format.specs.Reading.{update_refusal, message_calls}
use Rattle.message_format.proofs.Counting.{calls_few}
use Rattle.replay_format.specs.Messages.{message_of, holds_update, is_applied, record_calls}

-- nothing refuses the UPDATE of a record that is applied
pub applied_passed : (bytes hops : List ℕ) → is_applied bytes hops ≡ true → update_refusal (message_of bytes) hops ≡ 0
unfolding is_applied
applied_passed bytes hops applied = eqb-true _ _ (both (holds_update bytes) _ applied).1

-- A record has no more than 4,096 calls.
pub record_calls_few : (party : ℕ) (bytes hops : List ℕ) → length (record_calls party bytes hops) ≤ 4096
unfolding record_calls
record_calls_few party bytes hops = go (is_applied bytes hops) refl
  where
    go : (applied : Bool) → is_applied bytes hops ≡ applied → length (cond applied (message_calls party (message_of bytes) hops) []) ≤ 4096
    go true applied = calls_few party (message_of bytes) hops (applied_passed bytes hops applied)
    go false applied = omega arith
