-- Which numbers calls on good routes are given: a call keeps the sizes of the memory, so that past 1 to 5 and 15 only 7 to 11 are left for each.
use Prim.Native.Nat.{ℕ, ◌+◌, ◌-◌, ◌≤◌}
use mathlib.Core.Path.{◌≡◌, refl, ap, ◌∙◌}
use mathlib.Core.Bool.{Bool, true, false, cond}
use mathlib.Core.List.{List, [], ◌∷◌, ◌++◌}
use mathlib.Core.Option.{Option, some, none}
use lib.Dec.{eqb}
use lib.ListN.{length, length-set, length-replicate}
use borrow.Author.Tests.{le-ltb}
use Rattle.rules.specs.declared.Settings.{Settings}
use Rattle.rules.specs.Tools.{within, all}
use Rattle.rules.specs.Table.{Memory, prefix, mark_of, held, vacant, full, refuse, needs_slot, sized, memory_refusal, route_refusal, add_refusal, withdraw_refusal, change_refusal, unless_refused, zeroed, counter_places, with_slot, with_default, with_found, added, withdrawn, changed, clear, add, withdraw, change}
use Rattle.rules.specs.Calls.{Call, Clear, Add, Withdraw, Change, act, each, run, route_number}
use Rattle.rules.proofs.Steps.{step_each_length}
use Rattle.rules.proofs.Refusals.{memory_passed, route_fits}

-- ---- Sizes

-- two memories whose lists are of the same lengths
record Alike (m after : Memory) : Type 0 where
  counters_alike : length after.counters ≡ length m.counters
  slots_alike : length after.slots ≡ length m.slots

either_alike : (b : Bool) {m one other : Memory} → Alike m one → Alike m other → Alike m (cond b one other)
either_alike true one other = one
either_alike false one other = other

-- a refused call changes nothing
unless_alike : (refusal : ℕ) {m after : Memory} → Alike m after → Alike m (unless_refused refusal after m).memory
unfolding unless_refused
unless_alike refusal changes = either_alike (eqb refusal 0) changes (record { counters_alike = refl; slots_alike = refl })

module _ (t : Settings) (m : Memory) where
  found_length : (p L : ℕ) (o : Option ℕ) (q mark : ℕ) → length (with_found t m.slots p L o q mark) ≡ length m.slots
  unfolding with_found with_slot
  found_length p L (some s) q mark = simp length-set
  found_length p L none q mark = refl

  default_alike : (party mark : ℕ) → Alike m (with_default t m party mark)
  unfolding with_default
  default_alike party mark = record { counters_alike = refl; slots_alike = simp length-set }

  zeroed_alike : Alike m (zeroed m)
  unfolding zeroed
  zeroed_alike = record { counters_alike = simp length-replicate; slots_alike = simp length-replicate }

  module _ (party p L : ℕ) where
    changed_alike : (hop : ℕ) → Alike m (changed t m party p L hop)
    unfolding changed
    changed_alike hop =
        either_alike (eqb L 0) (default_alike party (mark_of party hop))
        (record { counters_alike = refl; slots_alike = found_length p L (held t m.slots party p L) p (mark_of party hop) })

    added_alike : (hop : ℕ) → Alike m (added t m party p L hop)
    unfolding added
    added_alike hop =
        either_alike (needs_slot t m.slots party p L)
        (record {
          counters_alike = step_each_length (λ n. n + 1) m.counters (counter_places t p L);
          slots_alike = found_length p L (vacant t m.slots p L) p (mark_of party hop);
        })
        (changed_alike hop)

    withdrawn_alike : Alike m (withdrawn t m party p L)
    unfolding withdrawn
    withdrawn_alike =
        either_alike (eqb L 0) (default_alike party 0)
        (record {
          counters_alike = step_each_length (λ n. n - 1) m.counters (counter_places t p L);
          slots_alike = found_length p L (held t m.slots party p L) 0 0;
        })

  act_alike : (call : Call) → Alike m (act t call m).memory
  unfolding act clear add withdraw change
  act_alike Clear = unless_alike _ zeroed_alike
  act_alike (Add party p L hop) = unless_alike _ (added_alike party p L hop)
  act_alike (Withdraw party p L) = unless_alike _ (withdrawn_alike party p L)
  act_alike (Change party p L hop) = unless_alike _ (changed_alike party p L hop)

-- Every call keeps the sizes, so that 1 and 2 are given after it where they are given before.
pub act_sizes : (t : Settings) (m : Memory) (call : Call) (after : ℕ) → memory_refusal t (act t call m).memory after ≡ memory_refusal t m after
unfolding memory_refusal sized
act_sizes t m call after = let same = act_alike t m call in rw (same.counters_alike, same.slots_alike)

-- So do calls one after the other.
pub run_sizes : (t : Settings) (m : Memory) (calls : List Call) (after : ℕ) → memory_refusal t (run t m calls).last after ≡ memory_refusal t m after
unfolding run each
run_sizes t m [] after = refl
run_sizes t m (call ∷ calls) after = run_sizes t (act t call m).memory calls after ∙ act_sizes t m call after

-- ---- Numbers

-- what 15, 3 and 4 not given tells of a route
pub record RouteGood (party p L : ℕ) : Type 0 where
  pub known : party ≤ 1
  pub high : L ≤ 32
  pub tight : prefix p L ≡ p

-- a call on a good route, with a hop that is good too
abbrev pub GoodCall : Call → Type 0
GoodCall Clear = Unit {0}
GoodCall (Add party p L hop) = RouteGood party p L × (hop ≤ 65535)
GoodCall (Withdraw party p L) = RouteGood party p L
GoodCall (Change party p L hop) = RouteGood party p L × (hop ≤ 65535)

-- calls that all are
abbrev pub GoodCalls : List Call → Type 0
GoodCalls [] = Unit {0}
GoodCalls (call ∷ calls) = GoodCall call × GoodCalls calls

pub good_append : (calls more : List Call) → GoodCalls calls → GoodCalls more → GoodCalls (calls ++ more)
good_append [] more good rest = rest
good_append (call ∷ calls) more good rest = (good.0, good_append calls more good.1 rest)

-- what is left of an add's checks
add_left : (odd full above : Bool) → route_number (refuse odd 11 (refuse false 5 (refuse full 8 (refuse above 9 0)))) ≡ true
unfolding route_number within refuse
add_left true full above = refl
add_left false true above = refl
add_left false false true = refl
add_left false false false = refl

-- of a withdrawal's
withdraw_left : (absent short : Bool) → route_number (refuse absent 7 (refuse short 10 0)) ≡ true
unfolding route_number within refuse
withdraw_left true short = refl
withdraw_left false true = refl
withdraw_left false false = refl

-- and of a change's
change_left : (absent : Bool) → route_number (refuse false 5 (refuse absent 7 0)) ≡ true
unfolding route_number within refuse
change_left true = refl
change_left false = refl

module _ (t : Settings) (m : Memory) (fit : memory_refusal t m 0 ≡ 0) where
  past_route : {party p L : ℕ} → RouteGood party p L → (after : ℕ) → route_refusal t m party p L after ≡ after
  past_route {party} {p} {L} good =
      route_fits t m.counters m.slots party p L (record { memory = (memory_passed t m.counters m.slots 0 fit).0; known = good.known; high = good.high; tight = good.tight })

  -- A good call is given 0, or 7 to 11.
  pub call_number : (call : Call) → GoodCall call → route_number (act t call m).refusal ≡ true
  unfolding act clear add withdraw change unless_refused add_refusal withdraw_refusal change_refusal route_refusal route_number
  call_number Clear good = ap route_number fit
  call_number (Add party p L hop) good = rw (past_route good.0, le-ltb _ _ good.1) (add_left _ _ _)
  call_number (Withdraw party p L) good = rw (past_route good) (withdraw_left _ _)
  call_number (Change party p L hop) good = rw (past_route good.0, le-ltb _ _ good.1) (change_left _)

-- So is each of calls one after the other.
pub run_numbers : (t : Settings) (m : Memory) (calls : List Call) → memory_refusal t m 0 ≡ 0 → GoodCalls calls → all route_number (run t m calls).answers ≡ true
unfolding all run each
run_numbers t m [] fit good = refl
run_numbers t m (call ∷ calls) fit good =
    rw (call_number t m fit call good.0)
    (run_numbers t (act t call m).memory calls (act_sizes t m call 0 ∙ fit) good.1)
