-- What a caller of crates/difference_calls learns is the contract's equation, as it stands. Here a holds the call's arguments in
-- their order: settings, counters and slots of the first table, those of the second, party and list. r is its result, read as
-- what it gives back, and end holds the arguments at exit.
use Prim.Native.Nat.{ℕ}
use mathlib.Core.Path.{◌≡◌}
use mathlib.Core.List.{List}
use base.Logic.{ent}
use contract.Lifetimes.{Lfts, Shares}
use contract.Monad.{fact}
use denote.RattleType.{Valss}
use denote.Signature.{types_at}
use denote.Triple.Clauses.{AtExit}
use denote.Triple.Entry.{on_entry}
use borrow.Fn.Kinds.{GoodsP}
use borrow.Fn.World.{World, ArgsD, ResD}
use Rattle.rules.specs.declared.Settings.{Settings}
use Rattle.rules.specs.Table.{Memory, lent}
use Rattle.difference_rules.specs.Comparing.{Differences, differences_given, compared, difference as compare}
use Rattle.caller_promises.proofs.Contracts.{owned}
use Rattle.difference_calls.specs.contracts.difference
use Rattle.difference_calls.proofs.difference.Kinds as difference_kinds
use Rattle.difference_calls.proofs.difference.Reads as difference_reads

-- the arguments that come after the first table: settings, counters and slots of the second, party and list
abbrev past : {T C S Rest : Type 0} → T × (C × (S × Rest)) → Rest
past a = a.1.1.1

pub difference_ensures : (κs : Lfts 5) (a : ArgsD difference.signature κs) (r : ResD difference.signature κs) (end : AtExit difference.ended κs) → difference_reads.Learnt κs a r end
    → compare a.0 (lent a.1.0.now a.1.1.0.now) (past a).0 (lent (past a).1.0.now (past a).1.1.0.now) (past a).1.1.1.0 (past a).1.1.1.1.0.now
    ≡ compared (differences_given r) (past end).1.1.1.1.0.now
difference_ensures κs a r end learnt = learnt

-- whoever may make the call has what the types of its arguments tell
pub difference_owned : (w : World) (κs : Lfts 5) (qs : Shares 5) (a : ArgsD difference.signature κs) (vss : Valss (types_at (difference.signature).params κs))
    → ent w.𝓤 (on_entry w.𝓛 difference.signature κs qs a vss) (fact w.𝓤 (GoodsP κs difference_kinds.ps a))
difference_owned w κs qs = owned w difference_kinds.ps difference_kinds.r κs qs

-- A comparison for a party as it was made, with its answer and the list before and after.
pub data ComparisonCalled : (t : Settings) (m : Memory) (u : Settings) (n : Memory) (party : ℕ) (list : List ℕ) (answer : Differences) (list' : List ℕ) → Type 0 where
  DifferenceCalled : (κs : Lfts 5) (a : ArgsD difference.signature κs) (r : ResD difference.signature κs) (end : AtExit difference.ended κs)
      → GoodsP κs difference_kinds.ps a → difference_reads.Learnt κs a r end
      → ComparisonCalled a.0 (lent a.1.0.now a.1.1.0.now) (past a).0 (lent (past a).1.0.now (past a).1.1.0.now) (past a).1.1.1.0 (past a).1.1.1.1.0.now (differences_given r)
      (past end).1.1.1.1.0.now

-- It gives back and leaves what the rules say: whatever is promised of a comparison is promised of it.
pub compared_given : {t : Settings} {m : Memory} {u : Settings} {n : Memory} {party : ℕ} {list : List ℕ} {answer : Differences} {list' : List ℕ} → ComparisonCalled t m u n party list answer list'
    → compare t m u n party list ≡ compared answer list'
compared_given (DifferenceCalled κs a r end good learnt) = difference_ensures κs a r end learnt
