-- What a caller of crates/message_calls and crates/message_writers learns is the contract's equation, as it stands. Here a
-- holds the call's arguments in their order, r is its result, read as what it gives back, and end holds the arguments at exit.
-- What the types of the arguments tell, that a prefix is below 2^32 and each byte of a message below 256, whoever may make the call has.
use Prim.Native.Nat.{ℕ}
use mathlib.Core.Path.{◌≡◌, refl}
use mathlib.Core.Bool.{true}
use mathlib.Core.List.{List, [], ◌∷◌}
use lib.Pow.{are_bytes}
use mir.Syntax.{w8}
use base.Logic.{ent}
use contract.Lifetimes.{Lfts, Shares}
use contract.Monad.{fact}
use denote.RattleType.{Valss}
use denote.Signature.{types_at}
use denote.Triple.Clauses.{AtExit}
use denote.Triple.Entry.{on_entry}
use borrow.Author.Tests.{lt-ltb}
use borrow.Fn.Kinds.{GoodsP}
use borrow.Fn.World.{World, ArgsD, ResD}
use borrow.Rule.Slice.Know.{AllWt}
use borrow.Table.Referent.{f_int}
use Rattle.rules.specs.declared.Settings.{Settings}
use Rattle.rules.specs.Table.{Memory, lent, answered}
use Rattle.rules.specs.Numbers.{number_given}
use Rattle.message_format.specs.Reading.{Report, reported, apply_message as applied}
use Rattle.message_format.specs.Reports.{report_given}
use Rattle.message_format.specs.Writing.{write_withdrawal as written}
use Rattle.caller_promises.proofs.Contracts.{owned}
use Rattle.caller_promises.proofs.Elements.{elements_owned}
use Rattle.message_calls.specs.contracts.apply_message
use Rattle.message_calls.proofs.apply_message.Kinds as message_kinds
use Rattle.message_calls.proofs.apply_message.Reads as message_reads
use Rattle.message_writers.specs.contracts.write_withdrawal
use Rattle.message_writers.proofs.write_withdrawal.Kinds as written_kinds
use Rattle.message_writers.proofs.write_withdrawal.Reads as written_reads

-- ---- What a contract tells

pub message_ensures : (κs : Lfts 4) (a : ArgsD apply_message.signature κs) (r : ResD apply_message.signature κs) (end : AtExit apply_message.ended κs) → message_reads.Learnt κs a r end
    → applied a.0 (lent a.1.0.now a.1.1.0.now) a.1.1.1.0 a.1.1.1.1.0.now a.1.1.1.1.1.0.now ≡ reported (report_given r) end.1.0.now end.1.1.0.now
message_ensures κs a r end learnt = learnt

pub written_ensures : (κs : Lfts 1) (a : ArgsD write_withdrawal.signature κs) (r : ResD write_withdrawal.signature κs) (end : AtExit write_withdrawal.ended κs) → written_reads.Learnt κs a r end
    → written a.0 a.1.0 a.1.1.0.now ≡ answered (number_given r) end.1.1.0.now
written_ensures κs a r end learnt = learnt

-- ---- What the arguments' types tell

pub all_bytes : (bytes : List ℕ) → AllWt (f_int w8) bytes → are_bytes bytes ≡ true
all_bytes [] fit = refl
all_bytes (byte ∷ bytes) fit = rw (lt-ltb byte 256 fit.0.fits) (all_bytes bytes fit.1)

pub written_owned : (w : World) (κs : Lfts 1) (qs : Shares 1) (a : ArgsD write_withdrawal.signature κs) (vss : Valss (types_at (write_withdrawal.signature).params κs))
    → ent w.𝓤 (on_entry w.𝓛 write_withdrawal.signature κs qs a vss) (fact w.𝓤 (GoodsP κs written_kinds.ps a))
written_owned w κs qs = owned w written_kinds.ps written_kinds.r κs qs

-- That a message's bytes are bytes is told once it is looked at (⇛).
module _ (w : World) (κs : Lfts 4) (qs : Shares 4) (a : ArgsD apply_message.signature κs) (vss : Valss (types_at (apply_message.signature).params κs)) where
  pub message_owned : ent w.𝓤 (on_entry w.𝓛 apply_message.signature κs qs a vss) (fact w.𝓤 (GoodsP κs message_kinds.ps a))
  message_owned = owned w message_kinds.ps message_kinds.r κs qs a vss

  pub message_bytes_owned : ent w.𝓤 (on_entry w.𝓛 apply_message.signature κs qs a vss) (w.𝓛.H.⇛ (fact w.𝓤 (are_bytes a.1.1.1.1.0.now ≡ true)))
  message_bytes_owned = elements_owned w message_kinds.ps message_kinds.r κs qs a vss (f_int w8) 4 2 tt a.1.1.1.1.0 refl (all_bytes a.1.1.1.1.0.now)

-- ---- Messages as they were applied

-- A message for a party with the call's arguments at their own types, what these tell, and what its contract told.
pub data MessageCalled : (t : Settings) (m : Memory) (party : ℕ) (message hops : List ℕ) (report : Report) (m' : Memory) → Type 0 where
  ApplyMessageCalled : (κs : Lfts 4) (a : ArgsD apply_message.signature κs) (r : ResD apply_message.signature κs) (end : AtExit apply_message.ended κs)
      → GoodsP κs message_kinds.ps a → are_bytes a.1.1.1.1.0.now ≡ true → message_reads.Learnt κs a r end
      → MessageCalled a.0 (lent a.1.0.now a.1.1.0.now) a.1.1.1.0 a.1.1.1.1.0.now a.1.1.1.1.1.0.now (report_given r) (lent end.1.0.now end.1.1.0.now)

pub message_applied : {t : Settings} {m m' : Memory} {party : ℕ} {message hops : List ℕ} {report : Report} → MessageCalled t m party message hops report m'
    → applied t m party message hops ≡ record { report = report; memory = m' }
message_applied (ApplyMessageCalled κs a r end good bytes learnt) = message_ensures κs a r end learnt

pub message_bytes : {t : Settings} {m m' : Memory} {party : ℕ} {message hops : List ℕ} {report : Report} → MessageCalled t m party message hops report m' → are_bytes message ≡ true
message_bytes (ApplyMessageCalled κs a r end good bytes learnt) = bytes
