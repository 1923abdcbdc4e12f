-- What a caller of crates/import_calls learns is the contract's equation, as it stands. Here a holds the call's arguments in
-- their order, r is what it gives back, and end holds the arguments at exit. What the types of the arguments tell, that each byte
-- of the room and of the chunk is below 256, whoever may make the call has.
use Prim.Native.Nat.{ℕ}
use mathlib.Core.Path.{◌≡◌, refl}
use mathlib.Core.Bool.{true}
use mathlib.Core.List.{List}
use lib.Pow.{are_bytes}
use mir.Syntax.{w8}
use base.Logic.{ent}
use contract.Lifetimes.{Lfts, Shares}
use contract.Monad.{fact}
use denote.RattleType.{Valss}
use denote.Signature.{types_at}
use denote.Triple.Clauses.{AtExit}
use denote.Triple.Entry.{on_entry}
use borrow.Fn.Kinds.{GoodsP}
use borrow.Fn.World.{World, ArgsD, ResD}
use borrow.Table.Referent.{f_int}
use Rattle.rules.specs.declared.Settings.{Settings}
use Rattle.rules.specs.Table.{lent}
use Rattle.stream_format.specs.Chunks.{Chunked, chunked}
use Rattle.import_format.specs.Importing.{importing, import_chunk as imported}
use Rattle.stream_promises.specs.Noted.{next_chunk}
use Rattle.import_promises.specs.Dumps.{Imports}
use Rattle.caller_promises.proofs.Contracts.{owned}
use Rattle.caller_promises.proofs.Elements.{elements_owned}
use Rattle.caller_promises.proofs.Messages.{all_bytes}
use Rattle.caller_promises.proofs.Streams.{array_owned, Chunks, seat_streamed}
use Rattle.import_calls.specs.contracts.import_chunk
use Rattle.import_calls.proofs.import_chunk.Kinds as import_kinds
use Rattle.import_calls.proofs.import_chunk.Reads as import_reads

-- the arguments that come after settings, counters, slots and party: next hops, counts, words, room and chunk
abbrev past : {T C S P Rest : Type 0} → T × (C × (S × (P × Rest))) → Rest
past a = a.1.1.1.1

-- ---- What the contract tells

pub import_ensures : (κs : Lfts 7) (a : ArgsD import_chunk.signature κs) (r : ResD import_chunk.signature κs) (end : AtExit import_chunk.ended κs) → import_reads.Learnt κs a r end
    → imported a.0 (lent a.1.0.now a.1.1.0.now) a.1.1.1.0 (past a).0.now (past a).1.0.now (past a).1.1.0.now (past a).1.1.1.0.now (past a).1.1.1.1.0.now
    ≡ chunked r (past end).1.0.now (past end).1.1.0.now (past end).1.1.1.0.now end.1.0.now end.1.1.0.now
import_ensures κs a r end learnt = learnt

-- ---- What the arguments' types tell

-- That room and chunk hold bytes is told once they are looked at (⇛).
module _ (w : World) (κs : Lfts 7) (qs : Shares 7) (a : ArgsD import_chunk.signature κs) (vss : Valss (types_at (import_chunk.signature).params κs)) where
  pub import_owned : ent w.𝓤 (on_entry w.𝓛 import_chunk.signature κs qs a vss) (fact w.𝓤 (GoodsP κs import_kinds.ps a))
  import_owned = owned w import_kinds.ps import_kinds.r κs qs a vss

  pub room_bytes_owned : ent w.𝓤 (on_entry w.𝓛 import_chunk.signature κs qs a vss) (w.𝓛.H.⇛ (fact w.𝓤 (are_bytes (past a).1.1.1.0.now ≡ true)))
  room_bytes_owned = array_owned w import_kinds.ps import_kinds.r κs qs a vss 65548 7 5 tt (past a).1.1.1.0 refl

  pub chunk_bytes_owned : ent w.𝓤 (on_entry w.𝓛 import_chunk.signature κs qs a vss) (w.𝓛.H.⇛ (fact w.𝓤 (are_bytes (past a).1.1.1.1.0.now ≡ true)))
  chunk_bytes_owned =
      elements_owned w import_kinds.ps import_kinds.r κs qs a vss (f_int w8) 8 6 tt (past a).1.1.1.1.0 refl (all_bytes (past a).1.1.1.1.0.now)

-- ---- Chunks as they were taken

-- A chunk for a party with the call's arguments at their own types, what these tell, and what its contract told. What is lent before it,
-- counts, words, room and table, stands beside the number of the chunk before, which says nothing; what is left, beside its own.
pub data ImportCalled : (t : Settings) (party : ℕ) (hops : List ℕ) (s : Chunked) (chunk : List ℕ) (s' : Chunked) → Type 0 where
  ImportChunkCalled : (κs : Lfts 7) (a : ArgsD import_chunk.signature κs) (r : ResD import_chunk.signature κs) (end : AtExit import_chunk.ended κs) {number : ℕ}
      → GoodsP κs import_kinds.ps a → are_bytes (past a).1.1.1.0.now ≡ true → are_bytes (past a).1.1.1.1.0.now ≡ true → import_reads.Learnt κs a r end
      → ImportCalled a.0 a.1.1.1.0 (past a).0.now (chunked number (past a).1.0.now (past a).1.1.0.now (past a).1.1.1.0.now a.1.0.now a.1.1.0.now)
      (past a).1.1.1.1.0.now (chunked r (past end).1.0.now (past end).1.1.0.now (past end).1.1.1.0.now end.1.0.now end.1.1.0.now)

pub import_applied : {t : Settings} {party : ℕ} {hops chunk : List ℕ} {s s' : Chunked} → ImportCalled t party hops s chunk s' → next_chunk t (importing party hops) s chunk ≡ s'
unfolding next_chunk imported
import_applied (ImportChunkCalled κs a r end good room_bytes bytes learnt) = import_ensures κs a r end learnt

pub import_bytes : {t : Settings} {party : ℕ} {hops chunk : List ℕ} {s s' : Chunked} → ImportCalled t party hops s chunk s' → (are_bytes s.room ≡ true) × (are_bytes chunk ≡ true)
import_bytes (ImportChunkCalled κs a r end good room_bytes bytes learnt) = (room_bytes, bytes)

-- Chunks that were taken one after the other are imports of the rules, and so every promise of crates/import_promises holds of
-- them.
pub called_imports : {t : Settings} {party : ℕ} {hops : List ℕ} {s last : Chunked} {chunks : List (List ℕ)} → Chunks (ImportCalled t party hops) s chunks last → Imports t party hops s chunks last
called_imports = seat_streamed (λ s chunk s' called. import_applied called)
