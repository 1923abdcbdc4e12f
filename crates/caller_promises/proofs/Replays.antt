-- What a caller of crates/replay_calls learns is the contract's equation, as it stands. Here a holds the call's arguments in
-- their order, r is what it gives back, and end holds the arguments at exit. What the types of the arguments tell, that each byte
-- of the room and of the chunk is below 256, whoever may make the call has.
use Prim.Native.Nat.{ℕ}
use mathlib.Core.Path.{◌≡◌, refl}
use mathlib.Core.Bool.{true}
use mathlib.Core.List.{List}
use lib.Pow.{are_bytes}
use mir.Syntax.{w8}
use base.Logic.{ent}
use contract.Lifetimes.{Lfts, Shares}
use contract.Monad.{fact}
use denote.RattleType.{Valss}
use denote.Signature.{types_at}
use denote.Triple.Clauses.{AtExit}
use denote.Triple.Entry.{on_entry}
use borrow.Fn.Kinds.{GoodsP}
use borrow.Fn.World.{World, ArgsD, ResD}
use borrow.Table.Referent.{f_int}
use Rattle.rules.specs.declared.Settings.{Settings}
use Rattle.rules.specs.Table.{lent}
use Rattle.stream_format.specs.Chunks.{Chunked, chunked}
use Rattle.replay_format.specs.Replaying.{replaying, replay_chunk as replayed}
use Rattle.stream_promises.specs.Noted.{next_chunk}
use Rattle.replay_promises.specs.Days.{Replays}
use Rattle.caller_promises.proofs.Contracts.{owned}
use Rattle.caller_promises.proofs.Elements.{elements_owned}
use Rattle.caller_promises.proofs.Messages.{all_bytes}
use Rattle.caller_promises.proofs.Streams.{array_owned, Chunks, seat_streamed}
use Rattle.replay_calls.specs.contracts.replay_chunk
use Rattle.replay_calls.proofs.replay_chunk.Kinds as replay_kinds
use Rattle.replay_calls.proofs.replay_chunk.Reads as replay_reads

-- the arguments that come after settings, counters, slots and party: next hops, tally, words, room and chunk
abbrev past : {T C S P Rest : Type 0} → T × (C × (S × (P × Rest))) → Rest
past a = a.1.1.1.1

-- ---- What the contract tells

pub replay_ensures : (κs : Lfts 7) (a : ArgsD replay_chunk.signature κs) (r : ResD replay_chunk.signature κs) (end : AtExit replay_chunk.ended κs) → replay_reads.Learnt κs a r end
    → replayed a.0 (lent a.1.0.now a.1.1.0.now) a.1.1.1.0 (past a).0.now (past a).1.0.now (past a).1.1.0.now (past a).1.1.1.0.now (past a).1.1.1.1.0.now
    ≡ chunked r (past end).1.0.now (past end).1.1.0.now (past end).1.1.1.0.now end.1.0.now end.1.1.0.now
replay_ensures κs a r end learnt = learnt

-- ---- What the arguments' types tell

-- That room and chunk hold bytes is told once they are looked at (⇛).
module _ (w : World) (κs : Lfts 7) (qs : Shares 7) (a : ArgsD replay_chunk.signature κs) (vss : Valss (types_at (replay_chunk.signature).params κs)) where
  pub replay_owned : ent w.𝓤 (on_entry w.𝓛 replay_chunk.signature κs qs a vss) (fact w.𝓤 (GoodsP κs replay_kinds.ps a))
  replay_owned = owned w replay_kinds.ps replay_kinds.r κs qs a vss

  pub room_bytes_owned : ent w.𝓤 (on_entry w.𝓛 replay_chunk.signature κs qs a vss) (w.𝓛.H.⇛ (fact w.𝓤 (are_bytes (past a).1.1.1.0.now ≡ true)))
  room_bytes_owned = array_owned w replay_kinds.ps replay_kinds.r κs qs a vss 65548 7 5 tt (past a).1.1.1.0 refl

  pub chunk_bytes_owned : ent w.𝓤 (on_entry w.𝓛 replay_chunk.signature κs qs a vss) (w.𝓛.H.⇛ (fact w.𝓤 (are_bytes (past a).1.1.1.1.0.now ≡ true)))
  chunk_bytes_owned =
      elements_owned w replay_kinds.ps replay_kinds.r κs qs a vss (f_int w8) 8 6 tt (past a).1.1.1.1.0 refl (all_bytes (past a).1.1.1.1.0.now)

-- ---- Chunks as they were taken

-- A chunk for a party with the call's arguments at their own types, what these tell, and what its contract told. What is lent before it,
-- tally, words, room and table, stands beside the number of the chunk before, which says nothing; what is left, beside its own.
pub data ReplayCalled : (t : Settings) (party : ℕ) (hops : List ℕ) (s : Chunked) (chunk : List ℕ) (s' : Chunked) → Type 0 where
  ReplayChunkCalled : (κs : Lfts 7) (a : ArgsD replay_chunk.signature κs) (r : ResD replay_chunk.signature κs) (end : AtExit replay_chunk.ended κs) {number : ℕ}
      → GoodsP κs replay_kinds.ps a → are_bytes (past a).1.1.1.0.now ≡ true → are_bytes (past a).1.1.1.1.0.now ≡ true → replay_reads.Learnt κs a r end
      → ReplayCalled a.0 a.1.1.1.0 (past a).0.now (chunked number (past a).1.0.now (past a).1.1.0.now (past a).1.1.1.0.now a.1.0.now a.1.1.0.now)
      (past a).1.1.1.1.0.now (chunked r (past end).1.0.now (past end).1.1.0.now (past end).1.1.1.0.now end.1.0.now end.1.1.0.now)

pub replay_applied : {t : Settings} {party : ℕ} {hops chunk : List ℕ} {s s' : Chunked} → ReplayCalled t party hops s chunk s' → next_chunk t (replaying party hops) s chunk ≡ s'
unfolding next_chunk replayed
replay_applied (ReplayChunkCalled κs a r end good room_bytes bytes learnt) = replay_ensures κs a r end learnt

pub replay_bytes : {t : Settings} {party : ℕ} {hops chunk : List ℕ} {s s' : Chunked} → ReplayCalled t party hops s chunk s' → (are_bytes s.room ≡ true) × (are_bytes chunk ≡ true)
replay_bytes (ReplayChunkCalled κs a r end good room_bytes bytes learnt) = (room_bytes, bytes)

-- Chunks that were taken one after the other are replays of the rules, and so every promise of crates/replay_promises holds of
-- them.
pub called_replays : {t : Settings} {party : ℕ} {hops : List ℕ} {s last : Chunked} {chunks : List (List ℕ)} → Chunks (ReplayCalled t party hops) s chunks last → Replays t party hops s chunks last
called_replays = seat_streamed (λ s chunk s' called. replay_applied called)
