-- The records of specs/Calls.antt are what the contracts of crates/gateway ensure, as a caller learns it, so each proof
-- is to hand it on. Here a holds a call's arguments in their order, r is what the call gives back, end holds the arguments
-- at exit, and good is what comes with every call by the types of its arguments: a prefix or an address is below 2^32.
-- That whoever may make a call has good stands at the end.
use Prim.Native.Nat.{ℕ}
use mathlib.Core.Path.{◌≡◌, refl}
use mathlib.Core.Bool.{true}
use mathlib.Core.List.{List}
use lib.Pow.{are_bytes}
use mir.Syntax.{w8}
use base.Logic.{ent}
use contract.Lifetimes.{Lfts, Shares}
use contract.Monad.{fact}
use denote.RattleType.{Valss}
use denote.Signature.{types_at}
use denote.Triple.Clauses.{AtExit}
use denote.Triple.Entry.{on_entry}
use borrow.Fn.World.{World, ArgsD, ResD}
use borrow.Fn.Kinds.{GoodsP}
use borrow.Author.Tests.{lt-ltb}
use borrow.Table.Referent.{f_int}
use Rattle.rules.specs.Table.{lent, bytes_of}
use Rattle.rules.specs.Calls.{Clear, Add, Withdraw, Change, word_sized, act}
use Rattle.stream_format.specs.Chunks.{chunked}
use Rattle.import_format.specs.Importing.{import_chunk}
use Rattle.replay_format.specs.Replaying.{replay_chunk}
use Rattle.caller_promises.proofs.Contracts.{owned}
use Rattle.caller_promises.proofs.Elements.{elements_owned}
use Rattle.caller_promises.proofs.Messages.{all_bytes}
use Rattle.caller_promises.proofs.Streams.{array_owned}
use Rattle.c_promises.specs.Numbers.{gateway_refusal}
use Rattle.c_promises.specs.Calls.{Updated, LookedUp, Matched, ListedUp, TablesCompared, Sent, Wrote, ChunkImported, ChunkReplayed, StreamEnded}
use Rattle.gateway.proofs.Arguments.{settings, past}
use Rattle.gateway.specs.contracts.gateway_clear
use Rattle.gateway.proofs.gateway_clear.Reads as clear_reads
use Rattle.gateway.specs.contracts.gateway_add
use Rattle.gateway.proofs.gateway_add.Kinds as add_kinds
use Rattle.gateway.proofs.gateway_add.Reads as add_reads
use Rattle.gateway.specs.contracts.gateway_withdraw
use Rattle.gateway.proofs.gateway_withdraw.Kinds as withdraw_kinds
use Rattle.gateway.proofs.gateway_withdraw.Reads as withdraw_reads
use Rattle.gateway.specs.contracts.gateway_change
use Rattle.gateway.proofs.gateway_change.Kinds as change_kinds
use Rattle.gateway.proofs.gateway_change.Reads as change_reads
use Rattle.gateway.specs.contracts.gateway_lookup
use Rattle.gateway.proofs.gateway_lookup.Kinds as lookup_kinds
use Rattle.gateway.proofs.gateway_lookup.Reads as lookup_reads
use Rattle.gateway.specs.contracts.gateway_lookup_list
use Rattle.gateway.proofs.gateway_lookup_list.Kinds as list_kinds
use Rattle.gateway.proofs.gateway_lookup_list.Reads as list_reads
use Rattle.gateway.specs.contracts.gateway_list_differences
use Rattle.gateway.proofs.gateway_list_differences.Kinds as differences_kinds
use Rattle.gateway.proofs.gateway_list_differences.Reads as differences_reads
use Rattle.gateway.specs.contracts.gateway_match_vector
use Rattle.gateway.proofs.gateway_match_vector.Kinds as match_vector_kinds
use Rattle.gateway.proofs.gateway_match_vector.Reads as match_vector_reads
use Rattle.gateway.specs.contracts.gateway_update
use Rattle.gateway.proofs.gateway_update.Kinds as update_kinds
use Rattle.gateway.proofs.gateway_update.Reads as update_reads
use Rattle.gateway.specs.contracts.gateway_write_withdrawal
use Rattle.gateway.proofs.gateway_write_withdrawal.Kinds as written_kinds
use Rattle.gateway.proofs.gateway_write_withdrawal.Reads as written_reads
use Rattle.gateway.specs.contracts.gateway_import
use Rattle.gateway.proofs.gateway_import.Kinds as import_kinds
use Rattle.gateway.proofs.gateway_import.Reads as import_reads
use Rattle.gateway.specs.contracts.gateway_replay
use Rattle.gateway.proofs.gateway_replay.Kinds as replay_kinds
use Rattle.gateway.proofs.gateway_replay.Reads as replay_reads
use Rattle.gateway.specs.contracts.gateway_end_stream
use Rattle.gateway.proofs.gateway_end_stream.Reads as end_reads

pub clear_made : (κs : Lfts 3) (a : ArgsD gateway_clear.signature κs) (r : ResD gateway_clear.signature κs) (end : AtExit gateway_clear.ended κs) → clear_reads.Learnt κs a r end
    → Updated (settings a) Clear (lent (past a).0.now (past a).1.0.now) r (lent ((past end).0.now) ((past end).1.0.now))
unfolding word_sized act
clear_made κs a r end learnt = record { word = refl; crossed = learnt }

pub add_made : (κs : Lfts 3) (a : ArgsD gateway_add.signature κs) (r : ResD gateway_add.signature κs) (end : AtExit gateway_add.ended κs) → GoodsP κs add_kinds.ps a → add_reads.Learnt κs a r end
    → Updated (settings a) (Add (past a).1.1.0 (past a).1.1.1.0 (past a).1.1.1.1.0 (past a).1.1.1.1.1.0) (lent (past a).0.now (past a).1.0.now) r (lent ((past end).0.now) ((past end).1.0.now))
unfolding word_sized act
add_made κs a r end good learnt = record { word = lt-ltb _ _ (past good).1.1.1.0.1; crossed = learnt }

pub withdraw_made : (κs : Lfts 3) (a : ArgsD gateway_withdraw.signature κs) (r : ResD gateway_withdraw.signature κs) (end : AtExit gateway_withdraw.ended κs) → GoodsP κs withdraw_kinds.ps a → withdraw_reads.Learnt κs a r end
    → Updated (settings a) (Withdraw (past a).1.1.0 (past a).1.1.1.0 (past a).1.1.1.1.0) (lent (past a).0.now (past a).1.0.now) r (lent ((past end).0.now) ((past end).1.0.now))
unfolding word_sized act
withdraw_made κs a r end good learnt = record { word = lt-ltb _ _ (past good).1.1.1.0.1; crossed = learnt }

pub change_made : (κs : Lfts 3) (a : ArgsD gateway_change.signature κs) (r : ResD gateway_change.signature κs) (end : AtExit gateway_change.ended κs) → GoodsP κs change_kinds.ps a → change_reads.Learnt κs a r end
    → Updated (settings a) (Change (past a).1.1.0 (past a).1.1.1.0 (past a).1.1.1.1.0 (past a).1.1.1.1.1.0) (lent (past a).0.now (past a).1.0.now) r (lent ((past end).0.now) ((past end).1.0.now))
unfolding word_sized act
change_made κs a r end good learnt = record { word = lt-ltb _ _ (past good).1.1.1.0.1; crossed = learnt }

-- Lookup and match vector read the slots as bytes. Where these are the bytes of the words that an update left, they are
-- asked of the same table.

pub lookup_made : (κs : Lfts 3) (a : ArgsD gateway_lookup.signature κs) (r : ResD gateway_lookup.signature κs) (end : AtExit gateway_lookup.ended κs) → GoodsP κs lookup_kinds.ps a → lookup_reads.Learnt κs a r end
    → (slots : List ℕ) → (past a).1.0.now ≡ bytes_of slots → LookedUp (settings a) (lent (past a).0.now slots) (past a).1.1.0 (past a).1.1.1.0 r
lookup_made κs a r end good learnt slots lies = record { word = (past good).1.1.1.0.1; crossed = rw (← lies) learnt }

pub match_vector_made : (κs : Lfts 3) (a : ArgsD gateway_match_vector.signature κs) (r : ResD gateway_match_vector.signature κs) (end : AtExit gateway_match_vector.ended κs) → GoodsP κs match_vector_kinds.ps a → match_vector_reads.Learnt κs a r end
    → (slots : List ℕ) → (past a).1.0.now ≡ bytes_of slots → Matched (settings a) (lent (past a).0.now slots) (past a).1.1.0 r
match_vector_made κs a r end good learnt slots lies = record { word = (past good).1.1.0.1; crossed = rw (← lies) learnt }

-- A list of addresses also tells what it left of the results.
pub list_made : (κs : Lfts 5) (a : ArgsD gateway_lookup_list.signature κs) (r : ResD gateway_lookup_list.signature κs) (end : AtExit gateway_lookup_list.ended κs) → list_reads.Learnt κs a r end
    → (slots : List ℕ) → (past a).1.0.now ≡ bytes_of slots → are_bytes (past a).1.1.1.0.now ≡ true
    → ListedUp (settings a) (lent (past a).0.now slots) (past a).1.1.0 (past a).1.1.1.0.now (past a).1.1.1.1.0.now r ((past end).1.1.1.1.0.now)
list_made κs a r end learnt slots lies bytes = record { bytes = bytes; crossed = rw (← lies) learnt }

-- So does a comparison of the list: what comes after the first table's slots is the second table, the party and the list.
pub differences_made : (κs : Lfts 7) (a : ArgsD gateway_list_differences.signature κs) (r : ResD gateway_list_differences.signature κs) (end : AtExit gateway_list_differences.ended κs) → differences_reads.Learnt κs a r end
    → (slots others : List ℕ) → (past a).1.0.now ≡ bytes_of slots → (past (past a).1.1).1.0.now ≡ bytes_of others
    → TablesCompared (settings a) (lent (past a).0.now slots) (settings (past a).1.1) (lent (past (past a).1.1).0.now others) (past (past a).1.1).1.1.0 (past (past a).1.1).1.1.1.0.now r (past ((past end).1.1)).1.1.1.0.now
differences_made κs a r end learnt slots others lies lie = record { crossed = rw (← lies, ← lie) learnt }

pub update_made : (κs : Lfts 5) (a : ArgsD gateway_update.signature κs) (r : ResD gateway_update.signature κs) (end : AtExit gateway_update.ended κs) → update_reads.Learnt κs a r end
    → are_bytes (past a).1.1.1.0.now ≡ true
    → Sent (settings a) (lent (past a).0.now (past a).1.0.now) (past a).1.1.0 (past a).1.1.1.0.now (past a).1.1.1.1.0.now r (lent ((past end).0.now) ((past end).1.0.now))
update_made κs a r end learnt bytes = record { bytes = bytes; crossed = learnt }

pub written_made : (κs : Lfts 1) (a : ArgsD gateway_write_withdrawal.signature κs) (r : ResD gateway_write_withdrawal.signature κs) (end : AtExit gateway_write_withdrawal.ended κs) → written_reads.Learnt κs a r end
    → Wrote a.0 a.1.0 a.1.1.0.now r end.1.1.0.now
written_made κs a r end learnt = learnt

-- A chunk of a dump: before it the number is that of the chunk before, which says nothing.
pub import_made : (κs : Lfts 8) (a : ArgsD gateway_import.signature κs) (r : ResD gateway_import.signature κs) (end : AtExit gateway_import.ended κs) → import_reads.Learnt κs a r end
    → are_bytes (past a).1.1.1.1.1.1.0.now ≡ true → are_bytes (past a).1.1.1.1.1.1.1.0.now ≡ true → (number : ℕ)
    → ChunkImported (settings a) (past a).1.1.0 (past a).1.1.1.0.now (chunked number (past a).1.1.1.1.0.now (past a).1.1.1.1.1.0.now (past a).1.1.1.1.1.1.0.now (past a).0.now (past a).1.0.now)
    (past a).1.1.1.1.1.1.1.0.now r
    (chunked (gateway_refusal r) ((past end).1.1.1.1.0.now) ((past end).1.1.1.1.1.0.now) ((past end).1.1.1.1.1.1.0.now) ((past end).0.now) ((past end).1.0.now))
unfolding import_chunk
import_made κs a r end learnt room_bytes bytes number = record { room_bytes = room_bytes; bytes = bytes; number = refl; crossed = learnt }

-- So a chunk of a day.
pub replay_made : (κs : Lfts 8) (a : ArgsD gateway_replay.signature κs) (r : ResD gateway_replay.signature κs) (end : AtExit gateway_replay.ended κs) → replay_reads.Learnt κs a r end
    → are_bytes (past a).1.1.1.1.1.1.0.now ≡ true → are_bytes (past a).1.1.1.1.1.1.1.0.now ≡ true → (number : ℕ)
    → ChunkReplayed (settings a) (past a).1.1.0 (past a).1.1.1.0.now (chunked number (past a).1.1.1.1.0.now (past a).1.1.1.1.1.0.now (past a).1.1.1.1.1.1.0.now (past a).0.now (past a).1.0.now)
    (past a).1.1.1.1.1.1.1.0.now r
    (chunked (gateway_refusal r) ((past end).1.1.1.1.0.now) ((past end).1.1.1.1.1.0.now) ((past end).1.1.1.1.1.1.0.now) ((past end).0.now) ((past end).1.0.now))
unfolding replay_chunk
replay_made κs a r end learnt room_bytes bytes number = record { room_bytes = room_bytes; bytes = bytes; number = refl; crossed = learnt }

pub end_made : (κs : Lfts 1) (a : ArgsD gateway_end_stream.signature κs) (r : ResD gateway_end_stream.signature κs) (end : AtExit gateway_end_stream.ended κs) → end_reads.Learnt κs a r end
    → StreamEnded a.0.now r end.0.now
end_made κs a r end learnt = learnt

-- In every model of the logic, what a call asks on entry holds what the types of its arguments tell.
module _ (w : World) (κs : Lfts 3) (qs : Shares 3) where
  pub add_owned : (a : ArgsD gateway_add.signature κs) (vss : Valss (types_at (gateway_add.signature).params κs))
      → ent w.𝓤 (on_entry w.𝓛 gateway_add.signature κs qs a vss) (fact w.𝓤 (GoodsP κs add_kinds.ps a))
  add_owned = owned w add_kinds.ps add_kinds.r κs qs

  pub withdraw_owned : (a : ArgsD gateway_withdraw.signature κs) (vss : Valss (types_at (gateway_withdraw.signature).params κs))
      → ent w.𝓤 (on_entry w.𝓛 gateway_withdraw.signature κs qs a vss) (fact w.𝓤 (GoodsP κs withdraw_kinds.ps a))
  withdraw_owned = owned w withdraw_kinds.ps withdraw_kinds.r κs qs

  pub change_owned : (a : ArgsD gateway_change.signature κs) (vss : Valss (types_at (gateway_change.signature).params κs))
      → ent w.𝓤 (on_entry w.𝓛 gateway_change.signature κs qs a vss) (fact w.𝓤 (GoodsP κs change_kinds.ps a))
  change_owned = owned w change_kinds.ps change_kinds.r κs qs

  pub lookup_owned : (a : ArgsD gateway_lookup.signature κs) (vss : Valss (types_at (gateway_lookup.signature).params κs))
      → ent w.𝓤 (on_entry w.𝓛 gateway_lookup.signature κs qs a vss) (fact w.𝓤 (GoodsP κs lookup_kinds.ps a))
  lookup_owned = owned w lookup_kinds.ps lookup_kinds.r κs qs

  pub match_vector_owned : (a : ArgsD gateway_match_vector.signature κs) (vss : Valss (types_at (gateway_match_vector.signature).params κs))
      → ent w.𝓤 (on_entry w.𝓛 gateway_match_vector.signature κs qs a vss) (fact w.𝓤 (GoodsP κs match_vector_kinds.ps a))
  match_vector_owned = owned w match_vector_kinds.ps match_vector_kinds.r κs qs

-- Of a list they tell besides, once it is looked at (⇛), that each byte of the addresses is below 256; so of a message.
module _ (w : World) (κs : Lfts 5) (qs : Shares 5) where
  pub list_owned : (a : ArgsD gateway_lookup_list.signature κs) (vss : Valss (types_at (gateway_lookup_list.signature).params κs))
      → ent w.𝓤 (on_entry w.𝓛 gateway_lookup_list.signature κs qs a vss) (fact w.𝓤 (GoodsP κs list_kinds.ps a))
  list_owned = owned w list_kinds.ps list_kinds.r κs qs

  pub list_bytes_owned : (a : ArgsD gateway_lookup_list.signature κs) (vss : Valss (types_at (gateway_lookup_list.signature).params κs))
      → ent w.𝓤 (on_entry w.𝓛 gateway_lookup_list.signature κs qs a vss) (w.𝓛.H.⇛ (fact w.𝓤 (are_bytes (past a).1.1.1.0.now ≡ true)))
  list_bytes_owned a vss = elements_owned w list_kinds.ps list_kinds.r κs qs a vss (f_int w8) 10 3 tt (past a).1.1.1.0 refl (all_bytes (past a).1.1.1.0.now)

  pub update_owned : (a : ArgsD gateway_update.signature κs) (vss : Valss (types_at (gateway_update.signature).params κs))
      → ent w.𝓤 (on_entry w.𝓛 gateway_update.signature κs qs a vss) (fact w.𝓤 (GoodsP κs update_kinds.ps a))
  update_owned = owned w update_kinds.ps update_kinds.r κs qs

  pub update_bytes_owned : (a : ArgsD gateway_update.signature κs) (vss : Valss (types_at (gateway_update.signature).params κs))
      → ent w.𝓤 (on_entry w.𝓛 gateway_update.signature κs qs a vss) (w.𝓛.H.⇛ (fact w.𝓤 (are_bytes (past a).1.1.1.0.now ≡ true)))
  update_bytes_owned a vss = elements_owned w update_kinds.ps update_kinds.r κs qs a vss (f_int w8) 10 3 tt (past a).1.1.1.0 refl (all_bytes (past a).1.1.1.0.now)

module _ (w : World) (κs : Lfts 7) (qs : Shares 7) where
  pub differences_owned : (a : ArgsD gateway_list_differences.signature κs) (vss : Valss (types_at (gateway_list_differences.signature).params κs))
      → ent w.𝓤 (on_entry w.𝓛 gateway_list_differences.signature κs qs a vss) (fact w.𝓤 (GoodsP κs differences_kinds.ps a))
  differences_owned = owned w differences_kinds.ps differences_kinds.r κs qs

module _ (w : World) (κs : Lfts 1) (qs : Shares 1) where
  pub written_owned : (a : ArgsD gateway_write_withdrawal.signature κs) (vss : Valss (types_at (gateway_write_withdrawal.signature).params κs))
      → ent w.𝓤 (on_entry w.𝓛 gateway_write_withdrawal.signature κs qs a vss) (fact w.𝓤 (GoodsP κs written_kinds.ps a))
  written_owned = owned w written_kinds.ps written_kinds.r κs qs

-- Of an import they tell, once room and chunk are looked at (⇛), that each byte there is below 256.
module _ (w : World) (κs : Lfts 8) (qs : Shares 8) (a : ArgsD gateway_import.signature κs) (vss : Valss (types_at (gateway_import.signature).params κs)) where
  pub import_owned : ent w.𝓤 (on_entry w.𝓛 gateway_import.signature κs qs a vss) (fact w.𝓤 (GoodsP κs import_kinds.ps a))
  import_owned = owned w import_kinds.ps import_kinds.r κs qs a vss

  pub room_bytes_owned : ent w.𝓤 (on_entry w.𝓛 gateway_import.signature κs qs a vss) (w.𝓛.H.⇛ (fact w.𝓤 (are_bytes (past a).1.1.1.1.1.1.0.now ≡ true)))
  room_bytes_owned = array_owned w import_kinds.ps import_kinds.r κs qs a vss 65548 13 6 tt (past a).1.1.1.1.1.1.0 refl

  pub chunk_bytes_owned : ent w.𝓤 (on_entry w.𝓛 gateway_import.signature κs qs a vss) (w.𝓛.H.⇛ (fact w.𝓤 (are_bytes (past a).1.1.1.1.1.1.1.0.now ≡ true)))
  chunk_bytes_owned = elements_owned w import_kinds.ps import_kinds.r κs qs a vss (f_int w8) 14 7 tt (past a).1.1.1.1.1.1.1.0 refl (all_bytes (past a).1.1.1.1.1.1.1.0.now)

-- So of a replay.
module _ (w : World) (κs : Lfts 8) (qs : Shares 8) (a : ArgsD gateway_replay.signature κs) (vss : Valss (types_at (gateway_replay.signature).params κs)) where
  pub replay_owned : ent w.𝓤 (on_entry w.𝓛 gateway_replay.signature κs qs a vss) (fact w.𝓤 (GoodsP κs replay_kinds.ps a))
  replay_owned = owned w replay_kinds.ps replay_kinds.r κs qs a vss

  pub day_room_bytes_owned : ent w.𝓤 (on_entry w.𝓛 gateway_replay.signature κs qs a vss) (w.𝓛.H.⇛ (fact w.𝓤 (are_bytes (past a).1.1.1.1.1.1.0.now ≡ true)))
  day_room_bytes_owned = array_owned w replay_kinds.ps replay_kinds.r κs qs a vss 65548 13 6 tt (past a).1.1.1.1.1.1.0 refl

  pub day_bytes_owned : ent w.𝓤 (on_entry w.𝓛 gateway_replay.signature κs qs a vss) (w.𝓛.H.⇛ (fact w.𝓤 (are_bytes (past a).1.1.1.1.1.1.1.0.now ≡ true)))
  day_bytes_owned = elements_owned w replay_kinds.ps replay_kinds.r κs qs a vss (f_int w8) 14 7 tt (past a).1.1.1.1.1.1.1.0 refl (all_bytes (past a).1.1.1.1.1.1.1.0.now)
