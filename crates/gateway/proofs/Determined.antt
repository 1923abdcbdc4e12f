-- Each call's contract leaves one result: two that meet it on the same arguments give back the same number and leave the
-- same bytes and words.
use Prim.Native.Nat.{ℕ}
use mathlib.Core.Path.{◌≡◌, ap, sym, ◌∙◌}
use mathlib.Core.List.{List}
use contract.Lifetimes.{Lfts}
use Rattle.rules.specs.Table.{Memory, Outcome}
use Rattle.stream_format.specs.Kept.{End}
use Rattle.stream_format.specs.Chunks.{Chunked}
use Rattle.gateway.specs.Crossing.{Crossed, ChunkCrossed}
use Rattle.gateway.proofs.Arguments.{past}
use Rattle.gateway.proofs.gateway_clear.Reads as clear
use Rattle.gateway.proofs.gateway_add.Reads as add
use Rattle.gateway.proofs.gateway_withdraw.Reads as withdraw
use Rattle.gateway.proofs.gateway_change.Reads as change
use Rattle.gateway.proofs.gateway_match_vector.Reads as match_vector
use Rattle.gateway.proofs.gateway_lookup.Reads as lookup
use Rattle.gateway.proofs.gateway_lookup_list.Reads as lookup_list
use Rattle.gateway.proofs.gateway_list_differences.Reads as list_differences
use Rattle.gateway.proofs.gateway_update.Reads as update
use Rattle.gateway.proofs.gateway_write_withdrawal.Reads as write_withdrawal
use Rattle.gateway.proofs.gateway_import.Reads as import
use Rattle.gateway.proofs.gateway_replay.Reads as replay
use Rattle.gateway.proofs.gateway_end_stream.Reads as end_stream

-- the two lists that an update leaves stand after the settings
alike : (u : Outcome) {r q : ℕ} {counters bytes slots words : List ℕ} → Crossed u r counters slots → Crossed u q bytes words
    → (r ≡ q) × ((counters ≡ bytes) × (slots ≡ words))
alike u one other =
    let same = one.memory ∙ sym other.memory in
    (one.number ∙ sym other.number, (ap (λ (m : Memory). m.counters) same, ap (λ (m : Memory). m.slots) same))

pub clear_determined : (κs : Lfts 3) (a : _) (r q : _) (s e : _) → clear.Post κs a r s → clear.Post κs a q e
    → (r ≡ q) × (((past s).0.now ≡ (past e).0.now) × ((past s).1.0.now ≡ (past e).1.0.now))
clear_determined κs a r q s e one other = alike _ one other

pub add_determined : (κs : Lfts 3) (a : _) (r q : _) (s e : _) → add.Post κs a r s → add.Post κs a q e
    → (r ≡ q) × (((past s).0.now ≡ (past e).0.now) × ((past s).1.0.now ≡ (past e).1.0.now))
add_determined κs a r q s e one other = alike _ one other

pub withdraw_determined : (κs : Lfts 3) (a : _) (r q : _) (s e : _) → withdraw.Post κs a r s → withdraw.Post κs a q e
    → (r ≡ q) × (((past s).0.now ≡ (past e).0.now) × ((past s).1.0.now ≡ (past e).1.0.now))
withdraw_determined κs a r q s e one other = alike _ one other

pub change_determined : (κs : Lfts 3) (a : _) (r q : _) (s e : _) → change.Post κs a r s → change.Post κs a q e
    → (r ≡ q) × (((past s).0.now ≡ (past e).0.now) × ((past s).1.0.now ≡ (past e).1.0.now))
change_determined κs a r q s e one other = alike _ one other

pub match_vector_determined : (κs : Lfts 3) (a : _) (r q : _) (s e : _) → match_vector.Post κs a r s → match_vector.Post κs a q e → r ≡ q
match_vector_determined κs a r q s e one other = one ∙ sym other

pub lookup_determined : (κs : Lfts 3) (a : _) (r q : _) (s e : _) → lookup.Post κs a r s → lookup.Post κs a q e → r ≡ q
lookup_determined κs a r q s e one other = one ∙ sym other

pub lookup_list_determined : (κs : Lfts 5) (a : _) (r q : _) (s e : _) → lookup_list.Post κs a r s → lookup_list.Post κs a q e
    → (r ≡ q) × ((past s).1.1.1.1.0.now ≡ (past e).1.1.1.1.0.now)
lookup_list_determined κs a r q s e one other = (one.number ∙ sym other.number, one.results ∙ sym other.results)

-- the second table comes after the first, and the list last
pub list_differences_determined : (κs : Lfts 7) (a : _) (r q : _) (s e : _) → list_differences.Post κs a r s → list_differences.Post κs a q e
    → (r ≡ q) × ((past (past s).1.1).1.1.1.0.now ≡ (past (past e).1.1).1.1.1.0.now)
list_differences_determined κs a r q s e one other = (one.number ∙ sym other.number, one.list ∙ sym other.list)

pub update_determined : (κs : Lfts 5) (a : _) (r q : _) (s e : _) → update.Post κs a r s → update.Post κs a q e
    → (r ≡ q) × (((past s).0.now ≡ (past e).0.now) × ((past s).1.0.now ≡ (past e).1.0.now))
update_determined κs a r q s e one other =
    let same = one.memory ∙ sym other.memory in
    (one.number ∙ sym other.number, (ap (λ (m : Memory). m.counters) same, ap (λ (m : Memory). m.slots) same))

pub write_withdrawal_determined : (κs : Lfts 1) (a : _) (r q : _) (s e : _) → write_withdrawal.Post κs a r s → write_withdrawal.Post κs a q e
    → (r ≡ q) × (s.1.1.0.now ≡ e.1.1.0.now)
write_withdrawal_determined κs a r q s e one other = (one.number ∙ sym other.number, one.results ∙ sym other.results)

-- a chunk leaves counters and slots, and after the next hops the counts, the words and the room
chunks_alike : (u : Chunked) {r q : ℕ} {counts words room counters slots counts' words' room' counters' slots' : List ℕ}
    → ChunkCrossed u r counts words room counters slots → ChunkCrossed u q counts' words' room' counters' slots'
    → (r ≡ q) × (counters ≡ counters') × (slots ≡ slots') × (counts ≡ counts') × (words ≡ words') × (room ≡ room')
chunks_alike u one other =
    let same = one.leaves ∙ sym other.leaves in (
      one.number ∙ sym other.number,
      ap (λ (u : Chunked). u.memory.counters) same,
      ap (λ (u : Chunked). u.memory.slots) same,
      ap (λ (u : Chunked). u.counts) same,
      ap (λ (u : Chunked). u.words) same,
      ap (λ (u : Chunked). u.room) same,
    )

pub import_determined : (κs : Lfts 8) (a : _) (r q : _) (s e : _) → import.Post κs a r s → import.Post κs a q e
    → (r ≡ q) × ((past s).0.now ≡ (past e).0.now) × ((past s).1.0.now ≡ (past e).1.0.now)
    × ((past s).1.1.1.1.0.now ≡ (past e).1.1.1.1.0.now) × ((past s).1.1.1.1.1.0.now ≡ (past e).1.1.1.1.1.0.now) × ((past s).1.1.1.1.1.1.0.now ≡ (past e).1.1.1.1.1.1.0.now)
import_determined κs a r q s e one other = chunks_alike _ one other

pub replay_determined : (κs : Lfts 8) (a : _) (r q : _) (s e : _) → replay.Post κs a r s → replay.Post κs a q e
    → (r ≡ q) × ((past s).0.now ≡ (past e).0.now) × ((past s).1.0.now ≡ (past e).1.0.now)
    × ((past s).1.1.1.1.0.now ≡ (past e).1.1.1.1.0.now) × ((past s).1.1.1.1.1.0.now ≡ (past e).1.1.1.1.1.0.now) × ((past s).1.1.1.1.1.1.0.now ≡ (past e).1.1.1.1.1.1.0.now)
replay_determined κs a r q s e one other = chunks_alike _ one other

pub end_stream_determined : (κs : Lfts 1) (a : _) (r q : _) (s e : _) → end_stream.Post κs a r s → end_stream.Post κs a q e → (r ≡ q) × (s.0.now ≡ e.0.now)
end_stream_determined κs a r q s e one other = (one.number ∙ sym other.number, ap (λ (u : End). u.words) (one.leaves ∙ sym other.leaves))
