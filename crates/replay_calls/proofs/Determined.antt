-- The contract leaves one result: two that meet it on the same arguments give back the same number and leave the same counters,
-- slots, tally, words and room.
use mathlib.Core.Path.{◌≡◌, sym, ap, ◌∙◌}
use contract.Lifetimes.{Lfts}
use Rattle.replay_calls.proofs.replay_chunk.Reads as replay_chunk

pub replay_chunk_determined : (κs : Lfts 7) (a : _) (r q : _) (s e : _) → replay_chunk.Post κs a r s → replay_chunk.Post κs a q e
    → (r ≡ q)
    × ((s.1.0.now ≡ e.1.0.now)
    × ((s.1.1.0.now ≡ e.1.1.0.now)
    × ((s.1.1.1.1.1.0.now ≡ e.1.1.1.1.1.0.now)
    × ((s.1.1.1.1.1.1.0.now ≡ e.1.1.1.1.1.1.0.now)
    × (s.1.1.1.1.1.1.1.0.now ≡ e.1.1.1.1.1.1.1.0.now)))))
replay_chunk_determined κs a r q s e one other =
    let same = sym one ∙ other in
    (ap (λ u. u.number) same, (ap (λ u. u.memory.counters) same, (ap (λ u. u.memory.slots) same, (ap (λ u. u.counts) same, (ap (λ u. u.words) same, ap (λ u. u.room) same)))))
