-- A replay is its single calls, made one after the other, and tallies their answers: crates/stream_promises has it of any stream, and
-- the figure for a number stands at that number's place.
use Prim.Native.Nat.{ℕ, zero, suc, ◌+◌, ◌≤◌}
use mathlib.Core.Path.{◌≡◌, sym, ap, ◌∙◌}
use mathlib.Core.Bool.{true}
use mathlib.Core.List.{List, map}
use native.Mathlib.Nat.{add-zero}
use native.Mathlib.Omega.{arith}
use lib.ListN.{get_or}
use lib.Pow.{are_bytes}
use Rattle.rules.specs.declared.Settings.{Settings}
use Rattle.rules.specs.Tools.{input_of, count}
use Rattle.rules.specs.Table.{Memory}
use Rattle.rules.specs.Calls.{Call, run}
use Rattle.stream_format.specs.Chunks.{Chunked}
use Rattle.replay_format.specs.Replaying.{numbers, refused_under, tally_of, replaying, replay_chunk}
use Rattle.replay_format.proofs.Tallies.{at_number}
use Rattle.promises.specs.History.{SingleCalls}
use Rattle.stream_promises.specs.Noted.{Noted, all_by}
use Rattle.stream_promises.proofs.Singles.{chunk_single, chunk_counted}
use Rattle.stream_promises.proofs.Own.{records_own, chunk_own}
use Rattle.stream_promises.proofs.Whole.{stream_single, stream_counted}
use Rattle.replay_promises.specs.Days.{replayed_records, replayed_calls, Replays, day_records, day_calls, replay_tally, Tallied}
use Rattle.replay_promises.proofs.Laws.{lawful}

-- ---- Figure by figure

module _ (hops before after : List ℕ) (records : List Noted) (answers : List ℕ) (sums : tally_of after ≡ replay_tally hops (tally_of before) records answers) where
  -- the figure for a number, by what is refused under it
  under : (number : ℕ) → number ≤ 19 → get_or after (3 + number) 0 ≡ get_or before (3 + number) 0 + refused_under number answers
  unfolding tally_of replay_tally
  under number low =
      sym (at_number (λ n. get_or after (3 + n) 0) number (omega arith)) ∙ ap (λ tally. get_or tally.refused number 0) sums
      ∙ at_number (λ n. get_or (map (λ k. get_or before (3 + k) 0) numbers) n 0 + refused_under n answers) number (omega arith)
      ∙ rw (at_number (λ k. get_or before (3 + k) 0) number (omega arith))

  pub figures : Tallied hops before after records answers
  unfolding tally_of replay_tally refused_under
  figures = record {
    seen = ap (λ tally. tally.seen) sums;
    applied = ap (λ tally. tally.applied) sums;
    accepted = ap (λ tally. tally.accepted) sums;
    refused = λ number some low. some_under number some low;
    under_0 = under 0 (omega arith) ∙ add-zero _;
  }
    where
      some_under : (number : ℕ) → 1 ≤ number → number ≤ 19 → get_or after (3 + number) 0 ≡ get_or before (3 + number) 0 + count number answers
      some_under zero some low = absurd (omega arith)
      some_under (suc number) some low = under (suc number) low

-- ---- A chunk

module _ (t : Settings) (m : Memory) (party : ℕ) (hops tally words room chunk : List ℕ) where
  -- what it is given back and leaves,
  abbrev its : Chunked
  its = replay_chunk t m party hops tally words room chunk

  -- the records that it does,
  abbrev records : List Noted
  records = replayed_records party hops words room chunk its.number

  -- and the calls that a history has of it
  abbrev calls : List Call
  calls = replayed_calls party hops words room chunk its.number

  -- A replay is part of a history as these calls are.
  pub replay_single : are_bytes room ≡ true → are_bytes chunk ≡ true → SingleCalls t m calls (run t m calls).answers its.memory
  unfolding replay_chunk
  replay_single = chunk_single (lawful party hops) t m tally words room chunk

  -- They are all the party's.
  pub replay_own : all_by party calls ≡ true
  unfolding replaying
  replay_own = chunk_own (lawful party hops) words room chunk its.number

  -- The figures go up by how many records it does, how many UPDATEs are applied, and how many of these calls are accepted, and
  -- refused under each number.
  pub counted : Tallied hops tally its.counts records (run t m calls).answers
  unfolding replay_chunk replaying
  counted = figures hops tally its.counts records _ (chunk_counted (lawful party hops) t m tally words room chunk)

-- ---- A day, in chunks one after the other

module _ {t : Settings} (party : ℕ) (hops : List ℕ) {start last : Chunked} {chunks : List (List ℕ)} (replays : Replays t party hops start chunks last) where
  -- its calls
  abbrev all_calls : List Call
  all_calls = day_calls party hops start chunks

  -- The day is part of a history as these calls are.
  pub day_single : are_bytes start.room ≡ true → are_bytes (input_of chunks) ≡ true
      → SingleCalls t start.memory all_calls (run t start.memory all_calls).answers last.memory
  day_single = stream_single (lawful party hops) replays

  -- They are all the party's.
  pub day_own : all_by party all_calls ≡ true
  unfolding replaying
  day_own = records_own (lawful party hops) (day_records party hops start chunks)

  -- At its end every figure is the one that it started from and what is counted over its records and the answers of these calls.
  pub day_counted : Tallied hops start.counts last.counts (day_records party hops start chunks) (run t start.memory all_calls).answers
  unfolding replaying
  day_counted = figures hops start.counts last.counts _ _ (stream_counted (lawful party hops) replays)
