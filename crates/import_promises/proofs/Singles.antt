-- An import is its single calls, made one after the other, and counts their answers: crates/stream_promises has it of any stream.
use Prim.Native.Nat.{ℕ, ◌+◌}
use mathlib.Core.Path.{◌≡◌}
use mathlib.Core.Bool.{true}
use mathlib.Core.List.{List}
use lib.Pow.{are_bytes}
use Rattle.rules.specs.declared.Settings.{Settings}
use Rattle.rules.specs.Table.{Memory}
use Rattle.rules.specs.Calls.{Call, run, accepted_of, refused_of}
use Rattle.stream_format.specs.Chunks.{Chunked}
use Rattle.import_format.specs.Importing.{counts_of, importing, import_chunk}
use Rattle.promises.specs.History.{SingleCalls}
use Rattle.stream_promises.specs.Noted.{Noted, all_by}
use Rattle.stream_promises.proofs.Singles.{chunk_single, chunk_counted}
use Rattle.stream_promises.proofs.Own.{chunk_own}
use Rattle.import_promises.specs.Dumps.{imported_records, imported_calls, hopless_of, import_counts}
use Rattle.import_promises.proofs.Laws.{lawful}

module _ (t : Settings) (m : Memory) (party : ℕ) (hops counts words room chunk : List ℕ) where
  -- what it is given back and leaves,
  abbrev its : Chunked
  its = import_chunk t m party hops counts words room chunk

  -- the records that it does,
  abbrev records : List Noted
  records = imported_records party hops words room chunk its.number

  -- and the calls that a history has of it
  abbrev calls : List Call
  calls = imported_calls party hops words room chunk its.number

  -- An import is part of a history as these calls are.
  pub import_single : are_bytes room ≡ true → are_bytes chunk ≡ true → SingleCalls t m calls (run t m calls).answers its.memory
  unfolding import_chunk
  import_single = chunk_single (lawful party hops) t m counts words room chunk

  -- They are all the party's.
  pub import_own : all_by party calls ≡ true
  unfolding importing
  import_own = chunk_own (lawful party hops) words room chunk its.number

  -- The counts go up by how many of these calls are accepted and refused, and by how many of its records are no call.
  pub counted : counts_of its.counts ≡ record {
    accepted = (counts_of counts).accepted + accepted_of (run t m calls).answers;
    refused = (counts_of counts).refused + refused_of (run t m calls).answers;
    hopless = (counts_of counts).hopless + hopless_of hops records;
  }
  unfolding import_chunk importing import_counts
  counted = chunk_counted (lawful party hops) t m counts words room chunk
