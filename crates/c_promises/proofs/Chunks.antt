-- Chunks that a C program handed over one after the other, none of which it read as given 19, 1, 2 or 15, are imports or replays of the
-- rules. So what crates/import_promises and crates/replay_promises say of them holds of what the program sees, the rule among others
-- that it does not matter where a file is cut.
use Prim.Native.Nat.{ℕ}
use mathlib.Core.List.{List}
use Rattle.rules.specs.declared.Settings.{Settings}
use Rattle.stream_format.specs.Chunks.{Reading, Chunked}
use Rattle.import_format.specs.Importing.{importing}
use Rattle.replay_format.specs.Replaying.{replaying}
use Rattle.import_promises.specs.Dumps.{Imports}
use Rattle.replay_promises.specs.Days.{Replays}
use Rattle.caller_promises.proofs.Streams.{Chunks, seat_streamed}
use Rattle.c_promises.specs.Calls.{ChunkTaken}
use Rattle.c_promises.proofs.Unpacking.{chunk_read}

-- one chunk, with the number that came back
abbrev pub ChunkSeen : {C : Type 0} → (t : Settings) (r : Reading C) (s : Chunked) (chunk : List ℕ) (s' : Chunked) → Type 0
ChunkSeen t r s chunk s' = (answer : ℕ) × ChunkTaken t r s chunk answer s'

pub c_imports : {t : Settings} (party : ℕ) (hops : List ℕ) {s last : Chunked} {chunks : List (List ℕ)} → Chunks (ChunkSeen t (importing party hops)) s chunks last → Imports t party hops s chunks last
c_imports party hops = seat_streamed (λ s chunk s' seen. chunk_read seen.1)

pub c_replays : {t : Settings} (party : ℕ) (hops : List ℕ) {s last : Chunked} {chunks : List (List ℕ)} → Chunks (ChunkSeen t (replaying party hops)) s chunks last → Replays t party hops s chunks last
c_replays party hops = seat_streamed (λ s chunk s' seen. chunk_read seen.1)
