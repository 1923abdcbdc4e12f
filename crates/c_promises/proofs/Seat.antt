-- What a C program did after an accepted clear is a history: each thing that it did is single calls, by the contracts alone.
-- So every promise of crates/promises, crates/message_promises, crates/import_promises and crates/replay_promises holds of what it was
-- given, and of what the header reads by proofs/Unpacking.antt.
use Prim.Native.Nat.{ℕ}
use mathlib.Core.Path.{◌≡◌, refl}
use mathlib.Core.List.{List, []}
use Rattle.rules.specs.declared.Settings.{Settings}
use Rattle.rules.specs.Table.{Memory}
use Rattle.rules.specs.Calls.{Call, Clear, all_word_sized, run, each}
use Rattle.promises.specs.History.{SingleCalls, History, Ran}
use Rattle.promises.proofs.Histories.{made, one_made, seat_made, seat_history}
use Rattle.message_promises.proofs.Routes.{message_single}
use Rattle.import_format.specs.Importing.{import_chunk}
use Rattle.replay_format.specs.Replaying.{replay_chunk}
use Rattle.stream_promises.specs.Noted.{next_chunk}
use Rattle.import_promises.proofs.Singles.{import_single}
use Rattle.replay_promises.proofs.Singles.{replay_single}
use Rattle.c_promises.specs.Numbers.{gateway_refusal}
use Rattle.c_promises.specs.Calls.{Updated, Did, Single, Addresses, Heard, Imported, Replayed}
use Rattle.c_promises.proofs.Unpacking.{update_read, message_read, chunk_read}

-- Each thing that a C program does is single calls,
pub did_single : {t : Settings} (m : Memory) (calls : List Call) (answers : List ℕ) (m' : Memory) → Did t m calls answers m' → SingleCalls t m calls answers m'
unfolding all_word_sized run each next_chunk import_chunk replay_chunk
did_single m calls answers m' (Single updated) = one_made updated.word (update_read updated)
did_single {t} m calls answers m' (Addresses asked) = made t m [] refl
did_single {t} m calls answers m' (Heard {party = party} {message} {hops} sent) = rw (message_read sent) at (message_single t m party message hops sent.bytes)
did_single {t} m calls answers m' (Imported party hops {chunk} {s} made) =
    rw (chunk_read made, made.number) at (import_single t s.memory party hops s.counts s.words s.room chunk made.room_bytes made.bytes)
did_single {t} m calls answers m' (Replayed party hops {chunk} {s} made) =
    rw (chunk_read made, made.number) at (replay_single t s.memory party hops s.counts s.words s.room chunk made.room_bytes made.bytes)

-- and so are several, one after the other.
pub c_made : {t : Settings} {m m' : Memory} {calls : List Call} {answers : List ℕ} → Ran (Did t) m calls answers m' → SingleCalls t m calls answers m'
c_made = seat_made did_single

-- After an accepted clear they are a history.
pub c_history : {t : Settings} {before empty m : Memory} {calls : List Call} {answers : List ℕ} {answer : ℕ} → Updated t Clear before answer empty → gateway_refusal answer ≡ 0
    → Ran (Did t) empty calls answers m → History t calls answers m
c_history cleared accepted ran = seat_history did_single (one_made cleared.word (rw accepted at (update_read cleared))) ran
