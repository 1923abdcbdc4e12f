-- What a caller of crates/table, crates/message_calls, crates/import_calls and crates/replay_calls did after an accepted clear is a
-- history: each thing that it did is single calls, by the contracts alone. So every promise of crates/promises holds of what it was given, of
-- a lookup and of a match vector by looked_given and matched_given, and of place i of a list by place_looked
-- (proofs/Contracts.antt); what crates/message_promises says of a message holds of its report, by message_applied
-- (proofs/Messages.antt), and what crates/import_promises and crates/replay_promises say of a chunk holds of what it left, by
-- import_applied (proofs/Imports.antt) and replay_applied (proofs/Replays.antt).
use Prim.Native.Nat.{ℕ, ◌^◌, ◌<◌}
use mathlib.Core.Path.{◌≡◌, refl}
use mathlib.Core.Bool.{true}
use mathlib.Core.List.{List, [], ◌∷◌}
use Rattle.rules.specs.declared.Settings.{Settings}
use Rattle.rules.specs.Table.{Memory, lookup}
use Rattle.rules.specs.Calls.{Call, Clear, all_word_sized, run, each}
use Rattle.message_format.specs.Reading.{Report}
use Rattle.promises.specs.History.{stored_by, SingleCalls, History, Ran}
use Rattle.promises.specs.Demands.{paper}
use Rattle.promises.specs.Parties.{no_clear, made_by, SameRoute}
use Rattle.promises.proofs.Histories.{routes_on_paper, made, one_made, seat_made, seat_history}
use Rattle.promises.proofs.Parties.{same_for_party}
use Rattle.message_promises.specs.Heard.{heard_calls}
use Rattle.message_promises.proofs.Routes.{message_single}
use Rattle.stream_format.specs.Chunks.{Chunked}
use Rattle.import_format.specs.Importing.{import_chunk}
use Rattle.replay_format.specs.Replaying.{replay_chunk}
use Rattle.stream_promises.specs.Noted.{next_chunk}
use Rattle.import_promises.specs.Dumps.{imported_calls}
use Rattle.import_promises.proofs.Singles.{import_single}
use Rattle.replay_promises.specs.Days.{replayed_calls}
use Rattle.replay_promises.proofs.Singles.{replay_single}
use Rattle.caller_promises.proofs.Contracts.{Called, called_acted, called_word, ListCalled}
use Rattle.caller_promises.proofs.Messages.{MessageCalled, message_applied, message_bytes}
use Rattle.caller_promises.proofs.Imports.{ImportCalled, import_applied, import_bytes}
use Rattle.caller_promises.proofs.Replays.{ReplayCalled, replay_applied, replay_bytes}

-- what a caller can do under settings t: an update, which is a single call; a list of addresses, which is none and changes
-- nothing; a message, which is its single calls, by the refusal that it was given back; or a chunk of a dump or of a day, which
-- is the calls of the records that are complete with it, by the number that it was given back
pub data Did (t : Settings) : Memory → List Call → List ℕ → Memory → Type 0 where
  Single : {call : Call} {m m' : Memory} {r : ℕ} → Called t call m r m' → Did t m (call ∷ []) (r ∷ []) m'
  Addresses : {m : Memory} {party : ℕ} {addresses results results' : List ℕ} {r : ℕ} → ListCalled t m party addresses results r results' → Did t m [] [] m
  Heard : {m m' : Memory} {party : ℕ} {message hops : List ℕ} {report : Report} → MessageCalled t m party message hops report m'
      → Did t m (heard_calls party message hops report.refusal) (run t m (heard_calls party message hops report.refusal)).answers m'
  Imported : {party : ℕ} {hops chunk : List ℕ} {s s' : Chunked} → ImportCalled t party hops s chunk s'
      → Did t s.memory (imported_calls party hops s.words s.room chunk s'.number) (run t s.memory (imported_calls party hops s.words s.room chunk s'.number)).answers s'.memory
  Replayed : {party : ℕ} {hops chunk : List ℕ} {s s' : Chunked} → ReplayCalled t party hops s chunk s'
      → Did t s.memory (replayed_calls party hops s.words s.room chunk s'.number) (run t s.memory (replayed_calls party hops s.words s.room chunk s'.number)).answers s'.memory

-- Each is single calls,
pub did_single : {t : Settings} (m : Memory) (calls : List Call) (answers : List ℕ) (m' : Memory) → Did t m calls answers m' → SingleCalls t m calls answers m'
unfolding all_word_sized run each next_chunk import_chunk replay_chunk
did_single m calls answers m' (Single called) = one_made (called_word called) (called_acted called)
did_single {t} m calls answers m' (Addresses called) = made t m [] refl
did_single {t} m calls answers m' (Heard {party = party} {message = message} {hops = hops} called) = rw (message_applied called) at (message_single t m party message hops (message_bytes called))
did_single {t} m calls answers m' (Imported {party} {hops} {chunk} {s} called) =
    let bytes = import_bytes called in
    rw (import_applied called) at (import_single t s.memory party hops s.counts s.words s.room chunk bytes.0 bytes.1)
did_single {t} m calls answers m' (Replayed {party} {hops} {chunk} {s} called) =
    let bytes = replay_bytes called in
    rw (replay_applied called) at (replay_single t s.memory party hops s.counts s.words s.room chunk bytes.0 bytes.1)

-- and so are several, one after the other.
pub served_made : {t : Settings} {m m' : Memory} {calls : List Call} {answers : List ℕ} → Ran (Did t) m calls answers m' → SingleCalls t m calls answers m'
served_made = seat_made did_single

-- After an accepted clear they are a history.
pub served_history : {t : Settings} {before empty m : Memory} {calls : List Call} {answers : List ℕ} → Called t Clear before 0 empty → Ran (Did t) empty calls answers m
    → History t calls answers m
served_history cleared ran = seat_history did_single (one_made (called_word cleared) (called_acted cleared)) ran

-- What they store follows from the updates, the messages, the dumps and the days alone, refused ones left out: no answer is looked at but
-- a message's refusal and a chunk's number.
pub served_stores : {t : Settings} {before empty m : Memory} {calls : List Call} {answers : List ℕ} → Called t Clear before 0 empty → Ran (Did t) empty calls answers m
    → stored_by calls answers ≡ (paper t [] calls).last
served_stores cleared ran = routes_on_paper (served_history cleared ran)

-- Two callers cleared, under the same settings, and neither cleared again. If a party did the same in both, by its own calls,
-- messages, dumps and days, and each of its single calls was accepted in both or refused in both, then its lookups tell the same
-- route, or none, whatever the other party did.
pub served_same_for_party : {t : Settings} {before empty m other_before other_empty other : Memory} {calls others : List Call} {answers other_answers : List ℕ}
    → Called t Clear before 0 empty → Ran (Did t) empty calls answers m → Called t Clear other_before 0 other_empty → Ran (Did t) other_empty others other_answers other
    → no_clear calls ≡ true → no_clear others ≡ true → (party : ℕ) → made_by party calls answers ≡ made_by party others other_answers
    → (address : ℕ) → address < 2 ^ 32 → SameRoute (lookup t m party address) (lookup t other party address)
served_same_for_party cleared ran other_cleared other_ran = same_for_party (served_history cleared ran) (served_history other_cleared other_ran)
