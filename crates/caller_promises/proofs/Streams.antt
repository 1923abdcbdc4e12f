-- What a caller of crates/stream_records learns of an end, what the types of a lent array tell, and chunks that a seat took one
-- after the other, whatever it reads.
use Prim.Native.Nat.{ℕ}
use mathlib.Core.Path.{◌≡◌, refl}
use mathlib.Core.Bool.{true, false}
use mathlib.Core.List.{List, [], ◌∷◌}
use lib.Pow.{are_bytes}
use mir.Syntax.{w8, named}
use mir.Val.{Val}
use base.Logic.{ent}
use contract.Lifetimes.{Lfts, Shares, Within, lft_at}
use contract.Monad.{fact}
use denote.Array.{Array, each}
use denote.RattleType.{Valss}
use denote.Ref.{MutBor, MutRef}
use denote.Shadow.{shadow}
use denote.Signature.{types_at}
use denote.Triple.Clauses.{AtExit}
use denote.Triple.Entry.{on_entry}
use borrow.Author.Tests.{lt-ltb}
use borrow.Fn.Kinds.{ParamKind, ResultKind, sig_of, slots, Dens}
use borrow.Fn.World.{World, ArgsD, ResD}
use borrow.Table.Referent.{f_int, rt_f, own_f}
use Rattle.rules.specs.declared.Settings.{Settings}
use Rattle.stream_format.specs.Kept.{end_stream as ended, ended_as}
use Rattle.stream_format.specs.Chunks.{Reading, Chunked}
use Rattle.stream_promises.specs.Noted.{untaken, next_chunk, Streamed, NoMore, Chunk}
use Rattle.caller_promises.proofs.Elements.{own_at, referent_owned}
use Rattle.stream_records.specs.contracts.end_stream
use Rattle.stream_records.proofs.end_stream.Reads as end_reads

-- ---- What an array's type tells

-- the elements of an array of bytes are bytes
array_bytes : (bytes : List ℕ) (values : List Val) → shadow (each ℕ (own_f (f_int w8)) bytes values) → are_bytes bytes ≡ true
array_bytes [] values fit = refl
array_bytes (byte ∷ bytes) [] fit = absurd fit
array_bytes (byte ∷ bytes) (v ∷ values) fit = rw (lt-ltb byte 256 fit.0.1) (array_bytes bytes values fit.1)

-- so the parameter at place k tells, a `&mut` to such an array, lent for lifetime j
pub array_owned : (w : World) {n : ℕ} (ps : List (ParamKind n)) (r : ResultKind n) (κs : Lfts n) (qs : Shares n) (a : Dens κs ps) (vss : Valss (types_at (slots ps) κs)) (size k j : ℕ) (ok : Within n j) (x : MutBor (List ℕ)) {vs : List Val}
    → own_at κs ps a vss k ≡ (MutRef (named j) (lft_at n j ok κs) (Array (rt_f (f_int w8)) size)).own_val x vs
    → ent w.𝓤 (on_entry w.𝓛 (sig_of n ps r) κs qs a vss) (w.𝓛.H.⇛ (fact w.𝓤 (are_bytes x.now ≡ true)))
array_owned w ps r κs qs a vss size k j ok x lent =
    referent_owned w ps r κs qs a vss (Array (rt_f (f_int w8)) size) k j ok x lent (λ values fit. array_bytes x.now fit.0 fit.1.1)

-- ---- Streams as they were ended

pub end_ensures : (κs : Lfts 1) (a : ArgsD end_stream.signature κs) (r : ResD end_stream.signature κs) (end : AtExit end_stream.ended κs) → end_reads.Learnt κs a r end
    → ended a.0.now ≡ ended_as r end.0.now
end_ensures κs a r end learnt = learnt

-- the end of a stream
pub data EndCalled : (words : List ℕ) (r : ℕ) (words' : List ℕ) → Type 0 where
  EndStreamCalled : (κs : Lfts 1) (a : ArgsD end_stream.signature κs) (r : ResD end_stream.signature κs) (end : AtExit end_stream.ended κs) → end_reads.Learnt κs a r end
      → EndCalled a.0.now r end.0.now

pub end_given : {words words' : List ℕ} {r : ℕ} → EndCalled words r words' → ended words ≡ ended_as r words'
end_given (EndStreamCalled κs a r end learnt) = end_ensures κs a r end learnt

-- ---- Chunks one after the other

-- Chunks that a seat took one after the other, none of which was given 19, 1, 2 or 15: One is what it saw of a single chunk.
pub data Chunks (One : Chunked → (chunk : List ℕ) → Chunked → Type 0) : Chunked → (chunks : List (List ℕ)) → Chunked → Type 0 where
  NoneLeft : {s : Chunked} → Chunks One s [] s
  Next : {s s' last : Chunked} {chunk : List ℕ} {chunks : List (List ℕ)} → One s chunk s' → untaken s'.number ≡ false → Chunks One s' chunks last → Chunks One s (chunk ∷ chunks) last

-- Where one is the rules' chunk, these are a stream of theirs, and so every promise of one holds of them.
pub seat_streamed : {C : Type 0} {t : Settings} {r : Reading C} {One : Chunked → (chunk : List ℕ) → Chunked → Type 0}
    → ((s : Chunked) (chunk : List ℕ) (s' : Chunked) → One s chunk s' → next_chunk t r s chunk ≡ s')
    → {s last : Chunked} {chunks : List (List ℕ)} → Chunks One s chunks last → Streamed t r s chunks last
seat_streamed is NoneLeft = NoMore
seat_streamed is (Next {s} {s'} {chunk = chunk} one taken chunks) =
    let given = is s chunk s' one in
    Chunk (rw (← given) at taken) (rw (← given) at (seat_streamed is chunks))
