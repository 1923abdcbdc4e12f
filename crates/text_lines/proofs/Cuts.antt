-- What whoever feeds a stream may rely on: the answers are those to the input's lines taken one by one, wherever it was cut, and no call is refused that has room for its answers.
use Prim.Native.Nat.{ℕ, ◌*◌, ◌≤◌}
use mathlib.Core.Path.{◌≡◌, refl, ap, sym, ◌∙◌}
use mathlib.Core.Bool.{true}
use mathlib.Core.List.{List, [], ◌∷◌, ◌++◌}
use lib.ListN.{length}
use lib.Dec.{lit≤}
use borrow.Author.Tests.{le-leb}
use Rattle.rules.specs.Tools.{input_of}
use Rattle.rules.specs.declared.Settings.{Settings}
use Rattle.rules.specs.Table.{Memory}
use Rattle.text_lines.specs.Lines.{lines, lines_text, Stream, going, feed, stream_text, roomy}
use Rattle.text_lines.proofs.Owed.{Keeps, owed, owed_last, unfinished, keeps_chunk, owed_chunk}

-- a stream begins with nothing kept
pub begins : (m : Memory) (line : List ℕ) → 65 ≤ length line → Keeps [] (going m line 0)
begins m line room = record { room = room; kept_in = lit≤ tt; first = refl }

-- chunk after chunk, all that is owed is written
all_written : (t : Settings) (chunks : List (List ℕ)) {begun : List ℕ} {s : Stream} → Keeps begun s → stream_text t s chunks ≡ owed t s begun (input_of chunks)
unfolding stream_text input_of
all_written t [] k = owed_last k t
all_written t (chunk ∷ chunks) {begun} {s} k =
    let k' = keeps_chunk t chunk k in
    let next : Keeps (unfinished chunk begun) (going (feed t s chunk).memory (feed t s chunk).line (feed t s chunk).count) =
    record { room = k'.room; kept_in = k'.kept_in; first = k'.first } in
    ap (λ (rest : List ℕ). (feed t s chunk).text ++ rest) (all_written t chunks next) ∙ owed_chunk t chunk (input_of chunks) k

-- What is written to an input equals the answers to its lines, taken one by one.
pub one_by_one : (t : Settings) (m : Memory) (line : List ℕ) (chunks : List (List ℕ)) → 65 ≤ length line → stream_text t (going m line 0) chunks ≡ lines_text t m (lines (input_of chunks))
unfolding lines
one_by_one t m line chunks room = all_written t chunks (begins m line room)

-- It does not depend on how the input was cut, nor on what the lent bytes held.
pub any_cut : (t : Settings) (m : Memory) (line line' : List ℕ) (chunks chunks' : List (List ℕ)) → 65 ≤ length line → 65 ≤ length line' → input_of chunks ≡ input_of chunks' → stream_text t (going m line 0) chunks ≡ stream_text t (going m line' 0) chunks'
any_cut t m line line' chunks chunks' room room' same =
    one_by_one t m line chunks room ∙ ap (λ (input : List ℕ). lines_text t m (lines input)) same ∙ sym (one_by_one t m line' chunks' room')

-- Where a stream keeps its line, a call with room for its answers is not refused.
pub room_kept : {begun : List ℕ} {s : Stream} → Keeps begun s → (ends : ℕ) (out : List ℕ) → ends * 33 ≤ length out → roomy s.line s.count ends out ≡ true
unfolding roomy
room_kept k ends out enough = simp (le-leb _ _ k.room, le-leb _ _ k.kept_in, le-leb _ _ enough)

-- So a stream that began with nothing kept and 65 lent bytes is refused only for want of room for answers.
pub only_for_answers : (t : Settings) (m : Memory) (line input : List ℕ) (ends : ℕ) (out : List ℕ) → 65 ≤ length line → ends * 33 ≤ length out → let s = feed t (going m line 0) input in roomy s.line s.count ends out ≡ true
only_for_answers t m line input ends out room enough = room_kept (keeps_chunk t input (begins m line room)) ends out enough
