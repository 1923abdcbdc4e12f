-- The room of a stream that takes bytes holds bytes, and so does every record that is read from it.
use Prim.Native.Nat.{ℕ, zero, suc, ◌+◌}
use mathlib.Core.Path.{◌≡◌, refl}
use mathlib.Core.Bool.{true}
use mathlib.Core.List.{List, [], ◌∷◌}
use lib.Dec.{ltb, eqb}
use lib.ListN.{take, set}
use lib.Pow.{are_bytes}
use borrow.Table.Steps.{cases}
use Rattle.rules.specs.Tools.{fed}
use Rattle.rules.proofs.Members.{both}
use Rattle.stream_format.specs.declared.Kind.{Kind}
use Rattle.stream_format.specs.declared.Stage.{Stage}
use Rattle.stream_format.specs.declared.Stage.TheVariants.{Header, Body, Over, Ended}
use Rattle.stream_format.specs.declared.Event.{Event}
use Rattle.stream_format.specs.declared.Event.TheVariants.{Nothing, Record, Stepped}
use Rattle.stream_format.specs.Streams.{is_kind, body_size, to_read, to_step_over, header_read, next_byte, Doing, Stream, unless_ended, completed, byte_taken, chunk_taken}

-- ---- Lists of bytes

set_bytes : (bytes : List ℕ) → are_bytes bytes ≡ true → (i b : ℕ) → ltb b 256 ≡ true → are_bytes (set bytes i b) ≡ true
set_bytes [] small i b low = refl
set_bytes (a ∷ bytes) small zero b low = rw low (both (ltb a 256) _ small).1
set_bytes (a ∷ bytes) small (suc i) b low =
    let parts = both (ltb a 256) _ small in
    rw parts.0 (set_bytes bytes parts.1 i b low)

take_bytes : (bytes : List ℕ) → are_bytes bytes ≡ true → (n : ℕ) → are_bytes (take n bytes) ≡ true
take_bytes [] small zero = refl
take_bytes [] small (suc n) = refl
take_bytes (a ∷ bytes) small zero = refl
take_bytes (a ∷ bytes) small (suc n) =
    let parts = both (ltb a 256) _ small in
    rw parts.0 (take_bytes bytes parts.1 n)

-- ---- The room

-- what a whole header leaves of it
header_room : (kind : Kind) (room : List ℕ) → (header_read kind room).room ≡ room
unfolding header_read to_read to_step_over
header_room kind room =
    let whole = eqb (body_size room) 0 in
    cases (is_kind kind room)
    (λ its. rw its (cases (ltb 65536 (body_size room)) (λ long. rw long) (λ short. rw short (cases whole (λ none. rw none) (λ some. rw some)))))
    (λ other. rw other (cases whole (λ none. rw none) (λ some. rw some)))

room_bytes : (kind : Kind) (stage : Stage) (room : List ℕ) → are_bytes room ≡ true → (b : ℕ) → ltb b 256 ≡ true → are_bytes (next_byte kind stage room b).room ≡ true
unfolding next_byte
room_bytes kind (Header read) room small b low =
    let kept = set_bytes room small read b low in
    cases (ltb (read + 1) 12) (λ more. rw more kept) (λ whole. rw (whole, header_room kind (set room read b)) kept)
room_bytes kind (Body read left) room small b low =
    let kept = set_bytes room small read b low in
    cases (ltb 1 left) (λ more. rw more kept) (λ last. rw last kept)
room_bytes kind (Over left) room small b low = cases (ltb 1 left) (λ more. rw more small) (λ last. rw last small)
room_bytes kind (Ended number) room small b low = small

-- ---- What is done

-- what a record keeps that is of bytes, or is stepped over
pub record KeptOfBytes {X : Type 0} (holds : X → Type 0) (doing : Doing X) : Type 0 where
  pub reads : (x : X) (bytes : List ℕ) → are_bytes bytes ≡ true → holds x → holds (doing.reads x bytes).leaves
  pub steps_over : (x : X) → holds x → holds (doing.steps_over x).leaves

-- the room holds bytes, and that is so of what is done
abbrev pub OfBytes : {X : Type 0} → (holds : X → Type 0) → Stream X → Type 0
OfBytes holds s = (are_bytes s.room ≡ true) × holds s.done

module _ {X : Type 0} {holds : X → Type 0} {doing : Doing X} (kept : KeptOfBytes holds doing) where
  completed_bytes : (x : X) (stage : Stage) (room : List ℕ) (event : Event) → are_bytes room ≡ true → holds x → OfBytes holds (completed doing x stage room event)
  unfolding completed unless_ended
  completed_bytes x stage room Nothing small its = (small, its)
  completed_bytes x stage room (Record size) small its = (small, kept.reads x _ (take_bytes room small size) its)
  completed_bytes x stage room Stepped small its = (small, kept.steps_over x its)

  -- A chunk of bytes keeps it so.
  pub chunk_bytes : (kind : Kind) (s : Stream X) → OfBytes holds s → (chunk : List ℕ) → are_bytes chunk ≡ true → OfBytes holds (chunk_taken kind doing s chunk)
  unfolding chunk_taken fed byte_taken
  chunk_bytes kind s its [] small = its
  chunk_bytes kind s its (b ∷ chunk) small =
      let parts = both (ltb b 256) _ small in
      let framed_bytes = room_bytes kind s.stage s.room its.0 b parts.0 in
      chunk_bytes kind (byte_taken kind doing s b) (completed_bytes s.done _ _ _ framed_bytes its.1) chunk parts.1
