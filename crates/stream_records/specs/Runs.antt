-- Bytes taken up to the one that completes a record, if one does, and what a stage may be for that.
use Rattle.std.specs.Prelude.{ℕ, ◌+◌, ◌^◌, ◌≤◌, ◌<◌, ◌≡◌, Bool, true, false, cond, List, [], ◌∷◌, length}
use Rattle.stream_format.specs.declared.Kind.{Kind}
use Rattle.stream_format.specs.declared.Stage.{Stage}
use Rattle.stream_format.specs.declared.Stage.TheVariants.{Header, Body, Over, Ended}
use Rattle.stream_format.specs.declared.Event.{Event}
use Rattle.stream_format.specs.declared.Event.TheVariants.{Nothing, Record, Stepped}
use Rattle.stream_format.specs.Streams.{Framed, framed, next_byte}
use Rattle.stream_records.specs.declared.Next.{Next}

-- a stream after some bytes, and those that are not taken yet
pub record Cut : Type 0 where
  pub after : Framed
  pub rest : List ℕ

-- a record is complete
unfoldable pub completes : Event → Bool
completes Nothing = false
completes (Record size) = true
completes Stepped = true

-- bytes are taken until a record is complete, or none are left
unfoldable pub up_to_record : Kind → Framed → (bytes : List ℕ) → Cut
up_to_record kind f [] = record { after = f; rest = [] }
up_to_record kind f (b ∷ bytes) =
    cond (completes f.event) (record { after = f; rest = b ∷ bytes })
    (up_to_record kind (next_byte kind f.stage f.room b) bytes)

-- a stage that words of 32 bits mean, with room for what is to come
abbrev pub Sound : Stage → Type 0
Sound (Header read) = read < 12
Sound (Body read left) = (12 ≤ read) × ((1 ≤ left) × (read + left ≤ 65548))
Sound (Over left) = (1 ≤ left) × (left < 2 ^ 32)
Sound (Ended number) = number < 2 ^ 16

-- what is given back: where the stream stands, the bytes that are not taken yet, and what is complete
pub record Stands (next : Next) (stage : Stage) (rest : List ℕ) (event : Event) : Type 0 where
  pub stage_is : next.stage ≡ stage
  pub rest_is : next.rest.now ≡ rest
  pub event_is : next.event ≡ event

-- it, with the room as it is left
abbrev pub cut_at : Next → (room : List ℕ) → Cut
cut_at next room = record { after = framed next.stage room next.event; rest = next.rest.now }

-- so of bytes that are taken up to the next complete record
pub record Goes (kind : Kind) (from : Framed) (bytes : List ℕ) (next : Next) (room : List ℕ) : Type 0 where
  pub cut : up_to_record kind from bytes ≡ cut_at next room
  pub sound : Sound next.stage
  pub no_more : length next.rest.now ≤ length bytes
  pub fewer : completes from.event ≡ false → completes next.event ≡ true → length next.rest.now < length bytes
  pub in_room : {size : ℕ} → next.event ≡ Record size → size ≤ 65548

-- so from a stage
abbrev pub GoesFrom : Kind → Stage → (room bytes : List ℕ) → Next → (room' : List ℕ) → Type 0
GoesFrom kind stage room bytes next room' = Goes kind (framed stage room Nothing) bytes next room'

-- for a record that is read, and for one that is stepped over, it does not matter which kind is read
abbrev pub BodyGoes : (read left : ℕ) (room bytes : List ℕ) → Next → (room' : List ℕ) → Type 0
BodyGoes read left room bytes next room' = (kind : Kind) → GoesFrom kind (Body read left) room bytes next room'

abbrev pub OverGoes : (left : ℕ) (bytes : List ℕ) → Next → Type 0
OverGoes left bytes next = (kind : Kind) (room : List ℕ) → GoesFrom kind (Over left) room bytes next room
