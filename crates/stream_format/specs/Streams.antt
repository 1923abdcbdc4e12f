-- A stream of records, byte by byte, under the headings of docs/TABLE.md. The bytes of a record that is read are kept in
-- lent room of 65,548 bytes: 12 for its header, and 65,536 for its body.
use Rattle.std.specs.Prelude.{ℕ, ◌+◌, ◌-◌, Bool, cond, ◌&&◌, ◌||◌, List, take, set, ltb, eqb}
use Rattle.rules.specs.Tools.{fed}
use Rattle.message_format.specs.Format.{two_bytes, four_bytes}
use Rattle.stream_format.specs.declared.Kind.{Kind}
use Rattle.stream_format.specs.declared.Stage.{Stage}
use Rattle.stream_format.specs.declared.Stage.TheVariants.{Header, Body, Over, Ended}
use Rattle.stream_format.specs.declared.Event.{Event}
use Rattle.stream_format.specs.declared.Event.TheVariants.{Nothing, Record, Stepped}

-- ---- A record's header: time, type, subtype, and how many bytes follow it

-- the type is the one that is read, and the subtype one of the two
unfoldable pub is_kind : Kind → (bytes : List ℕ) → Bool
is_kind kind bytes =
    eqb (two_bytes bytes 4) kind.number
    && (eqb (two_bytes bytes 6) kind.subtype || eqb (two_bytes bytes 6) kind.also)

-- how many bytes the body has
unfoldable pub body_size : (bytes : List ℕ) → ℕ
body_size bytes = four_bytes bytes 8

-- ---- What a byte does

-- where a stream stands after a byte, the room as it is left, and what the byte completes
pub record Framed : Type 0 where
  pub stage : Stage
  pub room : List ℕ
  pub event : Event

abbrev pub framed : Stage → (room : List ℕ) → Event → Framed
framed stage room event = record { stage = stage; room = room; event = event }

-- the header of a record that is read stands in the room: 14 for a body above 65,536 bytes; one of no bytes is complete
unfoldable pub to_read : (room : List ℕ) (size : ℕ) → Framed
to_read room size =
    cond (ltb 65536 size) (framed (Ended 14) room Nothing)
    (cond (eqb size 0) (framed (Header 0) room (Record 12)) (framed (Body 12 size) room Nothing))

-- that of any other record, however long its body
unfoldable pub to_step_over : (room : List ℕ) (size : ℕ) → Framed
to_step_over room size = cond (eqb size 0) (framed (Header 0) room Stepped) (framed (Over size) room Nothing)

-- a whole header stands in the room
unfoldable pub header_read : Kind → (room : List ℕ) → Framed
header_read kind room = cond (is_kind kind room) (to_read room (body_size room)) (to_step_over room (body_size room))

-- a byte is kept where it belongs to a header or to a record that is read; after the end it does nothing
unfoldable pub next_byte : Kind → Stage → (room : List ℕ) (byte : ℕ) → Framed
next_byte kind (Header read) room b =
    let kept = set room read b in
    cond (ltb (read + 1) 12) (framed (Header (read + 1)) kept Nothing) (header_read kind kept)
next_byte kind (Body read left) room b =
    let kept = set room read b in
    cond (ltb 1 left) (framed (Body (read + 1) (left - 1)) kept Nothing) (framed (Header 0) kept (Record (read + 1)))
next_byte kind (Over left) room b =
    cond (ltb 1 left) (framed (Over (left - 1)) room Nothing) (framed (Header 0) room Stepped)
next_byte kind (Ended number) room b = framed (Ended number) room Nothing

-- ---- What the records do

-- what a complete record does to X: the number that it ends the stream with, 0 where it goes on, and what it leaves
pub record Done (X : Type 0) : Type 0 where
  pub number : ℕ
  pub leaves : X

-- to a record that is read, and to one that is stepped over
pub record Doing (X : Type 0) : Type 0 where
  pub reads : X → (bytes : List ℕ) → Done X
  pub steps_over : X → Done X

-- a stream, with what its records have done
pub record Stream (X : Type 0) : Type 0 where
  pub stage : Stage
  pub room : List ℕ
  pub done : X

abbrev pub stream : {X : Type 0} → Stage → (room : List ℕ) → X → Stream X
stream stage room done = record { stage = stage; room = room; done = done }

-- after a complete record the stream goes on, or is ended by its number
unfoldable pub unless_ended : {X : Type 0} → Stage → (room : List ℕ) → Done X → Stream X
unless_ended stage room d = stream (cond (eqb d.number 0) stage (Ended d.number)) room d.leaves

-- what a byte completes is done
unfoldable pub completed : {X : Type 0} → Doing X → X → Stage → (room : List ℕ) → Event → Stream X
completed doing x stage room Nothing = stream stage room x
completed doing x stage room (Record size) = unless_ended stage room (doing.reads x (take size room))
completed doing x stage room Stepped = unless_ended stage room (doing.steps_over x)

-- one byte
unfoldable pub byte_taken : {X : Type 0} → Kind → Doing X → Stream X → (byte : ℕ) → Stream X
byte_taken kind doing s b =
    let f = next_byte kind s.stage s.room b in
    completed doing s.done f.stage f.room f.event

-- a chunk is taken byte by byte
unfoldable pub chunk_taken : {X : Type 0} → Kind → Doing X → Stream X → (chunk : List ℕ) → Stream X
chunk_taken kind doing = fed (byte_taken kind doing)
