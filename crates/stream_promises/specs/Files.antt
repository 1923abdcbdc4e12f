-- What a file is: records one after the other, each a header of 12 bytes and as many bytes of body as the header says. And what is
-- noted of its records, told of these records and not of the bytes as they are taken.
use Rattle.std.specs.Prelude.{ℕ, ◌+◌, ◌<◌, ◌≡◌, cond, List, [], ◌∷◌, ◌++◌, length, ltb, eqb}
use Rattle.rules.specs.Tools.{input_of}
use Rattle.stream_format.specs.Streams.{is_kind, body_size}
use Rattle.stream_format.specs.Chunks.{Reading}
use Rattle.stream_promises.specs.Noted.{Noted, Read, Over}

-- each of these is a record: it has its header, and its body as long as that says
pub data WholeRecords : (records : List (List ℕ)) → Type 0 where
  NoRecord : WholeRecords []
  RecordThen : {bytes : List ℕ} {records : List (List ℕ)} → length bytes ≡ 12 + body_size bytes → WholeRecords records → WholeRecords (bytes ∷ records)

-- The bytes of a file: whole records, and behind them what is too short for one more. Where no record is cut short that is nothing.
pub record File (bytes : List ℕ) : Type 0 where
  pub records : List (List ℕ)
  pub part : List ℕ
  pub whole : WholeRecords records
  pub short : length part < 12 + body_size part
  pub are : input_of records ++ part ≡ bytes

-- what a record that is read ends the stream with: 14 for a body above 65,536 bytes, and else what the reading says; 0 goes on
unfoldable pub ended_by : {C : Type 0} → Reading C → (bytes : List ℕ) → ℕ
ended_by r bytes = cond (ltb 65536 (body_size bytes)) 14 (r.ends_with bytes)

-- records as they are noted, in their order, up to the first one that is read and ends the stream
unfoldable pub noted_of : {C : Type 0} → Reading C → (records : List (List ℕ)) → List Noted
noted_of r [] = []
noted_of r (bytes ∷ records) =
    cond (is_kind r.kind bytes)
    (cond (eqb (ended_by r bytes) 0) (Read bytes ∷ noted_of r records) [])
    (Over ∷ noted_of r records)
