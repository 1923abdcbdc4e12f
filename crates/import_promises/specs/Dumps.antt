-- What an import stands for: its records and their single calls, as those of any stream (stream_promises/specs/Noted.antt), and
-- the counts that they come to.
use Rattle.std.specs.Prelude.{ℕ, ◌+◌, cond, List, [], ◌∷◌}
use Rattle.rules.specs.declared.Settings.{Settings}
use Rattle.rules.specs.Table.{is_some}
use Rattle.rules.specs.Calls.{Call, accepted_of, refused_of}
use Rattle.stream_format.specs.Chunks.{Chunked}
use Rattle.import_format.specs.declared.ImportCounts.{ImportCounts}
use Rattle.import_format.specs.Routes.{route_hop}
use Rattle.import_format.specs.Importing.{importing}
use Rattle.stream_promises.specs.Noted.{Noted, Read, Over, taken_records, taken_calls, Streamed}

-- the records that a chunk does, by the number that it is given: the well-formed ones that it completes, up to the first one that
-- is not, and those that are stepped over; none where it is not taken
abbrev pub imported_records : (party : ℕ) (hops words room chunk : List ℕ) (number : ℕ) → List Noted
imported_records party hops words room chunk number = taken_records (importing party hops) words room chunk number

-- the calls that a history has of a chunk: the adds of these records
abbrev pub imported_calls : (party : ℕ) (hops words room chunk : List ℕ) (number : ℕ) → List Call
imported_calls party hops words room chunk number = taken_calls (importing party hops) words room chunk number

-- how many of these records are read and have no hop
unfoldable pub hopless_of : (hops : List ℕ) (records : List Noted) → ℕ
hopless_of hops [] = 0
hopless_of hops (Read bytes ∷ records) = cond (is_some (route_hop bytes hops)) 0 1 + hopless_of hops records
hopless_of hops (Over ∷ records) = hopless_of hops records

-- the counts, over records whose calls were given these answers: how many calls were accepted, how many refused, and how many
-- records are no call
unfoldable pub import_counts : (hops : List ℕ) → ImportCounts → (records : List Noted) (answers : List ℕ) → ImportCounts
import_counts hops earlier records answers =
    record {
      accepted = earlier.accepted + accepted_of answers;
      refused = earlier.refused + refused_of answers;
      hopless = earlier.hopless + hopless_of hops records;
    }

-- These chunks were imported one after the other for one party, under the same settings and with the same list of next hops,
-- and none was given 19, 1, 2 or 15. Nothing else touched the table, the counts, the words or the room.
abbrev pub Imports : Settings → (party : ℕ) (hops : List ℕ) → Chunked → (chunks : List (List ℕ)) → Chunked → Type 0
Imports t party hops = Streamed t (importing party hops)
