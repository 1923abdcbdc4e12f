-- What an import does: a dump comes in chunks, and each record adds its route as it is complete.
use Rattle.std.specs.Prelude.{ℕ, ◌+◌, Bool, cond, ◌||◌, List, [], ◌∷◌, length, get_or, ltb, eqb}
use Rattle.rules.specs.declared.Settings.{Settings}
use Rattle.rules.specs.Table.{Memory}
use Rattle.rules.specs.Calls.{accepted_of, refused_of}
use Rattle.stream_format.specs.Chunks.{Reading, Chunked, take_chunk}
use Rattle.import_format.specs.declared.ImportCounts.{ImportCounts}
use Rattle.import_format.specs.Routes.{dump_kind, record_good, record_calls}

-- ---- The counts

-- the counts with a record more, whose calls were given these answers: none of them is a record without a hop
unfoldable pub counts_more : ImportCounts → (answers : List ℕ) → ImportCounts
counts_more earlier answers =
    record {
      accepted = earlier.accepted + accepted_of answers;
      refused = earlier.refused + refused_of answers;
      hopless = earlier.hopless + cond (eqb (length answers) 0) 1 0;
    }

-- three words
unfoldable pub counts_of : (words : List ℕ) → ImportCounts
counts_of words = record { accepted = get_or words 0 0; refused = get_or words 1 0; hopless = get_or words 2 0 }

unfoldable pub counts_words : ImportCounts → List ℕ
counts_words counts = counts.accepted ∷ counts.refused ∷ counts.hopless ∷ []

-- one of them is above 4,000,000,000
unfoldable pub counts_high : ImportCounts → Bool
counts_high counts =
    ltb 4000000000 counts.accepted || (ltb 4000000000 counts.refused || ltb 4000000000 counts.hopless)

-- ---- The records

-- A record that is not well-formed ends the import with 12; any other adds its route, and is counted. Those of other kinds do
-- nothing.
unfoldable pub importing : (party : ℕ) (hops : List ℕ) → Reading ImportCounts
importing party hops =
    record {
      party = party;
      kind = dump_kind;
      ends_with = λ bytes. cond (record_good bytes) 0 12;
      calls = λ bytes. record_calls party bytes hops;
      counts_more = λ earlier bytes answers. counts_more earlier answers;
      counts_over = λ counts. counts;
      counts_of = counts_of;
      counts_words = counts_words;
      counts_high = counts_high;
    }

-- a chunk of a dump
unfoldable pub import_chunk : Settings → Memory → (party : ℕ) (hops counts words room chunk : List ℕ) → Chunked
import_chunk t m party hops counts words room chunk = take_chunk t (importing party hops) m counts words room chunk
