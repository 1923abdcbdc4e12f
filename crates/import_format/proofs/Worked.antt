-- Dumps worked out, chunk by chunk: one list, proved by one computation.
use Prim.Native.Nat.{ℕ}
use mathlib.Core.Path.{◌≡◌, refl}
use mathlib.Core.Bool.{true}
use mathlib.Core.List.{List, [], ◌∷◌, map, ◌++◌}
use mathlib.Core.Option.{Option, some, none}
use lib.ListN.{get_or, length, take, drop, replicate}
use Rattle.rules.specs.declared.Settings.{Settings}
use Rattle.rules.specs.Tools.{fed}
use Rattle.rules.specs.Table.{Memory, add, lookup, one_if}
use Rattle.rules.proofs.Worked.{ip, settings, T, empty, figures, finds, sevens, Case, case, same_words, come_out}
use Rattle.message_format.specs.Format.{prefix_from}
use Rattle.message_format.proofs.Worked.{computing as messages_computing}
use Rattle.stream_format.specs.Streams.{is_kind, body_size, to_read, to_step_over, header_read, next_byte, unless_ended, completed, byte_taken, chunk_taken}
use Rattle.stream_format.specs.Kept.{ended_word, read_word, left_word, is_ended, ended_number, is_body, stage_of, words_of, inside_record, end_number, end_stream}
use Rattle.stream_format.specs.Chunks.{record_done, record_over, doing, chunk_refusal, Chunked, stage_number, lent_back, taken_up, as_it_was, take_chunk}
use Rattle.import_format.specs.Routes.{dump_kind, route_from, entries_count, entries_from, entry_attributes, after_entry, entry_starts, entries_to, entries, entry_good, ends_well, record_good, entry_hop, chosen_hop, route_hop, record_calls}
use Rattle.import_format.specs.Importing.{counts_more, importing, counts_of, counts_words, counts_high, import_chunk}

-- ---- What the cases are written in

-- the worked record, byte by byte: 10/8 in one entry, whose attributes are ORIGIN, an empty AS_PATH and NEXT_HOP 10.9.9.1
abbrev pub sample : List ℕ
sample =
    101 ∷ 0 ∷ 0 ∷ 0 ∷ 0 ∷ 13 ∷ 0 ∷ 2 ∷ 0 ∷ 0 ∷ 0 ∷ 30
    ∷ 0 ∷ 0 ∷ 0 ∷ 0 ∷ 8 ∷ 10 ∷ 0 ∷ 1
    ∷ 0 ∷ 1 ∷ 0 ∷ 0 ∷ 0 ∷ 9 ∷ 0 ∷ 14
    ∷ 64 ∷ 1 ∷ 1 ∷ 0 ∷ 64 ∷ 2 ∷ 0 ∷ 64 ∷ 3 ∷ 4 ∷ 10 ∷ 9 ∷ 9 ∷ 1 ∷ []

-- ORIGIN; and NEXT_HOP 10.9.9.n
abbrev origin : List ℕ
origin = 64 ∷ 1 ∷ 1 ∷ 0 ∷ []

abbrev by : (n : ℕ) → List ℕ
by n = 64 ∷ 3 ∷ 4 ∷ 10 ∷ 9 ∷ 9 ∷ n ∷ []

-- a header of this type and subtype with a size of four bytes
abbrev header : (number subtype : ℕ) (size : List ℕ) → List ℕ
header number subtype size = 101 ∷ 0 ∷ 0 ∷ 0 ∷ 0 ∷ number ∷ 0 ∷ subtype ∷ size

-- that of the kind that is read before a body of fewer than 256 bytes
abbrev headed : (body : List ℕ) → List ℕ
headed body = header 13 2 (0 ∷ 0 ∷ 0 ∷ length body ∷ []) ++ body

-- entries with these attributes, of which each has fewer than 256 bytes
abbrev joined : (entries : List (List ℕ)) → List ℕ
joined [] = []
joined (attributes ∷ others) = (0 ∷ 1 ∷ 0 ∷ 0 ∷ 0 ∷ 9 ∷ 0 ∷ length attributes ∷ attributes) ++ joined others

-- a record of a prefix and so many entries, whatever follows
abbrev counted : (prefix : List ℕ) (many : ℕ) (rest : List ℕ) → List ℕ
counted prefix many rest = headed ((0 ∷ 0 ∷ 0 ∷ 0 ∷ prefix) ++ (0 ∷ many ∷ rest))

-- a record of a prefix and entries, in which every length and the count is right
abbrev dumped : (prefix : List ℕ) (entries : List (List ℕ)) → List ℕ
dumped prefix entries = counted prefix (length entries) (joined entries)

-- 10/8, as a record has it
abbrev ten : List ℕ
ten = 8 ∷ 10 ∷ []

-- a list of next hops in which 10.9.9.2 has place 0, and 10.9.9.1 place 1 and place 2
abbrev hops : List ℕ
hops = ip 10 9 9 2 ∷ ip 10 9 9 1 ∷ ip 10 9 9 1 ∷ []

-- one, or none
abbrev one : Option ℕ → List ℕ
one none = []
one (some n) = n ∷ []

-- three words
abbrev three : (a b c : ℕ) → List ℕ
three a b c = a ∷ b ∷ c ∷ []

-- room for the records of the cases; lent room has 65,548 bytes, as in a case of I2
abbrev room : List ℕ
room = replicate 100 0

-- a chunk that begins a stream, on a cleared table
abbrev begun : (chunk : List ℕ) → Chunked
begun chunk = import_chunk T (empty T) 0 hops (three 0 0 0) (three 0 0 0) room chunk

-- a chunk after another
abbrev then : Chunked → (chunk : List ℕ) → Chunked
then i chunk = import_chunk T i.memory 0 hops i.counts i.words i.room chunk

-- the end after it
abbrev ended : Chunked → Chunked
ended i = as_it_was (end_stream i.words).number i.memory i.counts (end_stream i.words).words i.room

-- what is given back, and the counts and words that are left
abbrev numbers : Chunked → List ℕ
numbers i = i.number ∷ i.counts ++ i.words

-- and all that is left beside them: the table, its counters first, and the room
abbrev told : Chunked → List ℕ
told i = numbers i ++ i.memory.counters ++ i.memory.slots ++ i.room

-- so it is with a number, counts, words, a table, and the room with these bytes at its front
abbrev leaves : (number : ℕ) (counts words : List ℕ) → Memory → (front : List ℕ) → List ℕ
leaves number counts words m front = number ∷ counts ++ words ++ m.counters ++ m.slots ++ front ++ drop (length front) room

-- a record that begins a stream adds a prefix with a hop
abbrev adds : (bytes : List ℕ) (p L hop : ℕ) → Case
adds bytes p L hop = case (told (begun bytes)) (leaves 0 (three 1 0 0) (three 0 0 0) (add T (empty T) 0 p L hop).memory bytes)

-- it has no hop
abbrev hopless : (bytes : List ℕ) → Case
hopless bytes = case (told (begun bytes)) (leaves 0 (three 0 0 1) (three 0 0 0) (empty T) bytes)

-- it ends the import with 12
abbrev faulty : (bytes : List ℕ) → Case
faulty bytes = case (told (begun bytes)) (leaves 12 (three 0 0 0) (three 13 0 0) (empty T) bytes)

-- ---- Records

records : List Case
records =
    -- I1: the worked record is made of its parts; it is well-formed, and its one entry starts at 20
    case (dumped ten ((origin ++ (64 ∷ 2 ∷ 0 ∷ []) ++ by 1) ∷ [])) sample
    ∷ case (one_if (record_good sample) ∷ entries_count sample ∷ entries sample) (1 ∷ 1 ∷ 20 ∷ [])
    ∷ case ((prefix_from sample route_from).length ∷ (prefix_from sample route_from).prefix ∷ one (route_hop sample hops)) (8 ∷ ip 10 0 0 0 ∷ 1 ∷ [])
    -- I2: it adds 10/8 with hop 1, the lowest place of 10.9.9.1, and 10.2.2.3 is then found
    ∷ adds sample (ip 10 0 0 0) 8 1
    ∷ case (figures (lookup T (begun sample).memory 0 (ip 10 2 2 3))) (finds 1 8 1)
    -- in lent room of its true size too
    ∷ case (told (import_chunk T (empty T) 0 hops (three 0 0 0) (three 0 0 0) (sevens 65548) sample)) (numbers (begun sample) ++ (begun sample).memory.counters ++ (begun sample).memory.slots ++ sample ++ sevens 65506)
    -- I3: bits after the length are cleared: 9 bits of 10.255 are 10.128/9; the default has no byte
    ∷ adds (dumped (9 ∷ 10 ∷ 255 ∷ []) (by 1 ∷ [])) (ip 10 128 0 0) 9 1
    ∷ adds (dumped (0 ∷ []) (by 1 ∷ [])) 0 0 1
    -- I4: of two entries the second alone is in the list
    ∷ adds (dumped ten (by 7 ∷ by 1 ∷ [])) (ip 10 0 0 0) 8 1
    -- I5: of two that are, the first counts, whichever stands lower in the list
    ∷ adds (dumped ten (by 1 ∷ by 2 ∷ [])) (ip 10 0 0 0) 8 1
    ∷ adds (dumped ten (by 2 ∷ by 1 ∷ [])) (ip 10 0 0 0) 8 0
    -- I6: an entry without NEXT_HOP, or with no attributes, is passed over
    ∷ adds (dumped ten (origin ∷ [] ∷ by 1 ∷ [])) (ip 10 0 0 0) 8 1
    -- I7: with no entry whose next hop is in the list nothing is added, and the record counts as one without
    ∷ hopless (dumped ten (by 7 ∷ origin ∷ []))
    -- I8: so with no entry at all
    ∷ hopless (dumped ten [])
    -- I9: 10/8 and 8/8 fill a bucket: 9/8 is refused, and counted; 10/8 again is accepted, with the new hop
    ∷ case (told (begun (sample ++ dumped (8 ∷ 8 ∷ []) (by 1 ∷ []) ++ dumped (8 ∷ 9 ∷ []) (by 1 ∷ []) ++ dumped ten (by 2 ∷ []))))
    (leaves 0 (three 3 1 0) (three 0 0 0) (add T (add T (begun sample).memory 0 (ip 8 0 0 0) 8 1).memory 0 (ip 10 0 0 0) 8 0).memory (dumped ten (by 2 ∷ []) ++ drop 35 sample))
    -- I34: 127/8 and 224/4 are refused, and counted; the record after them is done
    ∷ case (told (begun (dumped (8 ∷ 127 ∷ []) (by 1 ∷ []) ++ dumped (4 ∷ 224 ∷ []) (by 1 ∷ []) ++ sample)))
    (leaves 0 (three 1 2 0) (three 0 0 0) (begun sample).memory sample)
    -- I35: 7 bits of 127 are 126/7 and 3 bits of 239 are 224/3, which are added
    ∷ adds (dumped (7 ∷ 127 ∷ []) (by 1 ∷ [])) (ip 126 0 0 0) 7 1
    ∷ adds (dumped (3 ∷ 239 ∷ []) (by 1 ∷ [])) (ip 224 0 0 0) 3 1
    ∷ []

-- ---- Records that end the import with 12, and do nothing

faults : List Case
faults =
    map faulty
    -- I10: prefix length 33; a prefix that is cut, and one with no byte, or one, for the count after it
    (dumped (33 ∷ 10 ∷ 0 ∷ 0 ∷ 0 ∷ 0 ∷ []) (by 1 ∷ [])
    ∷ headed (0 ∷ 0 ∷ 0 ∷ 0 ∷ 16 ∷ 10 ∷ [])
    ∷ headed (0 ∷ 0 ∷ 0 ∷ 0 ∷ ten)
    ∷ headed (0 ∷ 0 ∷ 0 ∷ 0 ∷ 8 ∷ 10 ∷ 0 ∷ [])
    -- I11: two NEXT_HOPs in one entry, even two of the same address; one of three bytes, and of five
    ∷ dumped ten ((by 1 ++ by 1) ∷ [])
    ∷ dumped ten ((64 ∷ 3 ∷ 3 ∷ 10 ∷ 9 ∷ 9 ∷ []) ∷ [])
    ∷ dumped ten ((64 ∷ 3 ∷ 5 ∷ 10 ∷ 9 ∷ 9 ∷ 1 ∷ 0 ∷ []) ∷ [])
    -- I12: an entry that ends past the body, by its attributes, by its header, and altogether; an attribute past its entry
    ∷ counted ten 1 (0 ∷ 1 ∷ 0 ∷ 0 ∷ 0 ∷ 9 ∷ 0 ∷ 8 ∷ by 1)
    ∷ counted ten 2 (joined (by 1 ∷ []) ++ (0 ∷ 1 ∷ 0 ∷ 0 ∷ 0 ∷ 9 ∷ 0 ∷ []))
    ∷ counted ten 2 (joined (by 1 ∷ []))
    ∷ dumped ten (take 6 (by 1) ∷ by 1 ∷ [])
    -- I13: bytes after the last entry: one, and a whole entry that is not counted
    ∷ counted ten 1 (joined (by 1 ∷ []) ++ (0 ∷ []))
    ∷ counted ten 1 (joined (by 1 ∷ by 2 ∷ []))
    -- I14: a fault in an entry after the one that gives the hop
    ∷ dumped ten (by 1 ∷ (64 ∷ 3 ∷ 3 ∷ 10 ∷ 9 ∷ 9 ∷ []) ∷ [])
    -- I15: a body of no bytes, at once with its header
    ∷ headed []
    ∷ [])
    -- I16: the record before it stays, added and counted, and the record after it does nothing
    ++ case (told (begun (dumped ten (by 2 ∷ []) ++ headed [] ++ sample))) (leaves 12 (three 1 0 0) (three 13 0 0) (add T (empty T) 0 (ip 10 0 0 0) 8 0).memory (headed [] ++ drop 12 (dumped ten (by 2 ∷ []))))
    ∷ []

-- ---- Records that are stepped over, and a record that is too long

-- of a record only its header comes
abbrev heads : (number subtype : ℕ) (size : List ℕ) → List ℕ
heads number subtype size = told (begun (header number subtype size))

kinds : List Case
kinds =
    -- I17: a record of another kind is stepped over, with no bytes and with a body that is itself a record; what follows is read
    case (heads 13 1 (0 ∷ 0 ∷ 0 ∷ 0 ∷ [])) (leaves 0 (three 0 0 0) (three 0 0 0) (empty T) (header 13 1 (0 ∷ 0 ∷ 0 ∷ 0 ∷ [])))
    ∷ case (told (begun (header 13 4 (0 ∷ 0 ∷ 0 ∷ 42 ∷ []) ++ sample))) (leaves 0 (three 0 0 0) (three 0 0 0) (empty T) (header 13 4 (0 ∷ 0 ∷ 0 ∷ 42 ∷ [])))
    ∷ case (told (begun (header 12 2 (0 ∷ 0 ∷ 0 ∷ 1 ∷ 9 ∷ []) ++ sample))) (leaves 0 (three 1 0 0) (three 0 0 0) (add T (empty T) 0 (ip 10 0 0 0) 8 1).memory sample)
    -- I18: a body of 65,537 bytes ends the import with 14 as its header is complete; the bytes after that are not kept
    ∷ case (told (begun (header 13 2 (0 ∷ 1 ∷ 0 ∷ 1 ∷ []) ++ (7 ∷ 7 ∷ [])))) (leaves 14 (three 0 0 0) (three 15 0 0) (empty T) (header 13 2 (0 ∷ 1 ∷ 0 ∷ 1 ∷ [])))
    -- I19: one of 65,536 is read
    ∷ case (heads 13 2 (0 ∷ 1 ∷ 0 ∷ 0 ∷ [])) (leaves 0 (three 0 0 0) (three 0 12 65536) (empty T) (header 13 2 (0 ∷ 1 ∷ 0 ∷ 0 ∷ [])))
    -- I20: another kind is stepped over with any length, 2^32 - 1 too
    ∷ case (heads 13 1 (0 ∷ 1 ∷ 0 ∷ 1 ∷ [])) (leaves 0 (three 0 0 0) (three 0 0 65537) (empty T) (header 13 1 (0 ∷ 1 ∷ 0 ∷ 1 ∷ [])))
    ∷ case (told (begun (header 16 2 (replicate 4 255) ++ (7 ∷ [])))) (leaves 0 (three 0 0 0) (three 0 0 4294967294) (empty T) (header 16 2 (replicate 4 255)))
    ∷ []

-- ---- Chunks, and the end

-- a record is begun: five bytes of its header have come, or all but its last byte
abbrev five : Chunked
five = begun (take 5 sample)

abbrev all_but_one : Chunked
all_but_one = begun (take 41 sample)

-- the import has ended with 14
abbrev too_long : Chunked
too_long = begun (header 13 2 (0 ∷ 1 ∷ 0 ∷ 1 ∷ []))

-- the bytes one by one
abbrev one_by_one : Chunked → (bytes : List ℕ) → Chunked
one_by_one i [] = i
one_by_one i (b ∷ bytes) = one_by_one (then i (b ∷ [])) bytes

chunks : List Case
chunks =
    -- I21: a header that is cut after five bytes leaves the words 0, 5, 0, and a body before its last byte 0, 41, 1; the rest completes the record
    case (told five) (leaves 0 (three 0 0 0) (three 0 5 0) (empty T) (take 5 sample))
    ∷ case (told all_but_one) (leaves 0 (three 0 0 0) (three 0 41 1) (empty T) (take 41 sample))
    ∷ case (told (then five (drop 5 sample)) ++ told (then all_but_one (1 ∷ []))) (told (begun sample) ++ told (begun sample))
    -- I22: byte by byte, with a chunk of no bytes before, a record does what it does in one chunk
    ∷ case (told (one_by_one (begun []) sample)) (told (begun sample))
    -- I23: the end inside a record is given 17, and then 17 again; so is a chunk after it, and it changes nothing
    ∷ case (told (ended five) ++ told (ended (ended five))) (leaves 17 (three 0 0 0) (three 18 0 0) (empty T) (take 5 sample) ++ leaves 17 (three 0 0 0) (three 18 0 0) (empty T) (take 5 sample))
    ∷ case (told (then (ended five) sample)) (told (ended five))
    ∷ case (told (ended all_but_one)) (leaves 17 (three 0 0 0) (three 18 0 0) (empty T) (take 41 sample))
    -- I24: so is the end inside a record that is stepped over
    ∷ case (numbers (ended (begun (header 13 1 (0 ∷ 0 ∷ 0 ∷ 5 ∷ 7 ∷ []))))) (17 ∷ three 0 0 0 ++ three 18 0 0)
    -- I25: the end between two records, or before the first, is given 0; so is a chunk after it, and it changes nothing
    ∷ case (told (ended (begun sample))) (leaves 0 (three 1 0 0) (three 1 0 0) (begun sample).memory sample)
    ∷ case (told (then (ended (begun sample)) (dumped (8 ∷ 8 ∷ []) (by 1 ∷ [])))) (told (ended (begun sample)))
    ∷ case (told (ended (begun []))) (leaves 0 (three 0 0 0) (three 1 0 0) (empty T) [])
    -- I26: a chunk after 14 is given 14, and changes nothing
    ∷ case (told (then too_long sample)) (leaves 14 (three 0 0 0) (three 15 0 0) (empty T) (header 13 2 (0 ∷ 1 ∷ 0 ∷ 1 ∷ [])))
    ∷ []

-- ---- Words that no call leaves

-- what words mean, as words that a call leaves, with a room that begins with this header
abbrev means : (a b c : ℕ) (front : List ℕ) → List ℕ
means a b c front = words_of (stage_of dump_kind (three a b c) front)

-- a call on words that no call leaves
abbrev on : (a b c : ℕ) (chunk : List ℕ) → Chunked
on a b c chunk = import_chunk T (empty T) 0 hops (three 0 0 0) (three a b c) room chunk

words : List Case
words =
    -- I27: 0, 500, 7: seven bytes are stepped over; 0, 500, 0: a header begins
    case (told (on 0 500 7 (sevens 7 ++ sample)) ++ told (on 0 500 0 sample)) (told (begun sample) ++ told (begun sample))
    ∷ case ((ended (on 0 500 7 [])).number ∷ (ended (on 0 500 0 [])).number ∷ []) (17 ∷ 0 ∷ [])
    -- I28: 0, 13, 4 is a record that is read if the header in the room is of the kind, and else one that is stepped over
    ∷ case (means 0 13 4 sample ++ means 0 13 4 (header 13 1 (0 ∷ 0 ∷ 0 ∷ 5 ∷ [])) ++ means 0 13 4 room) (three 0 13 4 ++ three 0 0 4 ++ three 0 0 4)
    -- I29: with 0, 11, 4 and 0, 12, 65537 one is stepped over whatever stands there; 0, 12, 65536 fills the room
    ∷ case (means 0 11 4 sample ++ means 0 12 65537 sample ++ means 0 12 65536 sample) (three 0 0 4 ++ three 0 0 65537 ++ three 0 12 65536)
    -- I30: 70000, 1, 2: the stream has ended with 4,463, the low 16 bits of 69,999; a chunk and an end leave the words so
    ∷ case (told (on 70000 1 2 sample) ++ told (ended (on 70000 1 2 sample))) (leaves 4463 (three 0 0 0) (three 70000 1 2) (empty T) [] ++ leaves 4463 (three 0 0 0) (three 70000 1 2) (empty T) [])
    ∷ []

-- ---- Chunks that are not taken

-- one is given a number, and all is as it was
abbrev not_taken : (number : ℕ) (counts words chunk : List ℕ) → Case
not_taken number counts words chunk =
    case (told (import_chunk T (empty T) 0 hops counts words room chunk)) (leaves number counts words (empty T) [])

-- memory with a counter too few
abbrev few : Memory
few = record { counters = sevens 511; slots = sevens 258 }

-- a chunk on it
abbrev over_511 : Settings → (counts : List ℕ) → Chunked
over_511 t counts = import_chunk t few 0 hops counts (three 0 0 0) room sample

untaken : List Case
untaken =
    -- I31: a count above 4,000,000,000; at 4,000,000,000 the chunk is taken
    not_taken 19 (three 4000000001 0 0) (three 0 0 0) sample
    ∷ not_taken 19 (three 0 4000000001 0) (three 0 5 0) sample
    ∷ not_taken 19 (three 0 0 4294967295) (three 0 0 9) []
    ∷ case (numbers (import_chunk T (empty T) 0 hops (replicate 3 4000000000) (three 0 0 0) room sample)) (0 ∷ three 4000000001 4000000000 4000000000 ++ three 0 0 0)
    -- I32: a chunk of 65,537 bytes, and not one of 65,536
    ∷ not_taken 19 (three 0 0 0) (three 0 0 0) (replicate 65537 0)
    ∷ case (chunk_refusal T (empty T) 0 (counts_high (counts_of (three 0 0 0))) (replicate 65536 0) ∷ []) (0 ∷ [])
    -- I33: the end goes before 19, 19 before 1, and 1 before 2
    ∷ not_taken 14 (three 4000000001 0 0) (three 15 0 0) sample
    ∷ case (told (over_511 (settings 9 4 1 2 1 2 1) (three 4000000001 0 0))) (leaves 19 (three 4000000001 0 0) (three 0 0 0) few [])
    ∷ case (told (over_511 (settings 9 4 1 2 1 2 1) (three 0 0 0))) (leaves 1 (three 0 0 0) (three 0 0 0) few [])
    ∷ case (told (over_511 T (three 0 0 0))) (leaves 2 (three 0 0 0) (three 0 0 0) few [])
    ∷ []

-- ---- The two parties

-- a chunk of a party's that begins a stream, on this table
abbrev by_party : (party : ℕ) → Memory → (chunk : List ℕ) → Chunked
by_party party m chunk = import_chunk T m party hops (three 0 0 0) (three 0 0 0) room chunk

-- records of 10/8 and the default, with NEXT_HOP 10.9.9.n
abbrev two_routes : (n : ℕ) → List ℕ
two_routes n = dumped ten (by n ∷ []) ++ dumped (0 ∷ []) (by n ∷ [])

-- those of party 0, with hop 1; and then those of party 1, with hop 0
abbrev alone : Chunked
alone = by_party 0 (empty T) (two_routes 1)

abbrev both : Chunked
both = by_party 1 alone.memory (two_routes 2)

-- then 8/8 and 10/8 of a party's, with NEXT_HOP 10.9.9.n
abbrev again : (party n : ℕ) → Chunked
again party n = by_party party both.memory (dumped (8 ∷ 8 ∷ []) (by n ∷ []) ++ dumped ten (by n ∷ []))

-- the marks in the two slots of the bucket of 10/8 at length 8, and the two default words
abbrev marks : Chunked → List ℕ
marks i = map (λ word. get_or i.memory.slots word 0) (57 ∷ 59 ∷ 256 ∷ 257 ∷ [])

-- what each party then finds
abbrev found_by : (address : ℕ) → List ℕ
found_by address = figures (lookup T both.memory 0 address) ++ figures (lookup T both.memory 1 address)

-- a chunk of party 2's is given a number, and all is as it was
abbrev not_known : Settings → Memory → (number : ℕ) (counts words : List ℕ) → Case
not_known t m number counts words = case (told (import_chunk t m 2 hops counts words room sample)) (leaves number counts words m [])

-- memory with a word too few
abbrev word_short : Memory
word_short = record { counters = sevens 512; slots = sevens 257 }

parties : List Case
parties =
    -- I36: party 1's 10/8 and default are stored beside party 0's, with marks from 65,537 on, and each party finds its own
    case (told both) (leaves 0 (three 2 0 0) (three 0 0 0) (add T (add T alone.memory 1 (ip 10 0 0 0) 8 0).memory 1 0 0 0).memory (dumped (0 ∷ []) (by 2 ∷ []) ++ drop 34 (dumped ten (by 2 ∷ []))))
    ∷ case (marks alone ++ marks both) (2 ∷ 0 ∷ 2 ∷ 0 ∷ 2 ∷ 65537 ∷ 2 ∷ 65537 ∷ [])
    ∷ case (found_by (ip 10 2 2 3) ++ found_by (ip 11 0 0 1)) (finds 1 8 1 ++ finds 0 8 1 ++ finds 1 0 0 ++ finds 0 0 0)
    -- I37: the two fill the bucket, so that 8/8 of either party is refused, and counted; 10/8 again gets the caller's hop alone
    ∷ case (numbers (again 0 2) ++ numbers (again 1 1)) (0 ∷ three 1 1 0 ++ three 0 0 0 ++ 0 ∷ three 1 1 0 ++ three 0 0 0)
    ∷ case (marks (again 0 2) ++ marks (again 1 1)) (1 ∷ 65537 ∷ 2 ∷ 65537 ∷ 2 ∷ 65538 ∷ 2 ∷ 65537 ∷ [])
    -- I38: party 2 is given 15, and changes nothing; the end goes before it, and so do 19, 1, and 2
    ∷ not_known T (empty T) 15 (three 0 0 0) (three 0 0 0)
    ∷ not_known T both.memory 15 (three 2 0 0) (three 0 5 0)
    ∷ not_known T few 2 (three 0 0 0) (three 0 0 0)
    ∷ not_known T word_short 2 (three 0 0 0) (three 0 0 0)
    ∷ not_known (settings 9 4 1 2 1 2 1) (empty T) 1 (three 0 0 0) (three 0 0 0)
    ∷ not_known T (empty T) 19 (three 4000000001 0 0) (three 0 0 0)
    ∷ not_known T (empty T) 14 (three 0 0 0) (three 15 0 0)
    ∷ []

-- to unfold this is to unfold all that an import computes with
unfoldable pub computing : ℕ
unfolding fed is_kind body_size to_read to_step_over header_read next_byte unless_ended completed byte_taken chunk_taken ended_word read_word left_word is_ended ended_number is_body stage_of words_of inside_record end_number end_stream entries_count entries_from entry_attributes after_entry entry_starts entries_to entries entry_good ends_well record_good entry_hop chosen_hop route_hop record_calls counts_more record_done record_over doing importing counts_of counts_words counts_high chunk_refusal stage_number lent_back taken_up take_chunk import_chunk messages_computing
computing = 0

all_come_out : come_out (records ++ faults ++ kinds ++ chunks ++ words ++ untaken ++ parties) ≡ true
unfolding records faults kinds chunks words untaken parties same_words come_out computing
all_come_out = refl
