-- Recorded days worked out, chunk by chunk: one list, proved by one computation.
use Prim.Native.Nat.{ℕ, ◌+◌}
use mathlib.Core.Path.{◌≡◌, refl}
use mathlib.Core.Bool.{true}
use mathlib.Core.List.{List, [], ◌∷◌, map, ◌++◌}
use lib.ListN.{get_or, length, take, drop, set, replicate}
use Rattle.rules.specs.declared.Settings.{Settings}
use Rattle.rules.specs.Tools.{fed}
use Rattle.rules.specs.Table.{Memory, add, withdraw, lookup, one_if}
use Rattle.rules.proofs.Worked.{ip, settings, T, empty, figures, finds, sevens, Case, case, same_words, come_out}
use Rattle.message_format.proofs.Worked.{sample as update, computing as messages_computing}
use Rattle.stream_format.specs.Streams.{is_kind, body_size, to_read, to_step_over, header_read, next_byte, unless_ended, completed, byte_taken, chunk_taken}
use Rattle.stream_format.specs.Kept.{ended_word, read_word, left_word, is_ended, ended_number, is_body, stage_of, words_of, inside_record, end_number, end_stream}
use Rattle.stream_format.specs.Chunks.{record_done, record_over, doing, chunk_refusal, Chunked, stage_number, lent_back, taken_up, as_it_was, take_chunk}
use Rattle.replay_format.specs.Messages.{as_size, family_from, addresses_from, message_from, message_of, is_ipv4, is_update, too_short, holds_update, record_bad, is_applied, record_calls}
use Rattle.replay_format.specs.Replaying.{refused_under, tally_more, tally_of, tally_words, tally_high, replaying, replay_chunk}

-- ---- What the cases are written in

-- the worked record, byte by byte: subtype 4, from AS 64512 at 10.9.9.1 to AS 64513 at 10.9.9.2, with an UPDATE that withdraws
-- 10.1/16 and announces 192.0.2/24 and the default, with NEXT_HOP 10.9.9.1
abbrev pub sample : List ℕ
sample =
    101 ∷ 0 ∷ 0 ∷ 0 ∷ 0 ∷ 16 ∷ 0 ∷ 4 ∷ 0 ∷ 0 ∷ 0 ∷ 65
    ∷ 0 ∷ 0 ∷ 252 ∷ 0 ∷ 0 ∷ 0 ∷ 252 ∷ 1 ∷ 0 ∷ 0 ∷ 0 ∷ 1
    ∷ 10 ∷ 9 ∷ 9 ∷ 1 ∷ 10 ∷ 9 ∷ 9 ∷ 2
    ∷ 255 ∷ 255 ∷ 255 ∷ 255 ∷ 255 ∷ 255 ∷ 255 ∷ 255 ∷ 255 ∷ 255 ∷ 255 ∷ 255 ∷ 255 ∷ 255 ∷ 255 ∷ 255
    ∷ 0 ∷ 45 ∷ 2
    ∷ 0 ∷ 3 ∷ 16 ∷ 10 ∷ 1
    ∷ 0 ∷ 14 ∷ 64 ∷ 1 ∷ 1 ∷ 0 ∷ 64 ∷ 2 ∷ 0 ∷ 64 ∷ 3 ∷ 4 ∷ 10 ∷ 9 ∷ 9 ∷ 1
    ∷ 24 ∷ 192 ∷ 0 ∷ 2 ∷ 0 ∷ []

-- a header of this type and subtype with a size of four bytes
abbrev header : (number subtype : ℕ) (size : List ℕ) → List ℕ
header number subtype size = 101 ∷ 0 ∷ 0 ∷ 0 ∷ 0 ∷ number ∷ 0 ∷ subtype ∷ size

-- that of a record of a day before a body of fewer than 256 bytes
abbrev headed : (subtype : ℕ) (body : List ℕ) → List ℕ
headed subtype body = header 16 subtype (0 ∷ 0 ∷ 0 ∷ length body ∷ []) ++ body

-- AS 64512 and AS 64513, in two bytes each and in four
abbrev short : List ℕ
short = 252 ∷ 0 ∷ 252 ∷ 1 ∷ []

abbrev long : List ℕ
long = 0 ∷ 0 ∷ 252 ∷ 0 ∷ 0 ∷ 0 ∷ 252 ∷ 1 ∷ []

-- the addresses 10.9.9.1 and 10.9.9.2
abbrev addresses : List ℕ
addresses = 10 ∷ 9 ∷ 9 ∷ 1 ∷ 10 ∷ 9 ∷ 9 ∷ 2 ∷ []

-- what stands before a family, the family, and what follows it
abbrev family : (numbers : List ℕ) (number : ℕ) (rest : List ℕ) → List ℕ
family numbers number rest = numbers ++ (0 ∷ 0 ∷ 0 ∷ number ∷ rest)

-- a record of subtype 4 that holds this message, between neighbours of IPv4
abbrev holding : (message : List ℕ) → List ℕ
holding message = headed 4 (family long 1 (addresses ++ message))

-- one of subtype 1
abbrev holding_short : (message : List ℕ) → List ℕ
holding_short message = headed 1 (family short 1 (addresses ++ message))

-- a message of this type after this marker, in which every length is right; it has fewer than 256 bytes
abbrev marked : (marker : List ℕ) (type : ℕ) (rest : List ℕ) → List ℕ
marked marker type rest = marker ++ (0 ∷ (19 + length rest) ∷ type ∷ rest)

abbrev message : (type : ℕ) (rest : List ℕ) → List ℕ
message type rest = marked (replicate 16 255) type rest

-- what withdraws and announces these, with NEXT_HOP 10.9.9.n
abbrev updating : (withdrawn : List ℕ) (n : ℕ) (announced : List ℕ) → List ℕ
updating withdrawn n announced =
    message 2 ((0 ∷ length withdrawn ∷ withdrawn) ++ (0 ∷ 7 ∷ 64 ∷ 3 ∷ 4 ∷ 10 ∷ 9 ∷ 9 ∷ n ∷ announced))

-- a KEEPALIVE; and an OPEN of AS 64512
abbrev keepalive : List ℕ
keepalive = message 4 []

abbrev opening : List ℕ
opening = message 1 (4 ∷ 252 ∷ 0 ∷ 0 ∷ 90 ∷ 10 ∷ 9 ∷ 9 ∷ 1 ∷ 0 ∷ [])

-- the UPDATE that says nothing, as a neighbour sends it where its routes end
abbrev end_of_routes : List ℕ
end_of_routes = message 2 (0 ∷ 0 ∷ 0 ∷ 0 ∷ [])

-- the UPDATE that withdraws 10.1/16
abbrev withdrawing : List ℕ
withdrawing = message 2 (0 ∷ 3 ∷ 16 ∷ 10 ∷ 1 ∷ 0 ∷ 0 ∷ [])

-- a list of next hops in which 10.9.9.1 has place 1 and place 2
abbrev hops : List ℕ
hops = ip 10 9 9 2 ∷ ip 10 9 9 1 ∷ ip 10 9 9 1 ∷ []

-- three words
abbrev three : (a b c : ℕ) → List ℕ
three a b c = a ∷ b ∷ c ∷ []

-- a tally with no route refused but so many under 7 to 11
abbrev refusing : (seen applied accepted under_7 under_8 under_9 under_10 under_11 : ℕ) → List ℕ
refusing seen applied accepted a b c d e = seen ∷ applied ∷ accepted ∷ replicate 7 0 ++ a ∷ b ∷ c ∷ d ∷ e ∷ replicate 8 0

-- and with none
abbrev tally : (seen applied accepted : ℕ) → List ℕ
tally seen applied accepted = refusing seen applied accepted 0 0 0 0 0

abbrev none : List ℕ
none = tally 0 0 0

-- room for the records of the cases; lent room has 65,548 bytes, as in a case of R2
abbrev room : List ℕ
room = replicate 100 0

-- a chunk that begins a stream, on this table
abbrev over : Memory → (chunk : List ℕ) → Chunked
over m chunk = replay_chunk T m 0 hops none (three 0 0 0) room chunk

-- on a cleared one
abbrev begun : (chunk : List ℕ) → Chunked
begun chunk = over (empty T) chunk

-- a chunk after another
abbrev then : Chunked → (chunk : List ℕ) → Chunked
then i chunk = replay_chunk T i.memory 0 hops i.counts i.words i.room chunk

-- the end after it
abbrev ended : Chunked → Chunked
ended i = as_it_was (end_stream i.words).number i.memory i.counts (end_stream i.words).words i.room

-- what is given back, and the tally and the words that are left
abbrev numbers : Chunked → List ℕ
numbers i = i.number ∷ i.counts ++ i.words

-- and all that is left beside them: the table, its counters first, and the room
abbrev told : Chunked → List ℕ
told i = numbers i ++ i.memory.counters ++ i.memory.slots ++ i.room

-- so it is with a number, a tally, words, a table, and the room with these bytes at its front
abbrev leaves : (number : ℕ) (tally words : List ℕ) → Memory → (front : List ℕ) → List ℕ
leaves number tally words m front = number ∷ tally ++ words ++ m.counters ++ m.slots ++ front ++ drop (length front) room

-- a table of settings T that holds 10.1/16 with hop 9
abbrev held : Memory
held = (add T (empty T) 0 (ip 10 1 0 0) 16 9).memory

-- that table once the worked UPDATE is applied, and the cleared one
abbrev updated : Memory → Memory
updated m = (add T (add T (withdraw T m 0 (ip 10 1 0 0) 16).memory 0 (ip 192 0 2 0) 24 1).memory 0 0 0 1).memory

-- a record that begins a stream is seen, and does nothing to a table that holds a route
abbrev only_seen : (bytes : List ℕ) → Case
only_seen bytes = case (told (over held bytes)) (leaves 0 (tally 1 0 0) (three 0 0 0) held bytes)

-- it ends the replay with 12, and is not seen
abbrev faulty : (bytes : List ℕ) → Case
faulty bytes = case (told (over held bytes)) (leaves 12 none (three 13 0 0) held bytes)

-- a record of this type and subtype is stepped over, and seen; its body is itself a record
abbrev stepped : (number subtype : ℕ) → Case
stepped number subtype =
    let head = header number subtype (0 ∷ 0 ∷ 0 ∷ 77 ∷ []) in
    case (told (over held (head ++ sample))) (leaves 0 (tally 1 0 0) (three 0 0 0) held head)

-- the replay has ended with 12, after an applied record and one that is only seen
abbrev stopped : Chunked
stopped = over held (holding keepalive ++ sample ++ headed 4 [] ++ sample)

-- all but the last byte of a record have come
abbrev all_but_one : Chunked
all_but_one = over held (take 76 sample)

-- the bytes one by one
abbrev one_by_one : Chunked → (bytes : List ℕ) → Chunked
one_by_one i [] = i
one_by_one i (b ∷ bytes) = one_by_one (then i (b ∷ [])) bytes

-- a chunk is given a number, and all is as it was
abbrev not_taken : (number : ℕ) (tally words chunk : List ℕ) → Case
not_taken number tally words chunk =
    case (told (replay_chunk T held 0 hops tally words room chunk)) (leaves number tally words held [])

-- a chunk on memory with a counter too few
abbrev over_511 : Settings → (tally : List ℕ) → Chunked
over_511 t tally = replay_chunk t (record { counters = sevens 511; slots = sevens 258 }) 0 hops tally (three 0 0 0) room sample

-- settings with all multipliers zero, under which every route has the same bucket and the same counter; and four routes
abbrev crowded : Settings
crowded = settings 5 4 0 4 0 0 0

abbrev four_hosts : List ℕ
four_hosts =
    32 ∷ 0 ∷ 0 ∷ 0 ∷ 1 ∷ 32 ∷ 0 ∷ 0 ∷ 0 ∷ 2 ∷ 32 ∷ 0 ∷ 0 ∷ 0 ∷ 3 ∷ 32 ∷ 0 ∷ 0 ∷ 0 ∷ 4 ∷ []

-- ---- Records that apply an UPDATE

applied : List Case
applied =
    -- R1: the worked record is made of its parts; its family stands at 22 and its message at 32, and with subtype 1 at 18 and 28
    case (holding update) sample
    ∷ case (family_from sample ∷ message_from sample ∷ one_if (is_applied sample hops) ∷ message_of sample) (22 ∷ 32 ∷ 1 ∷ update)
    ∷ case (family_from (holding_short update) ∷ message_from (holding_short update) ∷ one_if (is_applied (holding_short update) hops) ∷ message_of (holding_short update)) (18 ∷ 28 ∷ 1 ∷ update)
    -- R2: its UPDATE is applied: three routes are accepted, and 192.0.2.7 is then found; on a cleared table its withdrawal is
    -- refused under 7
    ∷ case (told (over held sample)) (leaves 0 (tally 1 1 3) (three 0 0 0) (updated held) sample)
    ∷ case (figures (lookup T (over held sample).memory 0 (ip 192 0 2 7))) (finds 1 24 1)
    ∷ case (told (begun sample)) (leaves 0 (refusing 1 1 2 1 0 0 0 0) (three 0 0 0) (updated (empty T)) sample)
    -- in lent room of its true size too
    ∷ case (told (replay_chunk T held 0 hops none (three 0 0 0) (sevens 65548) sample)) (numbers (over held sample) ++ (updated held).counters ++ (updated held).slots ++ sample ++ sevens 65471)
    -- R3: so it is in subtype 1
    ∷ case (told (over held (holding_short update))) (leaves 0 (tally 1 1 3) (three 0 0 0) (updated held) (holding_short update))
    -- R4: an UPDATE that says nothing is applied, and has no route
    ∷ case (told (over held (holding end_of_routes))) (leaves 0 (tally 1 1 0) (three 0 0 0) held (holding end_of_routes))
    -- R5: each route is tallied under the number that it is given: 10.1/16 and 10.2/16 are not stored (7), 10/8 and 8/8 fill the
    -- bucket of 9/8 (8), and 127/8 is odd (11)
    ∷ case (numbers (begun (holding (updating (16 ∷ 10 ∷ 1 ∷ 16 ∷ 10 ∷ 2 ∷ []) 1 (8 ∷ 10 ∷ 8 ∷ 8 ∷ 8 ∷ 9 ∷ 8 ∷ 127 ∷ 8 ∷ 192 ∷ []))))) (0 ∷ refusing 1 1 3 2 1 0 0 1 ++ three 0 0 0)
    -- R6: three routes bring a counter to 15, and a fourth is refused under 9; with the counters at 0 the withdrawal of a stored
    -- route is refused under 10
    ∷ case (numbers (replay_chunk crowded (empty crowded) 0 hops none (three 0 0 0) room (holding (updating [] 1 four_hosts)))) (0 ∷ refusing 1 1 3 0 0 1 0 0 ++ three 0 0 0)
    ∷ case (numbers (over (record { counters = (empty T).counters; slots = held.slots }) (holding withdrawing))) (0 ∷ refusing 1 1 0 0 0 0 1 0 ++ three 0 0 0)
    -- R7: a tally goes on from what was tallied before, in one chunk and in the next
    ∷ case (numbers (then (over held (sample ++ holding keepalive)) (sample ++ holding end_of_routes))) (0 ∷ refusing 4 3 5 1 0 0 0 0 ++ three 0 0 0)
    ∷ []

-- ---- Records that are only seen

seen : List Case
seen =
    map only_seen
    -- R8: a KEEPALIVE, in either subtype, and an OPEN; what is no UPDATE is not looked at: a marker of zeros, a length of 99
    (holding keepalive
    ∷ holding_short keepalive
    ∷ holding opening
    ∷ holding (marked (replicate 16 0) 4 [])
    ∷ holding (set keepalive 17 99)
    -- R9: a family of IPv6, with an UPDATE after its addresses, or where one of IPv4 has it; a record that ends with that family;
    -- and the family 257
    ∷ headed 4 (family long 2 (replicate 32 9 ++ withdrawing))
    ∷ headed 4 (family long 2 (addresses ++ withdrawing))
    ∷ headed 4 (family long 2 [])
    ∷ headed 1 (family short 2 [])
    ∷ set (holding withdrawing) 22 1
    -- R10: a record that is too short for addresses and a message's header, were it of IPv4
    ∷ headed 4 (family long 2 (addresses ++ take 18 keepalive))
    -- R11: an UPDATE that is refused with 13 is not applied, its withdrawal neither: its next hop is not in the list, or missing
    ∷ holding (updating (16 ∷ 10 ∷ 1 ∷ []) 7 (0 ∷ []))
    ∷ holding (message 2 (0 ∷ 3 ∷ 16 ∷ 10 ∷ 1 ∷ 0 ∷ 0 ∷ 0 ∷ []))
    ∷ [])

-- ---- Records that end the replay with 12, and are not seen

faults : List Case
faults =
    map faulty
    -- R12: a body of no bytes; one that ends before its family does, or a byte before, whichever family that is; one long enough
    -- for subtype 1
    (headed 4 []
    ∷ headed 1 []
    ∷ headed 4 long
    ∷ headed 4 (take 11 (family long 2 []))
    ∷ headed 1 (take 7 (family short 2 []))
    ∷ headed 4 (family short 2 [])
    -- R13: with IPv4 one that ends with its family, with its addresses, or before the type of its message
    ∷ headed 4 (family long 1 [])
    ∷ holding []
    ∷ holding (take 18 keepalive)
    ∷ holding_short (take 18 keepalive)
    -- R14: an UPDATE that is not well-formed: a marker that is not all ones, a length that is one less, a byte after it, no parts
    ∷ holding (set update 0 254)
    ∷ holding (set update 17 44)
    ∷ holding (update ++ (0 ∷ []))
    ∷ holding (message 2 [])
    ∷ [])
    -- R15: the records before it stay applied and tallied, and the record after it does nothing; nor does a chunk after it
    ++ case (told stopped) (leaves 12 (tally 2 1 3) (three 13 0 0) (updated held) (headed 4 [] ++ drop 12 sample))
    ∷ case (told (then stopped sample)) (told stopped)
    ∷ []

-- ---- Records that are stepped over, and a record that is too long

kinds : List Case
kinds =
    -- R16: records of other types and subtypes are stepped over and seen, with a body that is itself a record
    stepped 17 4
    ∷ stepped 16 0
    ∷ stepped 16 5
    ∷ stepped 16 6
    ∷ stepped 16 7
    -- so they are with no bytes, and what follows is read; they are seen once they are complete
    ∷ case (numbers (over held (header 13 2 (0 ∷ 0 ∷ 0 ∷ 0 ∷ []) ++ header 16 5 (0 ∷ 0 ∷ 0 ∷ 1 ∷ 9 ∷ []) ++ sample))) (0 ∷ tally 3 1 3 ++ three 0 0 0)
    ∷ case (numbers (begun (header 16 0 (0 ∷ 0 ∷ 0 ∷ 5 ∷ 7 ∷ [])))) (0 ∷ none ++ three 0 0 4)
    -- R17: a body of 65,537 bytes ends the replay with 14 as its header is complete, in either subtype, and is not seen; one of
    -- 65,536 is read; another kind is stepped over with any length
    ∷ case (told (begun (header 16 4 (0 ∷ 1 ∷ 0 ∷ 1 ∷ []) ++ family long 2 []))) (leaves 14 none (three 15 0 0) (empty T) (header 16 4 (0 ∷ 1 ∷ 0 ∷ 1 ∷ [])))
    ∷ case (numbers (begun (header 16 1 (0 ∷ 1 ∷ 0 ∷ 1 ∷ [])))) (14 ∷ none ++ three 15 0 0)
    ∷ case (numbers (begun (header 16 4 (0 ∷ 1 ∷ 0 ∷ 0 ∷ [])))) (0 ∷ none ++ three 0 12 65536)
    ∷ case (numbers (begun (header 16 5 (0 ∷ 1 ∷ 0 ∷ 1 ∷ [])))) (0 ∷ none ++ three 0 0 65537)
    ∷ []

-- ---- Chunks, and the end

chunks : List Case
chunks =
    -- R18: a header that is cut after five bytes, and a body before its last byte; the rest completes the record
    case (told (over held (take 5 sample))) (leaves 0 none (three 0 5 0) held (take 5 sample))
    ∷ case (told all_but_one) (leaves 0 none (three 0 76 1) held (take 76 sample))
    ∷ case (told (then (over held (take 5 sample)) (drop 5 sample)) ++ told (then all_but_one (0 ∷ []))) (told (over held sample) ++ told (over held sample))
    -- R19: byte by byte a record does what it does in one chunk
    ∷ case (told (one_by_one (over held []) sample)) (told (over held sample))
    -- R20: the end inside a record is given 17, and the record is not seen; that between two records is given 0
    ∷ case (told (ended all_but_one)) (leaves 17 none (three 18 0 0) held (take 76 sample))
    ∷ case (told (ended (over held sample))) (leaves 0 (tally 1 1 3) (three 1 0 0) (updated held) sample)
    ∷ []

-- ---- Chunks that are not taken

untaken : List Case
untaken =
    -- R21: a figure above 4,000,000,000, whichever it is; at 4,000,000,000 the chunk is taken
    map (λ place. not_taken 19 (set none place 4000000001) (three 0 0 0) sample) (0 ∷ 1 ∷ 2 ∷ 3 ∷ 10 ∷ 14 ∷ 22 ∷ [])
    ++ case (numbers (replay_chunk T held 0 hops (replicate 23 4000000000) (three 0 0 0) room sample)) (0 ∷ 4000000001 ∷ 4000000001 ∷ 4000000003 ∷ replicate 20 4000000000 ++ three 0 0 0)
    -- R22: the end goes before 19, 19 before 1, and 1 before 2
    ∷ not_taken 14 (set none 22 4000000001) (three 15 0 0) sample
    ∷ case (numbers (over_511 (settings 9 4 1 2 1 2 1) (set none 22 4000000001))) (19 ∷ set none 22 4000000001 ++ three 0 0 0)
    ∷ case (numbers (over_511 (settings 9 4 1 2 1 2 1) none)) (1 ∷ none ++ three 0 0 0)
    ∷ case (numbers (over_511 T none)) (2 ∷ none ++ three 0 0 0)
    ∷ []

-- ---- The two parties

-- a chunk of a party's that begins a stream, on this table
abbrev by_party : (party : ℕ) → Memory → (chunk : List ℕ) → Chunked
by_party party m chunk = replay_chunk T m party hops none (three 0 0 0) room chunk

-- a record that withdraws 10.1/16 and announces 192.0.2/24 and the default, as the worked one does, with NEXT_HOP 10.9.9.2
abbrev theirs : List ℕ
theirs = holding (updating (16 ∷ 10 ∷ 1 ∷ []) 2 (24 ∷ 192 ∷ 0 ∷ 2 ∷ 0 ∷ []))

-- party 1's record where party 0 has 10.1/16, and then the worked record of party 0
abbrev one_first : Chunked
one_first = by_party 1 held theirs

abbrev both : Chunked
both = by_party 0 one_first.memory sample

-- the two default words
abbrev defaults : Chunked → List ℕ
defaults i = map (λ word. get_or i.memory.slots word 0) (256 ∷ 257 ∷ [])

-- what each party then finds
abbrev found_by : Memory → (address : ℕ) → List ℕ
found_by m address = figures (lookup T m 0 address) ++ figures (lookup T m 1 address)

-- a chunk of party 2's is given a number, and all is as it was
abbrev not_known : Settings → Memory → (number : ℕ) (tally words : List ℕ) → Case
not_known t m number tally words = case (told (replay_chunk t m 2 hops tally words room sample)) (leaves number tally words m [])

parties : List Case
parties =
    -- R23: party 1's record withdraws nothing of party 0's, which is refused under 7, and announces party 1's routes alone
    case (told one_first) (leaves 0 (refusing 1 1 2 1 0 0 0 0) (three 0 0 0) (add T (add T held 1 (ip 192 0 2 0) 24 0).memory 1 0 0 0).memory theirs)
    ∷ case (found_by one_first.memory (ip 10 1 2 3)) (finds 9 16 1 ++ finds 0 0 1)
    -- R24: party 0's equal routes are stored beside them, and each party finds its own
    ∷ case (told both) (leaves 0 (tally 1 1 3) (three 0 0 0) (updated one_first.memory) sample)
    ∷ case (defaults one_first ++ defaults both) (0 ∷ 65537 ∷ 2 ∷ 65537 ∷ [])
    ∷ case (found_by both.memory (ip 192 0 2 7) ++ found_by both.memory (ip 10 1 2 3)) (finds 1 24 1 ++ finds 0 24 1 ++ finds 1 0 0 ++ finds 0 0 0)
    -- R25: party 2 is given 15, and changes nothing; the end goes before it, and so do 19, 1, and 2
    ∷ not_known T held 15 none (three 0 0 0)
    ∷ not_known T held 15 (tally 1 1 3) (three 0 5 0)
    ∷ not_known T (record { counters = sevens 511; slots = sevens 258 }) 2 none (three 0 0 0)
    ∷ not_known T (record { counters = sevens 512; slots = sevens 257 }) 2 none (three 0 0 0)
    ∷ not_known (settings 9 4 1 2 1 2 1) held 1 none (three 0 0 0)
    ∷ not_known T held 19 (set none 22 4000000001) (three 0 0 0)
    ∷ not_known T held 14 none (three 15 0 0)
    ∷ []

-- to unfold this is to unfold all that a replay computes with
unfoldable pub computing : ℕ
unfolding fed is_kind body_size to_read to_step_over header_read next_byte unless_ended completed byte_taken chunk_taken ended_word read_word left_word is_ended ended_number is_body stage_of words_of inside_record end_number end_stream as_size family_from addresses_from message_from message_of is_ipv4 is_update too_short holds_update record_bad is_applied record_calls refused_under tally_more tally_of tally_words tally_high record_done record_over doing replaying chunk_refusal stage_number lent_back taken_up take_chunk replay_chunk messages_computing
computing = 0

all_come_out : come_out (applied ++ seen ++ faults ++ kinds ++ chunks ++ untaken ++ parties) ≡ true
unfolding applied seen faults kinds chunks untaken parties same_words come_out computing
all_come_out = refl
