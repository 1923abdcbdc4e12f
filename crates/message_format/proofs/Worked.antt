-- Messages worked out: one list, proved by one computation. The places about 65,535 of a long list stand on a law.
use Prim.Native.Nat.{ℕ, zero, suc, ◌+◌, ◌<◌}
use native.Mathlib.Omega.{arith}
use native.Mathlib.Nat.{le_of_suc-le-suc}
use mathlib.Core.Path.{◌≡◌, refl}
use mathlib.Core.Bool.{Bool, true}
use mathlib.Core.List.{List, [], ◌∷◌, map, ◌++◌}
use mathlib.Core.Option.{Option, some, none}
use lib.Dec.{eqb}
use lib.ListN.{length, take, get_or, set, replicate, length-append, length-replicate}
use Rattle.rules.specs.Table.{Memory, add, withdraw, lookup, one_if}
use Rattle.rules.specs.Calls.{act, each, run, accepted_of, refused_of}
use Rattle.rules.proofs.Worked.{ip, settings, T, empty, figures, finds, told as written, sevens, Case, case, same_words, come_out, computing as rules_computing}
use Rattle.rules.proofs.Lowest.{lowest_here, lowest_none}
use Rattle.message_format.specs.Format.{some_starts, starts, byte, from_octets, two_bytes, four_bytes, Prefix, bytes_for, octet, address_at, prefix_from, after_prefix, prefix_fits, prefixes_fit, prefixes, extended, type_of, value_from, value_size, after_attribute, attribute_fits, attributes_fit, next_hops, at_most_one, attributes_good, first_hop, next_hop, all_ones, header_good, withdrawn_to, attributes_from, announced_from, parts_fit, withdrawn_prefixes, announced_prefixes, announces, message_hop, contents_good, well_formed}
use Rattle.message_format.specs.Reading.{place_in, hop_place, is_hop, hop_in, update_refusal, message_refusal, withdrawals, announcements, message_calls, Read, counts, refused_message, apply_message, report_number}
use Rattle.message_format.specs.Writing.{octets, prefix_bytes, withdrawal_size, withdrawal, writing_refusal, write_withdrawal}

-- ---- What the cases are written in

-- the three attributes of the worked message: ORIGIN, an empty AS_PATH, and NEXT_HOP 10.9.9.1
abbrev origin : List ℕ
origin = 64 ∷ 1 ∷ 1 ∷ 0 ∷ []

abbrev as_path : List ℕ
as_path = 64 ∷ 2 ∷ 0 ∷ []

abbrev hop_1 : List ℕ
hop_1 = 64 ∷ 3 ∷ 4 ∷ 10 ∷ 9 ∷ 9 ∷ 1 ∷ []

-- the worked message, byte by byte: it withdraws 10.1/16 and announces 192.0.2/24 and the default
abbrev pub sample : List ℕ
sample =
    255 ∷ 255 ∷ 255 ∷ 255 ∷ 255 ∷ 255 ∷ 255 ∷ 255 ∷ 255 ∷ 255 ∷ 255 ∷ 255 ∷ 255 ∷ 255 ∷ 255 ∷ 255
    ∷ 0 ∷ 45 ∷ 2
    ∷ 0 ∷ 3 ∷ 16 ∷ 10 ∷ 1
    ∷ 0 ∷ 14 ∷ 64 ∷ 1 ∷ 1 ∷ 0 ∷ 64 ∷ 2 ∷ 0 ∷ 64 ∷ 3 ∷ 4 ∷ 10 ∷ 9 ∷ 9 ∷ 1
    ∷ 24 ∷ 192 ∷ 0 ∷ 2 ∷ 0 ∷ []

-- an UPDATE's marker, length and type before these bytes, of which there are fewer than 237
abbrev headed : (rest : List ℕ) → List ℕ
headed rest = replicate 16 255 ++ (0 ∷ (19 + length rest) ∷ 2 ∷ rest)

-- a message of these three parts, in which every length is right
abbrev message : (withdrawn attributes announced : List ℕ) → List ℕ
message withdrawn attributes announced =
    headed ((0 ∷ length withdrawn ∷ withdrawn) ++ (0 ∷ length attributes ∷ attributes) ++ announced)

-- what is announced with NEXT_HOP 10.9.9.1
abbrev announcing : (announced : List ℕ) → List ℕ
announcing announced = message [] hop_1 announced

-- a list of next hops in which 10.9.9.1 has place 1 and place 2
abbrev hops : List ℕ
hops = ip 10 9 9 2 ∷ ip 10 9 9 1 ∷ ip 10 9 9 1 ∷ []

-- a table of settings T that holds 10.1/16 with hop 9
abbrev held : Memory
held = (add T (empty T) 0 (ip 10 1 0 0) 16 9).memory

-- one, or none
abbrev one : Option ℕ → List ℕ
one none = []
one (some n) = n ∷ []

-- length and prefix of each
abbrev pairs : List Prefix → List ℕ
pairs [] = []
pairs (q ∷ qs) = q.length ∷ q.prefix ∷ pairs qs

-- the prefixes of bytes that hold nothing else
abbrev read : List ℕ → List ℕ
read bytes = pairs (prefixes bytes 0 (length bytes))

-- whether the prefixes, or the attributes, of bytes that hold nothing else fit
abbrev fit : List ℕ → ℕ
fit bytes = one_if (prefixes_fit bytes 0 (length bytes))

abbrev good : List ℕ → ℕ
good bytes = one_if (attributes_good bytes 0 (length bytes))

-- the NEXT_HOP of attributes
abbrev hop_of : List ℕ → List ℕ
hop_of bytes = one (next_hop bytes 0 (length bytes))

-- what a message is given back, and all that it leaves, the counters first
abbrev told : Read → List ℕ
told r = r.report.refusal ∷ r.report.accepted ∷ r.report.refused ∷ r.memory.counters ++ r.memory.slots

-- so it is with a number, two counts and a memory
abbrev leaves : (number accepted refused : ℕ) → Memory → List ℕ
leaves number accepted refused m = number ∷ accepted ∷ refused ∷ m.counters ++ m.slots

-- a message read on the table that holds 10.1/16
abbrev read_there : List ℕ → List ℕ
read_there bytes = told (apply_message T held 0 bytes hops)

-- it is refused with a number, and nothing is changed
abbrev refused_there : (number : ℕ) → (bytes : List ℕ) → Case
refused_there number bytes = case (read_there bytes) (leaves number 0 0 held)

-- each of these is refused so
abbrev all_refused : (number : ℕ) → List (List ℕ) → List Case
all_refused number [] = []
all_refused number (bytes ∷ others) = refused_there number bytes ∷ all_refused number others

-- ---- Prefixes and path attributes

parts : List Case
parts =
    -- M1: two bytes and four as a number, the first one highest
    case (two_bytes sample 16 ∷ four_bytes sample 36 ∷ []) (45 ∷ ip 10 9 9 1 ∷ [])
    -- M2: as many bytes as hold the bits, and no byte after them
    ∷ case (map bytes_for (0 ∷ 1 ∷ 8 ∷ 9 ∷ 16 ∷ 17 ∷ 24 ∷ 25 ∷ 32 ∷ [])) (0 ∷ 1 ∷ 1 ∷ 2 ∷ 2 ∷ 3 ∷ 3 ∷ 4 ∷ 4 ∷ [])
    ∷ case (map (address_at (10 ∷ 255 ∷ 9 ∷ 8 ∷ []) 0) (0 ∷ 8 ∷ 9 ∷ 17 ∷ 25 ∷ [])) (0 ∷ ip 10 0 0 0 ∷ ip 10 255 0 0 ∷ ip 10 255 9 0 ∷ ip 10 255 9 8 ∷ [])
    -- M3: one prefix after the other: 10/8, the default, 192.0.2/24, 10.1.2.3/32
    ∷ case (read (8 ∷ 10 ∷ 0 ∷ 24 ∷ 192 ∷ 0 ∷ 2 ∷ 32 ∷ 10 ∷ 1 ∷ 2 ∷ 3 ∷ []))
    (8 ∷ ip 10 0 0 0 ∷ 0 ∷ 0 ∷ 24 ∷ ip 192 0 2 0 ∷ 32 ∷ ip 10 1 2 3 ∷ [])
    -- M4: the bits after the length are cleared: of 10.255 length 9 keeps the first bit of 255, and of 11 length 7 drops the last
    ∷ case (read (9 ∷ 10 ∷ 255 ∷ 7 ∷ 11 ∷ 1 ∷ 255 ∷ 31 ∷ 255 ∷ 255 ∷ 255 ∷ 255 ∷ []))
    (9 ∷ ip 10 128 0 0 ∷ 7 ∷ ip 10 0 0 0 ∷ 1 ∷ ip 128 0 0 0 ∷ 31 ∷ ip 255 255 255 254 ∷ [])
    -- M5: length 32 fits and 33 does not, with bytes enough; nor does a prefix whose last byte is missing, or all of them
    ∷ case (fit (32 ∷ 1 ∷ 2 ∷ 3 ∷ 4 ∷ []) ∷ fit (33 ∷ 1 ∷ 2 ∷ 3 ∷ 4 ∷ 5 ∷ []) ∷ fit (0 ∷ 9 ∷ 10 ∷ []) ∷ fit (8 ∷ []) ∷ []) (1 ∷ 0 ∷ 0 ∷ 0 ∷ [])
    -- M6: the attributes of the worked message, and none at all
    ∷ case (good (origin ++ as_path ++ hop_1) ∷ hop_of (origin ++ as_path ++ hop_1)) (1 ∷ ip 10 9 9 1 ∷ [])
    ∷ case (good [] ∷ hop_of []) (1 ∷ [])
    -- M7: with flag bit 16 the length has two bytes
    ∷ case (good (80 ∷ 3 ∷ 0 ∷ 4 ∷ 10 ∷ 9 ∷ 9 ∷ 1 ∷ []) ∷ hop_of (80 ∷ 3 ∷ 0 ∷ 4 ∷ 10 ∷ 9 ∷ 9 ∷ 1 ∷ [])) (1 ∷ ip 10 9 9 1 ∷ [])
    -- M8: both of them count: 1 and 0 are 256
    ∷ case (good (80 ∷ 2 ∷ 1 ∷ 0 ∷ replicate 256 3 ++ hop_1) ∷ hop_of (80 ∷ 2 ∷ 1 ∷ 0 ∷ replicate 256 3 ++ hop_1)) (1 ∷ ip 10 9 9 1 ∷ [])
    -- M9: no other flag decides anything, the low four bits included
    ∷ case (hop_of (239 ∷ 3 ∷ 4 ∷ 10 ∷ 9 ∷ 9 ∷ 1 ∷ []) ++ hop_of (0 ∷ 3 ∷ 4 ∷ 10 ∷ 9 ∷ 9 ∷ 1 ∷ []) ++ hop_of (255 ∷ 3 ∷ 0 ∷ 4 ∷ 10 ∷ 9 ∷ 9 ∷ 1 ∷ []))
    (ip 10 9 9 1 ∷ ip 10 9 9 1 ∷ ip 10 9 9 1 ∷ [])
    -- M10: a value is stepped over, whatever it looks like, and other types are no NEXT_HOP
    ∷ case (hop_of (64 ∷ 2 ∷ 7 ∷ hop_1 ++ as_path)) []
    -- M11: an attribute's header is cut after one byte, after two and, of extended length, after three; so is a value, of the
    -- first attribute or the last
    ∷ case (good (64 ∷ []) ∷ good (64 ∷ 1 ∷ []) ∷ good (80 ∷ 1 ∷ 0 ∷ []) ∷ good (64 ∷ 1 ∷ 1 ∷ []) ∷ good (80 ∷ 1 ∷ 0 ∷ 2 ∷ 0 ∷ []) ∷ []) (0 ∷ 0 ∷ 0 ∷ 0 ∷ 0 ∷ [])
    ∷ case (good (hop_1 ++ (64 ∷ [])) ∷ good (origin ++ as_path ++ (64 ∷ 1 ∷ 1 ∷ [])) ∷ []) (0 ∷ 0 ∷ [])
    -- M12: two NEXT_HOPs, even two of the same address; one of no byte, of three and of five
    ∷ case (good (hop_1 ++ hop_1) ∷ good (64 ∷ 3 ∷ 0 ∷ []) ∷ good (64 ∷ 3 ∷ 3 ∷ 10 ∷ 9 ∷ 9 ∷ []) ∷ good (64 ∷ 3 ∷ 5 ∷ 10 ∷ 9 ∷ 9 ∷ 1 ∷ 0 ∷ []) ∷ []) (0 ∷ 0 ∷ 0 ∷ 0 ∷ [])
    ∷ []

-- ---- A message's parts, and the list of next hops

whole : List Case
whole =
    -- M13: the worked message is made of its parts
    case (message (16 ∷ 10 ∷ 1 ∷ []) (origin ++ as_path ++ hop_1) (24 ∷ 192 ∷ 0 ∷ 2 ∷ 0 ∷ [])) sample
    -- M14: it is well-formed, its parts end at 24 and 40, and it announces
    ∷ case (one_if (well_formed sample) ∷ withdrawn_to sample ∷ attributes_from sample ∷ announced_from sample ∷ one_if (announces sample) ∷ []) (1 ∷ 24 ∷ 26 ∷ 40 ∷ 1 ∷ [])
    -- M15: its prefixes and its NEXT_HOP
    ∷ case (pairs (withdrawn_prefixes sample)) (16 ∷ ip 10 1 0 0 ∷ [])
    ∷ case (pairs (announced_prefixes sample)) (24 ∷ ip 192 0 2 0 ∷ 0 ∷ 0 ∷ [])
    ∷ case (one (message_hop sample)) (ip 10 9 9 1 ∷ [])
    -- M16: the hop is the lowest place of an address that stands in the list twice; one that is not there has none
    ∷ case (one (hop_in sample hops)) (1 ∷ [])
    ∷ case (one (hop_in sample (ip 10 9 9 2 ∷ []))) []
    ∷ []

-- ---- Numbers given back for bad input: nothing is changed on a table that holds what the message withdraws

refusals : List Case
refusals =
    -- M17: 1 before 2 before 12, and 12 before 13
    case (told (apply_message (settings 9 4 1 2 1 2 1) (record { counters = sevens 511; slots = sevens 258 }) 0 [] [])) (leaves 1 0 0 (record { counters = sevens 511; slots = sevens 258 }))
    ∷ case (told (apply_message T (record { counters = sevens 511; slots = sevens 258 }) 0 [] [])) (leaves 2 0 0 (record { counters = sevens 511; slots = sevens 258 }))
    ∷ case (told (apply_message T held 0 (set sample 18 4) [])) (leaves 12 0 0 held)
    ∷ all_refused 12
    -- M18: a first or a last byte of the marker that is not all ones
    (set sample 0 254
    ∷ set sample 15 127
    -- M19: a length field that is not the length, one less, one more and 256 more
    ∷ set sample 17 44
    ∷ set sample 17 46
    ∷ set sample 16 1
    -- M20: no byte, 22 bytes, and 4,097
    ∷ []
    ∷ headed (0 ∷ 0 ∷ 0 ∷ [])
    ∷ (replicate 16 255 ++ (16 ∷ 1 ∷ 2 ∷ 0 ∷ 0 ∷ 15 ∷ 234 ∷ 80 ∷ 2 ∷ 15 ∷ 230 ∷ replicate 4070 0))
    -- M21: an OPEN and a KEEPALIVE
    ∷ set sample 18 1
    ∷ set sample 18 4
    -- M22: withdrawn routes past the message's end; and with no room, or with one byte, for the attributes' length after them
    ∷ headed (0 ∷ 9 ∷ 8 ∷ 10 ∷ 0 ∷ 0 ∷ [])
    ∷ headed (1 ∷ 0 ∷ 0 ∷ 0 ∷ [])
    ∷ headed (0 ∷ 2 ∷ 8 ∷ 10 ∷ [])
    ∷ headed (0 ∷ 2 ∷ 8 ∷ 10 ∷ 0 ∷ [])
    -- M23: attributes past the message's end, which comes after them, within one or before them all
    ∷ headed (0 ∷ 0 ∷ 0 ∷ 10 ∷ hop_1)
    ∷ headed (0 ∷ 0 ∷ 0 ∷ 7 ∷ take 6 hop_1)
    ∷ headed (0 ∷ 0 ∷ 1 ∷ 0 ∷ [])
    -- M24: a prefix length of 33 among the withdrawn ones, and among the announced ones
    ∷ message (33 ∷ 1 ∷ 2 ∷ 3 ∷ 4 ∷ 5 ∷ []) [] []
    ∷ announcing (33 ∷ 1 ∷ 2 ∷ 3 ∷ 4 ∷ 5 ∷ [])
    -- M25: a last prefix that is cut, in either list; the withdrawn ones end where their part does
    ∷ message (16 ∷ 10 ∷ 1 ∷ 16 ∷ 10 ∷ []) [] []
    ∷ message (16 ∷ 10 ∷ []) hop_1 []
    ∷ announcing (8 ∷ 10 ∷ 24 ∷ 192 ∷ 0 ∷ [])
    -- M26: an attribute's header, extended length or value past the end of the attributes, where announced bytes follow
    ∷ message [] (64 ∷ []) (2 ∷ 0 ∷ [])
    ∷ message [] (64 ∷ 2 ∷ []) (0 ∷ [])
    ∷ message [] (80 ∷ 2 ∷ 0 ∷ []) (0 ∷ [])
    ∷ message [] (take 6 hop_1) (0 ∷ 0 ∷ 0 ∷ [])
    ∷ message [] (80 ∷ 2 ∷ 1 ∷ 0 ∷ []) (0 ∷ [])
    -- M27: the same where nothing is announced
    ∷ message (16 ∷ 10 ∷ 1 ∷ []) (64 ∷ []) []
    ∷ message (16 ∷ 10 ∷ 1 ∷ []) (80 ∷ 2 ∷ 0 ∷ []) []
    ∷ message (16 ∷ 10 ∷ 1 ∷ []) (take 6 hop_1) []
    -- M28: two NEXT_HOPs, and one of three and of five bytes, with prefixes announced
    ∷ message (16 ∷ 10 ∷ 1 ∷ []) (hop_1 ++ hop_1) (0 ∷ [])
    ∷ message (16 ∷ 10 ∷ 1 ∷ []) (64 ∷ 3 ∷ 3 ∷ 10 ∷ 9 ∷ 9 ∷ []) (0 ∷ [])
    ∷ message (16 ∷ 10 ∷ 1 ∷ []) (64 ∷ 3 ∷ 5 ∷ 10 ∷ 9 ∷ 9 ∷ 1 ∷ 0 ∷ []) (0 ∷ [])
    -- M29: and with none
    ∷ message (16 ∷ 10 ∷ 1 ∷ []) (hop_1 ++ as_path ++ hop_1) []
    ∷ message (16 ∷ 10 ∷ 1 ∷ []) (64 ∷ 3 ∷ 3 ∷ 10 ∷ 9 ∷ 9 ∷ []) []
    ∷ message (16 ∷ 10 ∷ 1 ∷ []) (64 ∷ 3 ∷ 5 ∷ 10 ∷ 9 ∷ 9 ∷ 1 ∷ 0 ∷ []) []
    -- M30: a fault in the last announced prefix: the withdrawal before it is not done
    ∷ message (16 ∷ 10 ∷ 1 ∷ []) hop_1 (8 ∷ 10 ∷ 33 ∷ [])
    ∷ [])
    ++ all_refused 13
    -- M31: prefixes are announced, and NEXT_HOP is missing, or stands only in the value of another attribute
    (message (16 ∷ 10 ∷ 1 ∷ []) (origin ++ as_path) (0 ∷ [])
    ∷ message (16 ∷ 10 ∷ 1 ∷ []) [] (0 ∷ [])
    ∷ message (16 ∷ 10 ∷ 1 ∷ []) (64 ∷ 2 ∷ 7 ∷ hop_1) (0 ∷ [])
    -- M32: it is not in the list
    ∷ set sample 39 3
    ∷ [])
    ++ case (told (apply_message T held 0 sample [])) (leaves 13 0 0 held)
    ∷ []

-- ---- What a message does

done : List Case
done =
    -- M33: the worked message on the table that holds 10.1/16: three single calls, all accepted
    case (read_there sample) (leaves 0 3 0 (add T (add T (withdraw T held 0 (ip 10 1 0 0) 16).memory 0 (ip 192 0 2 0) 24 1).memory 0 0 0 1).memory)
    ∷ case (figures (lookup T (apply_message T held 0 sample hops).memory 0 (ip 192 0 2 7)) ++ figures (lookup T (apply_message T held 0 sample hops).memory 0 (ip 10 1 2 3))) (finds 1 24 1 ++ finds 1 0 0)
    -- M34: on an empty table: the withdrawal is refused, and counted
    ∷ case (told (apply_message T (empty T) 0 sample hops)) (leaves 0 2 1 (add T (add T (empty T) 0 (ip 192 0 2 0) 24 1).memory 0 0 0 1).memory)
    -- M35: with flags and lengths written otherwise it says the same
    ∷ case (read_there (message (16 ∷ 10 ∷ 1 ∷ []) (80 ∷ 3 ∷ 0 ∷ 4 ∷ 10 ∷ 9 ∷ 9 ∷ 1 ∷ 207 ∷ 1 ∷ 1 ∷ 0 ∷ []) (24 ∷ 192 ∷ 0 ∷ 2 ∷ 0 ∷ []))) (read_there sample)
    -- M36: bits after the length are cleared before the table is asked: 15 bits of 10.1 withdraw 10/15, and 7 bits of 11 add 10/7
    ∷ case (told (apply_message T (add T (empty T) 0 (ip 10 0 0 0) 15 9).memory 0 (message (15 ∷ 10 ∷ 1 ∷ []) [] []) [])) (leaves 0 1 0 (empty T))
    ∷ case (read_there (announcing (7 ∷ 11 ∷ []))) (leaves 0 1 0 (add T held 0 (ip 10 0 0 0) 7 1).memory)
    -- M37: withdrawn routes go first, whatever is announced: the same route in both lists is stored after, and in their order
    ∷ case (read_there (message (16 ∷ 10 ∷ 1 ∷ 16 ∷ 10 ∷ 1 ∷ []) hop_1 (16 ∷ 10 ∷ 1 ∷ []))) (leaves 0 2 1 (add T (empty T) 0 (ip 10 1 0 0) 16 1).memory)
    -- M38: 10/8 and 8/8 fill a bucket: 9/8 is refused with 8, skipped and counted, and 192/8 after it is stored
    ∷ case (read_there (announcing (8 ∷ 10 ∷ 8 ∷ 8 ∷ 8 ∷ 9 ∷ 8 ∷ 192 ∷ []))) (leaves 0 3 1 (add T (add T (add T held 0 (ip 10 0 0 0) 8 1).memory 0 (ip 8 0 0 0) 8 1).memory 0 (ip 192 0 0 0) 8 1).memory)
    -- M39: a route that is stored gets the new hop; one that is announced twice is accepted twice
    ∷ case (read_there (announcing (16 ∷ 10 ∷ 1 ∷ 16 ∷ 10 ∷ 1 ∷ []))) (leaves 0 2 0 (add T held 0 (ip 10 1 0 0) 16 1).memory)
    -- M40: what only withdraws needs no NEXT_HOP, no list, and no place in it
    ∷ case (told (apply_message T held 0 (message (16 ∷ 10 ∷ 1 ∷ []) [] []) [])) (leaves 0 1 0 (empty T))
    ∷ case (told (apply_message T held 0 (message (16 ∷ 10 ∷ 1 ∷ []) hop_1 []) [])) (leaves 0 1 0 (empty T))
    -- M41: 23 bytes that say nothing, and 4,096 that are one attribute, do nothing
    ∷ case (read_there (message [] [] [])) (leaves 0 0 0 held)
    ∷ case (read_there (replicate 16 255 ++ (16 ∷ 0 ∷ 2 ∷ 0 ∷ 0 ∷ 15 ∷ 233 ∷ 80 ∷ 2 ∷ 15 ∷ 229 ∷ replicate 4069 0))) (leaves 0 0 0 held)
    -- M42: the reports of M33, M34 and M31 as one number
    ∷ case (map (λ r. report_number r.report) (apply_message T held 0 sample hops ∷ apply_message T (empty T) 0 sample hops ∷ apply_message T held 0 sample [] ∷ [])) (3 ∷ 4098 ∷ 3659174697238528 ∷ [])
    -- M50: 127/8, 224/4 and 239.255.255.255/32 are refused with 11, skipped and counted; 10/8 before them and 192/8 after are stored
    ∷ case (read_there (announcing (8 ∷ 10 ∷ 8 ∷ 127 ∷ 4 ∷ 224 ∷ 32 ∷ 239 ∷ 255 ∷ 255 ∷ 255 ∷ 8 ∷ 192 ∷ []))) (leaves 0 2 3 (add T (add T held 0 (ip 10 0 0 0) 8 1).memory 0 (ip 192 0 0 0) 8 1).memory)
    -- M51: 7 bits of 127 are 126/7 and 3 bits of 239 are 224/3, which are stored
    ∷ case (read_there (announcing (7 ∷ 127 ∷ 3 ∷ 239 ∷ []))) (leaves 0 2 0 (add T (add T held 0 (ip 126 0 0 0) 7 1).memory 0 (ip 224 0 0 0) 3 1).memory)
    ∷ []

-- ---- The withdrawal of a route

-- the routes whose withdrawals are written, in all sizes
abbrev routes : List Prefix
routes =
    record { length = 0; prefix = 0 }
    ∷ record { length = 1; prefix = ip 128 0 0 0 }
    ∷ record { length = 9; prefix = ip 10 128 0 0 }
    ∷ record { length = 17; prefix = ip 10 1 128 0 }
    ∷ record { length = 25; prefix = ip 10 1 2 128 }
    ∷ record { length = 32; prefix = ip 10 1 2 3 }
    ∷ []

-- a route is stored, its withdrawal is written, and read: one is accepted, and the table is empty
abbrev back : Prefix → Case
back q =
    case (told (apply_message T (add T (empty T) 0 q.prefix q.length 7).memory 0 (withdrawal q.prefix q.length) [])) (leaves 0 1 0 (empty T))

written_ones : List Case
written_ones =
    -- M43: 10/8
    case (written (write_withdrawal (ip 10 0 0 0) 8 (sevens 25))) (0 ∷ replicate 16 255 ++ (0 ∷ 25 ∷ 2 ∷ 0 ∷ 2 ∷ 8 ∷ 10 ∷ 0 ∷ 0 ∷ []))
    -- M44: the default, and lengths 1, 9, 17, 25 and 32
    ∷ case (withdrawal 0 0) (headed (0 ∷ 1 ∷ 0 ∷ 0 ∷ 0 ∷ []))
    ∷ case (withdrawal (ip 128 0 0 0) 1) (headed (0 ∷ 2 ∷ 1 ∷ 128 ∷ 0 ∷ 0 ∷ []))
    ∷ case (withdrawal (ip 10 128 0 0) 9) (headed (0 ∷ 3 ∷ 9 ∷ 10 ∷ 128 ∷ 0 ∷ 0 ∷ []))
    ∷ case (withdrawal (ip 10 1 128 0) 17) (headed (0 ∷ 4 ∷ 17 ∷ 10 ∷ 1 ∷ 128 ∷ 0 ∷ 0 ∷ []))
    ∷ case (withdrawal (ip 10 1 2 128) 25) (headed (0 ∷ 5 ∷ 25 ∷ 10 ∷ 1 ∷ 2 ∷ 128 ∷ 0 ∷ 0 ∷ []))
    ∷ case (withdrawal (ip 10 1 2 3) 32) (headed (0 ∷ 5 ∷ 32 ∷ 10 ∷ 1 ∷ 2 ∷ 3 ∷ 0 ∷ 0 ∷ []))
    -- M45: length 33 gets 3, with a host bit and no room too; a bit after the length gets 4, with no room too
    ∷ case (written (write_withdrawal (ip 10 0 0 1) 33 [])) (3 ∷ [])
    ∷ case (written (write_withdrawal (ip 10 0 0 1) 8 [])) (4 ∷ [])
    -- M46: a byte too few or too many gets 18, and the room stays
    ∷ case (written (write_withdrawal (ip 10 0 0 0) 8 (sevens 24))) (18 ∷ sevens 24)
    ∷ case (written (write_withdrawal (ip 10 0 0 0) 8 (sevens 26))) (18 ∷ sevens 26)
    ∷ case (written (write_withdrawal (ip 10 0 0 0) 8 [])) (18 ∷ [])
    -- M47: reading a withdrawal withdraws that route
    ∷ map back routes

-- ---- Two parties

-- the table that holds 10.1/16 for party 0, with the same route of party 1, whose hop is 4
abbrev shared : Memory
shared = (add T held 1 (ip 10 1 0 0) 16 4).memory

-- the worked message, read for party 1 on that table
abbrev read_1 : Read
read_1 = apply_message T shared 1 sample hops

-- memory of the right sizes but for one counter, and for one word of the slots
abbrev short : Memory
short = record { counters = sevens 511; slots = sevens 258 }

abbrev one_default : Memory
one_default = record { counters = sevens 512; slots = sevens 257 }

parties : List Case
parties =
    -- M52: what a message withdraws is its party's route: the same route of the other party stays; where only the other has it,
    -- the withdrawal is refused, and counted
    case (told (apply_message T shared 1 (message (16 ∷ 10 ∷ 1 ∷ []) [] []) [])) (leaves 0 1 0 held)
    ∷ case (told (apply_message T shared 0 (message (16 ∷ 10 ∷ 1 ∷ []) [] []) [])) (leaves 0 1 0 (withdraw T shared 0 (ip 10 1 0 0) 16).memory)
    ∷ case (told (apply_message T held 1 (message (16 ∷ 10 ∷ 1 ∷ []) [] []) [])) (leaves 0 0 1 held)
    -- M53: the routes that it announces are its party's: party 1's lookups find them, its default too, and party 0's do not
    ∷ case (told read_1) (leaves 0 3 0 (add T (add T held 1 (ip 192 0 2 0) 24 1).memory 1 0 0 1).memory)
    ∷ case (figures (lookup T read_1.memory 1 (ip 192 0 2 7)) ++ figures (lookup T read_1.memory 1 (ip 10 1 2 3))) (finds 1 24 1 ++ finds 1 0 1)
    ∷ case (figures (lookup T read_1.memory 0 (ip 192 0 2 7)) ++ figures (lookup T read_1.memory 0 (ip 10 1 2 3))) ((0 ∷ 0 ∷ 0 ∷ 0 ∷ 1 ∷ []) ++ finds 9 16 1)
    -- M54: 10/8 and 8/8 of party 0 fill a bucket: party 1's 10/8 is refused with 8, skipped and counted, and its 192/8 is stored
    ∷ case (told (apply_message T (add T (add T held 0 (ip 10 0 0 0) 8 7).memory 0 (ip 8 0 0 0) 8 7).memory 1 (announcing (8 ∷ 10 ∷ 8 ∷ 192 ∷ [])) hops))
    (leaves 0 1 1 (add T (add T (add T held 0 (ip 10 0 0 0) 8 7).memory 0 (ip 8 0 0 0) 8 7).memory 1 (ip 192 0 0 0) 8 1).memory)
    -- M55: party 2 is refused with 15, which goes before 12 and 13 and after 1 and 2; 2 asks for the words of both defaults
    ∷ case (told (apply_message T held 2 sample hops)) (leaves 15 0 0 held)
    ∷ case (told (apply_message T held 2 (set sample 18 4) [])) (leaves 15 0 0 held)
    ∷ case (told (apply_message T held 2 sample [])) (leaves 15 0 0 held)
    ∷ case (told (apply_message (settings 9 4 1 2 1 2 1) short 2 [] [])) (leaves 1 0 0 short)
    ∷ case (told (apply_message T short 2 [] [])) (leaves 2 0 0 short)
    ∷ case (told (apply_message T one_default 2 [] [])) (leaves 2 0 0 one_default)
    ∷ []

-- to unfold this is to unfold all that a message computes with but the place of its hop
unfoldable reading : ℕ
unfolding byte from_octets two_bytes four_bytes bytes_for octet address_at prefix_from after_prefix prefix_fits some_starts starts prefixes_fit prefixes extended type_of value_from value_size after_attribute attribute_fits attributes_fit next_hops at_most_one attributes_good first_hop next_hop all_ones header_good withdrawn_to attributes_from announced_from parts_fit withdrawn_prefixes announced_prefixes announces message_hop contents_good well_formed is_hop update_refusal message_refusal withdrawals announcements message_calls act each run accepted_of refused_of counts refused_message apply_message report_number octets prefix_bytes withdrawal_size withdrawal writing_refusal write_withdrawal rules_computing
reading = 0

-- and this is all
unfoldable pub computing : ℕ
unfolding place_in hop_place hop_in reading
computing = 0

all_come_out : come_out (parts ++ whole ++ refusals ++ done ++ written_ones ++ parties) ≡ true
unfolding parts whole refusals done written_ones parties same_words come_out computing
all_come_out = refl

-- ---- A long list of next hops

-- the NEXT_HOP of the worked message stands at place n, and nowhere before
abbrev far : (n : ℕ) → List ℕ
far n = replicate n 0 ++ (ip 10 9 9 1 ∷ [])

far_at : (n : ℕ) → get_or (far n) n 0 ≡ ip 10 9 9 1
far_at zero = refl
far_at (suc n) = far_at n

far_before : (n i : ℕ) → i < n → get_or (far n) i 0 ≡ 0
far_before zero i l = absurd (omega arith)
far_before (suc n) zero l = refl
far_before (suc n) (suc i) l = far_before n i (le_of_suc-le-suc l)

far_place : (n : ℕ) → place_in (far n) (ip 10 9 9 1) ≡ some n
unfolding place_in
far_place n =
    let stands : ℕ → Bool = λ i. eqb (get_or (far n) i 0) (ip 10 9 9 1) in
    lowest_here stands (length (far n)) n
    (simp (length-append, length-replicate) (omega arith))
    (lowest_none stands n (λ i l. rw (far_before n i l)))
    (rw (far_at n))

far_hop : (n : ℕ) → hop_in sample (far n) ≡ some n
unfolding hop_in hop_place reading
far_hop n = far_place n

-- M48: place 65,535 is a hop
far_taken : told (apply_message T held 0 sample (far 65535)) ≡ leaves 0 3 0 (add T (add T (withdraw T held 0 (ip 10 1 0 0) 16).memory 0 (ip 192 0 2 0) 24 65535).memory 0 0 0 65535).memory
unfolding reading
far_taken = rw (far_hop 65535)

-- M49: place 65,536 is none
far_refused : told (apply_message T held 0 sample (far 65536)) ≡ leaves 13 0 0 held
unfolding reading
far_refused = rw (far_hop 65536)
