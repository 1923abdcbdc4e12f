-- The worked cases of docs/TABLE.md: one list, proved by one computation.
use Prim.Native.Nat.{ℕ, zero, suc, ◌+◌, ◌*◌, ◌^◌}
use mathlib.Core.Path.{◌≡◌, refl}
use mathlib.Core.Bool.{Bool, true, false, ◌&&◌}
use mathlib.Core.List.{List, [], ◌∷◌, map, ◌++◌}
use lib.Dec.{eqb}
use lib.ListN.{get_or, replicate, set}
use Rattle.rules.specs.declared.Settings.{Settings}
use Rattle.rules.specs.Table.{Answer}
use Rattle.rules.specs.Tools.{within, all, any, count, those, lowest}
use Rattle.rules.specs.Table.{list_in_range, in_range, wrap, prefix, steps, filter_bits, positions, bucket, Memory, filters_size, counters_size, filter_start, counter_place, counter_places, slots_size, slot_number, prefix_word, mark_word, default_word, first_mark, own, occupied, mark_of, hop_of, mark_at, prefix_at, default_mark, holds, free, held, vacant, is_some, stored, refuse, sized, loose, lies_in, odd_prefix, full, hits, passes_15, runs_short, from_1, needs_slot, memory_refusal, party_refusal, route_refusal, add_refusal, withdraw_refusal, change_refusal, Outcome, unless_refused, zeroed, step_each, with_slot, with_default, with_found, added, withdrawn, changed, clear, add, withdraw, change, claims, bits_where, vector_of, match_vector, down_from, bit_set, set_bits, search, route_answer, default_answer, place_answer, refused, answer_of, lookup, one_if, answer_words, list_words, Listed, listed, fourfold, list_refusal, lookup_list, whole_words, words, answer_number, vector_number, c_lookup, c_match_vector, bytes_of, c_list_refusal, c_lookup_list}

-- an address or a prefix by its four octets
abbrev pub ip : (a b c d : ℕ) → ℕ
ip a b c d = a * 2 ^ 24 + b * 2 ^ 16 + c * 2 ^ 8 + d

-- K, D, E, S, A, B, C, with the same D at every length
abbrev pub settings : (k d e s a b c : ℕ) → Settings
settings k d e s a b c = record { k = k; d = replicate 32 d; e = e; s = s; a = a; b = b; c = c }

abbrev pub T : Settings
T = settings 2 4 1 2 1 2 1

-- settings with all multipliers zero
abbrev Z : (k s : ℕ) → Settings
Z k s = settings k 4 0 s 0 0 0

-- a table cleared under these settings, whose memory held sevens
abbrev pub empty : Settings → Memory
empty t = (clear t (record { counters = replicate (counters_size t) 7; slots = replicate (slots_size t) 7 })).memory

-- the tables of the cases, each with one route more
abbrev ten : Memory
ten = (add T (empty T) 0 (ip 10 0 0 0) 8 7).memory

abbrev ten_one : Memory
ten_one = (add T ten 0 (ip 10 1 0 0) 16 9).memory

abbrev ten_one_default : Memory
ten_one_default = (add T ten_one 0 0 0 3).memory

abbrev ten_eight : Memory
ten_eight = (add T ten 0 (ip 8 0 0 0) 8 5).memory

abbrev eight_gone : Memory
eight_gone = (withdraw T ten_eight 0 (ip 8 0 0 0) 8).memory

abbrev nine_again : Outcome
nine_again = add T eight_gone 0 (ip 9 0 0 0) 8 6

-- routes of lengths 32, 31 and 1
abbrev both_ends : Memory
both_ends = (add T (add T (add T (empty T) 0 (ip 10 1 2 3) 32 1).memory 0 (ip 10 1 2 2) 31 2).memory 0 0 1 3).memory

-- settings with larger multipliers: K 3, D 6, E 3, S 2
abbrev U : Settings
U = settings 3 6 3 2 2654435761 2246822519 3266489917

-- 10/8, with two routes of length 16 that share a counter; and one of these withdrawn
abbrev sharing : Memory
sharing = (add U (add U (add U (empty U) 0 (ip 10 0 0 0) 8 7).memory 0 (ip 10 1 0 0) 16 9).memory 0 (ip 10 3 0 0) 16 4).memory

abbrev three_gone : Memory
three_gone = (withdraw U sharing 0 (ip 10 3 0 0) 16).memory

-- two routes of length 16 that share a counter on which one of them lands twice; and that one withdrawn
abbrev doubled : Memory
doubled = (add U (add U (empty U) 0 (ip 10 27 0 0) 16 5).memory 0 (ip 10 12 0 0) 16 6).memory

abbrev doubled_gone : Memory
doubled_gone = (withdraw U doubled 0 (ip 10 27 0 0) 16).memory

-- n routes of length 32 and hop 1 under settings t: 0.0.0.1 and on
abbrev hosts : Settings → (n : ℕ) → Memory
hosts t zero = empty t
hosts t (suc n) = (add t (hosts t n) 0 (suc n) 32 1).memory

-- the tables of P4, P8 and P7, each with a stored route added again, with another hop
abbrev ten_again : Outcome
ten_again = add T ten 0 (ip 10 0 0 0) 8 8

abbrev eight_again : Outcome
eight_again = add T ten_eight 0 (ip 8 0 0 0) 8 6

abbrev default_again : Outcome
default_again = add T ten_one_default 0 0 0 4

-- the table of P8 with 10/8 withdrawn, so that the slot before that of 8/8 is free, and 8/8 added again
abbrev before_it_free : Memory
before_it_free = (withdraw T ten_eight 0 (ip 10 0 0 0) 8).memory

abbrev past_free : Outcome
past_free = add T before_it_free 0 (ip 8 0 0 0) 8 6

-- the table of P9, whose counter is at 15, and that of P10 with S 1, whose bucket is full too, with a route added again
abbrev at_15 : Outcome
at_15 = add (Z 5 4) (hosts (Z 5 4) 3) 0 2 32 4

abbrev full_at_15 : Outcome
full_at_15 = add (Z 8 1) (hosts (Z 8 1) 1) 0 1 32 4

-- damaged memory: 10/8 stands in both slots of its bucket, and no counter tells of it; 10/8 added again
abbrev twice : Memory
twice = record { counters = (empty T).counters; slots = set (set ten.slots 58 (ip 10 0 0 0)) 59 6 }

abbrev lowest_again : Outcome
lowest_again = add T twice 0 (ip 10 0 0 0) 8 8

-- so many sevens
abbrev pub sevens : (n : ℕ) → List ℕ
sevens n = replicate n 7

-- U's multipliers with filters of these sizes: K 3, E 1, S 2
abbrev filtered : (d : List ℕ) → Settings
filtered d = record { k = 3; d = d; e = 1; s = 2; a = 2654435761; b = 2246822519; c = 3266489917 }

-- D is 5 at lengths 1 and 16, 7 at 24, 6 at 32, and 4 at the rest
abbrev X : Settings
X = filtered ((5 ∷ replicate 14 4) ++ (5 ∷ replicate 7 4) ++ (7 ∷ replicate 7 4) ++ 6 ∷ [])

-- routes of lengths 24 and 8, of which the first is alone before
abbrev branch : Settings → Outcome
branch t = add t (empty t) 0 (ip 10 1 2 0) 24 5

abbrev branch_ten : Settings → Memory
branch_ten t = (add t (branch t).memory 0 (ip 10 0 0 0) 8 7).memory

-- and of lengths 16, 1 and 32; and that of length 24 withdrawn
abbrev five_lengths : Memory
five_lengths = (add X (add X (add X (branch_ten X) 0 (ip 10 1 0 0) 16 9).memory 0 (ip 128 0 0 0) 1 2).memory 0 (ip 10 1 2 3) 32 6).memory

abbrev branch_gone : Memory
branch_gone = (withdraw X five_lengths 0 (ip 10 1 2 0) 24).memory

-- what a clear gives back with filters of these sizes, over so many counters
abbrev clear_number : (d : List ℕ) (counters : ℕ) → ℕ
clear_number d counters = (clear (filtered d) (record { counters = sevens counters; slots = sevens 258 })).refusal

-- the number that a table of settings T that holds nothing gives a route of hop 7
abbrev number_of : (p L : ℕ) → ℕ
number_of p L = (add T (empty T) 0 p L 7).refusal

-- memory from before odd prefixes were refused: 127/8 is stored with hop 7, and 10/8 besides
abbrev old : Memory
old = record {
  counters = step_each (λ n. n + 1) ten.counters (counter_places T (ip 127 0 0 0) 8);
  slots = with_slot ten.slots (slot_number T (ip 127 0 0 0) 8 1) (ip 127 0 0 0) (mark_of 0 7);
}

-- the table of P4 with a route of party 1 more: its own 10/8 with hop 9, or 10.1/16 with hop 9
abbrev both_ten : Outcome
both_ten = add T ten 1 (ip 10 0 0 0) 8 9

abbrev one_longer : Memory
one_longer = (add T ten 1 (ip 10 1 0 0) 16 9).memory

-- a default of each party: hop 3 and hop 4
abbrev defaults : Memory
defaults = (add T (add T (empty T) 0 0 0 3).memory 1 0 0 4).memory

-- damaged memory: each default's word has the mark of the other party's
abbrev exchanged : Memory
exchanged = record { counters = (empty T).counters; slots = set (set (empty T).slots 256 65541) 257 4 }

-- the table of P4 with another mark in the slot of 10/8, and a table with nothing but this mark in both defaults' words
abbrev marked : (mark : ℕ) → Memory
marked mark = record { counters = ten.counters; slots = set ten.slots 57 mark }

abbrev marked_defaults : (mark : ℕ) → Memory
marked_defaults mark = record { counters = (empty T).counters; slots = set (set (empty T).slots 256 mark) 257 mark }

-- the marks next to where a party's begin and end
abbrev edges : List ℕ
edges = 0 ∷ 1 ∷ 65536 ∷ 65537 ∷ 131072 ∷ 131073 ∷ 4294967295 ∷ []

-- found and hop of a lookup
abbrev told_hop : Answer → List ℕ
told_hop r = one_if r.found ∷ r.hop ∷ []

-- what a party's lookup of 10.2.2.3 tells with each of these marks
abbrev told_of : (ℕ → Memory) → (party : ℕ) (marks : List ℕ) → List ℕ
told_of table party [] = []
told_of table party (mark ∷ marks) = told_hop (lookup T (table mark) party (ip 10 2 2 3)) ++ told_of table party marks

-- the counters at these places
abbrev bytes_at : Memory → (places : List ℕ) → List ℕ
bytes_at m = map (λ i. get_or m.counters i 0)

-- an update's number, and all that it leaves, the counters first
abbrev written : Outcome → List ℕ
written u = u.refusal ∷ u.memory.counters ++ u.memory.slots

-- an accepted update that changes one word, and what it changes it to
abbrev only_word : Memory → (at word : ℕ) → List ℕ
only_word m at word = 0 ∷ m.counters ++ set m.slots at word

-- the counters of length 16 at these positions
abbrev counters_at : Memory → (positions : List ℕ) → List ℕ
counters_at m = map (λ j. get_or m.counters (counter_place U 16 j) 0)

-- an answer's figures, in the order of the rules: refusal, found, hop, length, probes
abbrev pub figures : Answer → List ℕ
figures r = r.refusal ∷ one_if r.found ∷ r.hop ∷ r.length ∷ r.probes ∷ []

-- found, with hop, length and probes
abbrev pub finds : (hop L probes : ℕ) → List ℕ
finds hop L probes = 0 ∷ 1 ∷ hop ∷ L ∷ probes ∷ []

-- none, with the probes made
abbrev none_after : (probes : ℕ) → List ℕ
none_after probes = 0 ∷ 0 ∷ 0 ∷ 0 ∷ probes ∷ []

-- the addresses of P4 to P7, as one list
abbrev asked : List ℕ
asked = ip 8 1 2 3 ∷ ip 10 1 2 3 ∷ ip 10 2 2 3 ∷ ip 11 0 0 1 ∷ []

-- what a list of addresses is given back, and its results
abbrev pub told : Listed → List ℕ
told l = l.refusal ∷ l.results

-- so it is from C, over these bytes, with the table of P5 to P7
abbrev told_c : (addresses results : List ℕ) → List ℕ
told_c addresses results = told (c_lookup_list T ten_one.counters (bytes_of ten_one.slots) 0 addresses results)

-- what the rules give in a case, and what is said of it
pub record Case : Type 0 where
  pub gives : List ℕ
  pub says : List ℕ

abbrev pub case : (gives says : List ℕ) → Case
case gives says = record { gives = gives; says = says }

worked : List Case
worked =
    -- P1: 10.0.0.0/8 has positions 0 and 1, and bucket 0
    case (positions T (ip 10 0 0 0) 8) (0 ∷ 1 ∷ [])
    ∷ case (bucket T (ip 10 0 0 0) ∷ []) (0 ∷ [])
    -- P2: 192.0.0.0/8 has positions 12 and 4, and bucket 1
    ∷ case (positions T (ip 192 0 0 0) 8) (12 ∷ 4 ∷ [])
    ∷ case (bucket T (ip 192 0 0 0) ∷ []) (1 ∷ [])
    -- P3: 0.0.0.0/8 has position 0 twice, and its add raises that counter by 2
    ∷ case (positions T 0 8) (0 ∷ 0 ∷ [])
    ∷ case (get_or (add T (empty T) 0 0 8 7).memory.counters (counter_place T 8 0) 0 ∷ []) (2 ∷ [])
    -- P4: 10/8 alone: 8.1.2.3 gives none after 1 probe, with vector 128
    ∷ case (figures (lookup T ten 0 (ip 8 1 2 3))) (none_after 1)
    ∷ case ((match_vector T ten (ip 8 1 2 3)).vector ∷ []) (128 ∷ [])
    -- P5: 10.1/16 too: 10.1.2.3 gives hop 9, length 16, 1 probe
    ∷ case (figures (lookup T ten_one 0 (ip 10 1 2 3))) (finds 9 16 1)
    -- P6: the same table: 10.2.2.3 gives hop 7, length 8, 2 probes, with vector 32,896
    ∷ case (figures (lookup T ten_one 0 (ip 10 2 2 3))) (finds 7 8 2)
    ∷ case ((match_vector T ten_one (ip 10 2 2 3)).vector ∷ []) (32896 ∷ [])
    -- P7: the same table: 11.0.0.1 gives none, 0 probes; with a default of hop 3 it gives hop 3, length 0, 0 probes
    ∷ case (figures (lookup T ten_one 0 (ip 11 0 0 1))) (none_after 0)
    ∷ case (figures (lookup T ten_one_default 0 (ip 11 0 0 1))) (finds 3 0 0)
    -- P8: 10/8 and 8/8 fill a bucket, and 9/8 gets 8; with 8/8 withdrawn 10/8 is still found, and 9/8 goes into slot 1
    ∷ case ((add T ten_eight 0 (ip 9 0 0 0) 8 6).refusal ∷ []) (8 ∷ [])
    ∷ case (figures (lookup T eight_gone 0 (ip 10 2 2 3))) (finds 7 8 1)
    ∷ case (nine_again.refusal ∷ prefix_at nine_again.memory.slots (slot_number T (ip 9 0 0 0) 8 1) ∷ mark_at nine_again.memory.slots (slot_number T (ip 9 0 0 0) 8 1) ∷ []) (0 ∷ ip 9 0 0 0 ∷ 7 ∷ [])
    -- P9: K 5, D 4, E 0, S 4, multipliers 0: three /32 routes bring the counter to 15, and a fourth gets 9
    ∷ case (get_or (hosts (Z 5 4) 3).counters (counter_place (Z 5 4) 32 0) 0 ∷ []) (15 ∷ [])
    ∷ case ((add (Z 5 4) (hosts (Z 5 4) 3) 0 4 32 1).refusal ∷ []) (9 ∷ [])
    -- P10: K 8, D 4, E 0, multipliers 0: a second /32 gets 9 with S 2, and 8 with S 1
    ∷ case ((add (Z 8 2) (hosts (Z 8 2) 1) 0 2 32 1).refusal ∷ []) (9 ∷ [])
    ∷ case ((add (Z 8 1) (hosts (Z 8 1) 1) 0 2 32 1).refusal ∷ []) (8 ∷ [])
    ∷ []

-- the refusals at their limits, on a table of settings T that holds nothing
refusals : List Case
refusals =
    -- length 32 passes and 33 gets 3, with a host bit too
    case ((add T (empty T) 0 (ip 10 0 0 1) 32 7).refusal ∷ []) (0 ∷ [])
    ∷ case ((add T (empty T) 0 (ip 10 0 0 0) 33 7).refusal ∷ []) (3 ∷ [])
    ∷ case ((add T (empty T) 0 (ip 10 0 0 1) 33 7).refusal ∷ []) (3 ∷ [])
    -- a bit after the length gets 4, and length 0 has none
    ∷ case ((add T (empty T) 0 (ip 10 0 0 1) 8 7).refusal ∷ []) (4 ∷ [])
    ∷ case ((add T (empty T) 0 1 0 7).refusal ∷ []) (4 ∷ [])
    -- hop 65,535 passes and 65,536 gets 5
    ∷ case ((add T (empty T) 0 (ip 10 0 0 0) 8 65535).refusal ∷ []) (0 ∷ [])
    ∷ case ((add T (empty T) 0 (ip 10 0 0 0) 8 65536).refusal ∷ []) (5 ∷ [])
    -- a list one longer or shorter gets 2
    ∷ case ((clear T (record { counters = replicate 511 0; slots = replicate 258 0 })).refusal ∷ []) (2 ∷ [])
    ∷ case ((clear T (record { counters = replicate 513 0; slots = replicate 258 0 })).refusal ∷ []) (2 ∷ [])
    ∷ case ((clear T (record { counters = replicate 512 0; slots = replicate 257 0 })).refusal ∷ []) (2 ∷ [])
    ∷ case ((clear T (record { counters = replicate 512 0; slots = replicate 259 0 })).refusal ∷ []) (2 ∷ [])
    -- a setting out of its range gets 1, before the sizes are looked at
    ∷ case ((clear (settings 9 4 1 2 1 2 1) (empty T)).refusal ∷ (clear (settings 0 4 1 2 1 2 1) (empty T)).refusal ∷ []) (1 ∷ 1 ∷ [])
    ∷ case ((clear (settings 2 12 1 2 1 2 1) (empty T)).refusal ∷ (clear (settings 2 3 1 2 1 2 1) (empty T)).refusal ∷ []) (1 ∷ 1 ∷ [])
    ∷ case ((clear (settings 2 4 9 2 1 2 1) (empty T)).refusal ∷ []) (1 ∷ [])
    ∷ case ((clear (settings 2 4 1 9 1 2 1) (empty T)).refusal ∷ (clear (settings 2 4 1 0 1 2 1) (empty T)).refusal ∷ []) (1 ∷ 1 ∷ [])
    -- a prefix that is not stored gets 7
    ∷ case ((withdraw T ten 0 (ip 11 0 0 0) 8).refusal ∷ (change T ten 0 0 0 3).refusal ∷ []) (7 ∷ 7 ∷ [])
    -- a counter below its hits gets 10: the slot is there, and the counters are all zero
    ∷ case ((withdraw T (record { counters = (empty T).counters; slots = ten.slots }) 0 (ip 10 0 0 0) 8).refusal ∷ []) (10 ∷ [])
    -- a mark of 65,537 is not party 0's
    ∷ case (figures (lookup T (record { counters = ten.counters; slots = set ten.slots (mark_word (slot_number T (ip 10 0 0 0) 8 0)) 65537 }) 0 (ip 10 2 2 3))) (none_after 1)
    ∷ []

-- what two routes share, and the numbers as they cross to C
further : List Case
further =
    -- W1: 10.1/16 has positions 24, 53 and 17, and 10.3/16 has 21, 23 and 24: with both stored counter 24 is 2, and
    -- with 10.3/16 withdrawn it is 1
    case (positions U (ip 10 1 0 0) 16 ++ positions U (ip 10 3 0 0) 16) (24 ∷ 53 ∷ 17 ∷ 21 ∷ 23 ∷ 24 ∷ [])
    ∷ case (counters_at sharing (17 ∷ 21 ∷ 23 ∷ 24 ∷ 53 ∷ [])) (1 ∷ 1 ∷ 1 ∷ 2 ∷ 1 ∷ [])
    ∷ case (counters_at three_gone (17 ∷ 21 ∷ 23 ∷ 24 ∷ 53 ∷ [])) (1 ∷ 0 ∷ 0 ∷ 1 ∷ 1 ∷ [])
    -- so 10.1.2.3 is found at length 16 as before, and 10.3.2.3 now at length 8
    ∷ case (figures (lookup U sharing 0 (ip 10 1 2 3)) ++ figures (lookup U three_gone 0 (ip 10 1 2 3))) (finds 9 16 1 ++ finds 9 16 1)
    ∷ case (figures (lookup U sharing 0 (ip 10 3 2 3)) ++ figures (lookup U three_gone 0 (ip 10 3 2 3))) (finds 4 16 1 ++ finds 7 8 1)
    -- W2: 28.105/16 has positions 17, 21 and 24, of which neither route has all: a probe while both are stored, none after
    ∷ case (positions U (ip 28 105 0 0) 16) (17 ∷ 21 ∷ 24 ∷ [])
    ∷ case (figures (lookup U sharing 0 (ip 28 105 0 1)) ++ figures (lookup U three_gone 0 (ip 28 105 0 1))) (none_after 1 ++ none_after 0)
    ∷ case ((match_vector U sharing (ip 28 105 0 1)).vector ∷ (match_vector U three_gone (ip 28 105 0 1)).vector ∷ []) (32768 ∷ 0 ∷ [])
    -- W3: 10.27/16 has positions 47, 48 and 48, and 10.12/16 has 39, 48 and 57: counter 48 goes from 3 to 1
    ∷ case (positions U (ip 10 27 0 0) 16 ++ positions U (ip 10 12 0 0) 16) (47 ∷ 48 ∷ 48 ∷ 39 ∷ 48 ∷ 57 ∷ [])
    ∷ case (counters_at doubled (39 ∷ 47 ∷ 48 ∷ 57 ∷ [])) (1 ∷ 1 ∷ 3 ∷ 1 ∷ [])
    ∷ case (counters_at doubled_gone (39 ∷ 47 ∷ 48 ∷ 57 ∷ [])) (1 ∷ 0 ∷ 1 ∷ 1 ∷ [])
    -- W4: the answer of P5, the vector of P6, the word of 10.0.0.0 and a refusal, as they cross to C
    ∷ case (answer_number (lookup T ten_one 0 (ip 10 1 2 3)) ∷ []) (1099512221697 ∷ [])
    ∷ case (vector_number (match_vector T ten_one (ip 10 2 2 3)) ∷ []) (32896 ∷ [])
    ∷ case (words (0 ∷ 0 ∷ 0 ∷ 10 ∷ [])) (ip 10 0 0 0 ∷ [])
    ∷ case (c_lookup T (replicate 512 0) (replicate 1031 0) 0 0 ∷ c_match_vector T (replicate 512 0) (replicate 1032 0) 0 ∷ []) (562949953421312 ∷ 0 ∷ [])
    ∷ []

-- lists of addresses
lists : List Case
lists =
    -- W5: P4 alone, P4 to P7 as one list, and P7 with the default
    case (told (lookup_list T ten 0 (ip 8 1 2 3 ∷ []) (sevens 4))) (0 ∷ 0 ∷ 0 ∷ 0 ∷ 1 ∷ [])
    ∷ case (told (lookup_list T ten_one 0 asked (sevens 16))) (0 ∷ 0 ∷ 0 ∷ 0 ∷ 2 ∷ 1 ∷ 9 ∷ 16 ∷ 1 ∷ 1 ∷ 7 ∷ 8 ∷ 2 ∷ 0 ∷ 0 ∷ 0 ∷ 0 ∷ [])
    ∷ case (told (lookup_list T ten_one_default 0 (ip 11 0 0 1 ∷ []) (sevens 4))) (0 ∷ 1 ∷ 3 ∷ 0 ∷ 0 ∷ [])
    -- no address and no results
    ∷ case (told (lookup_list T ten_one 0 [] [])) (0 ∷ [])
    -- one result too few or too many, none, and none asked: 18, and the results stay
    ∷ case (told (lookup_list T ten_one 0 asked (sevens 15))) (18 ∷ sevens 15)
    ∷ case (told (lookup_list T ten_one 0 asked (sevens 17))) (18 ∷ sevens 17)
    ∷ case (told (lookup_list T ten_one 0 asked [])) (18 ∷ [])
    ∷ case (told (lookup_list T ten_one 0 [] (sevens 4))) (18 ∷ sevens 4)
    -- 1 before 2, and 2 before 18
    ∷ case (told (lookup_list (settings 9 4 1 2 1 2 1) (record { counters = sevens 511; slots = sevens 258 }) 0 asked (sevens 15))) (1 ∷ sevens 15)
    ∷ case (told (lookup_list T (record { counters = sevens 511; slots = sevens 258 }) 0 asked (sevens 15))) (2 ∷ sevens 15)
    -- W6: 10.1.2.3 as bytes, and its four words; hop 258 is 2 and then 1
    ∷ case (told_c (3 ∷ 2 ∷ 1 ∷ 10 ∷ []) (sevens 16)) (0 ∷ 1 ∷ 0 ∷ 0 ∷ 0 ∷ 9 ∷ 0 ∷ 0 ∷ 0 ∷ 16 ∷ 0 ∷ 0 ∷ 0 ∷ 1 ∷ 0 ∷ 0 ∷ 0 ∷ [])
    ∷ case (bytes_of (258 ∷ [])) (2 ∷ 1 ∷ 0 ∷ 0 ∷ [])
    -- three bytes are no address, whatever the results are; nor are five
    ∷ case (told_c (3 ∷ 2 ∷ 1 ∷ []) []) (18 ∷ [])
    ∷ case (told_c (3 ∷ 2 ∷ 1 ∷ []) (sevens 12)) (18 ∷ sevens 12)
    ∷ case (told_c (3 ∷ 2 ∷ 1 ∷ 10 ∷ 3 ∷ []) (sevens 16)) (18 ∷ sevens 16)
    -- one byte too few or too many
    ∷ case (told_c (3 ∷ 2 ∷ 1 ∷ 10 ∷ []) (sevens 15)) (18 ∷ sevens 15)
    ∷ case (told_c (3 ∷ 2 ∷ 1 ∷ 10 ∷ []) (sevens 17)) (18 ∷ sevens 17)
    ∷ []

-- a stored prefix added again
replaced : List Case
replaced =
    -- W7: 10/8 added with hop 8 where it is stored with hop 7: its mark, word 57, changes and nothing else
    case (written ten_again) (only_word ten 57 9)
    ∷ case (figures (lookup T ten_again.memory 0 (ip 10 2 2 3))) (finds 8 8 1)
    -- in a full bucket: 8/8 gets hop 6 in slot 1, word 59, and 9/8 gets 8 as before
    ∷ case (written eight_again) (only_word ten_eight 59 7)
    ∷ case (figures (lookup T eight_again.memory 0 (ip 8 1 2 3))) (finds 6 8 1)
    ∷ case ((add T eight_again.memory 0 (ip 9 0 0 0) 8 6).refusal ∷ []) (8 ∷ [])
    -- with slot 0 free: slot 1 has it, and slot 0 stays free
    ∷ case (written past_free) (only_word before_it_free 59 7)
    -- with its counters at 15, and in a full bucket besides: they stay
    ∷ case (written at_15) (only_word (hosts (Z 5 4) 3) 251 5)
    ∷ case (figures (lookup (Z 5 4) at_15.memory 0 2)) (finds 4 32 1)
    ∷ case (written full_at_15) (only_word (hosts (Z 8 1) 1) 63 5)
    -- the default: its word, the last but one, has hop 4
    ∷ case (written default_again) (only_word ten_one_default 256 5)
    ∷ case (figures (lookup T default_again.memory 0 (ip 11 0 0 1))) (finds 4 0 0)
    -- W8: where damage has 10/8 in both slots, the lower one is written
    ∷ case (written lowest_again) (only_word twice 57 9)
    -- 5 is asked before a stored prefix is looked for
    ∷ case ((add T ten 0 (ip 10 0 0 0) 8 65536).refusal ∷ []) (5 ∷ [])
    ∷ []

-- from length 32 down to length 1
downwards : List Case
downwards =
    -- W9: the prefixes of 10.1.2.3, before and after each bit that it loses
    case (map (λ L. prefix (ip 10 1 2 3) L) (32 ∷ 31 ∷ 30 ∷ 23 ∷ 22 ∷ 16 ∷ 15 ∷ 7 ∷ 6 ∷ 5 ∷ 4 ∷ 1 ∷ []))
    (ip 10 1 2 3 ∷ ip 10 1 2 2 ∷ ip 10 1 2 0 ∷ ip 10 1 2 0 ∷ ip 10 1 0 0 ∷ ip 10 1 0 0 ∷ ip 10 0 0 0 ∷ ip 10 0 0 0 ∷ ip 8 0 0 0 ∷ ip 8 0 0 0 ∷ 0 ∷ 0 ∷ [])
    -- claimed at 32, 31 and 1: 2^31 + 2^30 + 1
    ∷ case ((match_vector T both_ends (ip 10 1 2 3)).vector ∷ []) (3221225473 ∷ [])
    ∷ case (figures (lookup T both_ends 0 (ip 10 1 2 3))) (finds 1 32 1)
    ∷ case (figures (lookup T both_ends 0 (ip 10 1 2 2))) (finds 2 31 2)
    ∷ case (figures (lookup T both_ends 0 (ip 10 1 2 0))) (finds 3 1 3)
    -- at length 1 the first bit decides
    ∷ case ((match_vector T both_ends (ip 127 255 255 255)).vector ∷ (match_vector T both_ends (ip 128 0 0 0)).vector ∷ []) (1 ∷ 0 ∷ [])
    ∷ []

-- filters of unequal size
unequal : List Case
unequal =
    -- W10: the size of X's counters, and where the filters of lengths 1, 2, 16, 17, 24, 25 and 32 begin
    case (counters_size X ∷ map (filter_start X) (1 ∷ 2 ∷ 16 ∷ 17 ∷ 24 ∷ 25 ∷ 32 ∷ []))
    (704 ∷ 0 ∷ 32 ∷ 256 ∷ 288 ∷ 400 ∷ 528 ∷ 640 ∷ [])
    -- 10.1.2.0 has the top 7, 4 and 6 bits of the same three numbers for its positions at lengths 24, 23 and 32
    ∷ case (positions X (ip 10 1 2 0) 24) (105 ∷ 13 ∷ 49 ∷ [])
    ∷ case (positions X (ip 10 1 2 0) 23) (13 ∷ 1 ∷ 6 ∷ [])
    ∷ case (positions X (ip 10 1 2 0) 32) (52 ∷ 6 ∷ 24 ∷ [])
    -- W11: 10.1.2/24 added to a table that holds nothing: three counters, and the words of slot 0 of bucket 0
    ∷ case (written (branch X)) (0 ∷ set (set (set (replicate 704 0) 413 1) 449 1) 505 1 ++ set (set (replicate 258 0) 184 (ip 10 1 2 0)) 185 6)
    -- 10.3.187/24 has positions 110, 15 and 48: at length 24 it is not claimed, and with D 4 everywhere it would be
    ∷ case (positions X (ip 10 3 187 0) 24) (110 ∷ 15 ∷ 48 ∷ [])
    ∷ case (figures (lookup X (branch_ten X) 0 (ip 10 3 187 1))) (finds 7 8 1)
    ∷ case (figures (lookup (filtered (replicate 32 4)) (branch_ten (filtered (replicate 32 4))) 0 (ip 10 3 187 1))) (finds 7 8 2)
    -- W12: the first filter and the last: 128/1 lands twice on byte 16, and 10.1.2.3/32 on bytes 683, 673 and 664
    ∷ case (bytes_at five_lengths (0 ∷ 16 ∷ 264 ∷ 268 ∷ 282 ∷ 664 ∷ 673 ∷ 683 ∷ [])) (1 ∷ 2 ∷ 1 ∷ 1 ∷ 1 ∷ 1 ∷ 1 ∷ 1 ∷ [])
    -- claimed at 32, 24, 16, 8 and 1
    ∷ case ((match_vector X five_lengths (ip 10 1 2 3)).vector ∷ []) (2155905153 ∷ [])
    ∷ case (figures (lookup X five_lengths 0 (ip 10 1 2 3)) ++ figures (lookup X five_lengths 0 (ip 192 0 0 1))) (finds 6 32 1 ++ finds 2 1 1)
    -- 10.1.2/24 withdrawn: its three counters are zero again, and 10.1.2.9 goes by 10.1/16
    ∷ case (figures (lookup X five_lengths 0 (ip 10 1 2 9)) ++ figures (lookup X branch_gone 0 (ip 10 1 2 9))) (finds 5 24 1 ++ finds 9 16 1)
    ∷ case (bytes_at branch_gone (413 ∷ 449 ∷ 505 ∷ 664 ∷ [])) (0 ∷ 0 ∷ 0 ∷ 1 ∷ [])
    -- W13: 31 values, 33 and none get 1, over as many counters as they ask
    ∷ case (clear_number (replicate 31 4) 496 ∷ clear_number (replicate 33 4) 528 ∷ clear_number [] 0 ∷ []) (1 ∷ 1 ∷ 1 ∷ [])
    -- so do 3 and 12 at the first length, at length 24 and at the last
    ∷ case (clear_number (3 ∷ replicate 31 4) 504 ∷ clear_number (12 ∷ replicate 31 4) 4592 ∷ []) (1 ∷ 1 ∷ [])
    ∷ case (clear_number (replicate 23 4 ++ 3 ∷ replicate 8 4) 504 ∷ clear_number (replicate 23 4 ++ 12 ∷ replicate 8 4) 4592 ∷ []) (1 ∷ 1 ∷ [])
    ∷ case (clear_number (replicate 31 4 ++ 3 ∷ []) 504 ∷ clear_number (replicate 31 4 ++ 12 ∷ []) 4592 ∷ []) (1 ∷ 1 ∷ [])
    -- 4 and 11 are in the range, and 2 is given where the counters are not the sum of the powers, as 512 are not here
    ∷ case (clear_number (11 ∷ replicate 31 4) 2544 ∷ clear_number (replicate 31 4 ++ 11 ∷ []) 2544 ∷ []) (0 ∷ 0 ∷ [])
    ∷ case (clear_number (11 ∷ replicate 31 4) 2543 ∷ clear_number (replicate 31 4 ++ 11 ∷ []) 2545 ∷ clear_number (replicate 31 4 ++ 5 ∷ []) 512 ∷ []) (2 ∷ 2 ∷ 2 ∷ [])
    -- from C too: 1·2^48
    ∷ case (c_lookup (filtered (replicate 31 4)) (sevens 496) (sevens 1032) 0 0 ∷ c_match_vector (filtered (replicate 33 4)) (sevens 528) (sevens 1032) 0 ∷ []) (281474976710656 ∷ 281474976710656 ∷ [])
    ∷ []

-- odd prefixes
odd : List Case
odd =
    -- W14: 127/8 and 224/4 get 11, and so does all that lies in them, to their last addresses
    case (number_of (ip 127 0 0 0) 8 ∷ number_of (ip 127 0 0 0) 9 ∷ number_of (ip 127 128 0 0) 9 ∷ []) (11 ∷ 11 ∷ 11 ∷ [])
    ∷ case (number_of (ip 127 0 0 0) 32 ∷ number_of (ip 127 0 0 1) 32 ∷ number_of (ip 127 255 255 255) 32 ∷ []) (11 ∷ 11 ∷ 11 ∷ [])
    ∷ case (number_of (ip 224 0 0 0) 4 ∷ number_of (ip 224 0 0 0) 5 ∷ number_of (ip 232 0 0 0) 5 ∷ []) (11 ∷ 11 ∷ 11 ∷ [])
    ∷ case (number_of (ip 239 0 0 0) 8 ∷ number_of (ip 224 0 0 0) 32 ∷ number_of (ip 239 255 255 255) 32 ∷ []) (11 ∷ 11 ∷ 11 ∷ [])
    -- what only contains them passes
    ∷ case (number_of (ip 126 0 0 0) 7 ∷ number_of (ip 64 0 0 0) 2 ∷ number_of 0 1 ∷ number_of 0 0 ∷ []) (0 ∷ 0 ∷ 0 ∷ 0 ∷ [])
    ∷ case (number_of (ip 224 0 0 0) 3 ∷ number_of (ip 192 0 0 0) 2 ∷ number_of (ip 128 0 0 0) 1 ∷ []) (0 ∷ 0 ∷ 0 ∷ [])
    -- and so do their neighbours
    ∷ case (number_of (ip 126 0 0 0) 8 ∷ number_of (ip 126 255 255 255) 32 ∷ number_of (ip 128 0 0 0) 8 ∷ number_of (ip 128 0 0 0) 32 ∷ []) (0 ∷ 0 ∷ 0 ∷ 0 ∷ [])
    ∷ case (number_of (ip 208 0 0 0) 4 ∷ number_of (ip 223 255 255 255) 32 ∷ number_of (ip 240 0 0 0) 4 ∷ number_of (ip 240 0 0 0) 32 ∷ number_of (ip 255 255 255 255) 32 ∷ []) (0 ∷ 0 ∷ 0 ∷ 0 ∷ 0 ∷ [])
    -- W15: 2, 3 and 4 before 11, and 11 before 5, 8 and 9
    ∷ case ((add T (record { counters = sevens 511; slots = sevens 258 }) 0 (ip 127 0 0 0) 8 7).refusal ∷ []) (2 ∷ [])
    ∷ case (number_of (ip 127 0 0 0) 33 ∷ number_of (ip 127 0 0 1) 8 ∷ number_of (ip 224 0 0 1) 4 ∷ []) (3 ∷ 4 ∷ 4 ∷ [])
    ∷ case ((add T (empty T) 0 (ip 127 0 0 0) 8 65536).refusal ∷ (add T (empty T) 0 (ip 224 0 0 0) 4 65536).refusal ∷ []) (11 ∷ 11 ∷ [])
    ∷ case ((add T ten_eight 0 (ip 127 0 0 0) 8 6).refusal ∷ (add (Z 5 4) (hosts (Z 5 4) 3) 0 (ip 127 0 0 1) 32 1).refusal ∷ []) (11 ∷ 11 ∷ [])
    -- W16: where 127/8 is stored from before, an add gets 11 and leaves all as it was; it is found, changed and withdrawn
    ∷ case (written (add T old 0 (ip 127 0 0 0) 8 8)) (11 ∷ old.counters ++ old.slots)
    ∷ case (figures (lookup T old 0 (ip 127 0 0 1))) (finds 7 8 1)
    ∷ case (written (change T old 0 (ip 127 0 0 0) 8 8)) (only_word old 59 9)
    ∷ case (written (withdraw T old 0 (ip 127 0 0 0) 8)) (0 ∷ ten.counters ++ ten.slots)
    ∷ []

-- two parties
parties : List Case
parties =
    -- W17: 10/8 of party 1 with hop 9 beside that of party 0: slot 1, words 58 and 59, and both its counters go up to 2
    case (written both_ten)
    (0 ∷ set (set ten.counters 112 2) 113 2 ++ set (set ten.slots 58 (ip 10 0 0 0)) 59 65546)
    ∷ case (figures (lookup T both_ten.memory 0 (ip 10 2 2 3)) ++ figures (lookup T both_ten.memory 1 (ip 10 2 2 3))) (finds 7 8 1 ++ finds 9 8 1)
    -- the bucket is full for both; each may give its own route another hop
    ∷ case ((add T both_ten.memory 0 (ip 8 0 0 0) 8 5).refusal ∷ (add T both_ten.memory 1 (ip 8 0 0 0) 8 5).refusal ∷ []) (8 ∷ 8 ∷ [])
    ∷ case (written (add T both_ten.memory 1 (ip 10 0 0 0) 8 4)) (only_word both_ten.memory 59 65541)
    ∷ case (written (change T both_ten.memory 0 (ip 10 0 0 0) 8 4)) (only_word both_ten.memory 57 5)
    -- W18: party 1's withdrawal leaves the table of P4, and party 0's leaves party 1 its route
    ∷ case (written (withdraw T both_ten.memory 1 (ip 10 0 0 0) 8)) (0 ∷ ten.counters ++ ten.slots)
    ∷ case (figures (lookup T (withdraw T both_ten.memory 0 (ip 10 0 0 0) 8).memory 1 (ip 10 2 2 3))) (finds 9 8 1)
    -- what the other party has stored gets 7
    ∷ case ((withdraw T ten 1 (ip 10 0 0 0) 8).refusal ∷ (change T ten 1 (ip 10 0 0 0) 8 3).refusal ∷ []) (7 ∷ 7 ∷ [])
    -- W19: a default of each party, in words 256 and 257
    ∷ case (get_or defaults.slots 256 0 ∷ get_or defaults.slots 257 0 ∷ []) (4 ∷ 65541 ∷ [])
    ∷ case (figures (lookup T defaults 0 (ip 11 0 0 1)) ++ figures (lookup T defaults 1 (ip 11 0 0 1))) (finds 3 0 0 ++ finds 4 0 0)
    ∷ case (figures (lookup T (withdraw T defaults 0 0 0).memory 0 0) ++ figures (lookup T (withdraw T defaults 0 0 0).memory 1 0)) (none_after 0 ++ finds 4 0 0)
    -- a mark of the other party's in a default's word counts for nothing, and an add writes over it
    ∷ case (figures (lookup T exchanged 0 0) ++ figures (lookup T exchanged 1 0)) (none_after 0 ++ none_after 0)
    ∷ case ((withdraw T exchanged 0 0 0).refusal ∷ (change T exchanged 1 0 0 3).refusal ∷ []) (7 ∷ 7 ∷ [])
    ∷ case (written (add T exchanged 0 0 0 3)) (only_word exchanged 256 4)
    -- W20: marks 0, 1, 65,536, 65,537, 131,072, 131,073 and 2^32 − 1 in a slot, as each party finds them
    ∷ case (told_of marked 0 edges) (0 ∷ 0 ∷ 1 ∷ 0 ∷ 1 ∷ 65535 ∷ 0 ∷ 0 ∷ 0 ∷ 0 ∷ 0 ∷ 0 ∷ 0 ∷ 0 ∷ [])
    ∷ case (told_of marked 1 edges) (0 ∷ 0 ∷ 0 ∷ 0 ∷ 0 ∷ 0 ∷ 1 ∷ 0 ∷ 1 ∷ 65535 ∷ 0 ∷ 0 ∷ 0 ∷ 0 ∷ [])
    -- in the defaults' words
    ∷ case (told_of marked_defaults 0 edges) (0 ∷ 0 ∷ 1 ∷ 0 ∷ 1 ∷ 65535 ∷ 0 ∷ 0 ∷ 0 ∷ 0 ∷ 0 ∷ 0 ∷ 0 ∷ 0 ∷ [])
    ∷ case (told_of marked_defaults 1 edges) (0 ∷ 0 ∷ 0 ∷ 0 ∷ 0 ∷ 0 ∷ 1 ∷ 0 ∷ 1 ∷ 65535 ∷ 0 ∷ 0 ∷ 0 ∷ 0 ∷ [])
    -- and whether 8/8 finds that slot free: word 56 has its prefix after an add
    ∷ case (map (λ mark. get_or (add T (marked mark) 0 (ip 8 0 0 0) 8 5).memory.slots 56 0) edges)
    (ip 8 0 0 0 ∷ ip 10 0 0 0 ∷ ip 10 0 0 0 ∷ ip 10 0 0 0 ∷ ip 10 0 0 0 ∷ ip 8 0 0 0 ∷ ip 8 0 0 0 ∷ [])
    -- W21: party 1's 10.1/16 costs party 0 a probe, and party 0 does not find it
    ∷ case (figures (lookup T one_longer 0 (ip 10 1 2 3)) ++ figures (lookup T one_longer 1 (ip 10 1 2 3))) (finds 7 8 2 ++ finds 9 16 1)
    ∷ case ((match_vector T one_longer (ip 10 1 2 3)).vector ∷ []) (32896 ∷ [])
    -- a clear empties both
    ∷ case (written (clear T both_ten.memory)) (0 ∷ replicate 512 0 ++ replicate 258 0)
    -- W22: a party above 1 gets 15, after 1 and 2 and before all else
    ∷ case ((add T ten 2 (ip 10 0 0 1) 33 65536).refusal ∷ (withdraw T ten 2 (ip 10 0 0 1) 33).refusal ∷ (change T ten 4294967295 (ip 10 0 0 1) 33 65536).refusal ∷ []) (15 ∷ 15 ∷ 15 ∷ [])
    ∷ case (written (add T ten 2 (ip 8 0 0 0) 8 5)) (15 ∷ ten.counters ++ ten.slots)
    ∷ case (figures (lookup T ten 2 (ip 10 2 2 3))) (15 ∷ 0 ∷ 0 ∷ 0 ∷ 0 ∷ [])
    ∷ case (told (lookup_list T ten 2 asked (sevens 15))) (15 ∷ sevens 15)
    ∷ case ((add (settings 9 4 1 2 1 2 1) ten 2 (ip 10 0 0 0) 8 7).refusal ∷ (lookup T (record { counters = sevens 512; slots = sevens 257 }) 2 0).refusal ∷ []) (1 ∷ 2 ∷ [])
    -- from C too: 15·2^48; a list that has no whole words as well
    ∷ case (c_lookup T ten.counters (bytes_of ten.slots) 2 0 ∷ []) (4222124650659840 ∷ [])
    ∷ case (told (c_lookup_list T ten.counters (bytes_of ten.slots) 2 (3 ∷ 2 ∷ 1 ∷ []) (sevens 5))) (15 ∷ sevens 5)
    ∷ []

-- two lists of numbers are the same
unfoldable pub same_words : List ℕ → List ℕ → Bool
same_words [] [] = true
same_words [] (y ∷ ys) = false
same_words (x ∷ xs) [] = false
same_words (x ∷ xs) (y ∷ ys) = eqb x y && same_words xs ys

-- each case comes out as it is said
unfoldable pub come_out : List Case → Bool
come_out [] = true
come_out (c ∷ cs) = same_words c.gives c.says && come_out cs

-- to unfold this is to unfold all that the calls compute with
unfoldable pub computing : ℕ
unfolding within all any count those lowest list_in_range in_range wrap prefix steps filter_bits positions bucket filters_size counters_size filter_start counter_place counter_places slots_size slot_number prefix_word mark_word default_word first_mark own occupied mark_of hop_of mark_at prefix_at default_mark holds free held vacant is_some stored refuse sized loose lies_in odd_prefix full hits passes_15 runs_short from_1 needs_slot memory_refusal party_refusal route_refusal add_refusal withdraw_refusal change_refusal unless_refused zeroed step_each with_slot with_default with_found added withdrawn changed clear add withdraw change claims bits_where vector_of match_vector down_from bit_set set_bits search route_answer default_answer place_answer refused answer_of lookup one_if answer_words list_words listed fourfold list_refusal lookup_list whole_words words answer_number vector_number c_lookup c_match_vector bytes_of c_list_refusal c_lookup_list
computing = 0

all_come_out : come_out (worked ++ refusals ++ further ++ lists ++ replaced ++ downwards ++ unequal ++ odd ++ parties) ≡ true
unfolding worked refusals further lists replaced downwards unequal odd parties same_words come_out computing
all_come_out = refl
