-- The worked cases X1 to X10 of docs/TABLE.md: one list, proved by one computation of the comparison that can be run.
use Prim.Native.Nat.{ℕ}
use mathlib.Core.Path.{◌≡◌, refl}
use mathlib.Core.Bool.{true}
use mathlib.Core.List.{List, [], ◌∷◌, ◌++◌}
use lib.ListN.{replicate, set}
use Rattle.rules.specs.declared.Settings.{Settings}
use Rattle.rules.specs.Table.{Memory, lent, counters_size, slots_size}
use Rattle.rules.specs.Calls.{Call, Add, act, each, run}
use Rattle.rules.proofs.Worked.{ip, settings, T, sevens, Case, case, same_words, come_out, computing}
use Rattle.difference_rules.specs.Comparing.{told, found_mark, stored_mark, has, numbers_from, differ, difference_words, Compared, over, difference_refusal, listing, difference}
use Rattle.difference_rules.proofs.Rising.{in_order}
use Rattle.difference_rules.proofs.Running.{slot_prefixes, candidates, found_of, found_of_lengths, found_between, run_listed, run_difference, difference_runs}

-- ---- What the cases are written in

-- settings of which each one is another than T's
abbrev pub Y : Settings
Y = settings 3 5 2 3 7 3 5

-- what these calls leave of a table that holds nothing
abbrev table : Settings → List Call → Memory
table t calls = (run t (lent (replicate (counters_size t) 0) (replicate (slots_size t) 0)) calls).last

-- the same memory with another number in one of its slots' words
abbrev word_set : Memory → (at word : ℕ) → Memory
word_set m at word = lent m.counters (set m.slots at word)

-- refusal, count, and the whole list as it is left
abbrev answer : Compared → List ℕ
answer c = c.answer.refusal ∷ c.answer.count ∷ c.list

-- a route of length 8, by its first octet
abbrev eight : (party octet hop : ℕ) → Call
eight party octet hop = Add party (ip octet 0 0 0) 8 hop

-- a table whose one route is 10/8
abbrev one : Settings → (party hop : ℕ) → Memory
one t party hop = table t (eight party 10 hop ∷ [])

-- the four words of a difference of length 8
abbrev at : (octet first second : ℕ) → List ℕ
at octet first second = 8 ∷ ip octet 0 0 0 ∷ first ∷ second ∷ []

-- X1: four routes, and the same in another order
abbrev four : List Call
four = Add 0 0 0 3 ∷ eight 0 10 7 ∷ eight 0 192 5 ∷ Add 0 (ip 10 1 0 0) 16 9 ∷ []

abbrev four_back : List Call
four_back = Add 0 (ip 10 1 0 0) 16 9 ∷ eight 0 192 5 ∷ eight 0 10 7 ∷ Add 0 0 0 3 ∷ []

-- X5: six routes, the longest first; and four of which one is among the six
abbrev six : List Call
six = Add 0 (ip 10 1 2 3) 32 6 ∷ Add 0 (ip 10 1 0 0) 16 3 ∷ eight 0 192 1 ∷ eight 0 10 2 ∷ Add 0 (ip 128 0 0 0) 1 4 ∷ Add 0 0 0 5 ∷ []

abbrev others : List Call
others = eight 0 52 8 ∷ eight 0 51 9 ∷ Add 0 0 1 7 ∷ Add 0 (ip 10 1 0 0) 16 3 ∷ []

-- X6: routes of both parties
abbrev shared : Memory
shared = table T (eight 0 10 7 ∷ eight 1 10 9 ∷ Add 1 0 0 2 ∷ [])

abbrev shared_too : Memory
shared_too = table Y (eight 1 10 4 ∷ eight 0 11 5 ∷ [])

-- X7: in bucket 0 of length 8, 192/8, whose bucket is 1, and 10.0.0.1; and a mark of party 1's in the word of party 0's default
abbrev astray : Memory
astray = word_set (word_set (word_set (word_set (word_set (table T []) 56 (ip 192 0 0 0)) 57 8) 58 (ip 10 0 0 1)) 59 8) 256 65541

-- X8: 10/8 in both slots of its bucket, with hops 7 and 5
abbrev twice : Memory
twice = word_set (word_set (one T 0 7) 58 (ip 10 0 0 0)) 59 6

-- X10: K is 9
abbrev unfit : Settings
unfit = settings 9 4 1 2 1 2 1

-- refused with this number: nothing is counted, and three sevens are left
abbrev refused_with : (number : ℕ) → List ℕ
refused_with number = number ∷ 0 ∷ sevens 3

-- ---- The cases, of any comparison

worked : (Settings → Memory → Settings → Memory → ℕ → List ℕ → Compared) → List Case
worked compare =
    -- X1: the same routes under other settings: none differ; nor does a table from itself
    case ((run T (table T []) four).answers ++ (run Y (table Y []) four_back).answers) (replicate 8 0)
    ∷ case (answer (compare T (table T four) Y (table Y four_back) 0 (sevens 4))) (0 ∷ 0 ∷ sevens 4)
    ∷ case (answer (compare Y (table Y four_back) T (table T four) 0 [])) (0 ∷ 0 ∷ [])
    ∷ case (answer (compare T (table T four) T (table T four) 0 [])) (0 ∷ 0 ∷ [])
    -- X2: a route in the first alone
    ∷ case (answer (compare T (one T 0 7) Y (table Y []) 0 (sevens 4))) (0 ∷ 1 ∷ at 10 8 0)
    -- X3: in the second alone
    ∷ case (answer (compare T (table T []) Y (one Y 0 7) 0 (sevens 4))) (0 ∷ 1 ∷ at 10 0 8)
    -- X4: in both, with another hop
    ∷ case (answer (compare T (one T 0 7) Y (one Y 0 9) 0 (sevens 4))) (0 ∷ 1 ∷ at 10 8 10)
    -- X5: the default first, then rising by length, and then by prefix, in whatever order they were added and lie
    ∷ case (answer (compare T (table T six) Y (table Y others) 0 (sevens 32)))
    (0 ∷ 8 ∷ (0 ∷ 0 ∷ 6 ∷ 0 ∷ [])
    ++ (1 ∷ 0 ∷ 0 ∷ 8 ∷ []) ++ (1 ∷ ip 128 0 0 0 ∷ 5 ∷ 0 ∷ [])
    ++ at 10 3 0 ++ at 51 0 10 ++ at 52 0 9 ++ at 192 2 0
    ++ 32 ∷ ip 10 1 2 3 ∷ 7 ∷ 0 ∷ [])
    -- X6: party 1's routes alone, its marks told as for party 0; and party 0's
    ∷ case (answer (compare T shared Y shared_too 1 (sevens 8))) (0 ∷ 2 ∷ (0 ∷ 0 ∷ 3 ∷ 0 ∷ []) ++ at 10 10 5)
    ∷ case (answer (compare T shared Y shared_too 0 (sevens 8))) (0 ∷ 2 ∷ at 10 8 0 ++ at 11 0 6)
    ∷ case (answer (compare T (one T 1 65535) Y (one Y 1 0) 1 (sevens 4))) (0 ∷ 1 ∷ at 10 65536 1)
    -- X7: a prefix in another's bucket is no route, nor is one with a bit set after its length, nor the other party's default
    ∷ case (answer (compare T astray Y (table Y []) 0 (sevens 4))) (0 ∷ 0 ∷ sevens 4)
    ∷ case (answer (compare T astray Y (table Y (eight 0 192 7 ∷ [])) 0 (sevens 4))) (0 ∷ 1 ∷ at 192 0 8)
    -- X8: of equals in one bucket the lowest slot of the party's has the route
    ∷ case (answer (compare T twice Y (one Y 0 7) 0 (sevens 4))) (0 ∷ 0 ∷ sevens 4)
    ∷ case (answer (compare T twice Y (one Y 0 5) 0 (sevens 4))) (0 ∷ 1 ∷ at 10 8 6)
    ∷ case (answer (compare T (word_set twice 57 65546) Y (one Y 0 7) 0 (sevens 4))) (0 ∷ 1 ∷ at 10 6 8)
    -- X9: a list one word short gets 18 and is left; one that is just long enough passes, and of a longer one the rest stays
    ∷ case (answer (compare T (one T 0 7) Y (one Y 0 9) 0 (sevens 3))) (18 ∷ 0 ∷ sevens 3)
    ∷ case (answer (compare T (one T 0 7) Y (one Y 0 9) 0 [])) (18 ∷ 0 ∷ [])
    ∷ case (answer (compare T (one T 0 7) Y (one Y 0 9) 0 (sevens 5))) (0 ∷ 1 ∷ at 10 8 10 ++ 7 ∷ [])
    -- X10: 1 and 2 of the first table, whatever the second is
    ∷ case (answer (compare unfit (one T 0 7) Y (lent (sevens 1024) (sevens 769)) 2 (sevens 3))) (refused_with 1)
    ∷ case (answer (compare T (lent (sevens 511) (sevens 258)) unfit (one T 0 7) 2 (sevens 3))) (refused_with 2)
    -- then 1 and 2 of the second
    ∷ case (answer (compare T (one T 0 7) unfit (lent (sevens 511) (sevens 258)) 2 (sevens 3))) (refused_with 1)
    ∷ case (answer (compare T (one T 0 7) Y (lent (sevens 1024) (sevens 769)) 2 (sevens 3))) (refused_with 2)
    -- a table of the other's settings gets 2 as well
    ∷ case (answer (compare T (one T 0 7) Y (one T 0 7) 2 (sevens 3))) (refused_with 2)
    -- then 15, and only then 18
    ∷ case (answer (compare T (one T 0 7) Y (one Y 0 9) 2 (sevens 3))) (refused_with 15)
    ∷ case (answer (compare T (one T 0 7) Y (one Y 0 9) 4294967295 (sevens 3))) (refused_with 15)
    ∷ []

-- the comparison that can be run gives what is said
run_come_out : come_out (worked run_difference) ≡ true
unfolding worked same_words come_out computing act each run told found_mark stored_mark has numbers_from differ difference_words over difference_refusal listing in_order slot_prefixes candidates found_of found_of_lengths found_between run_listed run_difference
run_come_out = refl

-- and so does the comparison, which is the same
difference_run : difference ≡ run_difference
difference_run = λ i t m u n party list. difference_runs t m u n party list i

all_come_out : come_out (worked difference) ≡ true
all_come_out = rw difference_run run_come_out
