-- Which routes differ, under that heading of docs/TABLE.md. Every definition is of any memory, damaged memory too.
use Rattle.std.specs.Prelude.{ℕ, zero, suc, ◌+◌, ◌*◌, ◌^◌, Bool, cond, not, List, [], ◌∷◌, ◌++◌, map, length, drop, ltb, eqb, Result, Ok, Err}
use Rattle.std.proofs.Math.Option.{Option, some, none}
use Rattle.rules.specs.Tools.{those}
use Rattle.rules.specs.declared.Settings.{Settings}
use Rattle.rules.specs.declared.Refusal.{Refusal}
use Rattle.rules.specs.Numbers.{refusal_number}
use Rattle.rules.specs.Table.{Memory, lent, slot_number, own, mark_of, hop_of, mark_at, default_mark, held, loose, refuse, memory_refusal, party_refusal, words, bytes_of}
use Rattle.difference_rules.specs.declared.Difference.{Difference}

-- ---- What a table has

-- a mark as it is told: that of party 0 with the same hop; a mark that is not the party's is told as 0
unfoldable pub told : (party mark : ℕ) → ℕ
told party mark = cond (own party mark) (mark_of 0 (hop_of party mark)) 0

-- the mark of the slot that was found in p's bucket at length L; 0 where none was
unfoldable pub found_mark : Settings → (slots : List ℕ) (p L : ℕ) → Option ℕ → ℕ
found_mark t slots p L (some s) = mark_at slots (slot_number t p L s)
found_mark t slots p L none = 0

-- the mark in the lowest slot of p's own bucket that is the party's and holds p; at length 0 that in the party's default's word
unfoldable pub stored_mark : Settings → (slots : List ℕ) (party p L : ℕ) → ℕ
stored_mark t slots party p L =
    cond (eqb L 0) (default_mark t slots party) (found_mark t slots p L (held t slots party p L))

-- what a table has for the party at p of length L, as it is told: 0 is no route, and p with a bit set after its length is none
unfoldable pub has : Settings → (slots : List ℕ) (party p L : ℕ) → ℕ
has t slots party p L = cond (loose p L) 0 (told party (stored_mark t slots party p L))

-- ---- Where two tables differ

-- one of the two sides: what a table has at each p and L, be it read from its memory or from paper
abbrev pub Side : Type 0
Side = (p L : ℕ) → ℕ

-- so many numbers from n up
unfoldable pub numbers_from : (n many : ℕ) → List ℕ
numbers_from n zero = []
numbers_from n (suc many) = n ∷ numbers_from (n + 1) many

-- the two differ at p of length L
unfoldable pub differ : (first second : Side) (L p : ℕ) → Bool
differ first second L p = not (eqb (first p L) (second p L))

-- what they have at p of length L
abbrev pub difference_at : (first second : Side) (L p : ℕ) → Difference
difference_at first second L p = record { length = L; prefix = p; first = first p L; second = second p L }

-- their differences of length L among so many numbers from p up
unfoldable pub differences_from : (first second : Side) (L p many : ℕ) → List Difference
differences_from first second L p many =
    map (difference_at first second L) (those (differ first second L) (numbers_from p many))

-- at length L: every number of 32 bits, rising
unfoldable pub differences_of : (first second : Side) (L : ℕ) → List Difference
differences_of first second L = differences_from first second L 0 (2 ^ 32)

-- at each of these lengths
unfoldable pub differences_at : (first second : Side) (lengths : List ℕ) → List Difference
differences_at first second [] = []
differences_at first second (L ∷ lengths) = differences_of first second L ++ differences_at first second lengths

-- all of them: the default's first, and then those of each length up to 32
unfoldable pub differences : (first second : Side) → List Difference
differences first second = differences_at first second (numbers_from 0 33)

-- four words to a difference
unfoldable pub difference_words : List Difference → List ℕ
difference_words [] = []
difference_words (d ∷ ds) = d.length ∷ d.prefix ∷ d.first ∷ d.second ∷ difference_words ds

-- ---- The call

-- what a comparison answers: how many routes differ, or a refusal's number and zero; 0 is no refusal
pub record Differences : Type 0 where
  pub refusal : ℕ
  pub count : ℕ

-- what a comparison gives back, and the list as it leaves it
pub record Compared : Type 0 where
  pub answer : Differences
  pub list : List ℕ

-- an answer, and the list as it is left
abbrev pub compared : (answer : Differences) (list : List ℕ) → Compared
compared answer list = record { answer = answer; list = list }

-- a number given back, and a count
abbrev pub with_count : (refusal count : ℕ) → Differences
with_count refusal count = record { refusal = refusal; count = count }

-- what is given back: the count, or why it was refused
abbrev pub differences_given : Result ℕ Refusal → Differences
differences_given (Ok count) = with_count 0 count
differences_given (Err e) = with_count (refusal_number e) 0

-- what is written from the list's front on, and after it what the list had
unfoldable pub over : {A : Type 0} → (written list : List A) → List A
over written list = written ++ drop (length written) list

-- 1 and 2 of the first table, then of the second, 15, and 18 where the list is shorter than the differences need
unfoldable pub difference_refusal : Settings → Memory → Settings → Memory → (party needed room : ℕ) → ℕ
difference_refusal t m u n party needed room =
    memory_refusal t m (party_refusal u n party (refuse (ltb room needed) 18 0))

-- a refused comparison counts nothing and leaves the list as it was
unfoldable pub listing : (refusal count : ℕ) (written list : List ℕ) → Compared
listing refusal count written list =
    cond (eqb refusal 0) (compared (with_count 0 count) (over written list)) (compared (with_count refusal 0) list)

-- the differences of two tables, each by its settings and its slots
unfoldable pub between : Settings → (slots : List ℕ) → Settings → (others : List ℕ) (party : ℕ) → List Difference
between t slots u others party = differences (has t slots party) (has u others party)

-- the comparison, as it is given back and as it leaves the list
unfoldable pub difference : Settings → Memory → Settings → Memory → (party : ℕ) (list : List ℕ) → Compared
difference t m u n party list =
    let written = difference_words (between t m.slots u n.slots party) in
    listing (difference_refusal t m u n party (length written) (length list))
    (length (between t m.slots u n.slots party)) written list

-- ---- As it crosses to C

-- an answer as one number
unfoldable pub differences_number : Differences → ℕ
differences_number r = r.refusal * 2 ^ 48 + r.count

-- the comparison from C: slots and list cross as bytes
unfoldable pub c_difference : Settings → (counters slots : List ℕ) → Settings → (other_counters others : List ℕ) (party : ℕ) (list : List ℕ) → Compared
c_difference t counters slots u other_counters others party list =
    let written = bytes_of (difference_words (between t (words slots) u (words others) party)) in
    listing (difference_refusal t (lent counters (words slots)) u (lent other_counters (words others)) party (length written) (length list))
    (length (between t (words slots) u (words others) party)) written list
