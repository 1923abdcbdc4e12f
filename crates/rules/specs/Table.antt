-- The rules of the table, under the headings of docs/TABLE.md. Every definition computes, on any
-- numbers and any memory, damaged memory too.
use Rattle.std.specs.Prelude.{ℕ, zero, suc, ◌+◌, ◌-◌, ◌*◌, ◌/◌, ◌%◌, ◌^◌, Bool, true, false, cond, not, ◌&&◌, ◌||◌, List, [], ◌∷◌, ◌++◌, map, length, get_or, set, take, replicate, ltb, leb, eqb, None}
use Rattle.std.proofs.Math.Option.{Option, some, none}
use Rattle.rules.specs.Tools.{within, all, any, count, those, lowest}
use Rattle.rules.specs.declared.Settings.{Settings}
use Rattle.rules.specs.declared.Place.{Place}
use Rattle.rules.specs.declared.Place.TheVariants.{At, Absent}

-- ---- Settings

-- D is a list of 32 numbers, one for each length, and each is 4 to 11
unfoldable pub list_in_range : (d : List ℕ) → Bool
list_in_range d = eqb (length d) 32 && all (within 4 11) d

-- K is 1 to 8, D is as above, E 0 to 8 and S 1 to 8; A, B and C may be any number
unfoldable pub in_range : Settings → Bool
in_range t = within 1 8 t.k && (list_in_range t.d && (within 0 8 t.e && within 1 8 t.s))

-- what is left of a number of 32 bits when it has passed 2^32
unfoldable pub wrap : ℕ → ℕ
wrap n = n % 2 ^ 32

-- the prefix of length L of an address: its last 32 − L bits are cleared
unfoldable pub prefix : (address L : ℕ) → ℕ
prefix address L = address / 2 ^ (32 - L) * 2 ^ (32 - L)

-- the numbers g that double hashing goes through, so many of them: each is the last one grown, and wraps
unfoldable pub steps : (many g growth : ℕ) → List ℕ
steps zero g growth = []
steps (suc many) g growth = g ∷ steps many (wrap (g + growth)) growth

-- how many bits number a counter within the filter of length L: that length's own D
unfoldable pub filter_bits : Settings → (L : ℕ) → ℕ
filter_bits t L = get_or t.d (L - 1) 0

-- the K filter positions of p at length L: the top bits of A·p, and of it grown by B·p again and again
unfoldable pub positions : Settings → (p L : ℕ) → List ℕ
positions t p L = map (λ g. g / 2 ^ (32 - filter_bits t L)) (steps t.k (wrap (t.a * p)) (wrap (t.b * p)))

-- the bucket of p: the top E bits of C·p; with E = 0 it is bucket 0
unfoldable pub bucket : Settings → (p : ℕ) → ℕ
bucket t p = wrap (t.c * p) / 2 ^ (32 - t.e)

-- ---- Lent memory

-- the two lists that are lent: counters as bytes, slots as words of 32 bits
pub record Memory : Type 0 where
  pub counters : List ℕ
  pub slots : List ℕ

-- two lent lists as memory
abbrev pub lent : (counters slots : List ℕ) → Memory
lent counters slots = record { counters = counters; slots = slots }

-- how many counters the filters of a list have together: 2^D for each D
unfoldable pub filters_size : (d : List ℕ) → ℕ
filters_size [] = 0
filters_size (D ∷ d) = 2 ^ D + filters_size d

-- how many counters there are
unfoldable pub counters_size : Settings → ℕ
counters_size t = filters_size t.d

-- where the filter of length L begins among the counters: after those of the shorter lengths
unfoldable pub filter_start : Settings → (L : ℕ) → ℕ
filter_start t L = filters_size (take (L - 1) t.d)

-- where the counter of position j of length L lies
unfoldable pub counter_place : Settings → (L j : ℕ) → ℕ
counter_place t L j = filter_start t L + j

-- where the K counters of p at length L lie
unfoldable pub counter_places : Settings → (p L : ℕ) → List ℕ
counter_places t p L = map (counter_place t L) (positions t p L)

-- how many words the slots take: two for each slot of 32 lengths, and a default's mark for each of two parties
unfoldable pub slots_size : Settings → ℕ
slots_size t = 64 * 2 ^ t.e * t.s + 2

-- the number of slot s of p's bucket at length L
unfoldable pub slot_number : Settings → (p L s : ℕ) → ℕ
slot_number t p L s = ((L - 1) * 2 ^ t.e + bucket t p) * t.s + s

-- the word with slot n's prefix
unfoldable pub prefix_word : (n : ℕ) → ℕ
prefix_word n = 2 * n

-- the word with slot n's mark
unfoldable pub mark_word : (n : ℕ) → ℕ
mark_word n = 2 * n + 1

-- after all slots comes the mark of party 0's default, and then that of party 1's
unfoldable pub default_word : Settings → (party : ℕ) → ℕ
default_word t party = 64 * 2 ^ t.e * t.s + party

-- a party's marks are 65,536 numbers, one for each hop: party 0's begin at 1, and party 1's at 65,537
unfoldable pub first_mark : (party : ℕ) → ℕ
first_mark party = 65536 * party + 1

-- the mark is one of the party's
unfoldable pub own : (party mark : ℕ) → Bool
own party mark = within (first_mark party) (first_mark party + 65535) mark

-- a mark of either party means occupied; every other one means free
unfoldable pub occupied : (mark : ℕ) → Bool
occupied mark = own 0 mark || own 1 mark

-- the party's mark of a hop
unfoldable pub mark_of : (party hop : ℕ) → ℕ
mark_of party hop = first_mark party + hop

-- the hop of a mark of the party's
unfoldable pub hop_of : (party mark : ℕ) → ℕ
hop_of party mark = mark - first_mark party

-- the mark of slot n
unfoldable pub mark_at : (slots : List ℕ) (n : ℕ) → ℕ
mark_at slots n = get_or slots (mark_word n) 0

-- the prefix of slot n
unfoldable pub prefix_at : (slots : List ℕ) (n : ℕ) → ℕ
prefix_at slots n = get_or slots (prefix_word n) 0

-- the mark in the word of a party's default route
unfoldable pub default_mark : Settings → (slots : List ℕ) (party : ℕ) → ℕ
default_mark t slots party = get_or slots (default_word t party) 0

-- ---- What is stored

-- slot s of p's bucket at length L is the party's and holds p
unfoldable pub holds : Settings → (slots : List ℕ) (party p L s : ℕ) → Bool
holds t slots party p L s = let n = slot_number t p L s in own party (mark_at slots n) && eqb (prefix_at slots n) p

-- slot s of p's bucket at length L is free
unfoldable pub free : Settings → (slots : List ℕ) (p L s : ℕ) → Bool
free t slots p L s = not (occupied (mark_at slots (slot_number t p L s)))

-- the lowest slot of p's bucket that holds p for the party, if one does
unfoldable pub held : Settings → (slots : List ℕ) (party p L : ℕ) → Option ℕ
held t slots party p L = lowest (holds t slots party p L) t.s

-- the lowest free slot of the bucket
unfoldable pub vacant : Settings → (slots : List ℕ) (p L : ℕ) → Option ℕ
vacant t slots p L = lowest (free t slots p L) t.s

-- there is such a slot
unfoldable pub is_some : Option ℕ → Bool
is_some (some s) = true
is_some none = false

-- p of length L is stored for the party: in a slot of its own bucket or, for length 0, by a mark of the party's in its
-- default's word
unfoldable pub stored : Settings → (slots : List ℕ) (party p L : ℕ) → Bool
stored t slots party p L = cond (eqb L 0) (own party (default_mark t slots party)) (is_some (held t slots party p L))

-- ---- Numbers given back for bad input

-- a call on a bad input gives its number, whatever comes after
unfoldable pub refuse : (bad : Bool) (number after : ℕ) → ℕ
refuse bad number after = cond bad number after

-- both lists are of exactly the size that the settings ask
unfoldable pub sized : Settings → Memory → Bool
sized t m = eqb (length m.counters) (counters_size t) && eqb (length m.slots) (slots_size t)

-- a bit is set after the length
unfoldable pub loose : (p L : ℕ) → Bool
loose p L = not (eqb (prefix p L) p)

-- p lies wholly in the prefix q of length M: it is no shorter, and has its first bits
unfoldable pub lies_in : (q M p L : ℕ) → Bool
lies_in q M p L = leb M L && eqb (prefix p M) q

-- an odd prefix lies wholly in 127.0.0.0/8, a gateway itself, or in 224.0.0.0/4, many receivers at once
unfoldable pub odd_prefix : (p L : ℕ) → Bool
odd_prefix p L = lies_in (127 * 2 ^ 24) 8 p L || lies_in (224 * 2 ^ 24) 4 p L

-- a condition that only length 1 and up can meet: the default has no bucket and no filter
unfoldable pub from_1 : (L : ℕ) → Bool → Bool
from_1 L bad = cond (eqb L 0) false bad

-- p needs a slot: not at length 0, which has none, nor where the party has p stored and it keeps its own
unfoldable pub needs_slot : Settings → (slots : List ℕ) (party p L : ℕ) → Bool
needs_slot t slots party p L = from_1 L (not (stored t slots party p L))

-- every slot of the bucket is occupied
unfoldable pub full : Settings → (slots : List ℕ) (p L : ℕ) → Bool
full t slots p L = not (is_some (vacant t slots p L))

-- a counter's hits by p: the number of p's K steps that lead to it
unfoldable pub hits : Settings → (p L i : ℕ) → ℕ
hits t p L i = count i (counter_places t p L)

-- with p's hits added, one of p's counters would be above 15
unfoldable pub passes_15 : Settings → (counters : List ℕ) (p L : ℕ) → Bool
passes_15 t counters p L = any (λ i. ltb 15 (get_or counters i 0 + hits t p L i)) (counter_places t p L)

-- p's hits could not all be taken from one of p's counters
unfoldable pub runs_short : Settings → (counters : List ℕ) (p L : ℕ) → Bool
runs_short t counters p L = any (λ i. ltb (get_or counters i 0) (hits t p L i)) (counter_places t p L)

-- 1 and 2, which every call checks first
unfoldable pub memory_refusal : Settings → Memory → (after : ℕ) → ℕ
memory_refusal t m after = refuse (not (in_range t)) 1 (refuse (not (sized t m)) 2 after)

-- 15 straight after them, where a call names its party: there are two, 0 and 1
unfoldable pub party_refusal : Settings → Memory → (party after : ℕ) → ℕ
party_refusal t m party after = memory_refusal t m (refuse (ltb 1 party) 15 after)

-- what a route is checked for, memory apart: 3 and 4
abbrev pub route_checks : (p L after : ℕ) → ℕ
route_checks p L after = refuse (ltb 32 L) 3 (refuse (loose p L) 4 after)

-- what an add is checked for, memory apart: 3 and 4, 11, and 5
abbrev pub add_checks : (p L hop after : ℕ) → ℕ
add_checks p L hop after = route_checks p L (refuse (odd_prefix p L) 11 (refuse (ltb 65535 hop) 5 after))

-- 3 and 4, which every update checks next
unfoldable pub route_refusal : Settings → Memory → (party p L after : ℕ) → ℕ
route_refusal t m party p L after = party_refusal t m party (route_checks p L after)

-- what add gives back; 0 is success
unfoldable pub add_refusal : Settings → Memory → (party p L hop : ℕ) → ℕ
add_refusal t m party p L hop =
    party_refusal t m party
    (add_checks p L hop
    (refuse (needs_slot t m.slots party p L && full t m.slots p L) 8
    (refuse (needs_slot t m.slots party p L && passes_15 t m.counters p L) 9 0)))

-- what withdraw gives back
unfoldable pub withdraw_refusal : Settings → Memory → (party p L : ℕ) → ℕ
withdraw_refusal t m party p L =
    route_refusal t m party p L
    (refuse (not (stored t m.slots party p L)) 7 (refuse (from_1 L (runs_short t m.counters p L)) 10 0))

-- what change gives back
unfoldable pub change_refusal : Settings → Memory → (party p L hop : ℕ) → ℕ
change_refusal t m party p L hop =
    route_refusal t m party p L (refuse (ltb 65535 hop) 5 (refuse (not (stored t m.slots party p L)) 7 0))

-- ---- What each call does

-- what an update gives back and leaves
pub record Outcome : Type 0 where
  pub refusal : ℕ
  pub memory : Memory

-- a number given back, and the two lists as they are left
abbrev pub left : (refusal : ℕ) (counters slots : List ℕ) → Outcome
left refusal counters slots = record { refusal = refusal; memory = lent counters slots }

-- a refused call leaves the memory as it was
unfoldable pub unless_refused : (refusal : ℕ) (after before : Memory) → Outcome
unless_refused refusal after before =
    record { refusal = refusal; memory = cond (eqb refusal 0) after before }

-- zero in every byte and word
unfoldable pub zeroed : Memory → Memory
zeroed m = lent (replicate (length m.counters) 0) (replicate (length m.slots) 0)

-- each of these places, one after the other, has its counter stepped
unfoldable pub step_each : (ℕ → ℕ) → List ℕ → (places : List ℕ) → List ℕ
step_each step counters [] = counters
step_each step counters (i ∷ places) = step_each step (set counters i (step (get_or counters i 0))) places

-- slot n holds a prefix and a mark
unfoldable pub with_slot : (slots : List ℕ) (n p mark : ℕ) → List ℕ
with_slot slots n p mark = set (set slots (prefix_word n) p) (mark_word n) mark

-- the word of a party's default holds a mark
unfoldable pub with_default : Settings → Memory → (party mark : ℕ) → Memory
with_default t m party mark = lent m.counters (set m.slots (default_word t party) mark)

-- the slot that was found in p's bucket at length L, if one was, holds a prefix and a mark
unfoldable pub with_found : Settings → (slots : List ℕ) (p L : ℕ) → Option ℕ → (q mark : ℕ) → List ℕ
with_found t slots p L (some s) q mark = with_slot slots (slot_number t p L s) q mark
with_found t slots p L none q mark = slots

-- change, which add does too where p has its place: the slot that holds p for the party gets a new mark beside the p that
-- it has, and the counters stay
unfoldable pub changed : Settings → Memory → (party p L hop : ℕ) → Memory
changed t m party p L hop =
    cond (eqb L 0) (with_default t m party (mark_of party hop))
    (record {
      counters = m.counters;
      slots = with_found t m.slots p L (held t m.slots party p L) p (mark_of party hop);
    })

-- add: where p needs a slot, the lowest free one gets prefix and mark, and at each of the K steps a counter goes up by
-- one; where it needs none, this is a change
unfoldable pub added : Settings → Memory → (party p L hop : ℕ) → Memory
added t m party p L hop =
    cond (needs_slot t m.slots party p L)
    (record {
      counters = step_each (λ n. n + 1) m.counters (counter_places t p L);
      slots = with_found t m.slots p L (vacant t m.slots p L) p (mark_of party hop);
    })
    (changed t m party p L hop)

-- withdraw: the slot that holds p for the party gets two zeros, and at each of the K steps a counter goes down by one
unfoldable pub withdrawn : Settings → Memory → (party p L : ℕ) → Memory
withdrawn t m party p L =
    cond (eqb L 0) (with_default t m party 0)
    (record {
      counters = step_each (λ n. n - 1) m.counters (counter_places t p L);
      slots = with_found t m.slots p L (held t m.slots party p L) 0 0;
    })

-- each call, as it is given back and as it leaves the memory: clear
unfoldable pub clear : Settings → Memory → Outcome
clear t m = unless_refused (memory_refusal t m 0) (zeroed m) m

-- add
unfoldable pub add : Settings → Memory → (party p L hop : ℕ) → Outcome
add t m party p L hop = unless_refused (add_refusal t m party p L hop) (added t m party p L hop) m

-- withdraw
unfoldable pub withdraw : Settings → Memory → (party p L : ℕ) → Outcome
withdraw t m party p L = unless_refused (withdraw_refusal t m party p L) (withdrawn t m party p L) m

-- change
unfoldable pub change : Settings → Memory → (party p L hop : ℕ) → Outcome
change t m party p L hop = unless_refused (change_refusal t m party p L hop) (changed t m party p L hop) m

-- the filter of length L claims p: all its K counters are nonzero
unfoldable pub claims : Settings → (counters : List ℕ) (p L : ℕ) → Bool
claims t counters p L = all (λ i. ltb 0 (get_or counters i 0)) (counter_places t p L)

-- the number whose bit L − 1 is set exactly where the test holds at L, for L from n down to 1
unfoldable pub bits_where : (ℕ → Bool) → (n : ℕ) → ℕ
bits_where test zero = 0
bits_where test (suc n) = cond (test (suc n)) (2 ^ n) 0 + bits_where test n

-- bit L − 1 of the vector is set exactly if the address is claimed at length L
unfoldable pub vector_of : Settings → (counters : List ℕ) (address : ℕ) → ℕ
vector_of t counters address = bits_where (λ L. claims t counters (prefix address L) L) 32

-- what a match vector is given back: a refusal has its number and zero; 0 is no refusal
pub record Vector : Type 0 where
  pub refusal : ℕ
  pub vector : ℕ

-- the match vector, as it is given back
unfoldable pub match_vector : Settings → Memory → (address : ℕ) → Vector
match_vector t m address =
    let refusal = memory_refusal t m 0 in
    record { refusal = refusal; vector = cond (eqb refusal 0) (vector_of t m.counters address) 0 }

-- n, n − 1 and so on down to 1
unfoldable pub down_from : (n : ℕ) → List ℕ
down_from zero = []
down_from (suc n) = suc n ∷ down_from n

-- bit L − 1 of the vector is set
unfoldable pub bit_set : (vector L : ℕ) → Bool
bit_set vector L = eqb (vector / 2 ^ (L - 1) % 2) 1

-- the lengths whose bits are set in the vector, from the highest down
unfoldable pub set_bits : (vector : ℕ) → List ℕ
set_bits vector = those (bit_set vector) (down_from 32)

-- the bucket at length L ends the search where it holds the prefix; else the search goes on
abbrev pub found_or : Settings → (p L probes : ℕ) → Option ℕ → Place → Place
found_or t p L probes (some s) after = At L probes (slot_number t p L s)
found_or t p L probes none after = after

-- the buckets of the address at these lengths are searched in order for the party's prefix, each one probe more
unfoldable pub search : Settings → (slots : List ℕ) (party address probes : ℕ) → List ℕ → Place
search t slots party address probes [] = Absent None
search t slots party address probes (L ∷ Ls) =
    let p = prefix address L in
    found_or t p L (probes + 1) (held t slots party p L) (search t slots party address (probes + 1) Ls)

-- what a lookup is given back: a refusal has its number and zero elsewhere; 0 is no refusal
pub record Answer : Type 0 where
  pub refusal : ℕ
  pub found : Bool
  pub hop : ℕ
  pub length : ℕ
  pub probes : ℕ

-- what a slot of this mark, which is the party's, answers, found at length L after so many probes
unfoldable pub route_answer : (party mark L probes : ℕ) → Answer
route_answer party mark L probes =
    record { refusal = 0; found = true; hop = hop_of party mark; length = L; probes = probes }

-- what the party's default answers after so many probes; none where its mark is not the party's
unfoldable pub default_answer : (party mark probes : ℕ) → Answer
default_answer party mark probes =
    record {
      refusal = 0;
      found = own party mark;
      hop = cond (own party mark) (hop_of party mark) 0;
      length = 0;
      probes = probes;
    }

-- what a search's place answers the party: its slot's hop; where there is none the default, after as many probes as the
-- vector has ones
unfoldable pub place_answer : Settings → (slots : List ℕ) (party ones : ℕ) → Place → Answer
place_answer t slots party ones (At L probes n) = route_answer party (mark_at slots n) L probes
place_answer t slots party ones (Absent vacancy) = default_answer party (default_mark t slots party) ones

-- the answer that carries a refusal
unfoldable pub refused : (refusal : ℕ) → Answer
refused refusal = record { refusal = refusal; found = false; hop = 0; length = 0; probes = 0 }

-- what the set bits of the match vector, from the highest down, and then the default answer
unfoldable pub answer_of : Settings → Memory → (party address : ℕ) → Answer
answer_of t m party address =
    let lengths = set_bits (vector_of t m.counters address) in
    place_answer t m.slots party (length lengths) (search t m.slots party address 0 lengths)

-- lookup, as it is given back
unfoldable pub lookup : Settings → Memory → (party address : ℕ) → Answer
lookup t m party address =
    let refusal = party_refusal t m party 0 in
    cond (eqb refusal 0) (answer_of t m party address) (refused refusal)

-- ---- A list of addresses

-- found as a number
unfoldable pub one_if : Bool → ℕ
one_if found = cond found 1 0

-- an answer's four words
unfoldable pub answer_words : Answer → List ℕ
answer_words r = one_if r.found ∷ r.hop ∷ r.length ∷ r.probes ∷ []

-- the four words of each address's lookup, one address after the other
unfoldable pub list_words : Settings → Memory → (party : ℕ) (addresses : List ℕ) → List ℕ
list_words t m party [] = []
list_words t m party (address ∷ addresses) = answer_words (lookup t m party address) ++ list_words t m party addresses

-- what a list of addresses is given back, and the results as it leaves them
pub record Listed : Type 0 where
  pub refusal : ℕ
  pub results : List ℕ

-- a number given back, and the results as they are left
abbrev pub answered : (refusal : ℕ) (results : List ℕ) → Listed
answered refusal results = record { refusal = refusal; results = results }

-- a refused list leaves the results as they were
unfoldable pub listed : (refusal : ℕ) (after before : List ℕ) → Listed
listed refusal after before = answered refusal (cond (eqb refusal 0) after before)

-- there are exactly four results to an address
unfoldable pub fourfold : (addresses results : ℕ) → Bool
fourfold addresses results = eqb results (4 * addresses)

-- 1, 2, 15 and 18, which every list checks, of so many addresses and results
unfoldable pub list_refusal : Settings → Memory → (party addresses results after : ℕ) → ℕ
list_refusal t m party addresses results after =
    party_refusal t m party (refuse (not (fourfold addresses results)) 18 after)

-- a list of addresses, as it is given back and as it leaves the results
unfoldable pub lookup_list : Settings → Memory → (party : ℕ) (addresses results : List ℕ) → Listed
lookup_list t m party addresses results =
    listed (list_refusal t m party (length addresses) (length results) 0) (list_words t m party addresses) results

-- ---- The numbers as they cross to C

-- the words of a list of bytes, four to a word, the low byte first
unfoldable pub whole_words : (bytes : List ℕ) → List ℕ
whole_words [] = []
whole_words (b0 ∷ []) = []
whole_words (b0 ∷ b1 ∷ []) = []
whole_words (b0 ∷ b1 ∷ b2 ∷ []) = []
whole_words (b0 ∷ b1 ∷ b2 ∷ b3 ∷ bytes) = (b0 + b1 * 2 ^ 8 + b2 * 2 ^ 16 + b3 * 2 ^ 24) ∷ whole_words bytes

-- where four does not divide their count, bytes are no slots, so their size is wrong for any settings
unfoldable pub words : (bytes : List ℕ) → List ℕ
words bytes = cond (eqb (length bytes % 4) 0) (whole_words bytes) []

-- a lookup's answer as one number
unfoldable pub answer_number : Answer → ℕ
answer_number r =
    r.refusal * 2 ^ 48 + one_if r.found * 2 ^ 40 + r.hop * 2 ^ 16 + r.length * 2 ^ 8 + r.probes

-- a match vector as one number
unfoldable pub vector_number : Vector → ℕ
vector_number r = r.refusal * 2 ^ 48 + r.vector

-- lookup from C: the slots cross as bytes
unfoldable pub c_lookup : Settings → (counters slots : List ℕ) (party address : ℕ) → ℕ
c_lookup t counters slots party address = answer_number (lookup t (lent counters (words slots)) party address)

-- match vector from C
unfoldable pub c_match_vector : Settings → (counters slots : List ℕ) (address : ℕ) → ℕ
c_match_vector t counters slots address =
    vector_number (match_vector t (lent counters (words slots)) address)

-- the bytes of a list of words, four to a word, the low byte first
unfoldable pub bytes_of : (words : List ℕ) → List ℕ
bytes_of [] = []
bytes_of (word ∷ words) = word % 2 ^ 8 ∷ word / 2 ^ 8 % 2 ^ 8 ∷ word / 2 ^ 16 % 2 ^ 8 ∷ word / 2 ^ 24 ∷ bytes_of words

-- what a list of addresses gives back to C: 18 also where four does not divide the count of its bytes
unfoldable pub c_list_refusal : Settings → (counters slots : List ℕ) (party : ℕ) (addresses results : List ℕ) → ℕ
c_list_refusal t counters slots party addresses results =
    list_refusal t (lent counters (words slots)) party (length addresses) (length results)
    (refuse (not (eqb (length addresses % 4) 0)) 18 0)

-- a list of addresses from C: slots, addresses and results cross as bytes
unfoldable pub c_lookup_list : Settings → (counters slots : List ℕ) (party : ℕ) (addresses results : List ℕ) → Listed
c_lookup_list t counters slots party addresses results =
    listed (c_list_refusal t counters slots party addresses results)
    (bytes_of (list_words t (lent counters (words slots)) party (words addresses))) results
