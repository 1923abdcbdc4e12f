-- The words of the demands, as definitions over the stored routes.
use Rattle.std.specs.Prelude.{ℕ, zero, suc, ◌+◌, ◌-◌, ◌*◌, ◌/◌, ◌%◌, ◌^◌, ◌≤◌, ◌<◌, ◌≡◌, Bool, true, false, cond, not, ◌&&◌, ◌||◌, length, get_or, ltb, leb, eqb}
use mathlib.Core.List.{List, [], ◌∷◌, ◌++◌, map, Memᴰ}
use Rattle.std.proofs.Math.Option.{Option, some, none}
use Rattle.rules.specs.Tools.{all, any, count, those}
use Rattle.rules.specs.declared.Settings.{Settings}
use Rattle.rules.specs.Table.{Answer, prefix, positions, bucket, filter_bits, Memory, counters_size, counter_place, counter_places, slots_size, slot_number, own, occupied, mark_at, prefix_at, default_mark, refuse, loose, odd_prefix, from_1, hits, down_from}
use Rattle.rules.specs.Calls.{Call, Clear, Add, Withdraw, Change, Run, each}
use Rattle.promises.specs.History.{Route, about, noted}

-- ---- Numbers given back, by the lent memory

-- a number that a call can give back, and whether what it stands for is so
pub record Condition : Type 0 where
  pub number : ℕ
  pub met : Bool

infix 5 ◌when◌
abbrev pub ◌when◌ : (number : ℕ) (met : Bool) → Condition
number when met = record { number = number; met = met }

-- below the low limit or above the high one
unfoldable pub outside : (low high n : ℕ) → Bool
outside low high n = ltb n low || ltb high n

-- the test holds at some number below n
unfoldable pub some_below : (ℕ → Bool) → (n : ℕ) → Bool
some_below test zero = false
some_below test (suc n) = some_below test n || test n

-- it holds at every number below n
unfoldable pub every_below : (ℕ → Bool) → (n : ℕ) → Bool
every_below test zero = true
every_below test (suc n) = every_below test n && test n

-- p is stored for the party: at length 0 the mark of its default is the party's, at any other that of some slot of p's bucket
-- is, with p in it
unfoldable pub there : Settings → (slots : List ℕ) (party p L : ℕ) → Bool
there t slots party p L =
    cond (eqb L 0) (own party (default_mark t slots party))
    (some_below (λ s. own party (mark_at slots (slot_number t p L s)) && eqb (prefix_at slots (slot_number t p L s)) p) t.s)

-- every slot of p's bucket is occupied, by whichever party
unfoldable pub no_slot_left : Settings → (slots : List ℕ) (p L : ℕ) → Bool
no_slot_left t slots p L = every_below (λ s. occupied (mark_at slots (slot_number t p L s))) t.s

-- the list of D is not of 32 numbers, or one of them is out of its range
unfoldable pub list_outside : (d : List ℕ) → Bool
list_outside d = not (eqb (length d) 32) || any (outside 4 11) d

-- what every call looks at: K, the list of D, E and S, and the sizes of the two lists
unfoldable pub memory_conditions : Settings → Memory → List Condition
memory_conditions t m =
    (1 when outside 1 8 t.k || (list_outside t.d || (outside 0 8 t.e || outside 1 8 t.s)))
    ∷ (2 when not (eqb (length m.counters) (counters_size t)) || not (eqb (length m.slots) (slots_size t)))
    ∷ []

-- and what a call that names its party looks at next: there is no party above 1
unfoldable pub party_conditions : Settings → Memory → (party : ℕ) → List Condition
party_conditions t m party = memory_conditions t m ++ (15 when ltb 1 party) ∷ []

-- what every update looks at then: the length, and the bits after it
unfoldable pub route_conditions : (p L : ℕ) → List Condition
route_conditions p L = (3 when ltb 32 L) ∷ (4 when ltb 0 (p % 2 ^ (32 - L))) ∷ []

-- what an add looks at then, by the first octet: 127 from length 8 on, and 224 to 239 from length 4 on
unfoldable pub odd : (p L : ℕ) → Bool
odd p L =
    let octet = p / 2 ^ 24 in
    (leb 8 L && eqb octet 127) || (leb 4 L && (leb 224 octet && leb octet 239))

-- each call's conditions, in the order in which they are looked at
unfoldable pub conditions : Settings → Call → Memory → List Condition
conditions t Clear m = memory_conditions t m
conditions t (Add party p L hop) m =
    party_conditions t m party
    ++ route_conditions p L
    ++ (11 when odd p L)
    ∷ (5 when ltb 65535 hop)
    ∷ (8 when ltb 0 L && not (there t m.slots party p L) && no_slot_left t m.slots p L)
    ∷ (9 when ltb 0 L && not (there t m.slots party p L) && any (λ i. ltb 15 (get_or m.counters i 0 + hits t p L i)) (counter_places t p L))
    ∷ []
conditions t (Withdraw party p L) m =
    party_conditions t m party
    ++ route_conditions p L
    ++ (7 when not (there t m.slots party p L))
    ∷ (10 when ltb 0 L && any (λ i. ltb (get_or m.counters i 0) (hits t p L i)) (counter_places t p L))
    ∷ []
conditions t (Change party p L hop) m =
    party_conditions t m party
    ++ route_conditions p L
    ++ (5 when ltb 65535 hop)
    ∷ (7 when not (there t m.slots party p L))
    ∷ []

-- the numbers that each call can give back, in that order
unfoldable pub numbers_by : Call → List ℕ
numbers_by Clear = 1 ∷ 2 ∷ []
numbers_by (Add party p L hop) = 1 ∷ 2 ∷ 15 ∷ 3 ∷ 4 ∷ 11 ∷ 5 ∷ 8 ∷ 9 ∷ []
numbers_by (Withdraw party p L) = 1 ∷ 2 ∷ 15 ∷ 3 ∷ 4 ∷ 7 ∷ 10 ∷ []
numbers_by (Change party p L hop) = 1 ∷ 2 ∷ 15 ∷ 3 ∷ 4 ∷ 5 ∷ 7 ∷ []

-- what a list of addresses looks at: settings, sizes and party as a lookup, and then how many results there are
unfoldable pub list_conditions : Settings → Memory → (party : ℕ) (addresses results : List ℕ) → List Condition
list_conditions t m party addresses results = party_conditions t m party ++ (18 when not (eqb (length results) (4 * length addresses))) ∷ []

-- none of the conditions is met
abbrev pub NoneMet : List Condition → Type 0
NoneMet conditions = (c : Condition) → Memᴰ c conditions → c.met ≡ false

-- n's condition is met, and none of those listed before it
pub record FirstMet (n : ℕ) (conditions : List Condition) : Type 0 where
  pub before : List Condition
  pub after : List Condition
  pub listed : conditions ≡ before ++ (n when true) ∷ after
  pub unmet : NoneMet before

-- ---- Counting routes

-- the route stands among these
abbrev pub Stored : Route → List Route → Type 0
Stored r routes = Memᴰ r routes

-- the routes' weights, added up
unfoldable pub sum : (Route → ℕ) → List Route → ℕ
sum weight [] = 0
sum weight (r ∷ routes) = weight r + sum weight routes

-- how many routes pass the test
unfoldable pub number : (Route → Bool) → List Route → ℕ
number test routes = sum (λ r. cond (test r) 1 0) routes

-- some route passes the test
unfoldable pub exists : (Route → Bool) → List Route → Bool
exists test [] = false
exists test (r ∷ routes) = test r || exists test routes

-- the same routes, each as often, in any order
pub data Reordered : List Route → List Route → Type 0 where
  Nothing : Reordered [] []
  First : (r : Route) {one other : List Route} → Reordered one other → Reordered (r ∷ one) (r ∷ other)
  Swapped : (r q : Route) (routes : List Route) → Reordered (r ∷ q ∷ routes) (q ∷ r ∷ routes)
  Again : {one other third : List Route} → Reordered one other → Reordered other third → Reordered one third

-- ---- The longest match

-- a route matches an address exactly if the address's prefix of its length is its prefix
unfoldable pub matches : (address : ℕ) → Route → Bool
matches address r = eqb (prefix address r.length) r.prefix

-- r is stored and matches, and no stored route that matches is longer
pub record Longest (address : ℕ) (routes : List Route) (r : Route) : Type 0 where
  pub stored : Stored r routes
  pub matching : matches address r ≡ true
  pub longest : (q : Route) → Stored q routes → matches address q ≡ true → q.length ≤ r.length

-- of a route and what is best among others, the longer
unfoldable pub longer : Route → Option Route → Option Route
longer r none = some r
longer r (some q) = cond (ltb q.length r.length) (some r) (some q)

-- the longest route that matches, if one does
unfoldable pub longest : (address : ℕ) → List Route → Option Route
longest address [] = none
longest address (r ∷ routes) =
    let others = longest address routes in
    cond (matches address r) (longer r others) others

-- no stored route matches
abbrev pub NoMatch : (address : ℕ) (routes : List Route) → Type 0
NoMatch address routes = (r : Route) → Stored r routes → matches address r ≡ false

-- an answer that finds this route
pub record Finds (answer : Answer) (r : Route) : Type 0 where
  pub refusal : answer.refusal ≡ 0
  pub found : answer.found ≡ true
  pub hop : answer.hop ≡ r.hop
  pub length : answer.length ≡ r.length

-- an answer that says none
pub record SaysNone (answer : Answer) : Type 0 where
  pub refusal : answer.refusal ≡ 0
  pub found : answer.found ≡ false
  pub hop : answer.hop ≡ 0
  pub length : answer.length ≡ 0

-- an answer that is another one but, it may be, for its hop
pub record SameButHop (answer other : Answer) : Type 0 where
  pub refusal : answer.refusal ≡ other.refusal
  pub found : answer.found ≡ other.found
  pub length : answer.length ≡ other.length
  pub probes : answer.probes ≡ other.probes

-- each address is a number of 32 bits, as every caller's is
abbrev pub Words : (addresses : List ℕ) → Type 0
Words addresses = (i : ℕ) → i < length addresses → get_or addresses i 0 < 2 ^ 32

-- place i of a list's results, as an answer that carries no refusal: found where its first word is 1, then hop, length and probes
unfoldable pub answer_at : (results : List ℕ) (i : ℕ) → Answer
answer_at results i =
    record {
      refusal = 0;
      found = eqb (get_or results (4 * i) 0) 1;
      hop = get_or results (4 * i + 1) 0;
      length = get_or results (4 * i + 2) 0;
      probes = get_or results (4 * i + 3) 0;
    }

-- ---- Numbers given back, by the stored routes

-- a route of length L in the bucket of p
unfoldable pub beside : Settings → (p L : ℕ) → Route → Bool
beside t p L r = eqb r.length L && eqb (bucket t r.prefix) (bucket t p)

-- the routes stored with this length and bucket number S
unfoldable pub crowded : Settings → List Route → (p L : ℕ) → Bool
crowded t routes p L = eqb (number (beside t p L) routes) t.s

-- how often the stored routes of length L land on position j
unfoldable pub landings : Settings → List Route → (L j : ℕ) → ℕ
landings t routes L j = sum (λ r. cond (eqb r.length L) (count j (positions t r.prefix L)) 0) routes

-- at some position of p these landings and p's own pass 15
unfoldable pub overflows : Settings → List Route → (p L : ℕ) → Bool
overflows t routes p L = any (λ j. ltb 15 (landings t routes L j + count j (positions t p L))) (positions t p L)

-- p needs a place: the default has one, and so has a route that the party has stored
unfoldable pub needs_place : List Route → (party p L : ℕ) → Bool
needs_place routes party p L = from_1 L (not (exists (about party p L) routes))

-- the conditions of each update in the listed order, with their numbers: 8 and 9 look at both parties' routes
unfoldable pub add_number : Settings → List Route → (party p L hop : ℕ) → ℕ
add_number t routes party p L hop =
    refuse (ltb 1 party) 15
    (refuse (ltb 32 L) 3
    (refuse (loose p L) 4
    (refuse (odd_prefix p L) 11
    (refuse (ltb 65535 hop) 5
    (refuse (needs_place routes party p L && crowded t routes p L) 8
    (refuse (needs_place routes party p L && overflows t routes p L) 9 0))))))

-- those of a withdrawal
unfoldable pub withdraw_number : List Route → (party p L : ℕ) → ℕ
withdraw_number routes party p L =
    refuse (ltb 1 party) 15
    (refuse (ltb 32 L) 3 (refuse (loose p L) 4 (refuse (not (exists (about party p L) routes)) 7 0)))

-- and those of a change
unfoldable pub change_number : List Route → (party p L hop : ℕ) → ℕ
change_number routes party p L hop =
    refuse (ltb 1 party) 15
    (refuse (ltb 32 L) 3
    (refuse (loose p L) 4 (refuse (ltb 65535 hop) 5 (refuse (not (exists (about party p L) routes)) 7 0))))

-- what a call is given; a clear is always accepted
unfoldable pub number_given : Settings → List Route → Call → ℕ
number_given t routes Clear = 0
number_given t routes (Add party p L hop) = add_number t routes party p L hop
number_given t routes (Withdraw party p L) = withdraw_number routes party p L
number_given t routes (Change party p L hop) = change_number routes party p L hop

-- calls one after the other on paper alone, with no memory in sight: what each is given, and the routes that they leave
unfoldable pub paper : Settings → List Route → List Call → Run (List Route)
paper t = each (number_given t) (λ routes call. noted call (number_given t routes call) routes)

-- ---- Probes

-- j is a position of this route, and the route has length L
unfoldable pub marks : Settings → (L j : ℕ) → Route → Bool
marks t L j r = eqb r.length L && any (eqb j) (positions t r.prefix L)

-- whatever position the address has in the filter of length L, a stored route of length L has it too
unfoldable pub covered : Settings → List Route → (address L : ℕ) → Bool
covered t routes address L = all (λ j. exists (marks t L j) routes) (positions t (prefix address L) L)

-- how many lengths, from 32 down to this one (down to 1 for length 0), are so
unfoldable pub probes_down_to : Settings → List Route → (address L : ℕ) → ℕ
probes_down_to t routes address L = length (those (λ n. leb L n && covered t routes address n) (down_from 32))

-- a route of length L is stored
unfoldable pub in_use : List Route → (L : ℕ) → Bool
in_use routes L = exists (λ r. eqb r.length L) routes

-- how many nonzero lengths are in use
unfoldable pub lengths_in_use : List Route → ℕ
lengths_in_use routes = length (those (in_use routes) (down_from 32))

-- ---- Adding routes anew

-- each route added once for its party, in the list's order
unfoldable pub adds : List Route → List Call
adds routes = map (λ r. Add r.party r.prefix r.length r.hop) routes

-- ---- Counters

-- the weights of the numbers below n, added up
unfoldable pub below : (ℕ → ℕ) → (n : ℕ) → ℕ
below weight zero = 0
below weight (suc n) = below weight n + weight n

-- what the counters of length L come to
unfoldable pub filter_sum : Settings → (counters : List ℕ) (L : ℕ) → ℕ
filter_sum t counters L = below (λ j. get_or counters (counter_place t L j) 0) (2 ^ filter_bits t L)
