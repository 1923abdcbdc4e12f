-- The listed conditions are what the calls check: each check of the rules is its condition, and what a chain of checks
-- gives back is the number of the first condition that is met.
use Prim.Native.Nat.{ℕ, zero, suc, ◌*◌, ◌/◌, ◌^◌, ◌≤◌, ◌<◌}
use mathlib.Core.Path.{◌≡◌, refl, sym, ap, ap₂, ◌∙◌}
use mathlib.Core.Bool.{Bool, true, false, cond, not, ◌&&◌, ◌||◌, true≢false}
use mathlib.Core.List.Memᴰ
use mathlib.Core.List.{List, [], ◌∷◌, ◌++◌, map, append-nil}
use mathlib.Core.Option.{Option, some, none}
use mathlib.Core.Logic.{◌↔◌, ◌≢◌}
use native.Mathlib.Omega.{arith}
use lib.Dec.{ltb, leb, eqb}
use lib.ListN.{length}
use lib.Pow.{shr-shr}
use borrow.Author.Tests.{ltb-true, leb-true, leb-false, lt-ltb, le-ltb, eqb-true, eqb-false, eq-eqb, ne_eqb}
use Rattle.rules.specs.declared.Settings.{Settings}
use Rattle.rules.specs.Tools.{within, all as every, any, lowest, or_else}
use Rattle.rules.specs.Table.{list_in_range, in_range, prefix, Memory, counters_size, slots_size, slot_number, own, occupied, mark_at, prefix_at, holds, free, held, vacant, is_some, stored, refuse, sized, lies_in, odd_prefix, from_1, full, passes_15, runs_short, memory_refusal, party_refusal, add_refusal, withdraw_refusal, change_refusal, unless_refused, clear, add, withdraw, change, fourfold, list_refusal}
use Rattle.rules.proofs.Members.{both}
use Rattle.rules.proofs.Prefixes.{loose_low}
use Rattle.rules.proofs.Refusals.{memory_order, party_order, add_order, withdraw_order, change_order}
use Rattle.rules.specs.Calls.{Call, Clear, Add, Withdraw, Change, act}
use Rattle.promises.specs.Demands.{Condition, outside, list_outside, some_below, every_below, there, no_slot_left, ◌when◌, memory_conditions, party_conditions, route_conditions, odd, conditions, list_conditions, NoneMet, FirstMet}
use Rattle.promises.proofs.Sums.{by_cases}

-- ---- The first that is met

-- its number, 0 where none is met
unfoldable pub first_met : List Condition → ℕ
first_met [] = 0
first_met (c ∷ rest) = refuse c.met c.number (first_met rest)

none_of : (c : Condition) {rest : List Condition} → c.met ≡ false → NoneMet rest → NoneMet (c ∷ rest)
none_of c unmet others d (Memᴰ.head e) = ap (λ x. x.met) e ∙ unmet
none_of c unmet others d (Memᴰ.tail among) = others d among

first_given : (all : List Condition) (n : ℕ) → 1 ≤ n → first_met all ≡ n → FirstMet n all
unfolding first_met refuse
first_given [] n low e = absurd (omega arith)
first_given (c ∷ rest) n low e = go c.met refl e (first_given rest n low)
  where
    go : (b : Bool) → c.met ≡ b → cond b c.number (first_met rest) ≡ n → (first_met rest ≡ n → FirstMet n rest) → FirstMet n (c ∷ rest)
    go true met e later = record {
      before = [];
      after = rest;
      listed = λ i. record { number = e i; met = met i } ∷ rest;
      unmet = λ d among. absurd (Memᴰ.not-nil among);
    }
    go false unmet e later =
        let its = later e in
        record { before = c ∷ its.before; after = its.after; listed = ap (λ others. c ∷ others) its.listed; unmet = none_of c unmet its.unmet }

-- what is not met is passed by
passed_by : (before rest : List Condition) → NoneMet before → first_met (before ++ rest) ≡ first_met rest
unfolding first_met refuse
passed_by [] rest unmet = refl
passed_by (c ∷ before) rest unmet = rw (unmet c (Memᴰ.head refl)) (passed_by before rest (λ d among. unmet d (Memᴰ.tail among)))

first_is : (all : List Condition) (n : ℕ) → FirstMet n all → first_met all ≡ n
unfolding first_met refuse
first_is all n first = ap first_met first.listed ∙ passed_by first.before _ first.unmet

-- no condition's number is 0
unfoldable pub numbered : List Condition → Bool
numbered all = every (ltb 0) (map (λ c. c.number) all)

unmet_all : (all : List Condition) → numbered all ≡ true → first_met all ≡ 0 → NoneMet all
unfolding numbered every first_met refuse
unmet_all [] numbers e = λ c among. absurd (Memᴰ.not-nil among)
unmet_all (c ∷ rest) numbers e =
    let parts = both (ltb 0 c.number) (numbered rest) numbers in
    go c.met refl e (ltb-true 0 c.number parts.0) (unmet_all rest parts.1)
  where
    go : (b : Bool) → c.met ≡ b → cond b c.number (first_met rest) ≡ 0 → 0 < c.number → (first_met rest ≡ 0 → NoneMet rest) → NoneMet (c ∷ rest)
    go true met e positive later = absurd (omega arith)
    go false unmet e positive later = none_of c unmet (later e)

-- a number that no condition has is not given
unlisted : (n : ℕ) → 1 ≤ n → (all : List Condition) → every (λ k. not (eqb k n)) (map (λ c. c.number) all) ≡ true → first_met all ≢ n
unfolding every first_met refuse
unlisted n low [] others = omega arith
unlisted n low (c ∷ rest) others =
    let parts = both (not (eqb c.number n)) _ others in
    go c.met (λ e. true≢false (sym parts.0 ∙ ap not (eq-eqb c.number n e))) (unlisted n low rest parts.1)
  where
    go : (b : Bool) → c.number ≢ n → first_met rest ≢ n → cond b c.number (first_met rest) ≢ n
    go true here later = here
    go false here later = later

-- a number that was given back for the first condition met
module _ (all : List Condition) {given : ℕ} (first : given ≡ first_met all) where
  pub given_exactly : (n : ℕ) → 1 ≤ n → (given ≡ n) ↔ FirstMet n all
  given_exactly n low = (λ e. first_given all n low (sym first ∙ e), λ its. first ∙ first_is all n its)

  pub never_given : (n : ℕ) → 1 ≤ n → every (λ k. not (eqb k n)) (map (λ c. c.number) all) ≡ true → given ≢ n
  never_given n low others = rw first (unlisted n low all others)

  pub none_exactly : numbered all ≡ true → (given ≡ 0) ↔ NoneMet all
  unfolding first_met
  none_exactly numbers = (λ e. unmet_all all numbers (sym first ∙ e), λ unmet. first ∙ rw (append-nil) at (passed_by all [] unmet))

-- ---- Each check is its condition

pub not_both : (a b : Bool) → not (a && b) ≡ not a || not b
not_both true b = refl
not_both false b = refl

pub not_above : (a b : ℕ) → not (leb a b) ≡ ltb b a
not_above a b = by_cases (leb a b) (λ h. rw (h, le-ltb b a (leb-true a b h))) (λ h. rw (h, lt-ltb b a (leb-false a b h)))

pub within_outside : (low high n : ℕ) → not (within low high n) ≡ outside low high n
unfolding within outside
within_outside low high n = not_both (leb low n) (leb n high) ∙ ap₂ ◌||◌ (not_above low n) (not_above n high)

is_some_below : (test : ℕ → Bool) (n : ℕ) → is_some (lowest test n) ≡ some_below test n
unfolding lowest some_below is_some
is_some_below test zero = refl
is_some_below test (suc n) = go (lowest test n) (test n) (is_some_below test n)
  where
    go : (o : Option ℕ) (b : Bool) → is_some o ≡ some_below test n → is_some (or_else o (cond b (some n) none)) ≡ some_below test n || b
    go (some s) b e = rw (← e)
    go none true e = rw (← e)
    go none false e = rw (← e)

not_some_below : (test : ℕ → Bool) (n : ℕ) → not (some_below (λ s. not (test s)) n) ≡ every_below test n
unfolding some_below every_below
not_some_below test zero = refl
not_some_below test (suc n) = go (some_below (λ s. not (test s)) n) (test n) (not_some_below test n)
  where
    go : (a b : Bool) → not a ≡ every_below test n → not (a || not b) ≡ every_below test n && b
    go true b e = rw (← e)
    go false true e = rw (← e)
    go false false e = rw (← e)

pub stored_there : (t : Settings) (slots : List ℕ) (party p L : ℕ) → stored t slots party p L ≡ there t slots party p L
unfolding stored there held holds
stored_there t slots party p L = rw (is_some_below (λ s. own party (mark_at slots (slot_number t p L s)) && eqb (prefix_at slots (slot_number t p L s)) p) t.s)

full_left : (t : Settings) (slots : List ℕ) (p L : ℕ) → full t slots p L ≡ no_slot_left t slots p L
unfolding full no_slot_left vacant free
full_left t slots p L =
    ap not (is_some_below (λ s. not (occupied (mark_at slots (slot_number t p L s)))) t.s)
    ∙ not_some_below (λ s. occupied (mark_at slots (slot_number t p L s))) t.s

from_1_up : (L : ℕ) (bad : Bool) → from_1 L bad ≡ ltb 0 L && bad
unfolding from_1
from_1_up zero bad = refl
from_1_up (suc L) bad = rw (ne_eqb (suc L) 0 (omega arith), lt-ltb 0 (suc L) (omega arith))

some_outside : (d : List ℕ) → not (every (within 4 11) d) ≡ any (outside 4 11) d
unfolding every any
some_outside [] = refl
some_outside (D ∷ d) = rw (not_both (within 4 11 D) (every (within 4 11) d), within_outside 4 11 D, some_outside d)

listed_outside : (d : List ℕ) → not (list_in_range d) ≡ list_outside d
unfolding list_in_range list_outside
listed_outside d = rw (not_both (eqb (length d) 32) (every (within 4 11) d), some_outside d)

range_outside : (t : Settings) → not (in_range t) ≡ outside 1 8 t.k || (list_outside t.d || (outside 0 8 t.e || outside 1 8 t.s))
unfolding in_range
range_outside t =
    let k = within 1 8 t.k in
    let d = list_in_range t.d in
    let e = within 0 8 t.e in
    let s = within 1 8 t.s in
    rw (not_both k (d && (e && s)), not_both d (e && s), not_both e s, within_outside 1 8 t.k, listed_outside t.d, within_outside 0 8 t.e, within_outside 1 8 t.s)

sizes_differ : (t : Settings) (m : Memory) → not (sized t m) ≡ not (eqb (length m.counters) (counters_size t)) || not (eqb (length m.slots) (slots_size t))
unfolding sized
sizes_differ t m = not_both (eqb (length m.counters) (counters_size t)) (eqb (length m.slots) (slots_size t))

-- the first octet is 127 where the first eight bits are those of 127.0.0.0,
octet_127 : (octet : ℕ) → eqb (octet * 2 ^ 24) (127 * 2 ^ 24) ≡ eqb octet 127
octet_127 octet = by_cases (eqb octet 127)
    (λ same. rw (eqb-true octet 127 same))
    (λ other. rw other (ne_eqb _ _ (λ (e : octet * 2 ^ 24 ≡ 127 * 2 ^ 24). eqb-false octet 127 other (omega arith))))

-- and 224 to 239 where the first four are those of 224.0.0.0
octet_224 : (octet : ℕ) → eqb (octet / 2 ^ 4 * 2 ^ 28) (224 * 2 ^ 24) ≡ leb 224 octet && leb octet 239
octet_224 octet = by_cases (leb 224 octet)
    (λ low. rw low (by_cases (leb octet 239)
    (λ high. rw high (eq-eqb (octet / 2 ^ 4 * 2 ^ 28) (224 * 2 ^ 24) (omega (arith, leb-true 224 octet low, leb-true octet 239 high))))
    (λ above. rw above (ne_eqb (octet / 2 ^ 4 * 2 ^ 28) (224 * 2 ^ 24) (omega (arith, leb-false octet 239 above))))))
    (λ below. rw below (ne_eqb (octet / 2 ^ 4 * 2 ^ 28) (224 * 2 ^ 24) (omega (arith, leb-false 224 octet below))))

-- so a prefix is odd exactly if its first octet says so
pub odd_by_octets : (p L : ℕ) → odd_prefix p L ≡ odd p L
unfolding odd_prefix lies_in prefix odd
odd_by_octets p L = rw (← shr-shr p 24 4, octet_127 (p / 2 ^ 24), octet_224 (p / 2 ^ 24))

-- ---- So what a call gives back is the number of the first condition met

-- 1 and 2 come first, whatever conditions stand after them
pub memory_then : (t : Settings) (m : Memory) (rest : List Condition) → memory_refusal t m (first_met rest) ≡ first_met (memory_conditions t m ++ rest)
unfolding first_met memory_conditions
memory_then t m rest = memory_order t m (first_met rest) ∙ rw (range_outside t, sizes_differ t m)

pub memory_first : (t : Settings) (m : Memory) → memory_refusal t m 0 ≡ first_met (memory_conditions t m)
unfolding first_met memory_conditions
memory_first t m = memory_then t m []

-- 15 comes straight after them, where a call names its party
pub party_then : (t : Settings) (m : Memory) (party : ℕ) (rest : List Condition)
    → party_refusal t m party (first_met rest) ≡ first_met (party_conditions t m party ++ rest)
unfolding first_met memory_conditions party_conditions
party_then t m party rest = party_order t m party (first_met rest) ∙ rw (range_outside t, sizes_differ t m)

pub party_first : (t : Settings) (m : Memory) (party : ℕ) → party_refusal t m party 0 ≡ first_met (party_conditions t m party)
unfolding first_met memory_conditions party_conditions
party_first t m party = party_then t m party []

add_first : (t : Settings) (m : Memory) (party p L hop : ℕ) → add_refusal t m party p L hop ≡ first_met (conditions t (Add party p L hop) m)
unfolding first_met conditions memory_conditions party_conditions route_conditions passes_15
add_first t m party p L hop =
    add_order t m party p L hop ∙ party_order t m party _
    ∙ rw (
      range_outside t,
      sizes_differ t m,
      loose_low p L,
      odd_by_octets p L,
      stored_there t m.slots party p L,
      full_left t m.slots p L,
      from_1_up L (not (there t m.slots party p L)),
    )

-- an odd prefix stops an add there, whatever comes after
pub odd_first : (t : Settings) (m : Memory) (party p L hop : ℕ) → odd p L ≡ true
    → (act t (Add party p L hop) m).refusal ≡ first_met (party_conditions t m party ++ route_conditions p L ++ (11 when true) ∷ [])
unfolding act add unless_refused first_met conditions memory_conditions party_conditions route_conditions refuse
odd_first t m party p L hop its = add_first t m party p L hop ∙ rw its

withdraw_first : (t : Settings) (m : Memory) (party p L : ℕ) → withdraw_refusal t m party p L ≡ first_met (conditions t (Withdraw party p L) m)
unfolding first_met conditions memory_conditions party_conditions route_conditions runs_short
withdraw_first t m party p L =
    withdraw_order t m party p L ∙ party_order t m party _
    ∙ rw (range_outside t, sizes_differ t m, loose_low p L, stored_there t m.slots party p L, from_1_up)

change_first : (t : Settings) (m : Memory) (party p L hop : ℕ) → change_refusal t m party p L hop ≡ first_met (conditions t (Change party p L hop) m)
unfolding first_met conditions memory_conditions party_conditions route_conditions
change_first t m party p L hop =
    change_order t m party p L hop ∙ party_order t m party _
    ∙ rw (range_outside t, sizes_differ t m, loose_low p L, stored_there t m.slots party p L)

pub call_first : (t : Settings) (call : Call) (m : Memory) → (act t call m).refusal ≡ first_met (conditions t call m)
unfolding act clear add withdraw change unless_refused conditions
call_first t Clear m = memory_first t m
call_first t (Add party p L hop) m = add_first t m party p L hop
call_first t (Withdraw party p L) m = withdraw_first t m party p L
call_first t (Change party p L hop) m = change_first t m party p L hop

pub list_first : (t : Settings) (m : Memory) (party : ℕ) (addresses results : List ℕ)
    → list_refusal t m party (length addresses) (length results) 0 ≡ first_met (list_conditions t m party addresses results)
unfolding first_met list_conditions list_refusal fourfold
list_first t m party addresses results = party_then t m party _

-- no number is 0
pub memory_numbered : (t : Settings) (m : Memory) → numbered (memory_conditions t m) ≡ true
unfolding numbered every memory_conditions
memory_numbered t m = refl

pub party_numbered : (t : Settings) (m : Memory) (party : ℕ) → numbered (party_conditions t m party) ≡ true
unfolding numbered every memory_conditions party_conditions
party_numbered t m party = refl

pub call_numbered : (t : Settings) (call : Call) (m : Memory) → numbered (conditions t call m) ≡ true
unfolding numbered every conditions memory_conditions party_conditions route_conditions
call_numbered t Clear m = refl
call_numbered t (Add party p L hop) m = refl
call_numbered t (Withdraw party p L) m = refl
call_numbered t (Change party p L hop) m = refl

pub list_numbered : (t : Settings) (m : Memory) (party : ℕ) (addresses results : List ℕ) → numbered (list_conditions t m party addresses results) ≡ true
unfolding numbered every list_conditions memory_conditions party_conditions
list_numbered t m party addresses results = refl
