-- What a lookup that is not refused answers is what some result of the call is given back as: a route or none, and the probes.
use Prim.Native.Nat.{ℕ}
use mathlib.Core.Path.{◌≡◌, refl, sym, ap}
use mathlib.Core.Bool.{Bool, true, false, cond}
use mathlib.Core.List.{List}
use lib.Dec.{eqb}
use lib.ListN.{length}
use Rattle.std.specs.Prelude.{Result, Ok, Some, None}
use Rattle.rules.specs.declared.Settings.{Settings}
use Rattle.rules.specs.declared.Place.{Place}
use Rattle.rules.specs.declared.Place.TheVariants.{At, Absent}
use Rattle.rules.specs.declared.Refusal.{Refusal}
use Rattle.rules.specs.declared.Lookup.{Lookup}
use Rattle.rules.specs.Table.{Answer, Memory, own, hop_of, default_mark, party_refusal, vector_of, set_bits, search, route_answer, default_answer, place_answer, refused, answer_of, lookup}
use Rattle.rules.specs.Numbers.{answer_given}

-- the result that is given back as this answer
pub result_of : Answer → Result Lookup Refusal
result_of a = Ok (record { route = cond a.found (Some (record { hop = a.hop; length = a.length })) None; probes = a.probes })

abbrev pub GivenAs : Answer → Type 0
GivenAs a = answer_given (result_of a) ≡ a

place_given : (t : Settings) (slots : List ℕ) (party ones : ℕ) (place : Place) → GivenAs (place_answer t slots party ones place)
unfolding place_answer route_answer default_answer result_of
place_given t slots party ones (At L probes n) = refl
place_given t slots party ones (Absent vacancy) = go (own party (default_mark t slots party)) (hop_of party (default_mark t slots party))
  where
    go : (found : Bool) (hop : ℕ) → GivenAs (record { refusal = 0; found = found; hop = cond found hop 0; length = 0; probes = ones })
    go true hop = refl
    go false hop = refl

pub lookup_given : (t : Settings) (m : Memory) (party address : ℕ) → (lookup t m party address).refusal ≡ 0 → GivenAs (lookup t m party address)
unfolding lookup answer_of refused result_of
lookup_given t m party address = go (eqb (party_refusal t m party 0) 0) (party_refusal t m party 0)
  where
    lengths : List ℕ
    lengths = set_bits (vector_of t m.counters address)

    place : Place
    place = search t m.slots party address 0 lengths

    go : (passed : Bool) (refusal : ℕ)
        → (cond passed (place_answer t m.slots party (length lengths) place) (refused refusal)).refusal ≡ 0
        → GivenAs (cond passed (place_answer t m.slots party (length lengths) place) (refused refusal))
    go true refusal none = place_given t m.slots party (length lengths) place
    go false refusal none = ap refused (sym none)
