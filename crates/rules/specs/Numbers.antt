-- What parties, refusals and answers are as the numbers of docs/TABLE.md.
use Rattle.std.specs.Prelude.{ℕ, ◌<◌, ◌≡◌, true, false, Result, Ok, Err, Option, Some, None, MatchResult}
use Rattle.rules.specs.declared.Party.{Party}
use Rattle.rules.specs.declared.Party.TheVariants.{First, Second}
use Rattle.rules.specs.declared.Refusal.{Refusal}
use Rattle.rules.specs.declared.Refusal.TheVariants.{BadSettings, BadSizes, TooLong, Loose, HighHop, NotStored, Full, Above, Below, Odd, Malformed, Hopless, LongRecord, UnknownParty, InsideRecord, BadRoom, BigChunk}
use Rattle.rules.specs.declared.Route.{Route}
use Rattle.rules.specs.declared.Lookup.{Lookup}
use Rattle.rules.specs.Table.{Answer, Vector, refused}

-- the party's number
abbrev pub party_number : Party → ℕ
party_number First = 0
party_number Second = 1

-- the result is the party of this number; there is none above 1
abbrev pub IsParty : ℕ → Result Party Refusal → Type 0
IsParty number r = MatchResult r (λ party. party_number party ≡ number) (λ e. (e ≡ UnknownParty) × (1 < number))

-- the number of a refusal
abbrev pub refusal_number : Refusal → ℕ
refusal_number BadSettings = 1
refusal_number BadSizes = 2
refusal_number TooLong = 3
refusal_number Loose = 4
refusal_number HighHop = 5
refusal_number NotStored = 7
refusal_number Full = 8
refusal_number Above = 9
refusal_number Below = 10
refusal_number Odd = 11
refusal_number Malformed = 12
refusal_number Hopless = 13
refusal_number LongRecord = 14
refusal_number UnknownParty = 15
refusal_number InsideRecord = 17
refusal_number BadRoom = 18
refusal_number BigChunk = 19

-- the number that a call gives back: 0 where it is not refused
abbrev pub number_given : {A : Type 0} → Result A Refusal → ℕ
number_given (Ok x) = 0
number_given (Err e) = refusal_number e

-- what a lookup that ends with a route or with none is given back
abbrev pub lookup_answer : Option Route → (probes : ℕ) → Answer
lookup_answer (Some r) probes = record { refusal = 0; found = true; hop = r.hop; length = r.length; probes = probes }
lookup_answer None probes = record { refusal = 0; found = false; hop = 0; length = 0; probes = probes }

-- what a lookup is given back
abbrev pub answer_given : Result Lookup Refusal → Answer
answer_given (Ok x) = lookup_answer x.route x.probes
answer_given (Err e) = refused (refusal_number e)

-- what a match vector is given back
abbrev pub vector_given : Result ℕ Refusal → Vector
vector_given (Ok vector) = record { refusal = 0; vector = vector }
vector_given (Err e) = record { refusal = refusal_number e; vector = 0 }
