-- Laws of the numbers of parties, refusals and answers: each tells what it is the number of.
use Prim.Native.Nat.{ℕ, zero, suc, ◌≤◌}
use mathlib.Core.Path.{◌≡◌, refl, sym, ap, ap₂, ◌∙◌}
use mathlib.Core.List.{List, [], ◌∷◌}
use native.Mathlib.Nat.{suc-ne-zero}
use native.Mathlib.Omega.{arith}
use Rattle.std.specs.Prelude.{Result, Ok, Err, Option, Some, None}
use Rattle.std.specs.Result.{IsErrAnd}
use Rattle.std.proofs.lemmas.Result.{err_from_is_err_and}
use Rattle.std.proofs.lemmas.Bool.{false≢true}
use Rattle.rules.specs.declared.Party.{Party}
use Rattle.rules.specs.declared.Party.TheVariants.{First, Second}
use Rattle.rules.specs.declared.Refusal.{Refusal}
use Rattle.rules.specs.declared.Refusal.TheVariants.{BadSettings, BadSizes, TooLong, Loose, HighHop, NotStored, Full, Above, Below, Odd, Malformed, Hopless, LongRecord, UnknownParty, InsideRecord, BadRoom, BigChunk}
use Rattle.rules.specs.declared.Route.{Route}
use Rattle.rules.specs.declared.Lookup.{Lookup}
use Rattle.rules.specs.Table.{refused}
use Rattle.rules.specs.Numbers.{party_number, refusal_number, number_given, lookup_answer, answer_given, vector_given}

-- ---- Parties

pub party_low : (party : Party) → party_number party ≤ 1
party_low First = omega arith
party_low Second = omega arith

party_of : ℕ → Party
party_of zero = First
party_of (suc n) = Second

party_again : (party : Party) → party_of (party_number party) ≡ party
unfolding party_of
party_again First = refl
party_again Second = refl

pub same_party : (p q : Party) → party_number p ≡ party_number q → p ≡ q
same_party p q e = sym (party_again p) ∙ ap party_of e ∙ party_again q

-- ---- Refusals

pub refusal_nonzero : (e : Refusal) → refusal_number e ≡ 0 → ⊥
refusal_nonzero BadSettings h = suc-ne-zero _ h
refusal_nonzero BadSizes h = suc-ne-zero _ h
refusal_nonzero TooLong h = suc-ne-zero _ h
refusal_nonzero Loose h = suc-ne-zero _ h
refusal_nonzero HighHop h = suc-ne-zero _ h
refusal_nonzero NotStored h = suc-ne-zero _ h
refusal_nonzero Full h = suc-ne-zero _ h
refusal_nonzero Above h = suc-ne-zero _ h
refusal_nonzero Below h = suc-ne-zero _ h
refusal_nonzero Odd h = suc-ne-zero _ h
refusal_nonzero Malformed h = suc-ne-zero _ h
refusal_nonzero Hopless h = suc-ne-zero _ h
refusal_nonzero LongRecord h = suc-ne-zero _ h
refusal_nonzero UnknownParty h = suc-ne-zero _ h
refusal_nonzero InsideRecord h = suc-ne-zero _ h
refusal_nonzero BadRoom h = suc-ne-zero _ h
refusal_nonzero BigChunk h = suc-ne-zero _ h

-- the refusal that stands in a list at a number
at : List Refusal → ℕ → Refusal
at [] n = BigChunk
at (e ∷ es) zero = e
at (e ∷ es) (suc n) = at es n

-- the refusal of a number, where it is one's
refusal_of : ℕ → Refusal
refusal_of =
    at (BigChunk ∷ BadSettings ∷ BadSizes ∷ TooLong ∷ Loose ∷ HighHop ∷ BigChunk ∷ NotStored ∷ Full ∷ Above ∷ Below ∷ Odd ∷ Malformed ∷ Hopless ∷ LongRecord ∷ UnknownParty ∷ BigChunk ∷ InsideRecord ∷ BadRoom ∷ [])

refusal_again : (e : Refusal) → refusal_of (refusal_number e) ≡ e
unfolding refusal_of at
refusal_again BadSettings = refl
refusal_again BadSizes = refl
refusal_again TooLong = refl
refusal_again Loose = refl
refusal_again HighHop = refl
refusal_again NotStored = refl
refusal_again Full = refl
refusal_again Above = refl
refusal_again Below = refl
refusal_again Odd = refl
refusal_again Malformed = refl
refusal_again Hopless = refl
refusal_again LongRecord = refl
refusal_again UnknownParty = refl
refusal_again InsideRecord = refl
refusal_again BadRoom = refl
refusal_again BigChunk = refl

pub same_refusal : (e f : Refusal) → refusal_number e ≡ refusal_number f → e ≡ f
same_refusal e f h = sym (refusal_again e) ∙ ap refusal_of h ∙ refusal_again f

-- ---- What calls give back

pub refused_number : {A : Type 0} {r : Result A Refusal} {e : Refusal} → r ≡ Err e → number_given r ≡ 0 → ⊥
refused_number {r = r} {e = e} is none = refusal_nonzero e (sym (ap number_given is) ∙ none)

pub accepted_number : {A : Type 0} {r : Result A Refusal} {x : A} → r ≡ Ok x → number_given r ≡ 0
accepted_number is = ap number_given is

-- a call that hands on another's refusal gives back its number
pub passed_on : {A B : Type 0} {r : Result A Refusal} (s : Result B Refusal) {e : Refusal} → r ≡ Err e → IsErrAnd s (λ y. y ≡ e) → number_given r ≡ number_given s
passed_on s is same =
    let p = err_from_is_err_and s same in
    ap number_given is ∙ sym (ap number_given p.1 ∙ ap refusal_number p.2)

-- ---- What is given back tells the result

pub same_outcome : (r q : Result (Unit {0}) Refusal) → number_given r ≡ number_given q → r ≡ q
same_outcome (Ok x) (Ok y) h = refl
same_outcome (Ok x) (Err f) h = absurd (refusal_nonzero f (sym h))
same_outcome (Err e) (Ok y) h = absurd (refusal_nonzero e h)
same_outcome (Err e) (Err f) h = ap Err (same_refusal e f h)

pub same_vector : (r q : Result ℕ Refusal) → vector_given r ≡ vector_given q → r ≡ q
same_vector (Ok v) (Ok w) h = ap Ok (ap (λ x. x.vector) h)
same_vector (Ok v) (Err f) h = absurd (refusal_nonzero f (sym (ap (λ x. x.refusal) h)))
same_vector (Err e) (Ok w) h = absurd (refusal_nonzero e (ap (λ x. x.refusal) h))
same_vector (Err e) (Err f) h = ap Err (same_refusal e f (ap (λ x. x.refusal) h))

same_route : (r s : Option Route) (p q : ℕ) → lookup_answer r p ≡ lookup_answer s q → r ≡ s
same_route None None p q h = refl
same_route None (Some s) p q h = absurd (false≢true (ap (λ a. a.found) h))
same_route (Some r) None p q h = absurd (false≢true (sym (ap (λ a. a.found) h)))
same_route (Some r) (Some s) p q h =
    let route : (hop L : ℕ) → Option Route = λ hop L. Some (record { hop = hop; length = L }) in
    ap₂ route (ap (λ a. a.hop) h) (ap (λ a. a.length) h)

answer_accepted : (r : Option Route) (p : ℕ) → (lookup_answer r p).refusal ≡ 0
answer_accepted None p = refl
answer_accepted (Some r) p = refl

answer_probes : (r : Option Route) (p : ℕ) → (lookup_answer r p).probes ≡ p
answer_probes None p = refl
answer_probes (Some r) p = refl

pub same_answer : (r q : Result Lookup Refusal) → answer_given r ≡ answer_given q → r ≡ q
unfolding refused
same_answer (Ok x) (Ok y) h =
    let lookup : (route : Option Route) (probes : ℕ) → Result Lookup Refusal = λ route probes. Ok (record { route = route; probes = probes }) in
    ap₂ lookup (same_route x.route y.route x.probes y.probes h) (sym (answer_probes x.route x.probes) ∙ ap (λ a. a.probes) h ∙ answer_probes y.route y.probes)
same_answer (Ok x) (Err f) h = absurd (refusal_nonzero f (sym (ap (λ a. a.refusal) h) ∙ answer_accepted x.route x.probes))
same_answer (Err e) (Ok y) h = absurd (refusal_nonzero e (ap (λ a. a.refusal) h ∙ answer_accepted y.route y.probes))
same_answer (Err e) (Err f) h = ap Err (same_refusal e f (ap (λ a. a.refusal) h))
