-- The search of an address in the list of next hops.
use Prim.Native.Nat.{ℕ, zero, suc, ◌+◌, ◌≤◌, ◌<◌}
use mathlib.Core.Path.{◌≡◌, refl, sym, ap, subst, ◌∙◌}
use mathlib.Core.Bool.{Bool, true, false, cond, not, ◌&&◌, false≢true}
use mathlib.Core.List.{List, [], ◌∷◌}
use mathlib.Core.Option.{Option as Maybe, some, none}
use lib.Dec.{leb, eqb}
use lib.ListN.{length, get_or, take}
use native.Mathlib.Omega.{arith}
use borrow.Author.Tests.{leb-true, le-leb}
use Rattle.std.specs.Prelude.{Option, Some, None}
use Rattle.std.specs.List.{position, position_from}
use Rattle.std.proofs.lemmas.List.{get_or-take, length-take}
use Rattle.std.proofs.lemmas.List.Quantifiers.{position-Some}
use Rattle.std.proofs.lemmas.Iterator.Adapters.{position_from-zero}
use Rattle.rules.specs.Tools.{lowest}
use Rattle.rules.specs.Table.{refuse}
use Rattle.rules.proofs.Lowest.{lowest_here, lowest_none, some_lowest}
use Rattle.message_format.specs.Reading.{place_in, hop_place, is_hop}
use Rattle.message_readers.specs.Readings.{given, place_hop, hop_found, hop_number, hop_due}

-- where a search finds nothing, each element fails
none_passes : (p : ℕ → Bool) (xs : List ℕ) (i : ℕ) → position_from p i xs ≡ None → (k : ℕ) → k < length xs → p (get_or xs k 0) ≡ false
none_passes p [] i e k low = absurd (omega arith)
none_passes p (x ∷ xs) i e k low = go (p x) refl (none_passes p xs (i + 1)) k low
  where
    go : (b : Bool) → p x ≡ b → (position_from p (i + 1) xs ≡ None → (k : ℕ) → k < length xs → p (get_or xs k 0) ≡ false)
        → (k : ℕ) → k < length (x ∷ xs) → p (get_or (x ∷ xs) k 0) ≡ false
    go true is rest k low = let never = rw is at e in cc
    go false is rest zero low = is
    go false is rest (suc k) low = rest (rw is at e) k (omega arith)

module _ (hops : List ℕ) (address : ℕ) where
  abbrev test : ℕ → Bool
  test place = eqb (get_or hops place 0) address

  abbrev searched : Option ℕ
  searched = position (λ hop. eqb hop address) (take 65536 hops)

  -- the search looks at no place above 65,535
  pub place_low : {place : ℕ} → searched ≡ Some place → (place < length hops) × (place < 65536)
  place_low {place} e =
      let within = (position-Some (λ hop. eqb hop address) (take 65536 hops) place 0 e).0 in
      (omega (arith, length-take 65536 hops), omega (arith, length-take 65536 hops))

  -- and finds the hop of the address
  pub found_at : hop_found hops address ≡ searched
  unfolding hop_found place_hop place_in
  found_at = go searched refl
    where
      same : (k : ℕ) → k < 65536 → eqb (get_or (take 65536 hops) k 0) address ≡ test k
      same k low = ap (λ hop. eqb hop address) (get_or-take 65536 hops k 0 low)

      past : ((k : ℕ) → k < length (take 65536 hops) → eqb (get_or (take 65536 hops) k 0) address ≡ false)
          → (o : Maybe ℕ) → lowest test (length hops) ≡ o → place_hop o ≡ None
      past fails none e = refl
      past fails (some s) e = high (leb s 65535) refl
        where
          high : (b : Bool) → leb s 65535 ≡ b → cond b (Some s) None ≡ None
          high true low =
              let found = some_lowest test (length hops) s e in
              let below = leb-true _ _ low in
              let within = found.within in
              absurd (false≢true (sym (fails s (omega (arith, length-take 65536 hops))) ∙ same s (omega arith) ∙ found.passes))
          high false low = refl

      go : (o : Option ℕ) → searched ≡ o → place_hop (lowest test (length hops)) ≡ o
      go (Some place) e =
          let found = position-Some (λ hop. eqb hop address) (take 65536 hops) place 0 e in
          let low = place_low e in
          let none_before = lowest_none test place (λ k below. sym (same k (omega arith)) ∙ found.2 k below) in
          rw (lowest_here test (length hops) place low.0 none_before (sym (same place low.1) ∙ found.1), le-leb place 65535 (omega arith))
      go None e = past (none_passes _ (take 65536 hops) 0 (sym (position_from-zero _ (take 65536 hops)) ∙ e)) (lowest test (length hops)) refl

-- ---- What the answer means, and what it tells

-- a hop is the place of the NEXT_HOP, where it is wanted
abbrev Found : (announces : Bool) (place : Maybe ℕ) → Option ℕ → Type 0
Found announces place (Some hop) = (announces ≡ true → place ≡ some hop) × (hop ≤ 65535)
Found announces place None = announces ≡ true

-- its number, and so much of its value
abbrev Due : (announces : Bool) (place : Maybe ℕ) → Option ℕ → Type 0
Due announces place answer = (hop_number answer ≡ refuse (announces && not (is_hop place)) 13 0) × Found announces place answer

due : (announces : Bool) (o : Maybe ℕ) (hops : List ℕ) → Due announces (hop_place hops o) (hop_due announces (given o) hops)
unfolding refuse hop_number hop_due hop_found place_hop hop_place given is_hop
due false o hops = (refl, ((λ e. absurd (false≢true e)), omega arith))
due true none hops = (refl, refl)
due true (some address) hops = at (place_in hops address)
  where
    low : (place : ℕ) (b : Bool) → leb place 65535 ≡ b → Due true (some place) (cond b (Some place) None)
    low place true e = (rw e, ((λ is. refl), leb-true _ _ e))
    low place false e = (rw e, refl)

    at : (place : Maybe ℕ) → Due true place (place_hop place)
    at none = (refl, refl)
    at (some place) = low place (leb place 65535) refl

module _ (announces : Bool) (o : Maybe ℕ) (hops : List ℕ) where
  -- Number 13 is meant exactly where prefixes are announced and their hop is not in the list.
  pub due_refused : hop_number (hop_due announces (given o) hops) ≡ refuse (announces && not (is_hop (hop_place hops o))) 13 0
  due_refused = (due announces o hops).0

  pub due_told : {hop : ℕ} → hop_due announces (given o) hops ≡ Some hop → (announces ≡ true → hop_place hops o ≡ some hop) × (hop ≤ 65535)
  due_told is = subst (Found announces (hop_place hops o)) is (due announces o hops).1
