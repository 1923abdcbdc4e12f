-- The number that a comparison's checks give, and what it gives back and leaves by that number, be its list words or bytes.
use Prim.Native.Nat.{ℕ}
use mathlib.Core.Path.{◌≡◌, refl, sym, ap, ◌∙◌}
use mathlib.Core.Bool.{Bool, true, false}
use mathlib.Core.List.{List, []}
use native.Mathlib.Omega.{arith}
use lib.Dec.{eqb}
use lib.ListN.{length}
use borrow.Author.Tests.{le-ltb, eqb-true, ne_eqb}
use Rattle.std.specs.Prelude.{Result, Ok, Err}
use Rattle.rules.specs.declared.Refusal.{Refusal}
use Rattle.rules.specs.declared.Settings.{Settings}
use Rattle.rules.specs.Table.{Memory, in_range, sized, refuse, memory_refusal, party_refusal}
use Rattle.rules.proofs.Numbers.{refusal_nonzero, same_refusal}
use Rattle.rules.proofs.Refusals.{memory_passed, fits, party_passed, party_fits}
use Rattle.difference_rules.specs.Comparing.{Differences, compared, with_count, differences_given, over, difference_refusal, listing}

-- ---- What is given back and left

-- a comparison whose checks gave this number
module _ (refusal count : ℕ) (written list : List ℕ) {given : ℕ} (e : given ≡ refusal) where
  pub refused_listing : (given ≡ 0 → ⊥) → listing refusal count written list ≡ compared (with_count given 0) list
  unfolding listing
  refused_listing bad = rw (← e, ne_eqb _ _ bad)

  pub accepted_listing : given ≡ 0 → listing refusal count written list ≡ compared (with_count 0 count) (over written list)
  unfolding listing
  accepted_listing good = rw (← e, good)

-- that number is given back
pub listing_number : (refusal count : ℕ) (written list : List ℕ) → (listing refusal count written list).answer.refusal ≡ refusal
unfolding listing
listing_number refusal count written list = go (eqb refusal 0) refl
  where
    go : (b : Bool) → eqb refusal 0 ≡ b → (listing refusal count written list).answer.refusal ≡ refusal
    go true good = rw good (sym (eqb-true refusal 0 good))
    go false bad = rw bad

-- what is given back tells the count, or why the comparison was refused
pub same_given : (r q : Result ℕ Refusal) → differences_given r ≡ differences_given q → r ≡ q
same_given (Ok n) (Ok m) e = ap Ok (ap (λ (d : Differences). d.count) e)
same_given (Err x) (Err y) e = ap Err (same_refusal x y (ap (λ (d : Differences). d.refusal) e))
same_given (Ok n) (Err y) e = absurd (refusal_nonzero y (sym (ap (λ (d : Differences). d.refusal) e)))
same_given (Err x) (Ok m) e = absurd (refusal_nonzero x (ap (λ (d : Differences). d.refusal) e))

-- and where nothing differs it is all that is, and the list stays as it was
nothing_listed : (refusal : ℕ) (list : List ℕ) → listing refusal 0 [] list ≡ compared (with_count refusal 0) list
unfolding listing over
nothing_listed refusal list = go (eqb refusal 0) refl
  where
    go : (b : Bool) → eqb refusal 0 ≡ b → listing refusal 0 [] list ≡ compared (with_count refusal 0) list
    go true good = rw (eqb-true refusal 0 good)
    go false bad = rw bad

-- ---- The checks

module _ (t : Settings) (m : Memory) (u : Settings) (n : Memory) (party : ℕ) where
  -- where nothing differs any list is long enough, and only the tables and the party are checked
  pub none_listing : (list : List ℕ) → listing (difference_refusal t m u n party 0 (length list)) 0 [] list ≡ compared (with_count (memory_refusal t m (party_refusal u n party 0)) 0) list
  unfolding difference_refusal refuse
  none_listing list = rw (le-ltb (length list) 0 (omega arith)) (nothing_listed _ list)

  -- the checks that are passed are passed with the two tables exchanged
  pub checks_exchanged : (needed room : ℕ) → difference_refusal t m u n party needed room ≡ 0 → difference_refusal u n t m party needed room ≡ 0
  unfolding difference_refusal
  checks_exchanged needed room e =
      let first = memory_passed t m.counters m.slots _ e in
      let second = party_passed u n.counters n.slots party _ first.1 in
      fits u n.counters n.slots second.0.memory _
      ∙ party_fits t m.counters m.slots party (record { memory = first.0; known = second.0.known }) _
      ∙ second.1

-- 1 and 2 checked twice are 1 and 2 checked once
pub checked_twice : (t : Settings) (m : Memory) (party after : ℕ) → memory_refusal t m (party_refusal t m party after) ≡ party_refusal t m party after
unfolding memory_refusal party_refusal refuse
checked_twice t m party after = go (in_range t) refl (sized t m) refl
  where
    go : (a : Bool) → in_range t ≡ a → (b : Bool) → sized t m ≡ b → memory_refusal t m (party_refusal t m party after) ≡ party_refusal t m party after
    go false e b s = rw e
    go true e false s = rw (e, s)
    go true e true s = rw (e, s)
