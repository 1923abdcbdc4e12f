-- A comparison that can be run: a table has a route only where a slot of the length names its prefix, so that these prefixes,
-- put in order and cut down, are where two tables differ.
use Prim.Native.Nat.{ℕ, ◌+◌, ◌-◌, ◌*◌, ◌^◌, ◌<◌}
use mathlib.Core.Path.{◌≡◌, refl, sym, ap, ◌∙◌}
use mathlib.Core.Bool.{Bool, true, false, cond, ◌&&◌}
use mathlib.Core.List.Memᴰ
use mathlib.Core.List.{List, [], ◌∷◌, ◌++◌, map, Memᴰ}
use mathlib.Core.Option.{Option, some, none}
use native.Mathlib.Omega.{arith}
use lib.Arith.{digits_lt}
use lib.Dec.{ltb, eqb}
use lib.ListN.{length}
use borrow.Author.Tests.{eqb-true, eqb-false, not-true}
use Rattle.rules.specs.declared.Settings.{Settings}
use Rattle.rules.specs.Tools.{those}
use Rattle.rules.specs.Table.{Memory, in_range, bucket, slot_number, prefix_at, own, mark_at, holds, held, refuse, sized, loose, memory_refusal, party_refusal}
use Rattle.rules.proofs.Members.{both}
use Rattle.rules.proofs.Lowest.{some_lowest}
use Rattle.rules.proofs.Marks.{zero_unowned}
use Rattle.rules.proofs.Placing.{bucket_lt}
use Rattle.rules.proofs.Prefixes.{prefix_zero, loose_false}
use Rattle.difference_rules.specs.declared.Difference.{Difference}
use Rattle.difference_rules.specs.Comparing.{told, found_mark, stored_mark, has, Side, numbers_from, differ, difference_at, differences_from, differences_of, differences_at, differences, difference_words, Compared, difference_refusal, listing, between, difference}
use Rattle.difference_rules.proofs.Rising.{numbers_there, in_order, those_found}

-- the prefixes that stand in the slots of length L
unfoldable pub slot_prefixes : Settings → (slots : List ℕ) (L : ℕ) → List ℕ
slot_prefixes t slots L = map (λ n. prefix_at slots ((L - 1) * 2 ^ t.e * t.s + n)) (numbers_from 0 (2 ^ t.e * t.s))

-- where two tables may differ at length L: the default has prefix 0
unfoldable pub candidates : Settings → (slots : List ℕ) → Settings → (others : List ℕ) (L : ℕ) → List ℕ
candidates t slots u others L = cond (eqb L 0) (0 ∷ []) (slot_prefixes t slots L ++ slot_prefixes u others L)

-- the differences of length L at those of these numbers that have 32 bits
unfoldable pub found_of : (first second : Side) (L : ℕ) (xs : List ℕ) → List Difference
found_of first second L xs =
    map (difference_at first second L) (those (λ p. ltb p (2 ^ 32) && differ first second L p) (in_order xs))

-- at each of these lengths, where each has its own numbers
unfoldable pub found_of_lengths : (first second : Side) (xs : ℕ → List ℕ) (lengths : List ℕ) → List Difference
found_of_lengths first second xs [] = []
found_of_lengths first second xs (L ∷ lengths) = found_of first second L (xs L) ++ found_of_lengths first second xs lengths

-- the differences of two tables, at their candidates
unfoldable pub found_between : Settings → (slots : List ℕ) → Settings → (others : List ℕ) (party : ℕ) → List Difference
found_between t slots u others party =
    found_of_lengths (has t slots party) (has u others party) (candidates t slots u others) (numbers_from 0 33)

-- ---- What a table has

-- a table has only what stands in a slot of the length
has_slot : (t : Settings) (slots : List ℕ) (party p L : ℕ) → in_range t ≡ true → eqb L 0 ≡ false → (has t slots party p L ≡ 0 → ⊥) → Memᴰ p (slot_prefixes t slots L)
unfolding has stored_mark held found_mark told holds slot_prefixes slot_number
has_slot t slots party p L range long there = go (held t slots party p L) refl
  where
    nothing : (b : Bool) → cond b 0 (told party 0) ≡ 0
    nothing true = refl
    nothing false = rw (zero_unowned party)

    go : (o : Option ℕ) → held t slots party p L ≡ o → Memᴰ p (slot_prefixes t slots L)
    go none e = absurd (there (rw (long, e) (nothing (loose p L))))
    go (some s) e =
        let at = some_lowest (holds t slots party p L) t.s s e in
        let is = eqb-true _ p (both (own party (mark_at slots (slot_number t p L s))) _ at.passes).1 in
        let number : ((L - 1) * 2 ^ t.e + bucket t p) * t.s + s ≡ (L - 1) * 2 ^ t.e * t.s + (0 + (bucket t p * t.s + s)) = omega arith in
        Memᴰ.cast (sym is ∙ ap (prefix_at slots) number)
        (Memᴰ.map (λ n. prefix_at slots ((L - 1) * 2 ^ t.e * t.s + n)) (numbers_there 0 (2 ^ t.e * t.s) (bucket t p * t.s + s) (digits_lt (bucket_lt t p range) at.within)))

-- ---- Where two tables differ

-- differences are found at any numbers among which they are
found_same : (first second : Side) (xs : ℕ → List ℕ) → ((p L : ℕ) → p < 2 ^ 32 → differ first second L p ≡ true → Memᴰ p (xs L))
    → (lengths : List ℕ) → differences_at first second lengths ≡ found_of_lengths first second xs lengths
unfolding differences_at differences_of differences_from found_of_lengths found_of
found_same first second xs there [] = refl
found_same first second xs there (L ∷ lengths) =
    rw (those_found (differ first second L) (2 ^ 32) (xs L) (λ p. there p L), found_same first second xs there lengths)

module _ (t : Settings) (slots : List ℕ) (u : Settings) (others : List ℕ) (party : ℕ) (first_range : in_range t ≡ true) (second_range : in_range u ≡ true) where
  -- a difference stands among the candidates of its length
  differ_candidate : (p L : ℕ) → p < 2 ^ 32 → differ (has t slots party) (has u others party) L p ≡ true → Memᴰ p (candidates t slots u others L)
  unfolding candidates differ has
  differ_candidate p L small e = go (eqb L 0) refl
    where
      apart : has t slots party p L ≡ has u others party p L → ⊥
      apart = eqb-false _ _ (not-true _ e)

      tight : (b : Bool) → loose p 0 ≡ b → (has t slots party p 0 ≡ has u others party p 0 → ⊥) → p ≡ 0
      tight true h differing = absurd (differing (rw h))
      tight false h differing = sym ((loose_false p 0).0 h) ∙ prefix_zero p small

      either : (b : Bool) → eqb (has t slots party p L) 0 ≡ b → eqb L 0 ≡ false → Memᴰ p (slot_prefixes t slots L ++ slot_prefixes u others L)
      either true nothing long =
          Memᴰ.append_right (slot_prefixes t slots L) (has_slot u others party p L second_range long (λ (nor : has u others party p L ≡ 0). apart (eqb-true _ 0 nothing ∙ sym nor)))
      either false something long = Memᴰ.append_left (slot_prefixes u others L) (has_slot t slots party p L first_range long (eqb-false _ 0 something))

      go : (b : Bool) → eqb L 0 ≡ b → Memᴰ p (cond b (0 ∷ []) (slot_prefixes t slots L ++ slot_prefixes u others L))
      go true short = Memᴰ.head (tight (loose p 0) refl (rw (eqb-true L 0 short) at apart))
      go false long = either (eqb (has t slots party p L) 0) refl long

  -- the comparison can be run
  pub runs : between t slots u others party ≡ found_between t slots u others party
  unfolding between differences found_between
  runs = found_same (has t slots party) (has u others party) (candidates t slots u others) differ_candidate (numbers_from 0 33)

-- ---- The call

-- what a comparison gives back where these are the differences
unfoldable pub run_listed : Settings → Memory → Settings → Memory → (party : ℕ) (found : List Difference) (list : List ℕ) → Compared
run_listed t m u n party found list =
    let written = difference_words found in
    listing (difference_refusal t m u n party (length written) (length list)) (length found) written list

-- the comparison, run
unfoldable pub run_difference : Settings → Memory → Settings → Memory → (party : ℕ) (list : List ℕ) → Compared
run_difference t m u n party list = run_listed t m u n party (found_between t m.slots u n.slots party) list

-- It is the comparison, whatever the settings: where these are out of range, it is refused before the memory is looked at.
pub difference_runs : (t : Settings) (m : Memory) (u : Settings) (n : Memory) (party : ℕ) (list : List ℕ) → difference t m u n party list ≡ run_difference t m u n party list
unfolding difference run_difference run_listed listing difference_refusal party_refusal memory_refusal refuse
difference_runs t m u n party list = go (in_range t) refl (sized t m) refl (in_range u) refl
  where
    go : (a : Bool) → in_range t ≡ a → (b : Bool) → sized t m ≡ b → (c : Bool) → in_range u ≡ c → difference t m u n party list ≡ run_difference t m u n party list
    go false e b s c f = rw e
    go true e false s false f = rw (e, s)
    go true e true s false f = rw (e, s, f)
    go true e b s true f = ap (λ (found : List Difference). run_listed t m u n party found list) (runs t m.slots u n.slots party e f)
