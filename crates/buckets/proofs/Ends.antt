-- Where a search ends: in a slot whose words are lent and whose mark is the party's.
use Prim.Native.Nat.{ℕ, zero, suc, ◌+◌, ◌≤◌, ◌<◌}
use mathlib.Core.Path.{◌≡◌, refl}
use mathlib.Core.Bool.{Bool, true, false, cond}
use mathlib.Core.List.{List, [], ◌∷◌}
use mathlib.Core.Option.{some, none}
use mathlib.Core.Option as math
use native.Mathlib.Omega.{arith}
use Rattle.std.specs.Prelude.{Some}
use lib.ListN.{length}
use Rattle.rules.specs.declared.Settings.{Settings}
use Rattle.rules.specs.declared.Place.TheVariants.{At, Absent}
use Rattle.rules.specs.Tools.{those}
use Rattle.rules.specs.Table.{in_range, prefix, slot_number, mark_word, mark_at, own, holds, free, held, vacant, found_or, down_from, bit_set, set_bits, search as searched}
use Rattle.rules.specs.Ready.{Ready, Slots}
use Rattle.rules.specs.Meaning.{vacancy_of, bucket_place}
use Rattle.rules.proofs.Members.{both}
use Rattle.rules.proofs.Lowest.{some_lowest}
use Rattle.buckets.proofs.Slots.{slot_lent}

-- a slot by its number: its words are lent, and its mark is the party's
pub record Ended (slots : List ℕ) (party slot : ℕ) : Type 0 where
  pub is_lent : mark_word slot < length slots
  pub taken : own party (mark_at slots slot) ≡ true

module _ (t : Settings) (slots : List ℕ) (sized : Slots t slots) where
  -- the slot that holds p for the party
  pub held_ended : (party p L s : ℕ) → Ready t L → held t slots party p L ≡ some s → Ended slots party (slot_number t p L s)
  unfolding held holds
  held_ended party p L s ready e =
      let low = some_lowest (holds t slots party p L) t.s s e in
      record { is_lent = slot_lent t slots sized p L s ready low.within; taken = (both _ _ low.passes).0 }

  -- where the search of p's own bucket answers a slot, held or free, its words are lent
  module _ (party p L : ℕ) (ready : Ready t L) {slot : ℕ} where
    pub held_lent : {M n : ℕ} → bucket_place t slots party p L ≡ At M n slot → mark_word slot < length slots
    unfolding bucket_place
    held_lent {M} {n} = go (held t slots party p L) refl
      where
        go : (o : math.Option ℕ) → held t slots party p L ≡ o → found_or t p L 1 o (Absent (vacancy_of t p L (vacant t slots p L))) ≡ At M n slot → mark_word slot < length slots
        go (some s) there e = let number : slot_number t p L s ≡ slot = cc in rw number at (held_ended party p L s ready there).is_lent
        go none there e = absurd (let z : ◌≡◌ {A = ℕ} 0 1 = cc in omega arith)

    pub free_lent : bucket_place t slots party p L ≡ Absent (Some slot) → mark_word slot < length slots
    unfolding bucket_place vacant
    free_lent = go (held t slots party p L) (vacant t slots p L) refl
      where
        go : (o v : math.Option ℕ) → vacant t slots p L ≡ v → found_or t p L 1 o (Absent (vacancy_of t p L v)) ≡ Absent (Some slot) → mark_word slot < length slots
        go none (some s) there e =
            let number : slot_number t p L s ≡ slot = cc in
            rw number at (slot_lent t slots sized p L s ready (some_lowest (free t slots p L) t.s s there).within)
        go (some s) v there e = absurd (let z : ◌≡◌ {A = ℕ} 0 1 = cc in omega arith)
        go none none there e = absurd (let z : ◌≡◌ {A = ℕ} 0 1 = cc in omega arith)

  -- lengths that have buckets
  pub data Lengths : List ℕ → Type 0 where
    none_left : Lengths []
    one_more : {L : ℕ} {Ls : List ℕ} → Ready t L → Lengths Ls → Lengths (L ∷ Ls)

  pub search_ended : (party address probes slot M n : ℕ) {Ls : List ℕ} → Lengths Ls → searched t slots party address probes Ls ≡ At M n slot
      → Ended slots party slot
  unfolding searched
  search_ended party address probes slot M n none_left e = absurd (let z : ◌≡◌ {A = ℕ} 0 1 = cc in omega arith)
  search_ended party address probes slot M n (one_more {L} {Ls} ready rest) e =
      go (held t slots party (prefix address L) L) refl (search_ended party address (probes + 1) slot M n rest) e
    where
      go : (o : math.Option ℕ) → held t slots party (prefix address L) L ≡ o
          → (searched t slots party address (probes + 1) Ls ≡ At M n slot → Ended slots party slot)
          → found_or t (prefix address L) L (probes + 1) o (searched t slots party address (probes + 1) Ls) ≡ At M n slot → Ended slots party slot
      go (some s) h later found =
          let number : slot_number t (prefix address L) L s ≡ slot = cc in
          rw number at (held_ended party (prefix address L) L s ready h)
      go none h later found = later found

  -- the set bits of a vector are such lengths
  those_lengths : (test : ℕ → Bool) (n : ℕ) → in_range t ≡ true → n ≤ 32 → Lengths (those test (down_from n))
  unfolding those down_from
  those_lengths test zero range h = none_left
  those_lengths test (suc n) range h = go (test (suc n)) (those_lengths test n range (omega arith))
    where
      go : (b : Bool) → Lengths (those test (down_from n)) → Lengths (cond b (suc n ∷ those test (down_from n)) (those test (down_from n)))
      go true rest = one_more {L = suc n} (record { range = range; low = omega arith; high = h }) rest
      go false rest = rest

  pub set_lengths : (v : ℕ) → in_range t ≡ true → Lengths (set_bits v)
  unfolding set_bits
  set_lengths v range = those_lengths (bit_set v) 32 range (omega arith)
