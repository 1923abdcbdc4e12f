-- Every part of what a call gives back fits into its place: of a refusal because each number that a check can give does,
-- of an answer because its hop is an own party mark's and its length and its probes are among 32.
use Prim.Native.Nat.{ℕ, zero, suc, ◌+◌, ◌≤◌}
use mathlib.Core.Path.{◌≡◌, refl}
use mathlib.Core.Bool.{Bool, true, false, cond}
use mathlib.Core.List.{List, ◌∷◌}
use mathlib.Core.Option.{Option, some, none}
use native.Mathlib.Nat.{le_refl}
use native.Mathlib.Omega.{arith}
use lib.Dec.{ltb, eqb}
use lib.ListN.{length}
use borrow.Author.Tests.{ltb-true}
use Rattle.rules.specs.declared.Settings.{Settings}
use Rattle.rules.specs.declared.Place.{Place}
use Rattle.rules.specs.Tools.{those}
use Rattle.rules.specs.Table.{prefix, own, hop_of, default_mark, held, Memory, refuse, memory_refusal, party_refusal, down_from, bit_set, set_bits, vector_of, found_or, search as searched, route_answer, default_answer, place_answer, refused, answer_of, lookup}
use Rattle.rules.specs.Calls.{run}
use Rattle.rules.proofs.Marks.{hop_high}
use Rattle.rules.proofs.Updates.{held_own}
use Rattle.message_format.specs.Reading.{update_refusal, message_refusal, message_calls, counts, refused_message, apply_message as do_message}
use Rattle.message_format.proofs.Counting.{counts_fit}
use Rattle.c_numbers.specs.Fitting.{refusals_end, RefusalFits, Fits, CountsFit}

-- ---- Refusals

-- a check's own number fits, and so does what comes after it
refuse_fits : (bad : Bool) (number : ℕ) {after : ℕ} → ltb number refusals_end ≡ true → RefusalFits after → RefusalFits (refuse bad number after)
unfolding refuse
refuse_fits true number n a = ltb-true number refusals_end n
refuse_fits false number n a = a

-- no refusal
none_fits : RefusalFits 0
none_fits = omega arith

pub party_fits : (t : Settings) (m : Memory) (party : ℕ) → RefusalFits (party_refusal t m party 0)
unfolding party_refusal memory_refusal
party_fits t m party = search (refuse_fits, none_fits) depth 20

-- ---- Reports

number_fits : (t : Settings) (m : Memory) (party : ℕ) (message hops : List ℕ) → RefusalFits (message_refusal t m party message hops)
unfolding update_refusal message_refusal party_refusal memory_refusal
number_fits t m party message hops = search (refuse_fits, none_fits) depth 20

pub message_fits : (t : Settings) (m : Memory) (party : ℕ) (message hops : List ℕ) → CountsFit (do_message t m party message hops).report
unfolding do_message counts refused_message
message_fits t m party message hops =
    let fit = counts_fit t m party message hops in
    record { refusal = go (eqb (message_refusal t m party message hops) 0); accepted = fit.0; refused = fit.1 }
  where
    go : (b : Bool) → RefusalFits (cond b (counts (run t m (message_calls party message hops))) (refused_message (message_refusal t m party message hops) m)).report.refusal
    go true = none_fits
    go false = number_fits t m party message hops

-- ---- Answers

default_fits : (party mark probes : ℕ) → probes ≤ 32 → Fits (default_answer party mark probes)
unfolding default_answer
default_fits party mark probes few = record { refusal = omega arith; hop = omega (arith, go (own party mark) refl); length = omega arith; probes = omega arith }
  where
    go : (b : Bool) → own party mark ≡ b → cond b (hop_of party mark) 0 ≤ 65535
    go true h = hop_high party mark h
    go false h = omega arith

-- among n lengths there are at most n
few_lengths : (test : ℕ → Bool) (n : ℕ) → length (those test (down_from n)) ≤ n
unfolding those down_from
few_lengths test zero = le_refl 0
few_lengths test (suc n) = go (test (suc n)) (few_lengths test n)
  where
    go : (b : Bool) → length (those test (down_from n)) ≤ n → length (cond b (suc n ∷ those test (down_from n)) (those test (down_from n))) ≤ suc n
    go true h = omega arith
    go false h = omega arith

module _ (t : Settings) (slots : List ℕ) (party address ones : ℕ) where
  -- one bucket more in front of a search
  found_fits : (L probes : ℕ) (o : Option ℕ) (after : Place) → held t slots party (prefix address L) L ≡ o → L ≤ 32 → probes ≤ 32
      → Fits (place_answer t slots party ones after) → Fits (place_answer t slots party ones (found_or t (prefix address L) L probes o after))
  unfolding place_answer route_answer
  found_fits L probes (some s) after h high few rest = record {
    refusal = omega arith;
    hop = omega (arith, hop_high party _ (held_own t slots party (prefix address L) L s h));
    length = omega arith;
    probes = omega arith;
  }
  found_fits L probes none after h high few rest = rest

  -- a search of the lengths from n down, with a probe to spare for each
  search_fits : (test : ℕ → Bool) → ones ≤ 32 → (probes n : ℕ) → probes + n ≤ 32
      → Fits (place_answer t slots party ones (searched t slots party address probes (those test (down_from n))))
  unfolding place_answer searched those down_from
  search_fits test few probes zero spare = default_fits party (default_mark t slots party) ones few
  search_fits test few probes (suc n) spare =
      go (test (suc n)) (search_fits test few probes n (omega arith))
      (found_fits (suc n) (probes + 1) _ _ refl (omega arith) (omega arith) (search_fits test few (probes + 1) n (omega arith)))
    where
      go : (b : Bool) → Fits (place_answer t slots party ones (searched t slots party address probes (those test (down_from n))))
          → Fits (place_answer t slots party ones (searched t slots party address probes (suc n ∷ those test (down_from n))))
          → Fits (place_answer t slots party ones (searched t slots party address probes (cond b (suc n ∷ those test (down_from n)) (those test (down_from n)))))
      go true past on = on
      go false past on = past

pub lookup_fits : (t : Settings) (m : Memory) (party address : ℕ) → Fits (lookup t m party address)
unfolding lookup answer_of refused set_bits
lookup_fits t m party address =
    go (eqb (party_refusal t m party 0) 0)
    (search_fits t m.slots party address _ (bit_set (vector_of t m.counters address)) (few_lengths _ 32) 0 32 (omega arith))
  where
    go : (b : Bool) → Fits (answer_of t m party address) → Fits (cond b (answer_of t m party address) (refused (party_refusal t m party 0)))
    go true fits = fits
    go false fits = record { refusal = party_fits t m party; hop = omega arith; length = omega arith; probes = omega arith }
