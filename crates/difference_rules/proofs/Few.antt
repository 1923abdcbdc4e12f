-- How many differences there are: no more than the slots in which they are found, and a default; and four words to each.
use Prim.Native.Nat.{ℕ, zero, suc, ◌+◌, ◌*◌, ◌^◌, ◌≤◌, ◌<◌}
use mathlib.Core.Path.{◌≡◌, refl}
use mathlib.Core.Bool.{true, ◌&&◌}
use mathlib.Core.List.{List, [], ◌∷◌}
use native.Mathlib.Nat.{le_refl, le_trans, mul-le-mul}
use native.Mathlib.Omega.{arith}
use lib.Dec.{ltb}
use lib.ListN.{length, length-append, length-map}
use borrow.Author.Tests.{ne_eqb}
use lib.Pow.{pow_mono}
use Rattle.rules.specs.declared.Settings.{Settings}
use Rattle.rules.specs.Table.{in_range}
use Rattle.rules.proofs.Placing.{ranges}
use Rattle.difference_rules.specs.declared.Difference.{Difference}
use Rattle.difference_rules.specs.Comparing.{Side, has, numbers_from, differ, difference_words, between}
use Rattle.difference_rules.proofs.Rising.{numbers_length, those_few, in_order, in_order_few}
use Rattle.difference_rules.proofs.Running.{slot_prefixes, candidates, found_of, found_of_lengths, found_between, runs}

pub four_words : (ds : List Difference) → length (difference_words ds) ≡ 4 * length ds
unfolding difference_words
four_words [] = refl
four_words (d ∷ ds) = omega (arith, four_words ds)

-- no more than the numbers at which they are found
found_few : (first second : Side) (L : ℕ) (xs : List ℕ) → length (found_of first second L xs) ≤ length xs
unfolding found_of
found_few first second L xs =
    simp length-map (le_trans (those_few (λ p. ltb p (2 ^ 32) && differ first second L p) (in_order xs)) (in_order_few xs))

lengths_few : (first second : Side) (xs : ℕ → List ℕ) (each : ℕ) → ((L : ℕ) → 1 ≤ L → length (xs L) ≤ each)
    → (L many : ℕ) → 1 ≤ L → length (found_of_lengths first second xs (numbers_from L many)) ≤ many * each
unfolding numbers_from found_of_lengths
lengths_few first second xs each fits L zero low = omega arith
lengths_few first second xs each fits L (suc many) low =
    simp length-append (omega (arith, found_few first second L (xs L), fits L low, lengths_few first second xs each fits (L + 1) many (omega arith)))

prefixes_length : (t : Settings) (slots : List ℕ) (L : ℕ) → length (slot_prefixes t slots L) ≡ 2 ^ t.e * t.s
unfolding slot_prefixes
prefixes_length t slots L = simp length-map (numbers_length 0 (2 ^ t.e * t.s))

slots_few : (t : Settings) → in_range t ≡ true → 2 ^ t.e * t.s ≤ 2048
slots_few t range = let is = ranges t range in mul-le-mul (pow_mono is.e_high) is.s_high

module _ (t : Settings) (slots : List ℕ) (u : Settings) (others : List ℕ) (party : ℕ) (first_range : in_range t ≡ true) (second_range : in_range u ≡ true) where
  candidates_few : (L : ℕ) → 1 ≤ L → length (candidates t slots u others L) ≤ 2 ^ t.e * t.s + 2 ^ u.e * u.s
  unfolding candidates
  candidates_few L low = rw (ne_eqb L 0 (λ (e : L ≡ 0). omega arith), length-append, prefixes_length t slots L, prefixes_length u others L) (le_refl _)

  -- two tables differ at no more prefixes than both have slots, and the default
  pub at_most : length (between t slots u others party) ≤ 32 * 2 ^ t.e * t.s + 32 * 2 ^ u.e * u.s + 1
  unfolding found_between numbers_from found_of_lengths candidates
  at_most =
      rw (runs t slots u others party first_range second_range, length-append)
      (omega (
        arith,
        found_few (has t slots party) (has u others party) 0 (0 ∷ []),
        lengths_few (has t slots party) (has u others party) (candidates t slots u others) _ candidates_few 1 32 (le_refl 1),
      ))

  -- so a number of 32 bits counts them
  pub few : length (between t slots u others party) < 2 ^ 32
  few = omega (arith, at_most, slots_few t first_range, slots_few u second_range)
