-- Where every length has the same D, settings are in range and counters lie as if one D were set for all of them. Nothing
-- else of a call looks at the list, so its answers, refusals and bytes are those of one D too.
use Prim.Native.Nat.{ℕ, zero, suc, ◌+◌, ◌-◌, ◌*◌, ◌/◌, ◌^◌, ◌≤◌, ◌<◌}
use mathlib.Core.Path.{◌≡◌, refl, ap, ◌∙◌}
use mathlib.Core.Bool.{Bool, true, false, ◌&&◌}
use mathlib.Core.List.{List, map}
use native.Mathlib.Nat.{not-suc-le-zero, le_of_suc-le-suc, suc-mul, add_comm}
use native.Mathlib.Omega.{arith}
use lib.ListN.{get_or, take, replicate}
use Rattle.rules.specs.declared.Settings.{Settings}
use Rattle.rules.specs.Tools.{within, all}
use Rattle.rules.specs.Table.{list_in_range, in_range, wrap, steps, filter_bits, positions, filters_size, counters_size, filter_start, counter_place, counter_places}

-- ---- One D for all lengths

-- K, D, E and S in their ranges
unfoldable pub one_in_range : (k D e s : ℕ) → Bool
one_in_range k D e s = within 1 8 k && (within 4 11 D && (within 0 8 e && within 1 8 s))

-- 2^D counters for each of 32 lengths
unfoldable pub one_size : (D : ℕ) → ℕ
one_size D = 32 * 2 ^ D

-- the filter of length L after L − 1 others
unfoldable pub one_start : (D L : ℕ) → ℕ
one_start D L = (L - 1) * 2 ^ D

-- the top D bits of each number
unfoldable pub one_positions : Settings → (D p : ℕ) → List ℕ
one_positions t D p = map (λ g. g / 2 ^ (32 - D)) (steps t.k (wrap (t.a * p)) (wrap (t.b * p)))

-- ---- Lists of one number

some_equal : (test : ℕ → Bool) (D n : ℕ) → all test (replicate (suc n) D) ≡ test D
unfolding all
some_equal test D zero = go (test D)
  where
    go : (b : Bool) → b && true ≡ b
    go true = refl
    go false = refl
some_equal test D (suc n) = rw (some_equal test D n) (go (test D))
  where
    go : (b : Bool) → b && b ≡ b
    go true = refl
    go false = refl

first_equal : (D n m : ℕ) → n ≤ m → filters_size (take n (replicate m D)) ≡ n * 2 ^ D
unfolding filters_size
first_equal D zero m h = omega arith
first_equal D (suc n) zero h = absurd (not-suc-le-zero h)
first_equal D (suc n) (suc m) h = rw (first_equal D n m (le_of_suc-le-suc h), suc-mul n (2 ^ D)) (add_comm (2 ^ D) (n * 2 ^ D))

each_equal : (D n m : ℕ) → n < m → get_or (replicate m D) n 0 ≡ D
each_equal D n zero h = absurd (not-suc-le-zero h)
each_equal D zero (suc m) h = refl
each_equal D (suc n) (suc m) h = each_equal D n m (le_of_suc-le-suc h)

-- ---- Settings with the same D at every length

module _ (t : Settings) (D : ℕ) (equal : t.d ≡ replicate 32 D) where
  pub equal_range : in_range t ≡ one_in_range t.k D t.e t.s
  unfolding in_range list_in_range one_in_range
  equal_range = rw (equal, some_equal (within 4 11) D 31)

  pub equal_size : counters_size t ≡ one_size D
  unfolding counters_size one_size
  equal_size = rw equal (first_equal D 32 32 (omega arith))

  pub equal_start : (L : ℕ) → L ≤ 32 → filter_start t L ≡ one_start D L
  unfolding filter_start one_start
  equal_start L high = rw equal (first_equal D (L - 1) 32 (omega arith))

  pub equal_bits : (L : ℕ) → 1 ≤ L → L ≤ 32 → filter_bits t L ≡ D
  unfolding filter_bits
  equal_bits L low high = rw equal (each_equal D (L - 1) 32 (omega arith))

  pub equal_positions : (p L : ℕ) → 1 ≤ L → L ≤ 32 → positions t p L ≡ one_positions t D p
  unfolding positions one_positions
  equal_positions p L low high = rw (equal_bits L low high)

  -- so the counters of a prefix lie where they do with one D
  pub equal_places : (p L : ℕ) → 1 ≤ L → L ≤ 32 → counter_places t p L ≡ map (λ j. one_start D L + j) (one_positions t D p)
  unfolding counter_places counter_place
  equal_places p L low high =
      ap (map (counter_place t L)) (equal_positions p L low high) ∙ ap (λ (start : ℕ). map (λ j. start + j) (one_positions t D p)) (equal_start L high)
