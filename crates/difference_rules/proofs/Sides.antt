-- Sides that have the same at every prefix have the same differences, as each difference is made from what they have alone.
use Prim.Native.Nat.{ℕ, ◌^◌, ◌≤◌, ◌<◌}
use mathlib.Core.Path.{◌≡◌, refl}
use mathlib.Core.Bool.{Bool, true, false, cond}
use mathlib.Core.List.{List, [], ◌∷◌, map, Memᴰ}
use native.Mathlib.Omega.{arith}
use Rattle.rules.specs.Tools.{those}
use Rattle.difference_rules.specs.Comparing.{Side, numbers_from, differ, difference_at, differences_from, differences_of, differences_at, differences}
use Rattle.difference_rules.proofs.Rising.{numbers_within}

module _ (one other first second : Side) where
  -- of one length, at these numbers
  same_list : (L : ℕ) (xs : List ℕ) → ((p : ℕ) → Memᴰ p xs → (one p L ≡ first p L) × (other p L ≡ second p L))
      → map (difference_at one other L) (those (differ one other L) xs) ≡ map (difference_at first second L) (those (differ first second L) xs)
  unfolding those differ
  same_list L [] alike = refl
  same_list L (x ∷ xs) alike =
      let here = alike x (Memᴰ.head refl) in
      rw (here.0, here.1) (go (differ first second L x) here (same_list L xs (λ p m. alike p (Memᴰ.tail m))))
    where
      go : (b : Bool) → (one x L ≡ first x L) × (other x L ≡ second x L)
          → map (difference_at one other L) (those (differ one other L) xs) ≡ map (difference_at first second L) (those (differ first second L) xs)
          → map (difference_at one other L) (cond b (x ∷ those (differ one other L) xs) (those (differ one other L) xs))
          ≡ map (difference_at first second L) (cond b (x ∷ those (differ first second L) xs) (those (differ first second L) xs))
      go true here later = rw (here.0, here.1, later)
      go false here later = later

  same_at : (lengths : List ℕ) → ((L p : ℕ) → Memᴰ L lengths → p < 2 ^ 32 → (one p L ≡ first p L) × (other p L ≡ second p L))
      → differences_at one other lengths ≡ differences_at first second lengths
  unfolding differences_at differences_of differences_from
  same_at [] alike = refl
  same_at (L ∷ lengths) alike =
      rw (same_list L (numbers_from 0 (2 ^ 32)) (λ p m. alike L p (Memᴰ.head refl) (numbers_within 0 (2 ^ 32) m).1), same_at lengths (λ M p m. alike M p (Memᴰ.tail m)))

  -- Sides that agree at every length up to 32 and every prefix of 32 bits have the same differences.
  pub same_differences : ((L p : ℕ) → L ≤ 32 → p < 2 ^ 32 → one p L ≡ first p L) → ((L p : ℕ) → L ≤ 32 → p < 2 ^ 32 → other p L ≡ second p L)
      → differences one other ≡ differences first second
  unfolding differences
  same_differences alike also =
      same_at (numbers_from 0 33) (λ L p m word. let high : L ≤ 32 = omega (arith, numbers_within 0 33 m) in (alike L p high word, also L p high word))
