-- The bytes of a prefix: at most four of them, and no bit is set after.
use Prim.Native.Nat.{ℕ, zero, suc, ◌+◌, ◌-◌, ◌*◌, ◌%◌, ◌^◌, ◌≤◌}
use mathlib.Core.Path.{◌≡◌, refl}
use mathlib.Core.Bool.{false}
use native.Mathlib.Nat.{mul_assoc, mul-mod_left}
use native.Mathlib.Omega.{arith}
use lib.Pow.{pow-add}
use Rattle.rules.specs.Table.{prefix, loose}
use Rattle.rules.proofs.Prefixes.{loose_false}
use Rattle.message_format.specs.Format.{bytes_for}

-- p of length L has n bytes, and zeros after them
pub record Bytes (p L n : ℕ) : Type 0 where
  pub many : bytes_for L ≡ n
  pub rest : p % 2 ^ (32 - 8 * n) ≡ 0

module _ (p L : ℕ) (short : L ≤ 32) (tight : loose p L ≡ false) where
  bytes : Bytes p L (bytes_for L)
  unfolding prefix bytes_for
  bytes =
      let n = bytes_for L in
      let apart : 32 - L ≡ 8 * n - L + (32 - 8 * n) = omega arith in
      record {
        many = refl;
        rest = rw (← (loose_false p L).0 tight, apart, pow-add 2 (8 * n - L) (32 - 8 * n), ← mul_assoc) (mul-mod_left _ _);
      }

  -- what is so for each number of bytes is so
  pub by_bytes : {A : Type 0} → (Bytes p L 0 → A) → (Bytes p L 1 → A) → (Bytes p L 2 → A) → (Bytes p L 3 → A) → (Bytes p L 4 → A) → A
  unfolding bytes_for
  by_bytes {A} none one two three four = go (bytes_for L) bytes (omega arith)
    where
      go : (n : ℕ) → Bytes p L n → n ≤ 4 → A
      go zero h few = none h
      go (suc zero) h few = one h
      go (suc (suc zero)) h few = two h
      go (suc (suc (suc zero))) h few = three h
      go (suc (suc (suc (suc zero)))) h few = four h
      go (suc (suc (suc (suc (suc n))))) h few = absurd (omega arith)
