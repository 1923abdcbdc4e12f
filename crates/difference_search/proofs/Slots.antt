-- The slots of a length by their number: they lie between those of the shorter lengths and those of the longer, and their words are lent.
use Prim.Native.Nat.{ℕ, ◌+◌, ◌-◌, ◌*◌, ◌%◌, ◌^◌, ◌≤◌, ◌<◌}
use mathlib.Core.Path.{◌≡◌}
use mathlib.Core.Bool.{true}
use mathlib.Core.List.{List}
use native.Mathlib.Nat.{mul-le-mul, mul-le-mul_right, mod-eq_of_lt}
use native.Mathlib.Omega.{arith}
use lib.Arith.{digits_lt}
use lib.ListN.{length}
use lib.Pow.{pow_mono}
use Rattle.rules.specs.declared.Settings.{Settings}
use Rattle.rules.specs.Table.{in_range, bucket, slots_size, slot_number, mark_word}
use Rattle.rules.specs.Ready.{Ready, Slots}
use Rattle.rules.proofs.Placing.{ranges, bucket_lt}

-- the buckets of up to 32 lengths, and their slots, are few
module _ (t : Settings) (lengths : ℕ) (range : in_range t ≡ true) (few : lengths ≤ 32) where
  buckets_small : lengths * 2 ^ t.e ≤ 32 * 2 ^ 8
  buckets_small = mul-le-mul few (pow_mono (ranges t range).e_high)

  pub buckets_whole : lengths * 2 ^ t.e % 2 ^ 64 ≡ lengths * 2 ^ t.e
  buckets_whole = mod-eq_of_lt (omega (arith, buckets_small))

  pub slots_small : lengths * 2 ^ t.e * t.s ≤ 32 * 2 ^ 8 * 8
  slots_small = mul-le-mul buckets_small (ranges t range).s_high

module _ (t : Settings) (L : ℕ) (ready : Ready t L) where
  -- a prefix's slot is one of its length's
  pub slot_after : (p s : ℕ) → (L - 1) * 2 ^ t.e * t.s ≤ slot_number t p L s
  unfolding slot_number
  slot_after p s = omega (arith, mul-le-mul_right {m = (L - 1) * 2 ^ t.e} {n = (L - 1) * 2 ^ t.e + bucket t p} t.s (omega arith))

  pub slot_before : (p s : ℕ) → s < t.s → slot_number t p L s < L * 2 ^ t.e * t.s
  unfolding slot_number
  slot_before p s h =
      let last : L - 1 < L = omega (arith, ready.low) in
      digits_lt (digits_lt last (bucket_lt t p ready.range)) h

  -- and the words of a length's slots are lent
  pub slot_lent : (slots : List ℕ) → Slots t slots → (n : ℕ) → n < L * 2 ^ t.e * t.s → mark_word n < length slots
  unfolding mark_word slots_size
  slot_lent slots sized n h =
      omega (arith, sized.size, mul-le-mul_right t.s (mul-le-mul_right (2 ^ t.e) ready.high))
