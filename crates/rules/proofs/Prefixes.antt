-- Prefixes of an address: to cut at one length and then at a shorter one is to cut at the shorter, as one quotient of another.
use Prim.Native.Nat.{ℕ, zero, suc, ◌+◌, ◌-◌, ◌*◌, ◌/◌, ◌%◌, ◌^◌, ◌≤◌, ◌<◌}
use mathlib.Core.Path.{◌≡◌, refl, sym, ap, ◌∙◌}
use mathlib.Core.Bool.{false, not}
use mathlib.Core.Logic.{◌↔◌}
use native.Mathlib.Nat.{add-zero, le_refl, lt_of_le_of_lt, div-one, mul-one, div-eq_of_lt, div-mul-le_self, mul-mod_left}
use native.Mathlib.Omega.{arith}
use lib.Bits.{bit_and, and_block, and_high, and_zero_l}
use lib.Dec.{eqb, ltb}
use lib.Pow.{pow_pos, pow-add, shr_mod, ones_lt, ones_split, high_ones, shr-shr, shl-shr, split}
use borrow.Author.Tests.{eqb-true, eq-eqb, ne_eqb, lt-ltb, not-false}
use Rattle.rules.specs.Table.{prefix, loose}

-- a prefix is at most its address
pub prefix_le : (address L : ℕ) → prefix address L ≤ address
unfolding prefix
prefix_le address L = div-mul-le_self address (2 ^ (32 - L))

pub prefix_lt : (address L : ℕ) → address < 2 ^ 32 → prefix address L < 2 ^ 32
prefix_lt address L h = lt_of_le_of_lt (prefix_le address L) h

-- no bit is set after its length
pub prefix_low : (address L : ℕ) → prefix address L % 2 ^ (32 - L) ≡ 0
unfolding prefix
prefix_low address L = mul-mod_left (address / 2 ^ (32 - L)) (2 ^ (32 - L))

-- the shorter prefix of a prefix is that of the address
pub prefix_shorter : (L M address : ℕ) → L ≤ M → prefix (prefix address M) L ≡ prefix address L
unfolding prefix
prefix_shorter L M address h = ap (λ (q : ℕ). q * 2 ^ (32 - L)) quotient
  where
    rest : (32 - M) + ((32 - L) - (32 - M)) ≡ 32 - L
    rest = omega arith

    in_two : (n : ℕ) → n / 2 ^ (32 - L) ≡ n / 2 ^ (32 - M) / 2 ^ ((32 - L) - (32 - M))
    in_two n = ap (λ (k : ℕ). n / 2 ^ k) (sym rest) ∙ sym (shr-shr n (32 - M) ((32 - L) - (32 - M)))

    quotient : address / 2 ^ (32 - M) * 2 ^ (32 - M) / 2 ^ (32 - L) ≡ address / 2 ^ (32 - L)
    quotient =
        in_two (address / 2 ^ (32 - M) * 2 ^ (32 - M))
        ∙ ap (λ (q : ℕ). q / 2 ^ ((32 - L) - (32 - M))) (shl-shr (address / 2 ^ (32 - M)) (32 - M))
        ∙ sym (in_two address)

-- where the last k of w = j + (k + 1) bits are cleared, the bit 2^k is cleared too
cleared : (n j k w : ℕ) → w ≡ j + (k + 1) → n < 2 ^ w → bit_and (n / 2 ^ k * 2 ^ k) (2 ^ w - 1 - 2 ^ k) ≡ n / 2 ^ (k + 1) * 2 ^ (k + 1)
cleared n j k w bits fits =
    let q = n / 2 ^ k in
    let kept : 2 ^ (j + (k + 1)) - 1 - 2 ^ k ≡ (2 ^ (j + 1) - 2 ^ 1) * 2 ^ k + (2 ^ k - 1) = rw (ones_split j (k + 1), high_ones j 1, pow-add 2 k 1) (omega (arith, pow_pos k)) in
    rw (← add-zero (q * 2 ^ k), bits, kept, and_block k q (2 ^ (j + 1) - 2 ^ 1) 0 (2 ^ k - 1) (pow_pos k) (ones_lt k), and_high q j 1, and_zero_l (2 ^ k - 1), shr-shr n k 1, shr_mod j (k + 1) (rw bits at fits))
    (rw (pow-add 2 k 1) (omega arith))

-- the prefix of one length less is this one with one further bit cleared, the bit 2^(32 − L)
pub prefix_next : (address L : ℕ) → 1 ≤ L → L ≤ 32 → address < 2 ^ 32 → bit_and (prefix address L) (2 ^ 32 - 1 - 2 ^ (32 - L)) ≡ prefix address (L - 1)
unfolding prefix
prefix_next address L low high fits =
    let more : 32 - (L - 1) ≡ 32 - L + 1 = omega arith in
    rw more (cleared address (L - 1) (32 - L) 32 (omega arith) fits)

-- a prefix is its own prefix
pub prefix_again : (address L : ℕ) → prefix (prefix address L) L ≡ prefix address L
prefix_again address L = prefix_shorter L L address (le_refl L)

-- addresses that agree at a length agree at each shorter one
pub prefix_agree : (L M a b : ℕ) → L ≤ M → prefix a M ≡ prefix b M → prefix a L ≡ prefix b L
prefix_agree L M a b h e = sym (prefix_shorter L M a h) ∙ ap (λ (n : ℕ). prefix n L) e ∙ prefix_shorter L M b h

-- at length 0 nothing is left, and at length 32 all of it
pub prefix_zero : (address : ℕ) → address < 2 ^ 32 → prefix address 0 ≡ 0
unfolding prefix
prefix_zero address h = ap (λ (q : ℕ). q * 2 ^ 32) (div-eq_of_lt h)

pub prefix_32 : (address : ℕ) → prefix address 32 ≡ address
unfolding prefix
prefix_32 address = mul-one (address / 1) ∙ div-one address

-- a number with no bit set after the length is a prefix of that length
pub loose_false : (p L : ℕ) → (loose p L ≡ false) ↔ (prefix p L ≡ p)
unfolding loose
loose_false p L = (λ h. eqb-true (prefix p L) p (not-false (eqb (prefix p L) p) h), λ e. rw (eq-eqb (prefix p L) p e))

pub loose_prefix : (address L : ℕ) → loose (prefix address L) L ≡ false
loose_prefix address L = (loose_false (prefix address L) L).1 (prefix_again address L)

-- a bit is set after the length exactly if what the prefix leaves of the number is not zero
pub loose_low : (p L : ℕ) → loose p L ≡ ltb 0 (p % 2 ^ (32 - L))
unfolding loose prefix
loose_low p L = go (p % 2 ^ (32 - L)) refl
  where
    whole : p / 2 ^ (32 - L) * 2 ^ (32 - L) + p % 2 ^ (32 - L) ≡ p
    whole = split p (32 - L)

    go : (r : ℕ) → p % 2 ^ (32 - L) ≡ r → not (eqb (p / 2 ^ (32 - L) * 2 ^ (32 - L)) p) ≡ ltb 0 (p % 2 ^ (32 - L))
    go zero e = rw (e, eq-eqb (p / 2 ^ (32 - L) * 2 ^ (32 - L)) p (omega (arith, whole)))
    go (suc r) e = rw (e, ne_eqb (p / 2 ^ (32 - L) * 2 ^ (32 - L)) p (λ (same : p / 2 ^ (32 - L) * 2 ^ (32 - L) ≡ p). omega (arith, whole)), lt-ltb 0 (suc r) (omega arith))
