-- A vector's bits: one law carries the rest, that the bits below 2^n do not depend on what stands above.
use Prim.Native.Nat.{ℕ, zero, suc, ◌+◌, ◌-◌, ◌*◌, ◌/◌, ◌%◌, ◌^◌, ◌≤◌, ◌<◌, zero-le, suc-le-suc}
use mathlib.Core.Path.{◌≡◌, refl, sym, ap, ◌∙◌}
use mathlib.Core.Bool.{Bool, true, false, cond}
use mathlib.Core.List.{List, [], ◌∷◌}
use native.Mathlib.Nat.{mul-one, div-one, not-suc-le-zero, le_of_suc-le-suc, le_refl, mul_assoc, le-suc_iff, zero-add, pow-suc, one-mul, two-pow-succ, lt_of_lt_of_le, le_trans, le_step, div-eq_of_lt, mul-add-div_right, mul-add-mod_self_right, mod-lt}
use mathlib.Core.Logic.{◌⊎◌, inl, inr}
use native.Mathlib.Decide.{le_ind}
use native.Mathlib.Numerals.{add-one, sub-one, one-add}
use native.Mathlib.Omega.{arith}
use lib.Arith.{lt-one}
use lib.Bits.{bit_or, or_shifted}
use lib.Count.{ones, ones_cat}
use lib.Dec.{eqb}
use lib.ListN.{length}
use lib.Pow.{shr-shr, pow-lt, shl_exact, pow_pos, pow_mono, pow-add, split, high, shr_lt}
use Rattle.rules.specs.Tools.{those}
use Rattle.rules.specs.Table.{bits_where, down_from, bit_set, set_bits}

-- a vector of n lengths has n bits
pub bits_lt : (test : ℕ → Bool) (n : ℕ) → bits_where test n < 2 ^ n
unfolding bits_where
bits_lt test zero = le_refl 1
bits_lt test (suc n) = go (test (suc n)) (bits_lt test n)
  where
    go : (b : Bool) → bits_where test n < 2 ^ n → cond b (2 ^ n) 0 + bits_where test n < 2 ^ suc n
    go true h = omega (arith, two-pow-succ n)
    go false h = omega (arith, two-pow-succ n)

-- the bits of lengths up to n of a number are those of its part below 2^n
pub bit_below : (high n r L : ℕ) → 1 ≤ L → L ≤ n → bit_set (high * 2 ^ n + r) L ≡ bit_set r L
unfolding bit_set
bit_below high n r L lo hi = ap (λ (x : ℕ). eqb x 1) (ap (λ (x : ℕ). x % 2) quotient ∙ mul-add-mod_self_right (high * 2 ^ (n - L)) 2 (r / 2 ^ (L - 1)))
  where
    up : 2 ^ n ≡ 2 ^ (n - L) * 2 * 2 ^ (L - 1)
    up = ap (λ (x : ℕ). 2 ^ x) (split_n) ∙ pow-add 2 (suc (n - L)) (L - 1) ∙ ap (λ (x : ℕ). x * 2 ^ (L - 1)) (pow-suc 2 (n - L))
      where
        split_n : n ≡ suc (n - L) + (L - 1)
        split_n = omega arith

    quotient : (high * 2 ^ n + r) / 2 ^ (L - 1) ≡ high * 2 ^ (n - L) * 2 + r / 2 ^ (L - 1)
    quotient =
        ap (λ (x : ℕ). (x + r) / 2 ^ (L - 1)) (ap (λ (x : ℕ). high * x) up ∙ sym (simp mul_assoc))
        ∙ mul-add-div_right (pow_pos (L - 1)) (high * 2 ^ (n - L) * 2) r

-- and the bit of length n + 1 is the lowest of what stands above 2^n
pub bit_at : (high n r : ℕ) → r < 2 ^ n → bit_set (high * 2 ^ n + r) (suc n) ≡ eqb (high % 2) 1
unfolding bit_set
bit_at q n r h = ap (λ (x : ℕ). eqb (x % 2) 1) (ap (λ (x : ℕ). (q * 2 ^ n + r) / 2 ^ x) (sub-one (suc n)) ∙ high q n h)

-- no bit of a number below 2^n is set after length n
pub bit_above : (v n L : ℕ) → v < 2 ^ n → n < L → bit_set v L ≡ false
unfolding bit_set
bit_above v n L h after =
    ap (λ (x : ℕ). eqb (x % 2) 1) (div-eq_of_lt (lt_of_lt_of_le h (pow_mono fits)))
  where
    fits : n ≤ L - 1
    fits = omega arith

-- one bit more, as what stands above 2^n
one_more : (b : Bool) (n r : ℕ) → cond b (2 ^ n) 0 + r ≡ cond b 1 0 * 2 ^ n + r
one_more true n r = omega arith
one_more false n r = omega arith

-- the bit of length L says what the test says
pub bit_where : (test : ℕ → Bool) (n L : ℕ) → 1 ≤ L → L ≤ n → bit_set (bits_where test n) L ≡ test L
unfolding bits_where
bit_where test zero L lo hi = absurd (not-suc-le-zero (le_trans lo hi))
bit_where test (suc n) L lo hi = ap (λ (v : ℕ). bit_set v L) (one_more (test (suc n)) n (bits_where test n)) ∙ go (le-suc_iff.0 hi) (bit_where test n L lo)
  where
    own : (b : Bool) → eqb (cond b 1 0 % 2) 1 ≡ b
    own true = refl
    own false = refl

    go : (L ≤ n) ⊎ (L ≡ suc n) → (L ≤ n → bit_set (bits_where test n) L ≡ test L)
        → bit_set (cond (test (suc n)) 1 0 * 2 ^ n + bits_where test n) L ≡ test L
    go (inl below) before = bit_below (cond (test (suc n)) 1 0) n (bits_where test n) L lo below ∙ before below
    go (inr e) before = rw e (bit_at (cond (test (suc n)) 1 0) n (bits_where test n) (bits_lt test n) ∙ own (test (suc n)))

-- two tests that agree on lengths 1 to n pick the same
pub those_agree : (test other : ℕ → Bool) (n : ℕ) → ((L : ℕ) → 1 ≤ L → L ≤ n → test L ≡ other L)
    → those test (down_from n) ≡ those other (down_from n)
unfolding those down_from
those_agree test other zero same = refl
those_agree test other (suc n) same =
    let tail = those_agree test other n (λ L lo hi. same L lo (le_step hi)) in
    rw (same (suc n) (suc-le-suc zero-le) (le_refl (suc n)), tail)

-- the set bits of a vector are the lengths at which the test holds
pub set_bits_where : (test : ℕ → Bool) → set_bits (bits_where test 32) ≡ those test (down_from 32)
unfolding set_bits
set_bits_where test = those_agree (bit_set (bits_where test 32)) test 32 (bit_where test 32)

-- lengths after n may be left out for a number below 2^n
those_short : (v n m : ℕ) → v < 2 ^ n → n ≤ m → those (bit_set v) (down_from m) ≡ those (bit_set v) (down_from n)
unfolding those down_from
those_short v n m h fits = le_ind (λ (k : ℕ). those (bit_set v) (down_from k) ≡ those (bit_set v) (down_from n)) refl (λ k more same. rw (bit_above v n (suc k) h (suc-le-suc more)) same) m fits

-- the set bits up to length n + 1: what stands above 2^n decides the first, and the others are those of the part below
those_step : (high n r : ℕ) → r < 2 ^ n
    → those (bit_set (high * 2 ^ n + r)) (down_from (suc n))
    ≡ cond (eqb (high % 2) 1) (suc n ∷ those (bit_set r) (down_from n)) (those (bit_set r) (down_from n))
unfolding those down_from
those_step q n r h = rw (bit_at q n r h, those_agree (bit_set (q * 2 ^ n + r)) (bit_set r) n (bit_below q n r))

-- the highest set bit comes first, and then those of what is left
pub set_bits_top : (v L : ℕ) → 1 ≤ L → L ≤ 32 → 2 ^ (L - 1) ≤ v → v < 2 ^ L → set_bits v ≡ L ∷ set_bits (v - 2 ^ (L - 1))
unfolding set_bits
set_bits_top v zero lo hi above below = absurd (not-suc-le-zero lo)
set_bits_top v (suc n) lo hi above below = rw sub-one (go (rw sub-one at above))
  where
    go : 2 ^ n ≤ v → set_bits v ≡ suc n ∷ set_bits (v - 2 ^ n)
    go fits =
        let rest : v - 2 ^ n < 2 ^ n = omega (arith, two-pow-succ n) in
        let whole : v ≡ 1 * 2 ^ n + (v - 2 ^ n) = omega arith in
        those_short v (suc n) 32 below hi
        ∙ ap (λ (x : ℕ). those (bit_set x) (down_from (suc n))) whole
        ∙ those_step 1 n (v - 2 ^ n) rest
        ∙ ap (λ (Ls : List ℕ). suc n ∷ Ls) (sym (those_short (v - 2 ^ n) n 32 rest (le_of_suc-le-suc (le_step hi))))

pub set_bits_zero : set_bits 0 ≡ []
unfolding set_bits those down_from bit_set
set_bits_zero = refl

-- one digit counts as one length
ones_digit : (q : ℕ) → q < 2 → (L : ℕ) (Ls : List ℕ) → ones q + length Ls ≡ length (cond (eqb (q % 2) 1) (L ∷ Ls) Ls)
unfolding ones
ones_digit zero h L Ls = zero-add (length Ls)
ones_digit (suc zero) h L Ls = one-add (length Ls)
ones_digit (suc (suc q)) h L Ls = absurd (not-suc-le-zero (le_of_suc-le-suc (le_of_suc-le-suc h)))

-- a vector has as many ones as set bits
ones_those : (n v : ℕ) → v < 2 ^ n → ones v ≡ length (those (bit_set v) (down_from n))
unfolding ones down_from those
ones_those zero v h = ap ones (lt-one h)
ones_those (suc n) v h =
    let r = v % 2 ^ n in
    let q = v / 2 ^ n in
    let rest : r < 2 ^ n = mod-lt v (pow_pos n) in
    let digit : q < 2 = shr_lt 1 n (rw (one-add n) h) in
    ap ones (sym (split v n)) ∙ ones_cat n q r rest
    ∙ ap (λ (x : ℕ). ones q + x) (ones_those n r rest)
    ∙ ones_digit q digit (suc n) (those (bit_set r) (down_from n))
    ∙ sym (ap length (ap (λ (x : ℕ). those (bit_set x) (down_from (suc n))) (sym (split v n)) ∙ those_step q n r rest))

pub ones_set_bits : (v : ℕ) → v < 2 ^ 32 → ones v ≡ length (set_bits v)
unfolding set_bits
ones_set_bits v h = ones_those 32 v h

-- the bit of a length, as a shift makes it, does not leave the 32
pub one_bit : (L : ℕ) → 1 ≤ L → L ≤ 32 → 1 * 2 ^ (L - 1) % 2 ^ 32 ≡ 2 ^ (L - 1)
one_bit L low high = shl_exact {a = 1} 1 (L - 1) 32 (omega arith) (omega arith) ∙ one-mul (2 ^ (L - 1))

-- a digit is 1 or 0
digit : (x : ℕ) → x < 2 → x ≡ cond (eqb x 1) 1 0
digit zero h = refl
digit (suc zero) h = refl
digit (suc (suc x)) h = absurd (not-suc-le-zero (le_of_suc-le-suc (le_of_suc-le-suc h)))

-- A vector that is made from length 32 down: where lengths up to n are still to come, it is the whole one without their bits.
module _ (test : ℕ → Bool) where
  abbrev pub filled : (n : ℕ) → ℕ
  filled n = bits_where test 32 / 2 ^ n * 2 ^ n

  pub none_filled : filled 32 ≡ 0
  none_filled = ap (λ (q : ℕ). q * 2 ^ 32) (div-eq_of_lt (bits_lt test 32))

  pub all_filled : filled 0 ≡ bits_where test 32
  all_filled = mul-one (bits_where test 32 / 1) ∙ div-one (bits_where test 32)

  -- each length adds its bit
  one_length : (n : ℕ) → n < 32 → filled n ≡ filled (suc n) + cond (test (suc n)) 1 0 * 2 ^ n
  unfolding bit_set
  one_length n h =
      let v = bits_where test 32 in
      let its : v / 2 ^ n % 2 ≡ cond (test (suc n)) 1 0 = digit (v / 2 ^ n % 2) (mod-lt (v / 2 ^ n) (omega arith)) ∙ ap (λ (b : Bool). cond b 1 0) (rw sub-one at (bit_where test 32 (suc n) (omega arith) h)) in
      ap (λ (q : ℕ). q * 2 ^ n) (sym (split (v / 2 ^ n) 1)) ∙ rw (its, shr-shr v n 1, add-one n, pow-suc 2 n) (omega arith)

  pub bit_filled : (L : ℕ) → 1 ≤ L → L ≤ 32 → test L ≡ true → bit_or (filled L) (2 ^ (L - 1)) ≡ filled (L - 1)
  bit_filled zero low high holds = absurd (not-suc-le-zero low)
  bit_filled (suc n) low high holds =
      rw sub-one (or_shifted (bits_where test 32 / 2 ^ suc n) (suc n) (2 ^ n) (pow-lt (le_refl (suc n))) ∙ omega (arith, rw holds at (one_length n high)))

  pub bit_passed : (L : ℕ) → 1 ≤ L → L ≤ 32 → test L ≡ false → filled L ≡ filled (L - 1)
  bit_passed zero low high fails = absurd (not-suc-le-zero low)
  bit_passed (suc n) low high fails = rw sub-one (omega (arith, rw fails at (one_length n high)))
