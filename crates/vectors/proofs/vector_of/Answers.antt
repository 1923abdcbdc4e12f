-- Prefix, bit and filter go down with the length: `prefix_next` and `filter_next`.
use Rattle.std.proofs.Common.{◌≡◌, ℕ, suc, ◌-◌, ◌%◌, ◌^◌, ◌≤◌, Bool, true, List, get_or, refl, sym, ap, ◌∙◌, arith}
use native.Mathlib.Nat.{mod-eq_of_lt}
use lib.Pow.{pow-lt, pow-add}
use Rattle.rules.specs.declared.Settings.{Settings}
use Rattle.rules.specs.Table.{in_range, prefix, filter_start, claims, vector_of}
use Rattle.rules.specs.Ready.{Ready}
use Rattle.rules.proofs.Placing.{bits_at, filter_bits_high, filter_next, filter_after_32}
use Rattle.rules.proofs.Prefixes.{prefix_32, prefix_next}
use Rattle.rules.proofs.Vectors.{one_bit, filled, none_filled, bit_filled, bit_passed, all_filled}
use Rattle.vectors.proofs.vector_of.Invariants.{claimed}
use Rattle.vectors.proofs.vector_of.Goals as goal
use Rattle.vectors.proofs.vector_of.Goals.{then-claims_prefix, else-claims_prefix}

pub loop-number-init : goal.loop-number-init
loop-number-init c =
    record {
      cut = sym (prefix_32 _);
      its_bit = refl;
      ends = c.args.filters.now.sized.size ∙ filter_after_32 _ c.args.filters.now.settings.now.range;
      so_far = sym (none_filled _);
    }

-- where a length has its turn
module _ (t : Settings) (L : ℕ) (range : in_range t ≡ true) (low : 1 ≤ L) (high : L ≤ 32) where
  ready : Ready t L
  ready = record { range = range; low = low; high = high }

  few : get_or t.d (L - 1) 0 ≤ 11
  few = rw (bits_at t L) (filter_bits_high t L ready)

  -- the filter of the length begins where this leads
  begins : (start bits size : ℕ) → bits ≡ get_or t.d (L - 1) 0 → start ≡ filter_start t (suc L) → size ≡ 2 ^ bits → (size ≤ start) × (start - size ≡ filter_start t L)
  begins start bits size its ends is =
      let next = filter_next t L ready in
      let counted = rw (its, bits_at t L) at is in
      (omega arith, omega arith)

pub filter_size-requires : goal.filter_size-requires
filter_size-requires c = omega (arith, c.from-bits.ensures, few _ _ c.args.filters.now.settings.now.range c.loop-number-test.true c.loop-number.auto.number)

pub overflow_sub-start : goal.overflow_sub-start
overflow_sub-start c = (begins _ _ c.args.filters.now.settings.now.range c.loop-number-test.true c.loop-number.auto.number _ _ _ c.from-bits.ensures c.loop-number.invariant.ends c.filter_size.ensures).0

pub claims_prefix-requires : goal.claims_prefix-requires
claims_prefix-requires c =
    (begins _ _ c.args.filters.now.settings.now.range c.loop-number-test.true c.loop-number.auto.number _ _ _ c.from-bits.ensures c.loop-number.invariant.ends c.filter_size.ensures).1

-- what the filter of the length says of the address
told : (t : Settings) (counters : List ℕ) (address L p : ℕ) (answer : Bool) → p ≡ prefix address L → answer ≡ claims t counters p L
    → claimed t counters address L ≡ answer
told t counters address L p answer cut is = ap (λ (p : ℕ). claims t counters p L) (sym cut) ∙ sym is

pub loop-number-preserved : goal.loop-number-preserved
loop-number-preserved c =
    let at = c.loop-number in
    let L = at.number in
    let low : 1 ≤ L = c.loop-number-test.true in
    let high : L ≤ 32 = at.auto.number in
    let its = at.invariant.its_bit ∙ mod-eq_of_lt (pow-lt {i = 32 - L} {j = 32} (omega (arith, low))) in
    record {
      cut = rw (at.invariant.cut, its) (prefix_next _ L low high c.ranges.address.fits);
      its_bit = rw (its, ← pow-add 2 (32 - L) 1) (ap (λ (n : ℕ). 2 ^ n % 2 ^ 32) (omega (arith, low, high)));
      ends =
          (begins _ _ c.args.filters.now.settings.now.range low high _ _ _ c.from-bits.ensures at.invariant.ends c.filter_size.ensures).1
          ∙ ap (filter_start _) (omega (arith, low));
      so_far =
          elim c.if-claims_prefix.branch [
            | then-claims_prefix w ↦ rw (w.vector-is, one_bit L low high, at.invariant.so_far) (bit_filled (claimed _ _ _) L low high (told _ _ _ _ _ _ at.invariant.cut c.claims_prefix.ensures ∙ w.if-claims_prefix.true))
            | else-claims_prefix w ↦ w.vector-is ∙ at.invariant.so_far ∙ bit_passed (claimed _ _ _) L low high (told _ _ _ _ _ _ at.invariant.cut c.claims_prefix.ensures ∙ w.if-claims_prefix.false)
          ];
    }

pub returns : goal.returns
unfolding vector_of
returns c =
    let none : c.loop-number.number ≡ 0 = omega (arith, c.loop-number-test.false) in
    c.loop-number.invariant.so_far ∙ ap (filled (claimed _ _ _)) none ∙ all_filled _
