-- The list is read from its front: what was read is good so far, and its powers are summed.
use Prim.Native.Nat.{ℕ, ◌+◌, ◌*◌, ◌%◌, ◌^◌, ◌≤◌, ◌<◌}
use mathlib.Core.Path.{◌≡◌, refl, sym, ap, ◌∙◌}
use mathlib.Core.Bool.{Bool, true, false, ◌&&◌}
use mathlib.Core.List.{List, [], ◌∷◌}
use native.Mathlib.Nat.{mod-eq_of_lt, mod-lt}
use native.Mathlib.Numerals.{add-one}
use native.Mathlib.Omega.{arith}
use lib.Dec.{eqb}
use lib.ListN.{length, get_or, length-map, get_or-map}
use lib.Pow.{pow_mono}
use lib.Seq.{take_all}
use borrow.Author.Rules.{rules}
use borrow.Author.Tests.{eq-eqb}
use Rattle.std.specs.Prelude.{Some}
use Rattle.std.specs.Bool.{then_some}
use Rattle.rules.specs.Tools.{within, all}
use Rattle.rules.specs.Table.{list_in_range, filters_size}
use Rattle.rules.proofs.Members.{both, within_true, all_more}
use Rattle.rules.proofs.Placing.{one_more, counters_listed}
use Rattle.settings.proofs.filters_asked.Invariants.{shifts, SoFar}
use Rattle.settings.proofs.filters_asked.Goals as goal

-- a D in its range is that itself
kept : (d : List ℕ) → all (within 4 11) d ≡ true → shifts d ≡ d
unfolding all
kept [] h = refl
kept (D ∷ d) h =
    let parts = both (within 4 11 D) (all (within 4 11) d) h in
    let below : D < 16 = omega (arith, (within_true 4 11 D parts.0).1) in
    rw (mod-eq_of_lt below, kept d parts.1)

-- the power of a D as it is shifted
abbrev power : ℕ → ℕ
power D = 1 * 2 ^ (D % 16) % 4294967296

below : (D : ℕ) → D % 16 < 16
below D = mod-lt D (omega arith)

few : (D : ℕ) → 2 ^ (D % 16) ≤ 2 ^ 15
few D = pow_mono {j = 15} (omega (arith, below D))

power_is : (D : ℕ) → power D ≡ 2 ^ (D % 16)
power_is D =
    let same : 1 * 2 ^ (D % 16) ≡ 2 ^ (D % 16) = omega arith in
    rw same (mod-eq_of_lt (omega (arith, few D)))

-- one more D is read
one_read : (d : List ℕ) (good : Bool) (counters i : ℕ) → length d ≡ 32 → SoFar d good counters i → i < 32 →
    let D = get_or d i 0 in
    SoFar d (good && within 4 11 D) (counters + power D) (i + 1)
one_read d good counters i count at less =
    let D = get_or d i 0 in
    let there : i < length d = omega (arith, count) in
    let as-shifted : get_or (shifts d) i 0 ≡ D % 16 = get_or-map (λ D. D % 16) d i 0 in
    record {
      few = omega arith;
      each = rw (at.each, add-one i, all_more (within 4 11) d i there);
      sum = rw (power_is D, at.sum, ← as-shifted, add-one i) (sym (one_more (shifts d) i (omega (arith, length-map d (λ D. D % 16)))));
      fits = rw (power_is D) (omega (arith, few D, at.fits));
    }

pub loop-d-init : goal.loop-d-init
unfolding filters_size all
loop-d-init c = record { few = omega arith; each = refl; sum = refl; fits = omega arith }

pub loop-d-preserved : goal.loop-d-preserved
unfolding within
loop-d-preserved c =
    let at = c.loop-d in
    let count : length c.args.settings.d ≡ 32 = search rules in
    let inside : c.contains-good.result ≡ within 4 11 (get_or c.args.settings.d at.d-index 0) = search rules in
    rw inside (one_read c.args.settings.d at.good at.counters at.d-index count at.invariant (omega arith))

-- where the list is good, what was counted is what it asks
counted : (good whole : Bool) (counters size : ℕ) → good ≡ whole → (whole ≡ true → counters ≡ size) → then_some good counters ≡ then_some whole size
counted true true counters size e same = ap Some (same refl)
counted true false counters size e same = absurd (cc)
counted false true counters size e same = absurd (cc)
counted false false counters size e same = refl

pub returns : goal.returns
unfolding list_in_range
returns c =
    let d = c.args.settings.d in
    let at = c.loop-d in
    let count : length d ≡ 32 = search rules in
    let long : 32 ≤ at.d-index = c.loop-d-test.false in
    let good : at.good ≡ all (within 4 11) d = at.invariant.each ∙ ap (all (within 4 11)) (take_all at.d-index d (omega arith)) in
    c.then_some.ensures
    ∙ counted _ _ _ _ (good ∙ rw (eq-eqb _ _ count))
    (λ in_range. at.invariant.sum ∙ ap filters_size (take_all at.d-index (shifts d) (omega (arith, length-map d (λ D. D % 16))) ∙ kept d (both (eqb (length d) 32) _ in_range).1) ∙ sym (counters_listed _))
