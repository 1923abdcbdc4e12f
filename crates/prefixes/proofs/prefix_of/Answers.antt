-- A mask of j high bits clears the k low ones of a number of j + k = 32 bits: `and_high`.
use mathlib.Core.Path.{◌≡◌, ◌∙◌, ap, subst}
use Prim.Native.Nat.{ℕ, ◌+◌, ◌-◌, ◌*◌, ◌/◌, ◌^◌, ◌<◌}
use native.Mathlib.Nat.{add-sub_of_le}
use lib.Bits.{bit_and, and_high}
use lib.Pow.{shr_mod}
use Rattle.rules.specs.Table.{prefix}
use Rattle.prefixes.proofs.prefix_of.Goals as goal

masked : (n j k w : ℕ) → j + k ≡ w → n < 2 ^ w → bit_and n (2 ^ w - 2 ^ k) ≡ n / 2 ^ k * 2 ^ k
masked n j k w e =
    subst (λ (w : ℕ). n < 2 ^ w → bit_and n (2 ^ w - 2 ^ k) ≡ n / 2 ^ k * 2 ^ k) e
    (λ h. and_high n j k ∙ ap (λ (x : ℕ). x * 2 ^ k) (shr_mod j k h))

pub returns : goal.returns
unfolding prefix
returns c =
    let a = c.args in
    ap (bit_and a.address) c.mask.ensures
    ∙ masked a.address a.length (32 - a.length) 32 (add-sub_of_le c.requires) c.ranges.address.fits
