-- A shift up and a shift down by 32 are one down by the rest, and nothing is lost on the way: the product has at most 64 bits.
use Prim.Native.Nat.{ℕ, ◌+◌, ◌-◌, ◌*◌, ◌/◌, ◌^◌}
use mathlib.Core.Path.{◌≡◌, ap, ◌∙◌, sym}
use native.Mathlib.Omega.{arith}
use lib.Pow.{shl_exact, shl-shr, shr-shr}
use Rattle.hashes.proofs.top_bits.Goals as goal

pub returns : goal.returns
returns c =
    let g = c.args.g in
    let bits = c.args.bits in
    let whole : 32 ≡ bits + (32 - bits) = omega (arith, c.requires) in
    ap (λ (n : ℕ). n / 2 ^ 32) (shl_exact 32 bits 64 c.ranges.g.fits (omega (arith, c.requires)))
    ∙ ap (λ (n : ℕ). g * 2 ^ bits / 2 ^ n) whole
    ∙ sym (shr-shr (g * 2 ^ bits) bits (32 - bits))
    ∙ ap (λ (n : ℕ). n / 2 ^ (32 - bits)) (shl-shr g bits)
