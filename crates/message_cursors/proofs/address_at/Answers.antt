-- Each octet is the byte that there is, or zero.
use Prim.Native.Nat.{ℕ, ◌+◌, ◌-◌}
use mathlib.Core.Path.{◌≡◌, refl}
use mathlib.Core.Bool.{Bool, true, false, cond}
use mathlib.Core.List.{List}
use native.Mathlib.Omega.{arith}
use lib.Dec.{ltb}
use lib.ListN.{get_or, take, drop}
use borrow.Author.Tests.{ltb-true, ltb-false}
use Rattle.std.proofs.lemmas.Grind.{common_steps}
use Rattle.message_format.specs.Format.{address_at, from_octets, octet, byte, bytes_for}
use Rattle.message_cursors.proofs.address_at.Goals as goal

own_octet : (bytes : List ℕ) (at bits n i : ℕ) → n ≡ bytes_for bits → get_or (take (at + n - at) (drop at bytes)) i 0 ≡ octet bytes at bits i
unfolding octet byte
own_octet bytes at bits n i many = go (ltb i (bytes_for bits)) refl
  where
    go : (has : Bool) → ltb i (bytes_for bits) ≡ has → get_or (take (at + n - at) (drop at bytes)) i 0 ≡ cond has (get_or bytes (at + i) 0) 0
    go true e = let within = ltb-true i (bytes_for bits) e in grind (arith, common_steps)
    go false e = let past = ltb-false i (bytes_for bits) e in grind (arith, common_steps)

pub returns : goal.returns
unfolding address_at from_octets
returns c =
    let a = c.args in
    let own = λ (i : ℕ). own_octet a.bytes.now a.at a.bits _ i c.bytes_for.ensures in
    rw c.from_be_bytes.ensures (simp (c.octet.ensures, c.octet-2.ensures, c.octet-3.ensures, c.octet-4.ensures, own 0, own 1, own 2, own 3))
