-- The bit is the remainder by two of the flags in sixteens.
use Prim.Native.Nat.{ℕ, zero, suc, ◌*◌, ◌<◌}
use mathlib.Core.Path.{◌≡◌, refl}
use mathlib.Core.Bool.{not}
use native.Mathlib.Omega.{arith}
use lib.ListN.{get_or}
use lib.Dec.{eqb}
use Rattle.std.proofs.Common.{nat_eq}
use Rattle.std.proofs.lemmas.Nat.Bits.{and_pow}
use Rattle.message_format.specs.Format.{extended, byte}
use Rattle.message_cursors.proofs.is_extended.Goals as goal

flag : (bit : ℕ) → bit < 2 → not (nat_eq (bit * 16) 0) ≡ eqb bit 1
flag zero low = refl
flag (suc zero) low = refl
flag (suc (suc bit)) low = absurd (omega arith)

pub returns : goal.returns
unfolding extended byte
returns c = rw (and_pow (get_or c.args.bytes.now c.args.at 0) 4) (flag _ (omega arith))
