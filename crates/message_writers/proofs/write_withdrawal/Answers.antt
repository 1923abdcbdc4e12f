-- Past the checks, the bytes that are copied are the withdrawal: `front`.
use Prim.Native.Nat.{ℕ, ◌+◌, ◌/◌, ◌%◌, ◌^◌, ◌≤◌, ◌<◌}
use mathlib.Core.Path.{◌≡◌, sym, ap, ◌∙◌}
use mathlib.Core.Bool.{false}
use mathlib.Core.List.{List, [], ◌∷◌, ◌++◌}
use native.Mathlib.Omega.{arith}
use lib.ListN.{take, replicate}
use borrow.Author.Tests.{lt-ltb, le-ltb, eq-eqb, ne_eqb}
use Rattle.rules.specs.Table.{prefix, loose, refuse, answered, listed}
use Rattle.rules.proofs.Prefixes.{loose_false}
use Rattle.message_format.specs.Format.{bytes_for}
use Rattle.message_format.specs.Writing.{octets, prefix_bytes, withdrawal_size, withdrawal, writing_refusal, write_withdrawal}
use Rattle.message_format.proofs.Octets.{by_bytes}
use Rattle.message_writers.proofs.write_withdrawal.Goals as goal

-- a message with all four octets of a prefix that has n bytes
longest : (p L n : ℕ) → List ℕ
longest p L n = replicate 16 255 ++ (0 ∷ (24 + n) ∷ 2 ∷ 0 ∷ (1 + n) ∷ L ∷ octets p) ++ (0 ∷ 0 ∷ [])

module _ (p L : ℕ) (short : L ≤ 32) (tight : loose p L ≡ false) (word : p < 2 ^ 32) where
  -- the octets that it has no byte for are zero, and so are the two bytes after it
  front : take (24 + bytes_for L) (longest p L (bytes_for L)) ≡ withdrawal p L
  unfolding longest withdrawal withdrawal_size prefix_bytes octets
  front =
      by_bytes p L short tight
      (λ h. let o0 : p / 2 ^ 24 ≡ 0 = omega arith in let o1 : p / 2 ^ 16 % 2 ^ 8 ≡ 0 = omega arith in rw (h.many, o0, o1))
      (λ h. let o1 : p / 2 ^ 16 % 2 ^ 8 ≡ 0 = omega arith in let o2 : p / 2 ^ 8 % 2 ^ 8 ≡ 0 = omega arith in rw (h.many, o1, o2))
      (λ h. let o2 : p / 2 ^ 8 % 2 ^ 8 ≡ 0 = omega arith in let o3 : p % 2 ^ 8 ≡ 0 = omega arith in rw (h.many, o2, o3))
      (λ h. let o3 : p % 2 ^ 8 ≡ 0 = omega arith in rw (h.many, o3))
      (λ h. rw h.many)

  -- room of its size holds it after the copy
  copied : (n : ℕ) {left : List ℕ} → n ≡ bytes_for L → left ≡ take (24 + n) (longest p L n) → withdrawal p L ≡ left
  copied n many e = sym (e ∙ rw many front)

-- the first two checks passed
tight_so : (p L : ℕ) {q : ℕ} → q ≡ prefix p L → q ≡ p → loose p L ≡ false
tight_so p L e same = (loose_false _ _).1 (sym e ∙ same)

-- the message's size is known
size : (L : ℕ) {n : ℕ} → n ≡ bytes_for L → 24 + n ≡ withdrawal_size L
unfolding withdrawal_size
size L e = ap (λ (n : ℕ). 24 + n) e

pub returns-then-length-gt32 : goal.returns-then-length-gt32
unfolding write_withdrawal writing_refusal refuse listed
returns-then-length-gt32 c = rw (lt-ltb _ _ c.if-length-gt32.true)

pub returns-then-prefix_of-p : goal.returns-then-prefix_of-p
unfolding write_withdrawal writing_refusal refuse listed loose
returns-then-prefix_of-p c =
    rw (le-ltb _ _ c.if-length-gt32.false, ne_eqb _ _ (λ e. c.if-prefix_of-p.true (c.prefix_of.ensures ∙ e)))

pub returns-then-room-size : goal.returns-then-room-size
unfolding write_withdrawal writing_refusal refuse listed
returns-then-room-size c =
    rw (le-ltb _ _ c.if-length-gt32.false, tight_so _ _ c.prefix_of.ensures c.if-prefix_of-p.false, ne_eqb _ _ (λ e. c.if-room-size.true (e ∙ sym (size _ c.bytes_for-count.ensures))))

pub returns : goal.returns
unfolding write_withdrawal writing_refusal refuse listed longest octets
returns c =
    let short = c.if-length-gt32.false in
    let tight = tight_so _ _ c.prefix_of.ensures c.if-prefix_of-p.false in
    let first : c.args.p / 2 ^ 24 % 2 ^ 8 ≡ c.args.p / 2 ^ 24 = omega arith in
    rw (le-ltb _ _ short, tight, eq-eqb _ _ (c.if-room-size.false ∙ size _ c.bytes_for-count.ensures))
    (ap (answered 0) (copied _ _ short tight (omega arith) _ c.bytes_for-count.ensures
    (rw (c.copy_from_slice.ensures.after, c.copy_from_slice-2.ensures.after, c.to_be_bytes.ensures, first) at c.copy_from_slice-3.ensures.after)))
