-- Each return is a law of proofs/Records.antt.
use Prim.Native.Nat.{ℕ, ◌+◌, ◌≤◌}
use mathlib.Core.List.{List}
use mathlib.Core.Path.{◌≡◌, sym, ◌∙◌}
use native.Mathlib.Omega.{arith}
use lib.ListN.{length}
use Rattle.message_format.specs.Format.{byte}
use Rattle.replay_format.specs.Messages.{family_from, addresses_from, message_from}
use Rattle.replay_readers.proofs.Records.{family_low, family_high, family_cut, other_family, message_cut, other_message, update_held}
use Rattle.replay_readers.proofs.read_record.Goals as goal

-- the family stands whole in the record
whole : (bytes : List ℕ) (family : ℕ) → family ≡ family_from bytes → family + 2 ≤ length bytes → addresses_from bytes ≤ length bytes
unfolding addresses_from
whole bytes family e h = omega arith

-- where the message starts
starts : (bytes : List ℕ) (family : ℕ) → family ≡ family_from bytes → family + 10 ≡ message_from bytes
unfolding message_from addresses_from
starts bytes family e = omega arith

pub returns-then-bytes-lt20 : goal.returns-then-bytes-lt20
unfolding addresses_from
returns-then-bytes-lt20 c = sym (family_cut _ (omega (arith, family_low c.args.bytes.now)))

pub overflow_add-family : goal.overflow_add-family
overflow_add-family c = record { fits = omega (arith, c.family_from-family.ensures, family_high c.args.bytes.now) }

pub returns-then-bytes-family : goal.returns-then-bytes-family
unfolding addresses_from
returns-then-bytes-family c = sym (family_cut _ (omega (arith, c.family_from-family.ensures, c.if-bytes-family.true)))

pub returns-then-two_bytes-ne1 : goal.returns-then-two_bytes-ne1
returns-then-two_bytes-ne1 c =
    sym (other_family _ (whole _ _ c.family_from-family.ensures c.if-bytes-family.false)
    (λ one. c.if-two_bytes-ne1.true ((rw c.family_from-family.ensures at c.two_bytes.ensures) ∙ one)))

pub returns-then-bytes-message : goal.returns-then-bytes-message
returns-then-bytes-message c =
    let family = c.family_from-family.ensures in
    sym (message_cut _ (whole _ _ family c.if-bytes-family.false) (sym (rw family at c.two_bytes.ensures) ∙ c.if-two_bytes-ne1.false)
    (rw (starts _ _ family) at c.if-bytes-message.true))

pub returns-then-bytes-message-ne2 : goal.returns-then-bytes-message-ne2
unfolding byte
returns-then-bytes-message-ne2 c =
    let family = c.family_from-family.ensures in
    sym (other_message _ (whole _ _ family c.if-bytes-family.false) (sym (rw family at c.two_bytes.ensures) ∙ c.if-two_bytes-ne1.false)
    (rw (starts _ _ family) at c.if-bytes-message.false) (rw (starts _ _ family) at c.if-bytes-message-ne2.true))

pub returns : goal.returns
unfolding byte
returns c =
    let family = c.family_from-family.ensures in
    rw (starts _ _ family) (sym (update_held _ (whole _ _ family c.if-bytes-family.false) (sym (rw family at c.two_bytes.ensures) ∙ c.if-two_bytes-ne1.false)
    (rw (starts _ _ family) at c.if-bytes-message.false) (rw (starts _ _ family) at c.if-bytes-message-ne2.false)))
