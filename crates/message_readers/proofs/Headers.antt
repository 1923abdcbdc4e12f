-- What a message's first checks tell.
use Prim.Native.Nat.{ℕ, zero, suc, ◌≤◌}
use mathlib.Core.Path.{◌≡◌, refl, sym, ◌∙◌}
use mathlib.Core.Bool.{Bool, true, false, cond, not, ◌&&◌}
use mathlib.Core.List.{List}
use native.Mathlib.Omega.{arith}
use lib.Dec.{leb, eqb}
use lib.ListN.{length, take}
use borrow.Author.Tests.{leb-true, le-leb, eq-eqb}
use Rattle.std.specs.Prelude.{Ok, Err}
use Rattle.std.proofs.lemmas.List.{get_or-take, length-take}
use Rattle.rules.specs.Tools.{within}
use Rattle.rules.proofs.Members.{both}
use Rattle.message_format.specs.Format.{byte, all_ones, two_bytes, header_good, withdrawn_to, announced_from, message_hop, well_formed}
use Rattle.rules.specs.declared.Refusal.TheVariants.{Malformed}
use Rattle.rules.specs.Table.{refuse}
use Rattle.rules.specs.Numbers.{number_given}
use Rattle.message_readers.specs.declared.Message.{Message}
use Rattle.message_readers.specs.Readings.{given, message_read}

-- the front of the bytes has the ones that they have
front : (bytes : List ℕ) (n m : ℕ) → n ≤ m → all_ones (take m bytes) n ≡ all_ones bytes n
unfolding all_ones byte
front bytes zero m low = refl
front bytes (suc n) m low = rw (front bytes n m (omega arith), get_or-take m bytes n 0 (omega arith))

ones_of : (bytes : List ℕ) (n : ℕ) → n ≤ length bytes → all_ones (take n bytes) (length (take n bytes)) ≡ all_ones bytes n
ones_of bytes n low =
    let many : length (take n bytes) ≡ n = omega (arith, length-take n bytes) in
    rw many (front bytes n n (omega arith))

module _ (message : List ℕ) where
  -- a message of another size
  pub not_sized : (23 ≤ length message → length message ≤ 4096 → ⊥) → header_good message ≡ false
  unfolding header_good within
  not_sized other = go (leb 23 (length message)) (leb (length message) 4096) refl refl
    where
      go : (low high : Bool) → leb 23 (length message) ≡ low → leb (length message) 4096 ≡ high → header_good message ≡ false
      go true true l h = absurd (other (leb-true _ _ l) (leb-true _ _ h))
      go true false l h = simp (l, h)
      go false high l h = simp l

  module _ (low : 23 ≤ length message) (high : length message ≤ 4096) where
    pub unmarked : all_ones (take 16 message) (length (take 16 message)) ≡ false → header_good message ≡ false
    unfolding header_good within
    unmarked other = simp (le-leb _ _ low, le-leb _ _ high, sym (ones_of message 16 (omega arith)) ∙ other)

    pub by_type : all_ones (take 16 message) (length (take 16 message)) ≡ true → two_bytes message 16 ≡ length message → header_good message ≡ eqb (byte message 18) 2
    unfolding header_good within
    by_type ones e = simp (le-leb _ _ low, le-leb _ _ high, sym (ones_of message 16 (omega arith)) ∙ ones, eq-eqb _ _ e)

pub header_size : (message : List ℕ) → header_good message ≡ true → (23 ≤ length message) × (length message ≤ 4096)
unfolding header_good within
header_size message good =
    let sizes = both (leb 23 (length message)) _ (both (leb 23 (length message) && leb (length message) 4096) _ good).0 in
    (leb-true _ _ sizes.0, leb-true _ _ sizes.1)

-- ---- What the answer means, and what it tells

-- A message is refused with 12 exactly where it is not well-formed.
pub read_refused : (bytes : List ℕ) → number_given (message_read bytes) ≡ refuse (not (well_formed bytes)) 12 0
unfolding message_read refuse
read_refused bytes = go (well_formed bytes)
  where
    go : (good : Bool) → number_given {A = Message} (cond good (Ok (record { withdrawn_to = withdrawn_to bytes; announced_from = announced_from bytes; next_hop = given (message_hop bytes) })) (Err Malformed)) ≡ cond (not good) 12 0
    go true = refl
    go false = refl

-- a message that was read: where its parts lie, and its NEXT_HOP
pub record MessageTold (bytes : List ℕ) (read : Message) : Type 0 where
  pub good : well_formed bytes ≡ true
  pub is : read ≡ record { withdrawn_to = withdrawn_to bytes; announced_from = announced_from bytes; next_hop = given (message_hop bytes) }

pub message_told : (bytes : List ℕ) {read : Message} → message_read bytes ≡ Ok read → MessageTold bytes read
unfolding message_read
message_told bytes {read} is = go (well_formed bytes) refl is
  where
    go : (good : Bool) → well_formed bytes ≡ good
        → cond good (Ok (record { withdrawn_to = withdrawn_to bytes; announced_from = announced_from bytes; next_hop = given (message_hop bytes) })) (Err Malformed) ≡ Ok read → MessageTold bytes read
    go true e is = record { good = e; is = cc }
    go false e is = absurd (cc)
