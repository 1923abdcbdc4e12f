-- A record, check by check; and what an answer tells.
use Prim.Native.Nat.{ℕ, ◌+◌, ◌*◌, ◌≤◌, ◌<◌}
use mathlib.Core.Path.{◌≡◌, refl, sym, subst}
use mathlib.Core.Bool.{Bool, true, false, cond, not, ◌&&◌, ◌||◌, true≢false}
use mathlib.Core.List.{List}
use native.Mathlib.Omega.{arith}
use lib.Dec.{leb, eqb}
use lib.ListN.{length}
use borrow.Author.Tests.{le-leb, lt-leb, leb-true, ne_eqb}
use Rattle.std.specs.Prelude.{Option, Some, None, Result, Ok, Err}
use Rattle.rules.specs.declared.Refusal.{Refusal}
use Rattle.rules.specs.declared.Refusal.TheVariants.{Malformed}
use Rattle.rules.specs.Table.{refuse}
use Rattle.rules.specs.Numbers.{number_given}
use Rattle.message_format.specs.Format.{byte, two_bytes}
use Rattle.replay_format.specs.Messages.{as_size, family_from, addresses_from, message_from, is_ipv4, is_update, too_short, holds_update}
use Rattle.replay_readers.specs.Held.{record_held}

module _ (bytes : List ℕ) where
  -- ---- A record, check by check

  -- the family stands at 18, or at 22
  pub family_low : 18 ≤ family_from bytes
  unfolding family_from as_size
  family_low = go (eqb (two_bytes bytes 6) 1)
    where
      go : (short : Bool) → 18 ≤ 12 + 2 * cond short 2 4 + 2
      go true = omega arith
      go false = omega arith

  pub family_high : family_from bytes ≤ 22
  unfolding family_from as_size
  family_high = go (eqb (two_bytes bytes 6) 1)
    where
      go : (short : Bool) → 12 + 2 * cond short 2 4 + 2 ≤ 22
      go true = omega arith
      go false = omega arith

  pub family_cut : length bytes < addresses_from bytes → record_held bytes ≡ Err Malformed
  unfolding record_held too_short
  family_cut short = rw (lt-leb _ _ short)

  module _ (whole : addresses_from bytes ≤ length bytes) where
    pub other_family : (two_bytes bytes (family_from bytes) ≡ 1 → ⊥) → record_held bytes ≡ Ok None
    unfolding record_held too_short holds_update is_ipv4
    other_family other = rw (le-leb _ _ whole, ne_eqb _ _ other)

    module _ (family : two_bytes bytes (family_from bytes) ≡ 1) where
      pub message_cut : length bytes < message_from bytes + 19 → record_held bytes ≡ Err Malformed
      unfolding record_held too_short is_ipv4
      message_cut short = rw (le-leb _ _ whole, family, lt-leb _ _ short)

      module _ (long : message_from bytes + 19 ≤ length bytes) where
        pub other_message : (byte bytes (message_from bytes + 18) ≡ 2 → ⊥) → record_held bytes ≡ Ok None
        unfolding record_held too_short holds_update is_ipv4 is_update
        other_message other = rw (le-leb _ _ whole, family, le-leb _ _ long, ne_eqb _ _ other)

        pub update_held : byte bytes (message_from bytes + 18) ≡ 2 → record_held bytes ≡ Ok (Some (message_from bytes))
        unfolding record_held too_short holds_update is_ipv4 is_update
        update_held update = rw (le-leb _ _ whole, family, le-leb _ _ long, update)

-- ---- What the answer tells

-- its number is the one that a record is given for being too short
pub held_refused : (bytes : List ℕ) → number_given (record_held bytes) ≡ refuse (too_short bytes) 12 0
unfolding record_held refuse
held_refused bytes = go (too_short bytes) (holds_update bytes)
  where
    go : (short update : Bool) → number_given (cond short (Err Malformed) (Ok (cond update (Some (message_from bytes)) None))) ≡ refuse short 12 0
    go true update = refl
    go false true = refl
    go false false = refl

-- an UPDATE of IPv4: its place is in the record
pub record UpdateTold (bytes : List ℕ) (at : ℕ) : Type 0 where
  pub long : too_short bytes ≡ false
  pub update : holds_update bytes ≡ true
  pub place : at ≡ message_from bytes
  pub inside : at ≤ length bytes

abbrev pub HeldTold : (bytes : List ℕ) → Result (Option ℕ) Refusal → Type 0
HeldTold bytes (Ok (Some at)) = UpdateTold bytes at
HeldTold bytes (Ok None) = (too_short bytes ≡ false) × (holds_update bytes ≡ false)
HeldTold bytes (Err e) = too_short bytes ≡ true

-- the message of an UPDATE starts within a record that is not too short
message_inside : (bytes : List ℕ) → too_short bytes ≡ false → holds_update bytes ≡ true → message_from bytes ≤ length bytes
unfolding too_short holds_update
message_inside bytes = go (leb (addresses_from bytes) (length bytes)) (is_ipv4 bytes) (leb (message_from bytes + 19) (length bytes)) refl
  where
    go : (whole ipv4 long : Bool) → leb (message_from bytes + 19) (length bytes) ≡ long → not whole || (ipv4 && not long) ≡ false
        → ipv4 && is_update bytes ≡ true → message_from bytes ≤ length bytes
    go true true true e short update = omega (arith, leb-true (message_from bytes + 19) (length bytes) e)
    go true true false e short update = absurd (true≢false short)
    go true false long e short update = absurd (true≢false (sym update))
    go false ipv4 long e short update = absurd (true≢false short)

pub held_told : (bytes : List ℕ) {answer : Result (Option ℕ) Refusal} → record_held bytes ≡ answer → HeldTold bytes answer
unfolding record_held
held_told bytes is = subst (HeldTold bytes) is (go (too_short bytes) (holds_update bytes) refl refl)
  where
    go : (short update : Bool) → too_short bytes ≡ short → holds_update bytes ≡ update
        → HeldTold bytes (cond short (Err Malformed) (Ok (cond update (Some (message_from bytes)) None)))
    go true update short holds = short
    go false true short holds = record { long = short; update = holds; place = refl; inside = message_inside bytes short holds }
    go false false short holds = (short, holds)
