-- The message that withdraws a route says so, and nothing more; and reading it is the withdrawal.
use Prim.Native.Nat.{ℕ, ◌^◌, ◌≤◌, ◌<◌}
use mathlib.Core.Path.{◌≡◌, ap}
use mathlib.Core.Bool.{Bool, true, false, cond}
use mathlib.Core.List.{List, [], ◌∷◌}
use mathlib.Core.Option.{Option, none}
use native.Mathlib.Omega.{arith}
use lib.ListN.{length, length-append, length-take}
use lib.Dec.{eqb}
use borrow.Author.Tests.{le-leb}
use Rattle.rules.specs.declared.Settings.{Settings}
use Rattle.rules.specs.Tools.{within, all, those}
use Rattle.rules.specs.Table.{Memory, prefix, loose, refuse, party_refusal}
use Rattle.rules.specs.Calls.{Withdraw, run}
use Rattle.rules.proofs.Prefixes.{loose_false}
use Rattle.message_format.specs.Format.{byte, from_octets, two_bytes, some_starts, starts, Prefix, bytes_for, octet, address_at, prefix_from, after_prefix, prefix_fits, prefixes_fit, prefixes, attributes_fit, next_hops, at_most_one, attributes_good, first_hop, next_hop, all_ones, header_good, withdrawn_to, attributes_from, announced_from, parts_fit, withdrawn_prefixes, announced_prefixes, announces, message_hop, contents_good, well_formed}
use Rattle.message_format.specs.Reading.{hop_place, hop_in, update_refusal, message_refusal, withdrawals, announcements, message_calls, counts, refused_message, apply_message}
use Rattle.message_format.specs.Writing.{octets, prefix_bytes, withdrawal_size, withdrawal}
use Rattle.message_format.proofs.Octets.{by_bytes}

-- what is read in a message
record Contents : Type 0 where
  formed : Bool
  withdrawn : List Prefix
  announced : List Prefix
  announcing : Bool
  hop : Option ℕ

contents : (message : List ℕ) → Contents
contents message = record {
  formed = well_formed message;
  withdrawn = withdrawn_prefixes message;
  announced = announced_prefixes message;
  announcing = announces message;
  hop = message_hop message;
}

-- one prefix is withdrawn, and nothing is announced
abbrev only : (p L : ℕ) → Contents
only p L = record {
  formed = true;
  withdrawn = record { length = L; prefix = p } ∷ [];
  announced = [];
  announcing = false;
  hop = none;
}

-- The message has the size that it is asked room for.
pub withdrawal_length : (p L : ℕ) → L ≤ 32 → length (withdrawal p L) ≡ withdrawal_size L
unfolding withdrawal withdrawal_size prefix_bytes octets bytes_for
withdrawal_length p L short = simp (length-append, length-take) (omega arith)

module _ (p L : ℕ) (short : L ≤ 32) (tight : loose p L ≡ false) (word : p < 2 ^ 32) where
  -- bytes that are all of the prefix give it back
  whole : (q : ℕ) → q ≡ p → only (prefix q L) L ≡ only p L
  whole q e = rw (e, (loose_false p L).0 tight)

  -- all that is read in it: the five numbers of bytes one by one
  said : contents (withdrawal p L) ≡ only p L
  unfolding contents byte from_octets two_bytes some_starts starts all those octet address_at prefix_from after_prefix prefix_fits prefixes_fit prefixes attributes_fit next_hops at_most_one attributes_good first_hop next_hop all_ones header_good withdrawn_to attributes_from announced_from parts_fit withdrawn_prefixes announced_prefixes announces message_hop contents_good well_formed octets prefix_bytes withdrawal_size withdrawal within
  said =
      let few = le-leb L 32 short in
      by_bytes p L short tight
      (λ h. simp (h.many, few) (whole _ (omega arith)))
      (λ h. simp (h.many, few) (whole _ (omega arith)))
      (λ h. simp (h.many, few) (whole _ (omega arith)))
      (λ h. simp (h.many, few) (whole _ (omega arith)))
      (λ h. simp (h.many, few) (whole _ (omega arith)))

  -- The message is well-formed.
  pub withdrawal_good : well_formed (withdrawal p L) ≡ true
  unfolding contents
  withdrawal_good = ap (λ (c : Contents). c.formed) said

  -- It withdraws the route's prefix alone.
  pub withdrawal_says : withdrawn_prefixes (withdrawal p L) ≡ record { length = L; prefix = p } ∷ []
  unfolding contents
  withdrawal_says = ap (λ (c : Contents). c.withdrawn) said

  -- It announces nothing, and names no hop.
  pub withdrawal_no_more : (announced_prefixes (withdrawal p L) ≡ []) × ((announces (withdrawal p L) ≡ false) × (message_hop (withdrawal p L) ≡ none))
  unfolding contents
  withdrawal_no_more = (ap (λ (c : Contents). c.announced) said, (ap (λ (c : Contents). c.announcing) said, ap (λ (c : Contents). c.hop) said))

  -- Its one call is the withdrawal of the route, for whichever party it is read.
  pub withdrawal_calls : (party : ℕ) (hops : List ℕ) → message_calls party (withdrawal p L) hops ≡ Withdraw party p L ∷ []
  unfolding message_calls withdrawals announcements hop_in hop_place
  withdrawal_calls party hops = simp (withdrawal_says, withdrawal_no_more.1.1)

  -- Reading it does and leaves what that call does, whatever the table and the hops; memory or a party that every
  -- such call refuses is refused with its number.
  pub reading_gives_it_back : (t : Settings) (m : Memory) (party : ℕ) (hops : List ℕ) → apply_message t m party (withdrawal p L) hops
      ≡ cond (eqb (party_refusal t m party 0) 0) (counts (run t m (Withdraw party p L ∷ []))) (refused_message (party_refusal t m party 0) m)
  unfolding apply_message update_refusal message_refusal refuse
  reading_gives_it_back t m party hops = simp (withdrawal_good, withdrawal_no_more.1.0, withdrawal_calls)
