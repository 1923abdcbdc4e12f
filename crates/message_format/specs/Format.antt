-- What stands in a message, under the headings of docs/TABLE.md. Places are counted from the first byte of all, 0, and a
-- part ends before the byte at its end. Every definition computes, on any bytes and between any two places of them.
use Rattle.std.specs.Prelude.{ℕ, zero, suc, ◌+◌, ◌-◌, ◌*◌, ◌/◌, ◌%◌, ◌^◌, Bool, true, false, cond, ◌&&◌, List, [], ◌∷◌, map, length, get_or, ltb, leb, eqb}
use Rattle.std.proofs.Math.Option.{Option, some, none}
use Rattle.rules.specs.Tools.{within, all, those}
use Rattle.rules.specs.Table.{prefix}

-- ---- Numbers

-- a byte, by its place
unfoldable pub byte : (bytes : List ℕ) (at : ℕ) → ℕ
byte bytes at = get_or bytes at 0

-- four bytes as a number, the first one highest
unfoldable pub from_octets : (b0 b1 b2 b3 : ℕ) → ℕ
from_octets b0 b1 b2 b3 = b0 * 2 ^ 24 + b1 * 2 ^ 16 + b2 * 2 ^ 8 + b3

-- the number in the two bytes from a place on
unfoldable pub two_bytes : (bytes : List ℕ) (at : ℕ) → ℕ
two_bytes bytes at = from_octets 0 0 (byte bytes at) (byte bytes (at + 1))

-- the number in the four bytes from a place on
unfoldable pub four_bytes : (bytes : List ℕ) (at : ℕ) → ℕ
four_bytes bytes at = from_octets (byte bytes at) (byte bytes (at + 1)) (byte bytes (at + 2)) (byte bytes (at + 3))

-- ---- What stands one after the other

-- from a place on, where each one starts that starts before the end; they are no more than `most`
unfoldable pub some_starts : (after : ℕ → ℕ) (most at end : ℕ) → List ℕ
some_starts after zero at end = []
some_starts after (suc most) at end = cond (ltb at end) (at ∷ some_starts after most (after at) end) []

-- each takes a byte or more, so that a part has no more of them than bytes
unfoldable pub starts : (after : ℕ → ℕ) (at end : ℕ) → List ℕ
starts after at end = some_starts after (end - at) at end

-- ---- Prefixes

-- a prefix and its length
pub record Prefix : Type 0 where
  pub prefix : ℕ
  pub length : ℕ

-- as many bytes as hold so many bits
unfoldable pub bytes_for : (bits : ℕ) → ℕ
bytes_for bits = (bits + 7) / 8

-- octet i of a prefix of so many bits whose bytes begin at a place: those that it has no byte for are zero
unfoldable pub octet : (bytes : List ℕ) (at bits i : ℕ) → ℕ
octet bytes at bits i = cond (ltb i (bytes_for bits)) (byte bytes (at + i)) 0

-- the address that its octets are
unfoldable pub address_at : (bytes : List ℕ) (at bits : ℕ) → ℕ
address_at bytes at bits =
    from_octets (octet bytes at bits 0) (octet bytes at bits 1) (octet bytes at bits 2) (octet bytes at bits 3)

-- a prefix: one byte with its length in bits, then as many bytes as hold them; the bits after the length are cleared
unfoldable pub prefix_from : (bytes : List ℕ) (at : ℕ) → Prefix
prefix_from bytes at =
    record { prefix = prefix (address_at bytes (at + 1) (byte bytes at)) (byte bytes at); length = byte bytes at }

-- where the next one starts
unfoldable pub after_prefix : (bytes : List ℕ) (at : ℕ) → ℕ
after_prefix bytes at = at + 1 + bytes_for (byte bytes at)

-- a prefix length is at most 32, and the prefix ends where its part does or before
unfoldable pub prefix_fits : (bytes : List ℕ) (at end : ℕ) → Bool
prefix_fits bytes at end = leb (byte bytes at) 32 && leb (after_prefix bytes at) end

-- each of the prefixes that stand one after the other in a part fits
unfoldable pub prefixes_fit : (bytes : List ℕ) (at end : ℕ) → Bool
prefixes_fit bytes at end = all (λ here. prefix_fits bytes here end) (starts (after_prefix bytes) at end)

-- these prefixes, in their order
unfoldable pub prefixes : (bytes : List ℕ) (at end : ℕ) → List Prefix
prefixes bytes at end = map (prefix_from bytes) (starts (after_prefix bytes) at end)

-- ---- Path attributes

-- flag bit 16 of an attribute: its length has two bytes
unfoldable pub extended : (bytes : List ℕ) (at : ℕ) → Bool
extended bytes at = eqb (byte bytes at / 16 % 2) 1

-- its type, after the flags
unfoldable pub type_of : (bytes : List ℕ) (at : ℕ) → ℕ
type_of bytes at = byte bytes (at + 1)

-- where its value starts: after flags, type and length
unfoldable pub value_from : (bytes : List ℕ) (at : ℕ) → ℕ
value_from bytes at = at + cond (extended bytes at) 4 3

-- how many bytes the value has
unfoldable pub value_size : (bytes : List ℕ) (at : ℕ) → ℕ
value_size bytes at = cond (extended bytes at) (two_bytes bytes (at + 2)) (byte bytes (at + 2))

-- where the next attribute starts
unfoldable pub after_attribute : (bytes : List ℕ) (at : ℕ) → ℕ
after_attribute bytes at = value_from bytes at + value_size bytes at

-- flags, type and length, and then the value, end where the attributes do or before
unfoldable pub attribute_fits : (bytes : List ℕ) (at end : ℕ) → Bool
attribute_fits bytes at end = leb (value_from bytes at) end && leb (after_attribute bytes at) end

-- each of the attributes that stand one after the other fits
unfoldable pub attributes_fit : (bytes : List ℕ) (at end : ℕ) → Bool
attributes_fit bytes at end = all (λ here. attribute_fits bytes here end) (starts (after_attribute bytes) at end)

-- where each NEXT_HOP, of type 3, starts; every other attribute is stepped over
unfoldable pub next_hops : (bytes : List ℕ) (at end : ℕ) → List ℕ
next_hops bytes at end = those (λ here. eqb (type_of bytes here) 3) (starts (after_attribute bytes) at end)

-- there are not two, and one has four bytes
unfoldable pub at_most_one : (bytes : List ℕ) (hops : List ℕ) → Bool
at_most_one bytes [] = true
at_most_one bytes (at ∷ []) = eqb (value_size bytes at) 4
at_most_one bytes (at ∷ another ∷ hops) = false

-- the attributes of a part are well-formed
unfoldable pub attributes_good : (bytes : List ℕ) (at end : ℕ) → Bool
attributes_good bytes at end = attributes_fit bytes at end && at_most_one bytes (next_hops bytes at end)

-- the address in the first of these, if there is one
unfoldable pub first_hop : (bytes : List ℕ) (hops : List ℕ) → Option ℕ
first_hop bytes [] = none
first_hop bytes (at ∷ hops) = some (four_bytes bytes (value_from bytes at))

-- the NEXT_HOP of a part's attributes
unfoldable pub next_hop : (bytes : List ℕ) (at end : ℕ) → Option ℕ
next_hop bytes at end = first_hop bytes (next_hops bytes at end)

-- ---- A message's parts

-- the first n bytes are all ones
unfoldable pub all_ones : (bytes : List ℕ) (n : ℕ) → Bool
all_ones bytes zero = true
all_ones bytes (suc n) = all_ones bytes n && eqb (byte bytes n) 255

-- the marker of sixteen bytes, the length of the whole, which is 23 to 4,096, and type 2
unfoldable pub header_good : (message : List ℕ) → Bool
header_good message =
    within 23 4096 (length message)
    && (all_ones message 16 && (eqb (two_bytes message 16) (length message) && eqb (byte message 18) 2))

-- the withdrawn routes follow the two bytes that say how many bytes they have
abbrev pub withdrawn_from : ℕ
withdrawn_from = 21

-- they end after so many
unfoldable pub withdrawn_to : (message : List ℕ) → ℕ
withdrawn_to message = 21 + two_bytes message 19

-- the attributes follow two bytes of the same meaning
unfoldable pub attributes_from : (message : List ℕ) → ℕ
attributes_from message = withdrawn_to message + 2

-- where they end; all that is left is announced
unfoldable pub announced_from : (message : List ℕ) → ℕ
announced_from message = attributes_from message + two_bytes message (withdrawn_to message)

-- no part overruns the message
unfoldable pub parts_fit : (message : List ℕ) → Bool
parts_fit message = leb (attributes_from message) (length message) && leb (announced_from message) (length message)

-- the withdrawn prefixes
unfoldable pub withdrawn_prefixes : (message : List ℕ) → List Prefix
withdrawn_prefixes message = prefixes message withdrawn_from (withdrawn_to message)

-- the announced ones
unfoldable pub announced_prefixes : (message : List ℕ) → List Prefix
announced_prefixes message = prefixes message (announced_from message) (length message)

-- prefixes are announced
unfoldable pub announces : (message : List ℕ) → Bool
announces message = ltb (announced_from message) (length message)

-- the message's NEXT_HOP
unfoldable pub message_hop : (message : List ℕ) → Option ℕ
message_hop message = next_hop message (attributes_from message) (announced_from message)

-- what stands in the parts is well-formed
unfoldable pub contents_good : (message : List ℕ) → Bool
contents_good message =
    prefixes_fit message withdrawn_from (withdrawn_to message)
    && (attributes_good message (attributes_from message) (announced_from message)
    && prefixes_fit message (announced_from message) (length message))

-- a well-formed message
unfoldable pub well_formed : (message : List ℕ) → Bool
well_formed message = header_good message && (parts_fit message && contents_good message)
