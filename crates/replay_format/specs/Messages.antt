-- A record of a day: its header, AS numbers, interface, family and addresses, and then a message. Places are counted from the
-- first byte of the record, its header's, as the room has it; the record ends with its body.
use Rattle.std.specs.Prelude.{ℕ, ◌+◌, ◌*◌, Bool, cond, not, ◌&&◌, ◌||◌, List, [], length, drop, leb, eqb}
use Rattle.rules.specs.Calls.{Call}
use Rattle.message_format.specs.Format.{byte, two_bytes, well_formed}
use Rattle.message_format.specs.Reading.{update_refusal, message_calls}
use Rattle.stream_format.specs.declared.Kind.{Kind}

-- type 16, and subtype 1 or 4
abbrev pub day_kind : Kind
day_kind = record { number = 16; subtype = 1; also = 4 }

-- ---- Where its parts stand

-- an AS number has two bytes in subtype 1, and four in subtype 4
unfoldable pub as_size : (bytes : List ℕ) → ℕ
as_size bytes = cond (eqb (two_bytes bytes 6) 1) 2 4

-- the address family follows the header's 12 bytes, two AS numbers and the two bytes of the interface index
unfoldable pub family_from : (bytes : List ℕ) → ℕ
family_from bytes = 12 + 2 * as_size bytes + 2

-- the addresses follow its two bytes
unfoldable pub addresses_from : (bytes : List ℕ) → ℕ
addresses_from bytes = family_from bytes + 2

-- with IPv4 they have four bytes each; all that is left is the message
unfoldable pub message_from : (bytes : List ℕ) → ℕ
message_from bytes = addresses_from bytes + 8

unfoldable pub message_of : (bytes : List ℕ) → List ℕ
message_of bytes = drop (message_from bytes) bytes

-- ---- What it holds

-- the family is that of IPv4
unfoldable pub is_ipv4 : (bytes : List ℕ) → Bool
is_ipv4 bytes = eqb (two_bytes bytes (family_from bytes)) 1

-- the message is an UPDATE, by its type alone
unfoldable pub is_update : (bytes : List ℕ) → Bool
is_update bytes = eqb (byte bytes (message_from bytes + 18)) 2

-- the body ends before the family does or, with IPv4, before both addresses and the 19 bytes of a message's header do
unfoldable pub too_short : (bytes : List ℕ) → Bool
too_short bytes =
    not (leb (addresses_from bytes) (length bytes))
    || (is_ipv4 bytes && not (leb (message_from bytes + 19) (length bytes)))

-- it holds an UPDATE of IPv4
unfoldable pub holds_update : (bytes : List ℕ) → Bool
holds_update bytes = is_ipv4 bytes && is_update bytes

-- it is too short, or its UPDATE is not well-formed
unfoldable pub record_bad : (bytes : List ℕ) → Bool
record_bad bytes = too_short bytes || (holds_update bytes && not (well_formed (message_of bytes)))

-- ---- What it does

-- it holds an UPDATE that is not refused
unfoldable pub is_applied : (bytes hops : List ℕ) → Bool
is_applied bytes hops = holds_update bytes && eqb (update_refusal (message_of bytes) hops) 0

-- such a record makes the party's single calls of its UPDATE; any other makes none
unfoldable pub record_calls : (party : ℕ) (bytes hops : List ℕ) → List Call
record_calls party bytes hops = cond (is_applied bytes hops) (message_calls party (message_of bytes) hops) []
