-- A record of a dump: one prefix, and an entry for each neighbour that announced it. Places are counted from the first
-- byte of the record, its header's, as the room has it; the record ends with its body.
use Rattle.std.specs.Prelude.{ℕ, zero, suc, ◌+◌, Bool, cond, ◌&&◌, List, [], ◌∷◌, length, leb, eqb}
use Rattle.std.proofs.Math.Option.{Option, none}
use Rattle.rules.specs.Tools.{all}
use Rattle.rules.specs.Calls.{Call}
use Rattle.message_format.specs.Format.{byte, two_bytes, prefix_from, after_prefix, attributes_good, next_hop}
use Rattle.message_format.specs.Reading.{hop_place, is_hop, announcements}
use Rattle.stream_format.specs.declared.Kind.{Kind}

-- type 13 and subtype 2
abbrev pub dump_kind : Kind
dump_kind = record { number = 13; subtype = 2; also = 2 }

-- ---- Prefix and entries

-- the prefix follows the header's 12 bytes and the four of the sequence number
abbrev pub route_from : ℕ
route_from = 16

-- two bytes after it say how many entries follow
unfoldable pub entries_count : (bytes : List ℕ) → ℕ
entries_count bytes = two_bytes bytes (after_prefix bytes route_from)

-- where the first one starts
unfoldable pub entries_from : (bytes : List ℕ) → ℕ
entries_from bytes = after_prefix bytes route_from + 2

-- an entry's attributes follow two bytes of peer index, four of time and two that say how many bytes they have
unfoldable pub entry_attributes : (at : ℕ) → ℕ
entry_attributes at = at + 8

-- where they end, and the next entry starts
unfoldable pub after_entry : (bytes : List ℕ) (at : ℕ) → ℕ
after_entry bytes at = entry_attributes at + two_bytes bytes (at + 6)

-- where each of so many entries starts
unfoldable pub entry_starts : (bytes : List ℕ) (many at : ℕ) → List ℕ
entry_starts bytes zero at = []
entry_starts bytes (suc many) at = at ∷ entry_starts bytes many (after_entry bytes at)

-- where the last of so many entries ends
unfoldable pub entries_to : (bytes : List ℕ) (many at : ℕ) → ℕ
entries_to bytes zero at = at
entries_to bytes (suc many) at = entries_to bytes many (after_entry bytes at)

-- where each of the record's entries starts
unfoldable pub entries : (bytes : List ℕ) → List ℕ
entries bytes = entry_starts bytes (entries_count bytes) (entries_from bytes)

-- ---- A well-formed record

-- an entry's attributes are well-formed, by themselves
unfoldable pub entry_good : (bytes : List ℕ) (at : ℕ) → Bool
entry_good bytes at = attributes_good bytes (entry_attributes at) (after_entry bytes at)

-- the parts end exactly where the record does
unfoldable pub ends_well : (bytes : List ℕ) → Bool
ends_well bytes = eqb (entries_to bytes (entries_count bytes) (entries_from bytes)) (length bytes)

-- the prefix length is at most 32, the parts end where the record does, and the attributes of every entry are well-formed
unfoldable pub record_good : (bytes : List ℕ) → Bool
record_good bytes = leb (byte bytes route_from) 32 && (ends_well bytes && all (entry_good bytes) (entries bytes))

-- ---- What a record does

-- the hop of an entry: the lowest place of its NEXT_HOP in the list
unfoldable pub entry_hop : (bytes hops : List ℕ) (at : ℕ) → Option ℕ
entry_hop bytes hops at = hop_place hops (next_hop bytes (entry_attributes at) (after_entry bytes at))

-- the first of these entries' hops that is one
unfoldable pub chosen_hop : (bytes hops entries : List ℕ) → Option ℕ
chosen_hop bytes hops [] = none
chosen_hop bytes hops (at ∷ entries) =
    let hop = entry_hop bytes hops at in
    cond (is_hop hop) hop (chosen_hop bytes hops entries)

-- the hop of the record's route
unfoldable pub route_hop : (bytes hops : List ℕ) → Option ℕ
route_hop bytes hops = chosen_hop bytes hops (entries bytes)

-- a record is the party's add of its prefix with that hop; with none it is no call
unfoldable pub record_calls : (party : ℕ) (bytes hops : List ℕ) → List Call
record_calls party bytes hops = announcements party (route_hop bytes hops) (prefix_from bytes route_from ∷ [])
