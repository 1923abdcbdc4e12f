-- What a history has of a message, and what a message and a written withdrawal can be refused for.
use Rattle.std.specs.Prelude.{ℕ, zero, suc, ◌+◌, ◌/◌, ◌%◌, Bool, true, false, cond, not, ◌&&◌, ◌||◌, List, [], ◌∷◌, ◌++◌, ltb, leb, eqb, length, take, drop, get_or}
use Rattle.std.proofs.Math.Option.{Option, some, none}
use Rattle.rules.specs.declared.Settings.{Settings}
use Rattle.rules.specs.Table.{Memory}
use Rattle.rules.specs.Calls.{Call}
use Rattle.message_format.specs.Format.{byte, from_octets, two_bytes, announced_from, message_hop}
use Rattle.message_format.specs.Reading.{message_calls}
use Rattle.message_format.specs.Writing.{withdrawal}
use Rattle.promises.specs.Demands.{Condition, ◌when◌, outside, some_below, every_below, party_conditions, route_conditions}

-- ---- A message in a history

-- its single calls, the party's; a refused message has none
unfoldable pub heard_calls : (party : ℕ) (message hops : List ℕ) (refusal : ℕ) → List Call
heard_calls party message hops refusal = cond (eqb refusal 0) (message_calls party message hops) []

-- ---- The form of a message

-- What is wrong with a message, spelled apart from crates/message_format, which looks at places of a message: here bytes are
-- taken off the front, one after the other, until they end. The two share how bytes are read as numbers, and no more.

-- prefixes one after the other, with so many bytes of the first one still due: one is longer than 32, or the bytes end
-- within one
unfoldable pub bad_prefixes : (due : ℕ) (bytes : List ℕ) → Bool
bad_prefixes zero [] = false
bad_prefixes (suc due) [] = true
bad_prefixes zero (L ∷ bytes) = ltb 32 L || bad_prefixes ((L + 7) / 8) bytes
bad_prefixes (suc due) (b ∷ bytes) = bad_prefixes due bytes

-- what is due next among attributes: a type, after flags that say whether a long length follows it; the first byte of a long
-- length; the last byte of a length; or so many bytes of a value, after which another attribute may begin
pub data Due : Type 0 where
  Kind : (long : Bool) → Due
  High : (kind : ℕ) → Due
  Low : (kind high : ℕ) → Due
  Value : (left : ℕ) → Due

-- attributes one after the other: the bytes end within one, or one is a NEXT_HOP, of type 3, that is not of four bytes or is
-- not the first one seen
unfoldable pub bad_attributes : (seen : Bool) → Due → (bytes : List ℕ) → Bool
bad_attributes seen (Kind long) [] = true
bad_attributes seen (Kind long) (kind ∷ bytes) = bad_attributes seen (cond long (High kind) (Low kind 0)) bytes
bad_attributes seen (High kind) [] = true
bad_attributes seen (High kind) (high ∷ bytes) = bad_attributes seen (Low kind high) bytes
bad_attributes seen (Low kind high) [] = true
bad_attributes seen (Low kind high) (low ∷ bytes) =
    let size = from_octets 0 0 high low in
    cond (eqb kind 3)
    (seen || (not (eqb size 4) || bad_attributes true (Value size) bytes))
    (bad_attributes seen (Value size) bytes)
bad_attributes seen (Value zero) [] = false
bad_attributes seen (Value zero) (flags ∷ bytes) = bad_attributes seen (Kind (eqb (flags / 16 % 2) 1)) bytes
bad_attributes seen (Value (suc left)) [] = true
bad_attributes seen (Value (suc left)) (b ∷ bytes) = bad_attributes seen (Value left) bytes

-- the attributes, behind two bytes with their size, and all that is left, the announced prefixes: one of them is bad, or
-- the attributes overrun the message
unfoldable pub bad_from_attributes : (bytes : List ℕ) → Bool
bad_from_attributes [] = true
bad_from_attributes (b ∷ []) = true
bad_from_attributes (high ∷ low ∷ bytes) =
    let size = from_octets 0 0 high low in
    ltb (length bytes) size || (bad_attributes false (Value 0) (take size bytes) || bad_prefixes 0 (drop size bytes))

-- all that follows the head: the withdrawn prefixes, behind two bytes with their size, and then that
unfoldable pub bad_parts : (bytes : List ℕ) → Bool
bad_parts [] = true
bad_parts (b ∷ []) = true
bad_parts (high ∷ low ∷ bytes) =
    let size = from_octets 0 0 high low in
    ltb (length bytes) size || (bad_prefixes 0 (take size bytes) || bad_from_attributes (drop size bytes))

-- a marker not all ones, a length that is not the lent one or is outside 23 to 4,096, a type other than 2, or bad parts
unfoldable pub malformed : (message : List ℕ) → Bool
malformed message =
    not (every_below (λ i. eqb (byte message i) 255) 16)
    || not (eqb (two_bytes message 16) (length message))
    || outside 23 4096 (length message)
    || not (eqb (byte message 18) 2)
    || bad_parts (drop 19 message)

-- ---- Numbers given back

-- no NEXT_HOP, or one that no place of the list up to 65,535 has; which one a message has is read as it is applied
unfoldable pub unknown : (hops : List ℕ) → Option ℕ → Bool
unknown hops none = true
unknown hops (some address) = not (some_below (λ i. leb i 65535 && eqb (get_or hops i 0) address) (length hops))

-- prefixes are announced, and their hop is so
unfoldable pub no_hop : (message hops : List ℕ) → Bool
no_hop message hops = ltb (announced_from message) (length message) && unknown hops (message_hop message)

-- what a message looks at: settings, sizes and party as every update, its form, and then the hop of what it announces
unfoldable pub message_conditions : Settings → Memory → (party : ℕ) (message hops : List ℕ) → List Condition
message_conditions t m party message hops =
    party_conditions t m party
    ++ (12 when malformed message)
    ∷ (13 when no_hop message hops)
    ∷ []

-- what a written withdrawal looks at: the route as every update, and that the room is of the message's size
unfoldable pub writing_conditions : (p L : ℕ) (room : List ℕ) → List Condition
writing_conditions p L room = route_conditions p L ++ (18 when not (eqb (length room) (length (withdrawal p L)))) ∷ []
