-- What reading gives, by the definitions of a message.
use Rattle.std.specs.Prelude.{ℕ, Bool, true, false, cond, List, leb, Result, Ok, Err, Option, Some, None}
use Rattle.std.proofs.Math.Option.{Option as Maybe, some, none}
use Rattle.rules.specs.declared.Refusal.{Refusal}
use Rattle.rules.specs.declared.Refusal.TheVariants.{Malformed}
use Rattle.message_format.specs.Format.{prefixes_fit, attributes_good, next_hop, withdrawn_to, announced_from, message_hop, well_formed}
use Rattle.message_format.specs.Reading.{place_in}
use Rattle.message_readers.specs.declared.Message.{Message}

-- the prefixes of a part, all of which fit, or a fault
unfoldable pub prefixes_read : (bytes : List ℕ) (from to : ℕ) → Result (Unit {0}) Refusal
prefixes_read bytes from to = cond (prefixes_fit bytes from to) (Ok tt) (Err Malformed)

-- a NEXT_HOP that is there or not
unfoldable pub given : Maybe ℕ → Option ℕ
given none = None
given (some address) = Some address

-- the NEXT_HOP of a part's attributes, or a fault
unfoldable pub hop_read : (bytes : List ℕ) (from to : ℕ) → Result (Option ℕ) Refusal
hop_read bytes from to = cond (attributes_good bytes from to) (Ok (given (next_hop bytes from to))) (Err Malformed)

-- the hop of a place in the list: one that is there and not above 65,535
unfoldable pub place_hop : (place : Maybe ℕ) → Option ℕ
place_hop none = None
place_hop (some place) = cond (leb place 65535) (Some place) None

-- the hop of an address
unfoldable pub hop_found : (hops : List ℕ) (address : ℕ) → Option ℕ
hop_found hops address = place_hop (place_in hops address)

-- the hop of what a message announces; 0 where that is nothing
unfoldable pub hop_due : (announces : Bool) → Option ℕ → (hops : List ℕ) → Option ℕ
hop_due false next_hop hops = Some 0
hop_due true None hops = None
hop_due true (Some address) hops = hop_found hops address

-- the number that an answer means: a hop has none; that one is wanted and missing is 13
unfoldable pub hop_number : Option ℕ → ℕ
hop_number (Some place) = 0
hop_number None = 13

-- a whole message
unfoldable pub message_read : (bytes : List ℕ) → Result Message Refusal
message_read bytes =
    cond (well_formed bytes)
    (Ok (record { withdrawn_to = withdrawn_to bytes; announced_from = announced_from bytes; next_hop = given (message_hop bytes) }))
    (Err Malformed)
