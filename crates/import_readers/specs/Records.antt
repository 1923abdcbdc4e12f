-- What reading gives, by the definitions of a record.
use Rattle.std.specs.Prelude.{ℕ, cond, ◌&&◌, List, length, eqb, Option, Some, None, Result, Ok, Err}
use Rattle.std.proofs.Math.Option.{Option as Maybe, some, none}
use Rattle.rules.specs.Tools.{all}
use Rattle.rules.specs.declared.Refusal.{Refusal}
use Rattle.rules.specs.declared.Refusal.TheVariants.{Malformed}
use Rattle.message_format.specs.Format.{Prefix, prefix_from}
use Rattle.message_readers.specs.Readings.{place_hop}
use Rattle.import_format.specs.Routes.{route_from, entry_starts, entries_to, entry_good, chosen_hop, route_hop, record_good}
use Rattle.import_readers.specs.declared.RouteRead.{RouteRead}

-- so many entries from a place on: the first hop among them, if one is there, or a fault, which is 12
unfoldable pub entries_read : (bytes : List ℕ) (from many : ℕ) (hops : List ℕ) → Result (Option ℕ) Refusal
entries_read bytes from many hops =
    cond (eqb (entries_to bytes many from) (length bytes) && all (entry_good bytes) (entry_starts bytes many from))
    (Ok (place_hop (chosen_hop bytes hops (entry_starts bytes many from))))
    (Err Malformed)

-- a prefix with its hop, if it has one
unfoldable pub route_with : Prefix → Maybe ℕ → Option RouteRead
route_with q none = None
route_with q (some hop) = Some (record { prefix = q.prefix; length = q.length; hop = hop })

-- a whole record: its route, if it has a hop, or a fault, which is 12
unfoldable pub record_read : (bytes hops : List ℕ) → Result (Option RouteRead) Refusal
record_read bytes hops =
    cond (record_good bytes) (Ok (route_with (prefix_from bytes route_from) (route_hop bytes hops))) (Err Malformed)
