-- Lines near each limit of the shapes: one list, proved by one computation.
use Prim.Native.Nat.{ℕ, ◌+◌, ◌-◌, ◌*◌, ◌^◌}
use Prim.Native.String.{String}
use mathlib.Core.Path.{◌≡◌, refl}
use mathlib.Core.Bool.{Bool, true, ◌&&◌}
use mathlib.Core.List.{List, [], ◌∷◌, ◌++◌}
use lib.ListN.{replicate}
use Rattle.std.specs.Prelude.{Option, Some, None}
use Rattle.rules.specs.Tools.{within}
use Rattle.text_spelling.specs.Spelling.{spelled, same_bytes}
use Rattle.text_requests.specs.declared.Request.{Request}
use Rattle.text_requests.specs.declared.Request.TheVariants.{Add, Drop, Move, Find}
use Rattle.text_requests.specs.Shapes.{digit, front_digit, digits, value, begins_with_number, number_at, no_numbers, set_octet, set_length, set_hop, item, items, fit_shape, request}

-- an address by its four octets
abbrev ip : (a b c d : ℕ) → ℕ
ip a b c d = a * 2 ^ 24 + b * 2 ^ 16 + c * 2 ^ 8 + d

-- a request as numbers
abbrev figures : Option Request → List ℕ
figures (Some (Add p L hop)) = 1 ∷ p ∷ L ∷ hop ∷ []
figures (Some (Drop p L)) = 2 ∷ p ∷ L ∷ []
figures (Some (Move p L hop)) = 3 ∷ p ∷ L ∷ hop ∷ []
figures (Some (Find address)) = 4 ∷ address ∷ []
figures None = []

-- a line, and what it asks for
record Case : Type 0 where
  line : List ℕ
  asks : Option Request

abbrev case : (line : String) (asks : Request) → Case
case line asks = record { line = spelled line; asks = Some asks }

-- none of these lines can be read
abbrev unreadable : List String → List Case
unreadable [] = []
unreadable (line ∷ lines) = record { line = spelled line; asks = None } ∷ unreadable lines

abbrev come_out : List Case → Bool
come_out [] = true
come_out (c ∷ cases) = same_bytes (figures (request c.line)) (figures c.asks) && come_out cases

abbrev worked : List Case
worked =
    case "add 10.0.0.0/8 7" (Add (ip 10 0 0 0) 8 7)
    ∷ case "drop 10.1.0.0/16" (Drop (ip 10 1 0 0) 16)
    ∷ case "move 0.0.0.0/0 0" (Move 0 0 0)
    ∷ case "find 255.255.255.255" (Find (2 ^ 32 - 1))
    ∷ case "add 1.2.3.4/33 65536" (Add (ip 1 2 3 4) 33 65536)
    ∷ case "add 1.2.3.4/99 4294967295" (Add (ip 1 2 3 4) 99 4294967295)
    ∷ unreadable
    ("add 1.2.3.4/100 1"
    ∷ "add 1.2.3.4/8 4294967296"
    ∷ "find 1.2.3.256"
    ∷ "find 01.2.3.4"
    ∷ "add 10.0.0.0/08 7"
    ∷ "add 10.0.0.0/8 07"
    ∷ ""
    ∷ " "
    ∷ "find  1.2.3.4"
    ∷ "find 1.2.3.4 "
    ∷ " find 1.2.3.4"
    ∷ "find\t1.2.3.4"
    ∷ "find 1.2.3.4\r"
    ∷ "find 1.2.3.4\n"
    ∷ "find 1.2.3"
    ∷ "find 1.2.3.4.5"
    ∷ "find 1.2.3.4/8"
    ∷ "find"
    ∷ "add 10.0.0.0/8"
    ∷ "add 10.0.0.0 7"
    ∷ "drop 10.0.0.0/8 7"
    ∷ "ADD 10.0.0.0/8 7"
    ∷ "find O.O.O.O"
    ∷ [])
    ++ record { line = spelled "find 1.2.3.4" ++ replicate 52 32; asks = None }
    ∷ record { line = spelled "find 1.2.3.4" ++ replicate 53 32; asks = None }
    ∷ record { line = spelled "find 1.2.3.4" ++ 0 ∷ []; asks = None }
    ∷ []

pub worked_lines : come_out worked ≡ true
unfolding within digit front_digit digits value begins_with_number number_at no_numbers set_octet set_length set_hop item items fit_shape request
worked_lines = refl
