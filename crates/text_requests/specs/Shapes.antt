-- The lines of the text program, as docs/TABLE.md describes them. A line is a list of bytes.
use Rattle.std.specs.Prelude.{ℕ, ◌+◌, ◌-◌, ◌*◌, ◌%◌, ◌^◌, Bool, cond, not, ◌&&◌, ◌||◌, List, [], ◌∷◌, length, get_or, drop, ltb, leb, eqb, Option, Some, None}
use Rattle.std.specs.Bool.{then_some}
use Prim.Native.Char.{code}
use Rattle.rules.specs.Tools.{within}
use Rattle.text_spelling.specs.Spelling.{spelled}
use Rattle.text_requests.specs.declared.Numbers.{Numbers}
use Rattle.text_requests.specs.declared.Request.{Request}
use Rattle.text_requests.specs.declared.Request.TheVariants.{Add, Drop, Move, Find}

-- ---- Numbers

-- the digit of which a byte is the character; 10 where it is none
unfoldable pub digit : (byte : ℕ) → ℕ
digit byte = cond (within (code "0") (code "9") byte) (byte - code "0") 10

-- the digit with which bytes begin; 10 where they begin with none
unfoldable pub front_digit : (bytes : List ℕ) → ℕ
front_digit [] = 10
front_digit (b ∷ bytes) = digit b

-- the digits with which bytes begin, all of them
unfoldable pub digits : (bytes : List ℕ) → List ℕ
digits [] = []
digits (b ∷ bytes) = cond (ltb (digit b) 10) (digit b ∷ digits bytes) []

-- the number that decimal digits write after those that have written n
unfoldable pub value : (n : ℕ) → (digits : List ℕ) → ℕ
value n [] = n
value n (d ∷ ds) = value (n * 10 + d) ds

-- bytes begin with a number of at most so much: it is no larger, has digits, and no leading zero but a lone 0
unfoldable pub begins_with_number : (bytes : List ℕ) (most : ℕ) → Bool
begins_with_number bytes most =
    let ds = digits bytes in
    leb (value 0 ds) most && (ltb 0 (length ds) && (eqb (length ds) 1 || not (eqb (front_digit bytes) 0)))

-- the number of at most so much that stands at a position of a line, and the position after it
unfoldable pub number_at : (line : List ℕ) (at most : ℕ) → Option (ℕ × ℕ)
number_at line at most =
    let bytes = drop at line in
    let ds = digits bytes in
    then_some (begins_with_number bytes most) (value 0 ds, at + length ds)

-- ---- Shapes

-- no numbers yet
unfoldable pub no_numbers : Numbers
no_numbers = record { address = 0; length = 0; hop = 0 }

-- the first octet is the highest, so each moves those before it up; an address has the last four of them
unfoldable pub set_octet : Numbers → ℕ → Numbers
set_octet ns n = record { address = ns.address % 2 ^ 24 * 2 ^ 8 + n; length = ns.length; hop = ns.hop }

-- with the length
unfoldable pub set_length : Numbers → ℕ → Numbers
set_length ns n = record { address = ns.address; length = n; hop = ns.hop }

-- and with the hop
unfoldable pub set_hop : Numbers → ℕ → Numbers
set_hop ns n = record { address = ns.address; length = ns.length; hop = n }

-- a number that stands there fits, and is put in: the numbers with it, and the position after it
abbrev pub put_in : Option (ℕ × ℕ) → (ℕ → Numbers) → Option (Numbers × ℕ)
put_in (Some (n, end)) with = Some (with n, end)
put_in None with = None

-- what an item of a shape finds at a position: O an octet, to 255; L a length, of up to two digits; H a hop, within 32 bits; any other byte itself
unfoldable pub item : (shape : ℕ) (line : List ℕ) (at : ℕ) → Numbers → Option (Numbers × ℕ)
item shape line at ns =
    cond (eqb shape (code "O")) (put_in (number_at line at 255) (set_octet ns))
    (cond (eqb shape (code "L")) (put_in (number_at line at 99) (set_length ns))
    (cond (eqb shape (code "H")) (put_in (number_at line at (2 ^ 32 - 1)) (set_hop ns))
    (then_some (ltb at (length line) && eqb (get_or line at 0) shape) (ns, at + 1))))

-- where an item fits, the rest of the shape goes on after it
abbrev pub if_fits : Option (Numbers × ℕ) → (ℕ → Numbers → Option Numbers) → Option Numbers
if_fits (Some (ns, end)) rest = rest end ns
if_fits None rest = None

-- items of a shape, one after the other from a position to the line's end
unfoldable pub items : (shape line : List ℕ) (at : ℕ) → Numbers → Option Numbers
items [] line at ns = then_some (eqb at (length line)) ns
items (s ∷ shape) line at ns = if_fits (item s line at ns) (items shape line)

-- the numbers of a line that has the shape, from its first byte to its last
unfoldable pub fit_shape : (shape line : List ℕ) → Option Numbers
fit_shape shape line = items shape line 0 no_numbers

-- ---- Lines

-- the four shapes
abbrev pub add_shape : List ℕ
add_shape = spelled "add O.O.O.O/L H"

-- drop and a prefix
abbrev pub drop_shape : List ℕ
drop_shape = spelled "drop O.O.O.O/L"

-- move, a prefix and a hop
abbrev pub move_shape : List ℕ
move_shape = spelled "move O.O.O.O/L H"

-- find and an address
abbrev pub find_shape : List ℕ
find_shape = spelled "find O.O.O.O"

-- what a line of this shape asks for; else the other
abbrev pub asks : Option Numbers → (Numbers → Request) → Option Request → Option Request
asks (Some ns) request other = Some (request ns)
asks None request other = other

-- what a line asks for; a line of another shape asks for nothing
unfoldable pub request : (line : List ℕ) → Option Request
request line =
    cond (ltb 64 (length line)) None
    (asks (fit_shape add_shape line) (λ ns. Add ns.address ns.length ns.hop)
    (asks (fit_shape drop_shape line) (λ ns. Drop ns.address ns.length)
    (asks (fit_shape move_shape line) (λ ns. Move ns.address ns.length ns.hop)
    (asks (fit_shape find_shape line) (λ ns. Find ns.address) None))))
